use native.Mathlib.Omega.{arith}
use borrow.Author.Rules.{rules}
use lib.ListN.{length-append}
use Rattle.codec.proofs.Puts.{nothing_written, then}
use Rattle.audit_report.specs.Report.{decimal, accepted_text, newline}
use Rattle.audit_report.proofs.Texts.{short, at_front}
use Rattle.audit_report.proofs.put_accepted.Goals as goal

pub put_bytes-requires : goal.put_bytes-requires
put_bytes-requires c = search (rules, short 20 c.args.n)

pub returns : goal.returns
returns c =
    let a = c.args in
    let w = c.put_bytes-p in
    let d = c.put_decimal-q in
    let w1 = then w.result _ accepted_text (nothing_written a.out.now 0) w.ensures.0 w.ensures.1 in
    let w2 = then d.result _ (decimal a.n) w1 d.ensures.0 d.ensures.1 in
    let w3 = then c.put_bytes.result _ newline w2 c.put_bytes.ensures.0 c.put_bytes.ensures.1 in
    at_front w3 (simp length-append (omega (arith, short 20 a.n, c.well_formed)))

use native.Mathlib.Omega.{arith}
use borrow.Author.Rules.{rules}
use lib.ListN.{length-append}
use Rattle.codec.proofs.Puts.{nothing_written, then}
use Rattle.audit_report.specs.Report.{decimal, refused_text, line_text, newline}
use Rattle.audit_report.proofs.Texts.{short, at_front}
use Rattle.audit_report.proofs.put_refused.Goals as goal

pub put_bytes-s-requires : goal.put_bytes-s-requires
put_bytes-s-requires c = search (rules, short 20 c.args.refusal)

pub put_decimal-t-requires : goal.put_decimal-t-requires
put_decimal-t-requires c = search (rules, short 20 c.args.refusal)

pub put_bytes-requires : goal.put_bytes-requires
put_bytes-requires c = search (rules, short 20 c.args.refusal, short 20 c.args.index)

pub returns : goal.returns
returns c =
    let a = c.args in
    let w = c.put_bytes-p in
    let d = c.put_decimal-q in
    let e = c.put_decimal-t in
    let w1 = then w.result _ refused_text (nothing_written a.out.now 0) w.ensures.0 w.ensures.1 in
    let w2 = then d.result _ (decimal a.refusal) w1 d.ensures.0 d.ensures.1 in
    let w3 = then c.put_bytes-s.result _ line_text w2 c.put_bytes-s.ensures.0 c.put_bytes-s.ensures.1 in
    let w4 = then e.result _ (decimal a.index) w3 e.ensures.0 e.ensures.1 in
    let w5 = then c.put_bytes.result _ newline w4 c.put_bytes.ensures.0 c.put_bytes.ensures.1 in
    at_front w5 (simp length-append (omega (arith, short 20 a.refusal, short 20 a.index, c.well_formed)))

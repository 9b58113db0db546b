use Rattle.std.specs.Prelude.{Option, Some, None, Result, Ok, Err}
use Rattle.std.specs.Result.{result_ok}
use mathlib.Core.Bool.{Bool, true, false}
use lib.Dec.{eqb}
use borrow.Author.Rules.{rules}
use Rattle.refusals.specs.declared.Refusal.{Refusal}
use Rattle.refusals.specs.Number.{refused_number}
use Rattle.refusals.proofs.Numbers.{number_not_0}
use mathlib.Core.Path.{◌≡◌, refl, sym, ◌∙◌, ap}
use Prim.Native.Nat.{◌+◌}
use native.Mathlib.Omega.{arith}
use borrow.Author.Tests.{le-leb, lt-leb, eq-eqb, ne_eqb}
use Rattle.logic.proofs.Branch.{via_true, via_false}
use Rattle.sheet_records.specs.Cards.{card_length}
use Rattle.auditor.specs.Audit.{card_line_ok, card_line}
use Rattle.auditor.proofs.Opening.{from_three, opening_end, card_slice, card_whole, no_card_line}
use Rattle.auditor.proofs.card_line.Goals as goal

pub returns-then-sheet-lt3 : goal.returns-then-sheet-lt3
returns-then-sheet-lt3 c = let a = c.args in sym (no_card_line a.version a.sheet.now c.if-sheet-lt3.true)

pub overflow_add-end : goal.overflow_add-end
overflow_add-end c = omega (arith, c.card_length-n.ensures.1)

pub invariant_of-line0 : goal.invariant_of-line0
invariant_of-line0 c =
    let a = c.args in
    let n = c.card_length-n in
    let end = opening_end a.version a.sheet.now n.result n.ensures.0 in
    record { fits = card_whole a.version a.sheet.now (3 + n.result) end c.if-sheet-end.false }

pub returns-then-sheet-end : goal.returns-then-sheet-end
unfolding card_line card_line_ok
returns-then-sheet-end c =
    let a = c.args in
    let n = c.card_length-n in
    let end = opening_end a.version a.sheet.now n.result n.ensures.0 in
    rw (← end) (via_false _ _ (sym (via_false _ _ (lt-leb _ _ c.if-sheet-end.true) refl)) refl)

pub returns-then-says-n : goal.returns-then-says-n
unfolding card_line card_line_ok
returns-then-says-n c =
    let a = c.args in
    let n = c.card_length-n in
    let end = opening_end a.version a.sheet.now n.result n.ensures.0 in
    rw (← end, ← (n.ensures.0 ∙ ap (card_length a.version) (from_three a.sheet.now)), ← c.read_be-says.ensures.number)
    (via_false _ _ (sym (via_true _ _ (le-leb _ _ c.if-sheet-end.false) (via_false _ _ (ne_eqb _ _ c.if-says-n.true) refl))) refl)

abbrev is_some : Option Unit → Bool
is_some (Some u) = true
is_some None = false

-- the number of what is kept as an Option is 0 where there is one
number_by_ok : (x : Result Unit Refusal) → eqb (refused_number x) 0 ≡ is_some (result_ok x)
number_by_ok (Ok u) = refl
number_by_ok (Err r) = number_not_0 r

pub returns-in_err-ok : goal.returns-in_err-ok
unfolding card_line card_line_ok
returns-in_err-ok c =
    let a = c.args in
    let n = c.card_length-n in
    let end = opening_end a.version a.sheet.now n.result n.ensures.0 in
    let e : c.from_residual.result ≡ None = search rules in
    let k : eqb (refused_number c.check.result) 0 ≡ false = number_by_ok c.check.result ∙ ap is_some (sym c.in_err-ok.ensures.value) in
    rw (e, ← end, ← card_slice a.version a.sheet.now (3 + n.result) end, ← (n.ensures.0 ∙ ap (card_length a.version) (from_three a.sheet.now)), ← c.read_be-says.ensures.number, ← c.read_card-card.ensures, ← c.check.ensures)
    (via_false _ _ (sym (via_true _ _ (le-leb _ _ c.if-sheet-end.false) (via_true _ _ (eq-eqb _ _ c.if-says-n.false) (sym k)))) refl)

pub returns : goal.returns
unfolding card_line card_line_ok
returns c =
    let a = c.args in
    let n = c.card_length-n in
    let end = opening_end a.version a.sheet.now n.result n.ensures.0 in
    let k : eqb (refused_number c.check.result) 0 ≡ true = number_by_ok c.check.result ∙ ap is_some (sym c.in_ok-ok.ensures.value) in
    rw (← end, ← card_slice a.version a.sheet.now (3 + n.result) end, ← (n.ensures.0 ∙ ap (card_length a.version) (from_three a.sheet.now)), ← c.read_be-says.ensures.number, ← c.read_card-card.ensures, ← c.check.ensures)
    (via_true _ _ (sym (via_true _ _ (le-leb _ _ c.if-sheet-end.false) (via_true _ _ (eq-eqb _ _ c.if-says-n.false) (sym k)))) refl)

use mathlib.Core.Path.{refl, sym, ◌∙◌}
use native.Mathlib.Omega.{arith}
use Rattle.logic.proofs.Branch.{via_true, via_false}
use Rattle.sheet_records.proofs.CardLaws.{fields_accepted}
use Rattle.auditor.specs.Audit.{card_part, audit_card, audit_of}
use Rattle.auditor.proofs.Opening.{card_slice, card_whole, card_line_lem, card_line_fit, card_line_inside, card_line_unfit}
use Rattle.auditor.proofs.Turns.{rest_of}
use Rattle.auditor.proofs.audit.Goals as goal

pub returns-in_default : goal.returns-in_default
unfolding audit_of
returns-in_default c =
    let bs = c.args.sheet.now in
    let first = c.byte_or_zero-version in
    let unfit = card_line_unfit first.result bs (sym c.in_default.is ∙ c.card_line.ensures) in
    rw (← first.ensures) (via_true _ _ (sym c.known_version.ensures ∙ c.if-not-known_version.false) (via_false _ _ unfit refl))

pub invariant_of-listed : goal.invariant_of-listed
invariant_of-listed c =
    let bs = c.args.sheet.now in
    let version = c.byte_or_zero-version.result in
    let fit = card_line_fit version bs _ (sym c.in-Some.is ∙ c.card_line.ensures) in
    record { fits = card_whole version bs _ fit.2 (card_line_inside version bs _ (sym c.in-Some.is ∙ c.card_line.ensures)).1 }

pub audit_lines-requires : goal.audit_lines-requires
audit_lines-requires c =
    let bs = c.args.sheet.now in
    let version = c.byte_or_zero-version.result in
    let fit = card_line_fit version bs _ (sym c.in-Some.is ∙ c.card_line.ensures) in
    let line = card_line_lem version bs fit.0 in
    rw fit.1 (fields_accepted version (card_part version bs) line.accepted)

pub returns : goal.returns
unfolding audit_of audit_card
returns c =
    let bs = c.args.sheet.now in
    let first = c.byte_or_zero-version in
    let fit = card_line_fit first.result bs _ (sym c.in-Some.is ∙ c.card_line.ensures) in
    c.audit_lines.ensures
    ∙ rw (rest_of, card_slice first.result bs _ fit.2, fit.1, fit.2, ← first.ensures) (via_true _ _ (sym c.known_version.ensures ∙ c.if-not-known_version.false) (via_true _ _ fit.0 refl))

pub returns-then-not-known_version : goal.returns-then-not-known_version
unfolding audit_of
returns-then-not-known_version c = rw (← c.byte_or_zero-version.ensures) (via_false _ _ (sym c.known_version.ensures ∙ c.if-not-known_version.true) refl)

pub slice_bounds-listed-start : goal.slice_bounds-listed-start
slice_bounds-listed-start c = omega (arith, card_line_inside _ _ _ (sym c.in-Some.is ∙ c.card_line.ensures))

pub slice_bounds-listed-count : goal.slice_bounds-listed-count
slice_bounds-listed-count c = omega (arith, card_line_inside _ _ _ (sym c.in-Some.is ∙ c.card_line.ensures))

pub slice_bounds-listed-end : goal.slice_bounds-listed-end
slice_bounds-listed-end c = omega (arith, card_line_inside _ _ _ (sym c.in-Some.is ∙ c.card_line.ensures))

pub slice_bounds-audit_lines-start : goal.slice_bounds-audit_lines-start
slice_bounds-audit_lines-start c = omega (arith, card_line_inside _ _ _ (sym c.in-Some.is ∙ c.card_line.ensures))

pub slice_bounds-audit_lines-count : goal.slice_bounds-audit_lines-count
slice_bounds-audit_lines-count c = omega (arith, card_line_inside _ _ _ (sym c.in-Some.is ∙ c.card_line.ensures))

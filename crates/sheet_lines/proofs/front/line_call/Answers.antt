use mathlib.Core.Path.{refl, sym, ◌∙◌, ap}
use Prim.Native.Nat.{ℕ}
use native.Mathlib.Omega.{arith}
use Rattle.std.proofs.Math.Nat.{le_refl}
use Rattle.logic.proofs.Branch.{via_true, via_false}
use mathlib.Core.Bool.{Bool}
use Rattle.card.specs.Extension.{has_floor}
use Rattle.sheet_records.specs.Cards.{extension_at}
use Rattle.sheet_calls.specs.Calls.{demand_class, call_by}
use Rattle.sheet_lines.specs.Answers.{marks_ok}
use Rattle.sheet_lines.specs.Front.{head_numbers, line_call, call_part}
use Rattle.sheet_lines.proofs.Fronts.{head_in_answer, answer_long, call_long, call_known, headed, head_none}
use Rattle.sheet_lines.proofs.front.line_call.Goals as goal

pub overflow_add-answer : goal.overflow_add-answer
overflow_add-answer c =
    let a = c.args in
    let h = headed a.line0.version a.card a.bytes.now _ (ap head_numbers (sym c.in-Some.is) ∙ c.requires) in
    omega (arith, h.inside)

pub slice_bounds-marks_ok-start : goal.slice_bounds-marks_ok-start
slice_bounds-marks_ok-start c =
    let a = c.args in
    let h = headed a.line0.version a.card a.bytes.now _ (ap head_numbers (sym c.in-Some.is) ∙ c.requires) in
    omega (arith, h.inside)

pub slice_bounds-marks_ok-end : goal.slice_bounds-marks_ok-end
slice_bounds-marks_ok-end c =
    let a = c.args in
    let h = headed a.line0.version a.card a.bytes.now _ (ap head_numbers (sym c.in-Some.is) ∙ c.requires) in
    omega (arith, h.inside)

pub slice_bounds-marks_ok-count : goal.slice_bounds-marks_ok-count
slice_bounds-marks_ok-count c =
    let a = c.args in
    let h = headed a.line0.version a.card a.bytes.now _ (ap head_numbers (sym c.in-Some.is) ∙ c.requires) in
    omega (arith, h.inside)

pub marks_ok-requires : goal.marks_ok-requires
marks_ok-requires c =
    let a = c.args in
    let h = headed a.line0.version a.card a.bytes.now _ (ap head_numbers (sym c.in-Some.is) ∙ c.requires) in
    rw h.answers (omega (arith, head_in_answer a.line0.version a.card, answer_long a.line0.version a.card a.bytes.now h.fits))

pub slice_bounds-demand_class-end : goal.slice_bounds-demand_class-end
slice_bounds-demand_class-end c =
    let a = c.args in
    let h = headed a.line0.version a.card a.bytes.now _ (ap head_numbers (sym c.in-Some.is) ∙ c.requires) in
    omega (arith, h.inside)

pub demand_class-class-requires : goal.demand_class-class-requires
demand_class-class-requires c =
    let a = c.args in
    let h = headed a.line0.version a.card a.bytes.now _ (ap head_numbers (sym c.in-Some.is) ∙ c.requires) in
    (le_refl _, rw (h.calls, c.from-kind.ensures, h.kind_is) (omega (arith, call_long a.line0.version a.card a.bytes.now h.fits)))

pub slice_bounds-call_by-end : goal.slice_bounds-call_by-end
slice_bounds-call_by-end c =
    let a = c.args in
    let h = headed a.line0.version a.card a.bytes.now _ (ap head_numbers (sym c.in-Some.is) ∙ c.requires) in
    omega (arith, h.inside)

pub call_by-requires : goal.call_by-requires
call_by-requires c =
    let a = c.args in
    let h = headed a.line0.version a.card a.bytes.now _ (ap head_numbers (sym c.in-Some.is) ∙ c.requires) in
    rw (h.calls, c.from-kind.ensures, h.kind_is) (omega (arith, call_long a.line0.version a.card a.bytes.now h.fits))

pub returns-then-marks_ok : goal.returns-then-marks_ok
unfolding line_call
returns-then-marks_ok c =
    let a = c.args in
    let h = headed a.line0.version a.card a.bytes.now _ (ap head_numbers (sym c.in-Some.is) ∙ c.requires) in
    let extension = extension_at a.line0.version a.line0.bytes.now in
    let part = call_part a.line0.version a.bytes.now in
    let class = c.demand_class-class.ensures ∙ ap (demand_class a.line0.version extension.services c.from-kind.result) h.calls in
    let marks = ap (marks_ok a.line0.version) (sym h.answers) ∙ sym c.marks_ok.ensures ∙ c.if-marks_ok.true in
    c.call_by.ensures ∙ ap (call_by a.line0.version c.from-kind.result c.demand_class-class.result c.has_floor-floor.result) h.calls
    ∙ ap (λ (k : ℕ). call_by a.line0.version c.from-kind.result k c.has_floor-floor.result part) class
    ∙ ap (λ (t : Bool). call_by a.line0.version c.from-kind.result (demand_class a.line0.version extension.services c.from-kind.result part) t part) c.has_floor-floor.ensures
    ∙ ap (λ (k : ℕ). call_by a.line0.version k (demand_class a.line0.version extension.services k part) (has_floor extension) part) (c.from-kind.ensures ∙ h.kind_is)
    ∙ sym (call_known a.line0.version a.card a.bytes.now extension h.fits)
    ∙ via_true _ _ h.ok (via_true _ _ marks refl)

pub returns : goal.returns
unfolding line_call
returns c =
    let a = c.args in
    let h = headed a.line0.version a.card a.bytes.now _ (ap head_numbers (sym c.in-Some.is) ∙ c.requires) in
    via_true _ _ h.ok (via_false _ _ (ap (marks_ok a.line0.version) (sym h.answers) ∙ sym c.marks_ok.ensures ∙ c.if-marks_ok.false) refl)

pub returns-in_default : goal.returns-in_default
unfolding line_call
returns-in_default c =
    let a = c.args in
    via_false _ _ (head_none a.line0.version a.card a.bytes.now (ap head_numbers (sym c.in_default.is) ∙ c.requires)) refl

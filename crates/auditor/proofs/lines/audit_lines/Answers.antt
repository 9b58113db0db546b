use mathlib.Core.Path.{sym, ◌∙◌, ap}
use Prim.Native.Nat.{◌≤◌, ◌+◌}
use native.Mathlib.Omega.{arith}
use borrow.Author.Rules.{rules}
use lib.ListN.{length}
use lib.Dec.{T}
use lib.Ieee.{fits, binary64}
use Rattle.card.proofs.Accepted.{accepted_layers}
use Rattle.battery.specs.declared.Answer.{Answer}
use Rattle.auditor.specs.Audit.{audit_lines}
use Rattle.sheet_lines.specs.Answers.{same_number, agrees, answer_at}
use Rattle.sheet_records.specs.Cards.{extension_at}
use Rattle.sheet_records.specs.Records.{state_at}
use Rattle.sheet_lines.specs.Front.{head_numbers}
use Rattle.sheet_lines.proofs.Fronts.{headed}
use Rattle.auditor.proofs.Turns.{some_left, none_left, turn_bad, turn_out, turn_differs, turn_next, at_end, no_head, rest_less, walked_on}
use Rattle.auditor.proofs.Walks.{own_fresh, advanced_own}
use Rattle.auditor.proofs.lines.audit_lines.Goals as goal

pub fresh-b-requires : goal.fresh-b-requires
fresh-b-requires c = (accepted_layers _ _ c.requires).1

pub loop-rest-init : goal.loop-rest-init
unfolding audit_lines
loop-rest-init c =
    let f : T (fits binary64 c.args.card.start) = search (rules, c.well_formed.0.1.1.1.1.1.1.1.1.1.1.1.1.1.1.1.1.1.1.1.1.1.1.1.0) in (
      (omega arith, record { most = length c.args.bytes.now; enough = omega arith; gives = rw c.fresh-b.ensures }),
      rw c.fresh-b.ensures (own_fresh c.args.line0.version c.args.card c.requires f),
    )

pub line_call-requires : goal.line_call-requires
line_call-requires c = ap head_numbers (sym c.in-Some.is) ∙ c.line_head.ensures

pub returns-in_default : goal.returns-in_default
returns-in_default c =
    let a = c.args in
    let l = c.loop-rest in
    let read = no_head a.line0.version (extension_at a.line0.version a.line0.bytes.now) a.card l.rest.now (ap head_numbers (sym c.in_default.is) ∙ c.line_head.ensures) in
    sym (turn_bad same_number a.line0.version (extension_at a.line0.version a.line0.bytes.now) a.card l.b l.k l.rest.now _ (some_left _ _ c.is_empty.ensures c.loop-rest-test.true) l.invariant.0.1 read)

pub returns-in_default-line_call : goal.returns-in_default-line_call
returns-in_default-line_call c =
    let a = c.args in
    let l = c.loop-rest in
    let read = sym c.line_call.ensures ∙ c.in_default-line_call.is in
    sym (turn_bad same_number a.line0.version (extension_at a.line0.version a.line0.bytes.now) a.card l.b l.k l.rest.now _ (some_left _ _ c.is_empty.ensures c.loop-rest-test.true) l.invariant.0.1 read)

pub advance-own-requires : goal.advance-own-requires
advance-own-requires c = c.loop-rest.invariant.1.good.accepted

pub returns-then-own-number : goal.returns-then-own-number
returns-then-own-number c =
    let a = c.args in
    let l = c.loop-rest in
    let own = c.advance-own in
    let read = sym c.line_call.ensures ∙ c.in-Some-line_call.is in
    sym (turn_out same_number a.line0.version (extension_at a.line0.version a.line0.bytes.now) a.card l.b l.k l.rest.now _ (some_left _ _ c.is_empty.ensures c.loop-rest-test.true) l.invariant.0.1 _ read own.result own.ensures (c.if-own-number.true ∙ c.number.ensures))

pub line_answer-seen-requires : goal.line_answer-seen-requires
line_answer-seen-requires c =
    let a = c.args in
    ((accepted_layers _ _ c.requires).1, ap head_numbers (sym c.in-Some.is) ∙ c.line_head.ensures)

pub answers_agree-requires : goal.answers_agree-requires
unfolding answer_at state_at
answers_agree-requires c = rw c.line_answer-seen.ensures (accepted_layers _ _ c.requires).1

pub slice_bounds-rest-start : goal.slice_bounds-rest-start
slice_bounds-rest-start c =
    let a = c.args in
    let head = headed a.line0.version a.card c.loop-rest.rest.now _ (ap head_numbers (sym c.in-Some.is) ∙ c.line_head.ensures) in
    omega (arith, head.inside)

pub slice_bounds-rest-count : goal.slice_bounds-rest-count
slice_bounds-rest-count c =
    let a = c.args in
    let head = headed a.line0.version a.card c.loop-rest.rest.now _ (ap head_numbers (sym c.in-Some.is) ∙ c.line_head.ensures) in
    omega (arith, head.inside)

pub slice_bounds-rest-end : goal.slice_bounds-rest-end
slice_bounds-rest-end c =
    let a = c.args in
    let head = headed a.line0.version a.card c.loop-rest.rest.now _ (ap head_numbers (sym c.in-Some.is) ∙ c.line_head.ensures) in
    omega (arith, head.inside)

pub overflow_add-line : goal.overflow_add-line
overflow_add-line c =
    let l = c.loop-rest in
    let k : l.k + 1 ≤ length c.args.bytes.now = omega (arith, l.invariant.0.0, (some_left _ _ c.is_empty.ensures c.loop-rest-test.true)) in
    omega (arith, k, c.well_formed)

pub loop-rest-smaller : goal.loop-rest-smaller
loop-rest-smaller c =
    let a = c.args in
    let t = c.loop-rest.rest.now in
    let head = headed a.line0.version a.card t _ (ap head_numbers (sym c.in-Some.is) ∙ c.line_head.ensures) in
    rest_less t c.in-Some.head.size (omega (arith, head.inside)) head.inside.1

pub loop-rest-preserved : goal.loop-rest-preserved
loop-rest-preserved c =
    let a = c.args in
    let l = c.loop-rest in
    let own = c.advance-own in
    let read = sym c.line_call.ensures ∙ c.in-Some-line_call.is in
    let head = headed a.line0.version a.card l.rest.now _ (ap head_numbers (sym c.in-Some.is) ∙ c.line_head.ensures) in (
      walked_on same_number a.line0.version (extension_at a.line0.version a.line0.bytes.now) a.card a.bytes.now l.rest.now _ l.b _ l.k c.in-Some.head.size
          l.invariant.0 (omega (arith, head.inside)) head.inside.1 head.follows
          (turn_next same_number a.line0.version (extension_at a.line0.version a.line0.bytes.now) a.card l.b l.k l.rest.now _ (some_left _ _ c.is_empty.ensures c.loop-rest-test.true) l.invariant.0.1 _ read own.result own.ensures (λ e. c.if-own-number.false (e ∙ sym c.number.ensures))
          (ap (λ (x : Answer). agrees same_number x own.result) (sym c.line_answer-seen.ensures) ∙ sym c.answers_agree.ensures ∙ c.if-not-answers_agree.false)),
      rw own.ensures (advanced_own a.line0.version a.card l.b l.invariant.1 _),
    )

pub returns-then-not-answers_agree : goal.returns-then-not-answers_agree
returns-then-not-answers_agree c =
    let a = c.args in
    let l = c.loop-rest in
    let own = c.advance-own in
    let read = sym c.line_call.ensures ∙ c.in-Some-line_call.is in
    sym
    (turn_differs same_number a.line0.version (extension_at a.line0.version a.line0.bytes.now) a.card l.b l.k l.rest.now _ (some_left _ _ c.is_empty.ensures c.loop-rest-test.true) l.invariant.0.1 _ read own.result own.ensures (λ e. c.if-own-number.false (e ∙ sym c.number.ensures))
    (ap (λ (x : Answer). agrees same_number x own.result) (sym c.line_answer-seen.ensures) ∙ sym c.answers_agree.ensures ∙ c.if-not-answers_agree.true))

pub returns : goal.returns
returns c =
    let a = c.args in
    let l = c.loop-rest in
    sym (at_end same_number a.line0.version (extension_at a.line0.version a.line0.bytes.now) a.card l.b l.k l.rest.now _ (none_left _ _ c.is_empty.ensures c.loop-rest-test.false) l.invariant.0.1)

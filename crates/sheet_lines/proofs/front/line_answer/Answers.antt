use mathlib.Core.Path.{◌∙◌, ap}
use native.Mathlib.Omega.{arith}
use Rattle.sheet_lines.specs.Answers.{answer_at}
use Rattle.sheet_lines.proofs.Fronts.{answer_long, headed}
use Rattle.sheet_lines.proofs.front.line_answer.Goals as goal

pub overflow_add-answer : goal.overflow_add-answer
overflow_add-answer c =
    let a = c.args in
    let h = headed a.version a.card a.bytes.now a.head c.requires.1 in
    omega (arith, h.inside)

pub slice_bounds-read_answer-start : goal.slice_bounds-read_answer-start
slice_bounds-read_answer-start c =
    let a = c.args in
    let h = headed a.version a.card a.bytes.now a.head c.requires.1 in
    omega (arith, h.inside)

pub slice_bounds-read_answer-end : goal.slice_bounds-read_answer-end
slice_bounds-read_answer-end c =
    let a = c.args in
    let h = headed a.version a.card a.bytes.now a.head c.requires.1 in
    omega (arith, h.inside)

pub slice_bounds-read_answer-count : goal.slice_bounds-read_answer-count
slice_bounds-read_answer-count c =
    let a = c.args in
    let h = headed a.version a.card a.bytes.now a.head c.requires.1 in
    omega (arith, h.inside)

pub read_answer-requires : goal.read_answer-requires
read_answer-requires c =
    let a = c.args in
    let h = headed a.version a.card a.bytes.now a.head c.requires.1 in
    (c.requires.0, rw h.answers (omega (arith, answer_long a.version a.card a.bytes.now h.fits)))

pub returns : goal.returns
returns c =
    let a = c.args in
    let h = headed a.version a.card a.bytes.now a.head c.requires.1 in
    c.read_answer.ensures ∙ ap (answer_at a.version a.card) h.answers

-- Document 01, 'Sheet': the call line at the front of bytes.
use Rattle.std.specs.Prelude.{ℕ, ◌+◌, Bool, false, cond, Option, Some, None, List, leb, eqb, length, take, drop, get_or}
use Rattle.codec.specs.Bytes.{be_at}
use Rattle.card.specs.Extension.{Extension}
use Rattle.card.specs.declared.Card.{Card}
use Rattle.battery.specs.declared.Answer.{Answer}
use Rattle.sheet_calls.specs.Kinds.{kind_number}
use Rattle.sheet_calls.specs.Calls.{call_length, call_of}
use Rattle.sheet_lines.specs.declared.front.LineHead.{LineHead}
use Rattle.sheet_lines.specs.Answers.{answer_length, answer_at, marks_ok}
use Rattle.sheet_lines.specs.Lines.{line_length, line_size}
use Rattle.battery.specs.declared.Call.{Call}

-- of the line at the front of bs: the length that its kind gives its call
abbrev pub line_call_length : ℕ → List ℕ → ℕ
line_call_length version bs = call_length version (get_or bs 2 0)

-- its call's bytes, its answer's, and what lies after it
unfoldable pub call_part : ℕ → List ℕ → List ℕ
call_part version bs = take (line_call_length version bs) (drop 2 bs)

unfoldable pub answer_part : ℕ → Card → List ℕ → List ℕ
answer_part version card bs = take (answer_length version card) (drop (2 + line_call_length version bs) bs)

unfoldable pub following : ℕ → Card → List ℕ → List ℕ
following version card bs = drop (line_size version card (line_call_length version bs)) bs

-- the kind is known, the line is whole, and its length is the kind's
unfoldable pub head_ok : ℕ → Card → List ℕ → Bool
head_ok version card bs =
    cond (leb 1 (line_call_length version bs))
    (cond (leb (line_size version card (line_call_length version bs)) (length bs))
    (eqb (be_at bs 0 2) (line_length version card (line_call_length version bs)))
    false)
    false

-- a line's kind, its call's length and its own, in numbers
pub record HeadNumbers : Type 0 where
  pub kind : ℕ
  pub call : ℕ
  pub size : ℕ

abbrev pub head_numbers : Option LineHead → Option HeadNumbers
head_numbers (Some head) = Some (record { kind = kind_number head.kind; call = head.call; size = head.size })
head_numbers None = None

-- the kind, the call's length and the line's, where that holds
unfoldable pub line_head : ℕ → Card → List ℕ → Option HeadNumbers
line_head version card bs =
    cond (head_ok version card bs)
    (Some (record { kind = get_or bs 2 0; call = line_call_length version bs; size = line_size version card (line_call_length version bs) }))
    None

-- the call of the line at the front of bs, on a card with this extension, ranges aside
unfoldable pub line_call : ℕ → Extension → Card → List ℕ → Option Call
line_call version extension card bs =
    cond (head_ok version card bs) (cond (marks_ok version (answer_part version card bs)) (call_of version extension (call_part version bs)) None) None

-- its answer
abbrev pub line_answer : ℕ → Card → List ℕ → Answer
line_answer version card bs = answer_at version card (answer_part version card bs)

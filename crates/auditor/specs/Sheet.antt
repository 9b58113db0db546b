-- Document 01, 'What demand 3 speaks of': which bytes are a sheet, said apart from the auditor. Layout, CardAccepted and Agrees.
use Rattle.std.specs.Prelude.{ℕ, ◌+◌, ◌≡◌, Bool, true, List, [], ◌∷◌, ◌++◌, length, Float, Some}
use Rattle.codec.specs.Bytes.{be}
use Rattle.card.specs.Version.{known_version}
use Rattle.card.specs.Extension.{Extension}
use Rattle.card.specs.declared.Card.{Card}
use Rattle.battery.specs.Battery.{fresh}
use Rattle.battery.specs.Call.{call_in_range}
use Rattle.battery.specs.declared.Battery.{Battery}
use Rattle.battery.specs.declared.Call.{Call}
use Rattle.battery.specs.declared.Answer.{Answer}
use Rattle.engine.specs.Steps.{step_of}
use Rattle.sheet_records.specs.Cards.{card_length, card_at, extension_at, refusal_at}
use Rattle.sheet_calls.specs.Calls.{call_of}
use Rattle.sheet_lines.specs.Answers.{answer_length, answer_at, marks_ok, agrees}
use Rattle.auditor.specs.Rules.{Rules}

-- ---- Layout: no step is named

-- a call line: two bytes of length, the call's bytes, the answer's bytes
pub record Line : Type 0 where
  pub head : List ℕ
  pub call : List ℕ
  pub answer : List ℕ

abbrev pub bytes_of : Line → List ℕ
bytes_of line = line.head ++ (line.call ++ line.answer)

abbrev pub lines_bytes : List Line → List ℕ
lines_bytes [] = []
lines_bytes (l ∷ ls) = bytes_of l ++ lines_bytes ls

-- a line 'to which 42 doesn't apply', and the call that its bytes are on a card with this extension
pub record Laid (version : ℕ) (extension : Extension) (card : Card) (line : Line) (call : Call) : Type 0 where
  pub two : length line.head ≡ 2
  pub counts : be line.head ≡ length line.call + length line.answer
  pub reads : call_of version extension line.call ≡ Some call
  pub in_range : call_in_range version card call ≡ true
  pub long : length line.answer ≡ answer_length version card
  pub marks : marks_ok version line.answer ≡ true

-- line for line
abbrev pub AllLaid : ℕ → Extension → Card → List Line → List Call → Type 0
AllLaid version extension card [] [] = Unit
AllLaid version extension card [] (call ∷ calls) = ⊥
AllLaid version extension card (l ∷ ls) [] = ⊥
AllLaid version extension card (l ∷ ls) (call ∷ calls) = Laid version extension card l call × AllLaid version extension card ls calls

-- 'A sheet has the layout when 40 doesn't apply, line 0 is there in its length and all bytes after it are call lines to which 42 doesn't apply.'
pub record Layout (version : ℕ) (bs card : List ℕ) (lines : List Line) (calls : List Call) : Type 0 where
  pub known : known_version version ≡ true
  pub head : List ℕ
  pub bytes : bs ≡ version ∷ (head ++ (card ++ lines_bytes lines))
  pub two : length head ≡ 2
  pub counts : be head ≡ card_length version card
  pub long : length card ≡ card_length version card
  pub laid : AllLaid version (extension_at version card) (card_at version card) lines calls

-- ---- 'their card is accepted', by 1 to 4 and by 61

abbrev pub CardAccepted : ℕ → List ℕ → Type 0
CardAccepted version card = refusal_at version card ≡ 0

-- ---- Agrees

-- the battery that the steps leave after calls: 'fed the version, the card and, line after line, kind and call fields, never an answer'
unfoldable pub steps_from : ℕ → Battery → List Call → Battery
steps_from version battery [] = battery
steps_from version battery (call ∷ calls) = steps_from version (step_of version battery call).battery calls

-- the answer expected of a call after earlier ones: 'Their state is zones and five totals, at first fresh'
unfoldable pub expected : ℕ → Card → List Call → Call → Answer
expected version card earlier call = step_of version (steps_from version (fresh card) earlier) call

-- 'A call line agrees when its refusal, mark, substeps and f64 agree with those of the steps, its own call included.'
abbrev pub AgreesAfter : (Float → Float → Bool) → ℕ → Card → List Call → List Line → List Call → Type 0
AgreesAfter same version card earlier [] [] = Unit
AgreesAfter same version card earlier [] (call ∷ calls) = ⊥
AgreesAfter same version card earlier (l ∷ ls) [] = ⊥
AgreesAfter same version card earlier (l ∷ ls) (call ∷ calls) =
    (agrees same (answer_at version card l.answer) (expected version card earlier call) ≡ true) × AgreesAfter same version card (earlier ++ (call ∷ [])) ls calls

-- 'every call line agrees with 01's steps for the calls up to it'
abbrev pub Agrees : (Float → Float → Bool) → ℕ → List ℕ → List Line → List Call → Type 0
Agrees same version card lines calls = AgreesAfter same version (card_at version card) [] lines calls

-- ---- a sheet with n call lines, by an audit's comparison and card test: document 01's is `Sheet plain`
pub record Sheet (rules : Rules) (bs : List ℕ) (n : ℕ) : Type 0 where
  pub version : ℕ
  pub card : List ℕ
  pub lines : List Line
  pub calls : List Call
  pub layout : Layout version bs card lines calls
  pub accepted : CardAccepted version card
  pub passes : rules.test version (card_at version card) ≡ true
  pub agreed : Agrees rules.same version card lines calls
  pub count : length lines ≡ n

-- Each of 40 to 44, and 70, 'is given only in its case': the cases, in the words of a sheet, and which verdicts there are.
use Rattle.std.specs.Prelude.{ℕ, ◌≤◌, ◌≡◌, true, false, ◌⊎◌, List, ◌∷◌, ◌++◌, length}
use Rattle.codec.specs.Bytes.{be}
use Rattle.card.specs.Version.{known_version}
use Rattle.card.specs.Extension.{Extension}
use Rattle.card.specs.declared.Card.{Card}
use Rattle.battery.specs.declared.Call.{Call}
use Rattle.sheet_records.specs.Cards.{card_length, card_at, extension_at}
use Rattle.sheet_lines.specs.Answers.{answer_at, agrees}
use Rattle.auditor.specs.Verdicts.{Verdict, Accepted, Refused}
use Rattle.auditor.specs.Rules.{Rules}
use Rattle.auditor.specs.Sheet.{Line, bytes_of, Laid, CardAccepted, expected, Sheet}

-- '40 means a first byte that is missing or no known version'
abbrev pub NoVersion : List ℕ → Type 0
NoVersion bs = (version : ℕ) (rest : List ℕ) → known_version version ≡ true → bs ≡ version ∷ rest → ⊥

-- line 0 is there in its length and its card is accepted, whatever follows it
pub record Opened (bs : List ℕ) : Type 0 where
  pub version : ℕ
  pub known : known_version version ≡ true
  pub head : List ℕ
  pub card : List ℕ
  pub rest : List ℕ
  pub bytes : bs ≡ version ∷ (head ++ (card ++ rest))
  pub two : length head ≡ 2
  pub counts : be head ≡ card_length version card
  pub long : length card ≡ card_length version card
  pub accepted : CardAccepted version card

-- '41 card line missing, of wrong length or refused', where 40 doesn't apply
pub record NoCard (bs : List ℕ) : Type 0 where
  pub version : ℕ
  pub known : known_version version ≡ true
  pub rest : List ℕ
  pub bytes : bs ≡ version ∷ rest
  pub unopened : Opened bs → ⊥

-- the card is accepted, and the audit doesn't take it: 70
pub record CardNotTaken (rules : Rules) (bs : List ℕ) : Type 0 where
  pub opened : Opened bs
  pub fails : rules.test opened.version (card_at opened.version opened.card) ≡ false

-- no call line stands at the front of bs to which 42 doesn't apply
abbrev pub NoLine : ℕ → Extension → Card → List ℕ → Type 0
NoLine version extension card bs = (line : Line) (call : Call) (rest : List ℕ) → bs ≡ bytes_of line ++ rest → Laid version extension card line call → ⊥

-- k lines make a sheet, and after them are bytes that begin with no line: 42
pub record BadLine (rules : Rules) (bs : List ℕ) (k : ℕ) : Type 0 where
  pub front : List ℕ
  pub rest : List ℕ
  pub bytes : bs ≡ front ++ rest
  pub some : 1 ≤ length rest
  pub sheet : Sheet rules front k
  pub none : NoLine sheet.version (extension_at sheet.version sheet.card) (card_at sheet.version sheet.card) rest

-- k lines make a sheet, and the line after them is laid and disagrees: 43
pub record Disagrees (rules : Rules) (bs : List ℕ) (k : ℕ) : Type 0 where
  pub front : List ℕ
  pub line : Line
  pub rest : List ℕ
  pub bytes : bs ≡ front ++ (bytes_of line ++ rest)
  pub sheet : Sheet rules front k
  pub call : Call
  pub laid : Laid sheet.version (extension_at sheet.version sheet.card) (card_at sheet.version sheet.card) line call
  pub differs :
      agrees rules.same (answer_at sheet.version (card_at sheet.version sheet.card) line.answer)
      (expected sheet.version (card_at sheet.version sheet.card) sheet.calls call)
      ≡ false

-- document 01's refusals, with their index; those of an audit by any rules
abbrev pub Known : ℕ → ℕ → Type 0
Known r i = ((r ≡ 40) × (i ≡ 0)) ⊎ (((r ≡ 41) × (i ≡ 0)) ⊎ (((r ≡ 42) × (1 ≤ i)) ⊎ ((r ≡ 43) × (1 ≤ i))))

abbrev pub KnownBy : ℕ → ℕ → Type 0
KnownBy r i = Known r i ⊎ ((r ≡ 70) × (i ≡ 0))

-- the verdicts that the program and the C audit give; those of any audit with their limit
abbrev pub Given : Verdict → Type 0
Given (Accepted n) = Unit
Given (Refused r i) = Known r i ⊎ ((r ≡ 44) × (i ≡ 0))

abbrev pub GivenBy : Verdict → Type 0
GivenBy (Accepted n) = Unit
GivenBy (Refused r i) = KnownBy r i ⊎ ((r ≡ 44) × (i ≡ 0))

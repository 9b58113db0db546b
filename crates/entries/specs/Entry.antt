-- Document 01, module 9: what A's entries answer, and what the lent memory holds afterwards.
use Rattle.std.specs.Prelude.{ℕ, ◌≡◌, Bool, false, cond, List, leb, eqb, length, take, Option, Some, None, Result, Ok, Err}
use Rattle.refusals.specs.Number.{number}
use Rattle.refusals.specs.declared.Refusal.{Refusal}
use Rattle.refusals.specs.Refusals.{card_out_of_range, bad_call, no_room, no_version}
use Rattle.codec.specs.Bytes.{over}
use Rattle.card.specs.Version.{known_version}
use Rattle.battery.specs.Battery.{fresh}
use Rattle.battery.specs.declared.Answer.{Answer}
use Rattle.sheet_records.specs.Cards.{card_length, card_at, refusal_at}
use Rattle.sheet_records.specs.Records.{record_length, record_bytes}
use Rattle.sheet_lines.specs.Lines.{line_size, line_bytes, opening_length, opening_bytes}
use Rattle.card.specs.declared.Card.{Card}

-- the refusal, the battery record and the lent part of the sheet afterwards
pub record After : Type 0 where
  pub code : ℕ
  pub record' : List ℕ
  pub sheet : List ℕ

-- that is what an entry returned and left
pub record WasAfter (after : After) (code : ℕ) (record' sheet : List ℕ) : Type 0 where
  pub code_is : code ≡ after.code
  pub record_is : record' ≡ after.record'
  pub sheet_is : sheet ≡ after.sheet

-- a call's outcome in numbers: the refusal that its line shows, any byte, or why it has no line
abbrev pub shown_number : Result ℕ Refusal → ℕ
shown_number (Ok n) = n
shown_number (Err r) = number r

-- a refusal that changes no byte
abbrev pub unchanged : ℕ → List ℕ → List ℕ → After
unchanged r rec free = record { code = r; record' = rec; sheet = free }

-- a fresh battery, and the version and line 0 at the front of the lent part
abbrev pub opened_with : ℕ → List ℕ → List ℕ → After
opened_with version card free =
    record { code = 0; record' = record_bytes version card (fresh (card_at version card)); sheet = over (opening_bytes version card) free }

-- opening a sheet of a known version: 'There a card is its bytes as in line 0 (another length is 1)', 1 to 4 and 61, then 10 for another length of the
-- record, then 11: 'fewer free sheet bytes than the line needs (for line 0 the version byte too, after 1 to 4)'
unfoldable pub open_known : ℕ → List ℕ → List ℕ → List ℕ → After
open_known version card rec free =
    cond (eqb (length card) (card_length version card))
    (cond (eqb (refusal_at version card) 0)
    (cond (eqb (length rec) (record_length version card))
    (cond (leb (opening_length version card) (length free))
    (opened_with version card free)
    (unchanged no_room rec free))
    (unchanged bad_call rec free))
    (unchanged (refusal_at version card) rec free))
    (unchanged card_out_of_range rec free)

-- document 02, Three: 'All entries for cards and calls take the version as one more number; an unknown one is 40 there, before all'
unfoldable pub of_version : ℕ → List ℕ → List ℕ → After → After
of_version version rec free after = cond (known_version version) after (unchanged no_version rec free)

unfoldable pub open_of : ℕ → List ℕ → List ℕ → List ℕ → After
open_of version card rec free = of_version version rec free (open_known version card rec free)

-- the record renewed; a refused call leaves zones and totals as they are
unfoldable pub renewed : ℕ → List ℕ → Answer → List ℕ
renewed version rec answer = cond (eqb answer.refusal 0) (record_bytes version (take (card_length version rec) rec) answer.battery) rec

-- 'The line goes to the front of the lent part of the sheet, the battery's bytes are renewed, and the entry returns the refusal'
abbrev pub entered : ℕ → List ℕ → List ℕ → List ℕ → Answer → After
entered version rec call free answer = record { code = answer.refusal; record' = renewed version rec answer; sheet = over (line_bytes version call answer) free }

-- '10 before 11, both before 20 to 25'
unfoldable pub line_after : ℕ → List ℕ → List ℕ → List ℕ → Answer → After
line_after version rec call free answer =
    cond (eqb answer.refusal bad_call)
    (unchanged bad_call rec free)
    (cond (leb (line_size version answer.battery.card (length call)) (length free))
    (entered version rec call free answer)
    (unchanged no_room rec free))

-- a record of a length that its accepted card gives
unfoldable pub record_laid : ℕ → List ℕ → Bool
record_laid version rec =
    cond (leb (card_length version rec) (length rec))
    (cond (eqb (refusal_at version rec) 0)
    (eqb (length rec) (record_length version rec))
    false)
    false

-- its card
unfoldable pub record_card : ℕ → List ℕ → Option Card
record_card version rec = cond (record_laid version rec) (Some (card_at version rec)) None

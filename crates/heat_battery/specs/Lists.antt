-- Document 01, 'What demand 3 speaks of': a list of calls on A's entries, and on the steps.
use Rattle.std.specs.Prelude.{ℕ, ◌+◌, ◌≤◌, ◌≡◌, List, [], ◌∷◌, ◌++◌, Bool, true, cond, ◌||◌, eqb, length, take, drop, Option, Some, None}
use Rattle.refusals.specs.Refusals.{bad_call, no_room, no_version}
use Rattle.codec.specs.Bytes.{be_at}
use Rattle.card.specs.Extension.{Extension, extension_ok}
use Rattle.battery.specs.Answer.{refused_with}
use Rattle.battery.specs.Battery.{fresh, GoodBattery}
use Rattle.battery.specs.declared.Battery.{Battery}
use Rattle.battery.specs.declared.Answer.{Answer}
use Rattle.engine.specs.Steps.{step_of}
use Rattle.sheet_records.specs.Cards.{card_length, card_at, extension_at}
use Rattle.sheet_records.specs.Records.{record_bytes}
use Rattle.sheet_calls.specs.Calls.{call_of}
use Rattle.sheet_lines.specs.Lines.{line_bytes, opening_length, opening_bytes}
use Rattle.entries.specs.Entry.{After, open_of}
use Rattle.heat_battery.specs.Entries.{entry_of}
use Rattle.battery.specs.declared.Call.{Call}

-- a call of a list: the version that it is given, and its bytes
pub record ListedCall : Type 0 where
  pub version : ℕ
  pub bytes : List ℕ

-- document 02, Three: 'The caller gives every call of a sheet the version it was opened with; demand 3 speaks of such lists'
abbrev pub AllGiven : ℕ → List ListedCall → Type 0
AllGiven version [] = Unit
AllGiven version (call ∷ calls) = (call.version ≡ version) × AllGiven version calls

-- ---- the entries

abbrev pub entry_to : List ℕ → List ℕ → ListedCall → After
entry_to rec free call = entry_of call.version rec call.bytes free

-- 10, 11 or 40: no line was written
unfoldable pub no_line : After → Bool
no_line after = eqb after.code bad_call || (eqb after.code no_room || eqb after.code no_version)

-- the bytes that the call's line takes at the front of the lent part, by its own length
unfoldable pub line_taken : After → ℕ
line_taken after = cond (no_line after) 0 (2 + be_at after.sheet 0 2)

-- the free bytes after the call's line
unfoldable pub free_rest : After → List ℕ
free_rest after = drop (line_taken after) after.sheet

-- 'Each gets the battery that the last one left and the free bytes after the last line': the record, and the free bytes, after the calls
unfoldable pub record_after : List ℕ → List ℕ → List ListedCall → List ℕ
record_after rec free [] = rec
record_after rec free (call ∷ calls) =
    let a = entry_to rec free call in
    record_after a.record' (free_rest a) calls

unfoldable pub free_after : List ℕ → List ℕ → List ListedCall → List ℕ
free_after rec free [] = free
free_after rec free (call ∷ calls) =
    let a = entry_to rec free call in
    free_after a.record' (free_rest a) calls

-- the lines that the calls left, in order
unfoldable pub written : List ℕ → List ℕ → List ListedCall → List ℕ
written rec free [] = []
written rec free (call ∷ calls) =
    let a = entry_to rec free call in
    take (line_taken a) a.sheet ++ written a.record' (free_rest a) calls

-- the bytes of the calls that got a line, in order
unfoldable pub spared : List ℕ → List ℕ → List ListedCall → List (List ℕ)
spared rec free [] = []
spared rec free (call ∷ calls) =
    let a = entry_to rec free call in
    let others = spared a.record' (free_rest a) calls in
    cond (no_line a) others (call.bytes ∷ others)

-- A's sheet: 'the version, line 0 and one call line .. for each call to which neither 10 nor 11 applies'; and the free bytes after it
unfoldable pub sheet_of : ℕ → List ℕ → List ℕ → List ℕ → List ListedCall → List ℕ
sheet_of version card rec free calls =
    let o = open_of version card rec free in
    take (opening_length version card) o.sheet ++ written o.record' (drop (opening_length version card) o.sheet) calls

unfoldable pub free_after_sheet : ℕ → List ℕ → List ℕ → List ℕ → List ListedCall → List ℕ
free_after_sheet version card rec free calls =
    let o = open_of version card rec free in
    free_after o.record' (drop (opening_length version card) o.sheet) calls

-- the record that A keeps then
unfoldable pub last_record : ℕ → List ℕ → List ℕ → List ℕ → List ListedCall → List ℕ
last_record version card rec free calls =
    let o = open_of version card rec free in
    record_after o.record' (drop (opening_length version card) o.sheet) calls

-- the calls of the list that got a line
unfoldable pub spared_of : ℕ → List ℕ → List ℕ → List ℕ → List ListedCall → List (List ℕ)
spared_of version card rec free calls =
    let o = open_of version card rec free in
    spared o.record' (drop (opening_length version card) o.sheet) calls

-- ---- the steps on a card with this extension, fed a call's kind and fields, never an answer

unfoldable pub answer_read : ℕ → Battery → Option Call → Answer
answer_read version battery (Some c) = step_of version battery c
answer_read version battery None = refused_with bad_call battery

unfoldable pub answer_to : ℕ → Extension → Battery → List ℕ → Answer
answer_to version extension battery call = answer_read version battery (call_of version extension call)

-- their state after a list of calls, and the lines with their answers
unfoldable pub state_after : ℕ → Extension → Battery → List (List ℕ) → Battery
state_after version extension battery [] = battery
state_after version extension battery (call ∷ calls) = state_after version extension (answer_to version extension battery call).battery calls

unfoldable pub step_lines : ℕ → Extension → Battery → List (List ℕ) → List ℕ
step_lines version extension battery [] = []
step_lines version extension battery (call ∷ calls) =
    line_bytes version call (answer_to version extension battery call) ++ step_lines version extension (answer_to version extension battery call).battery calls

-- ---- the two agree

-- a record that is the encoding of a good battery, with the bytes of its card and an accepted extension
pub record Encoded (version : ℕ) (card : List ℕ) (battery : Battery) (rec : List ℕ) : Type 0 where
  pub long : length card ≡ card_length version card
  pub card_read : card_at version card ≡ battery.card
  pub extended : extension_ok (extension_at version card) ≡ true
  pub good : GoodBattery version battery
  pub bytes : rec ≡ record_bytes version card battery

-- after the calls: each line and the record are the encodings of the steps' answer and state, the lines lie within the lent part, and the bytes after are as before
pub record SameAsSteps (version : ℕ) (card : List ℕ) (battery : Battery) (rec free : List ℕ) (calls : List ListedCall) : Type 0 where
  pub lines : written rec free calls ≡ step_lines version (extension_at version card) battery (spared rec free calls)
  pub encoded : Encoded version card (state_after version (extension_at version card) battery (spared rec free calls)) (record_after rec free calls)
  pub fits : length (written rec free calls) ≤ length free
  pub following : free_after rec free calls ≡ drop (length (written rec free calls)) free

-- the same of A's sheet, from the fresh battery on
pub record SheetOfSteps (version : ℕ) (card rec free : List ℕ) (calls : List ListedCall) : Type 0 where
  pub sheet :
      sheet_of version card rec free calls
      ≡ opening_bytes version card ++ step_lines version (extension_at version card) (fresh (card_at version card)) (spared_of version card rec free calls)
  pub encoded : Encoded version card (state_after version (extension_at version card) (fresh (card_at version card)) (spared_of version card rec free calls)) (last_record version card rec free calls)
  pub fits : length (sheet_of version card rec free calls) ≤ length free
  pub following : free_after_sheet version card rec free calls ≡ drop (length (sheet_of version card rec free calls)) free

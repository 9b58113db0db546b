-- One run in two versions: the same calls in both layouts, and what a run answers. Document 02, Four: 'A run that uses only types 0 to 3, with 11 nowhere, gives equal answers
-- in versions 2 and 3'; Six: with the flag 0 version 4 is as before.
use Rattle.std.specs.Prelude.{ℕ, ◌+◌, ◌≤◌, ◌≡◌, cond, List, [], ◌∷◌, eqb, length, take, drop, get_or}
use Rattle.entries.specs.Entry.{After, open_of}
use Rattle.sheet_lines.specs.Lines.{opening_length}
use Rattle.heat_battery.specs.Lists.{ListedCall, entry_to, no_line, line_taken, free_rest}

-- what holds of every call of a list
abbrev pub Every : (ListedCall → Type 0) → List ListedCall → Type 0
Every P [] = Unit
Every P (call ∷ calls) = P call × Every P calls

-- the calls in another version's layout
unfoldable pub in_version : ℕ → (List ℕ → List ℕ) → List ListedCall → List ListedCall
in_version version layout [] = []
in_version version layout (call ∷ calls) = record { version = version; bytes = layout call.bytes } ∷ in_version version layout calls

-- a version 2 call in version 3's layout: 'the type field has two bytes', the first of them 0
unfoldable pub widened : List ℕ → List ℕ
widened [] = []
widened (kind ∷ fields) = cond (eqb kind 1) (kind ∷ 0 ∷ fields) (kind ∷ fields)

abbrev pub in_three : List ListedCall → List ListedCall
in_three calls = in_version 3 widened calls

-- 'uses only types 0 to 3'
abbrev pub FirstTypes : List ListedCall → Type 0
FirstTypes calls = Every (λ call. get_or call.bytes 0 0 ≡ 1 → get_or call.bytes 1 0 ≤ 3) calls

-- a version 3 call has the same bytes in version 4
abbrev pub unaltered : List ℕ → List ℕ
unaltered bytes = bytes

abbrev pub in_four : List ListedCall → List ListedCall
in_four calls = in_version 4 unaltered calls

-- 'with 11 nowhere'
abbrev pub NoEleven : List ℕ → List ℕ → List ListedCall → Type 0
NoEleven rec free [] = Unit
NoEleven rec free (call ∷ calls) = ((entry_to rec free call).code ≡ 11 → ⊥) × NoEleven (entry_to rec free call).record' (free_rest (entry_to rec free call)) calls

-- what a call answers: its refusal, and all that its line shows after the call's own bytes: refusal, energy, outlet, time, substeps, zones and totals; nothing where it gets no line
pub record Answered : Type 0 where
  pub code : ℕ
  pub shown : List ℕ

unfoldable pub answered_by : List ℕ → After → Answered
answered_by call after = record { code = after.code; shown = cond (no_line after) [] (drop (2 + length call) (take (line_taken after) after.sheet)) }

-- call for call
unfoldable pub answers_of : List ℕ → List ℕ → List ListedCall → List Answered
answers_of rec free [] = []
answers_of rec free (call ∷ calls) = let a = entry_to rec free call in answered_by call.bytes a ∷ answers_of a.record' (free_rest a) calls

-- the record and the free bytes that opening leaves
abbrev pub opened_record : ℕ → List ℕ → List ℕ → List ℕ → List ℕ
opened_record version card rec free = (open_of version card rec free).record'

abbrev pub opened_rest : ℕ → List ℕ → List ℕ → List ℕ → List ℕ
opened_rest version card rec free = drop (opening_length version card) (open_of version card rec free).sheet

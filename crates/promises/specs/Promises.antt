-- The promises: what the demands ask, each under its sentence, in the words of the crates below (the entries' open_of, entry_of and own_advanced, the auditor's
-- audit_of), for every version: what A does takes it, a sheet has its own, and one that isn't known is 40. Each is a theorem of crates/promises/proofs/Promises.antt
-- under the same name.
use Rattle.std.specs.Prelude.{ℕ, ◌+◌, ◌*◌, ◌<◌, ◌≤◌, ◌≡◌, true, false, ◌↔◌, List, [], ◌∷◌, ◌++◌, length, drop}
use Rattle.floats.specs.Constants.{zero}
use Rattle.codec.specs.Bytes.{over}
use Rattle.card.specs.Version.{known_version}
use Rattle.card.specs.Card.{OneOf, card_refusals}
use Rattle.battery.specs.Answer.{refused_with}
use Rattle.battery.specs.Battery.{fresh}
use Rattle.battery.specs.Places.{SameAbove}
use Rattle.engine.specs.Cases.{Case20, Case21, Case22, Case23, Case24, Case25}
use Rattle.sheet_records.specs.Cards.{card_at, extension_at}
use Rattle.sheet_records.specs.Records.{record_of}
use Rattle.sheet_lines.specs.Answers.{AcceptsItself}
use Rattle.sheet_lines.specs.Lines.{line_bytes, opening_bytes}
use Rattle.entries.specs.Entry.{unchanged, open_of}
use Rattle.own_record.specs.Record.{extension_of, own_advanced}
use Rattle.own_record.specs.declared.OwnRecord.{OwnRecord}
use Rattle.heat_battery.specs.Entries.{entry_of}
use Rattle.heat_battery.specs.Cases.{OpenCase1, OpenCase2, OpenCase3, OpenCase4, OpenCase61, OpenCase10, OpenCase11, Opens, CallCase10, CallCase11, LineCase, OwnCase10, OwnCase}
use Rattle.heat_battery.specs.Lists.{ListedCall, AllGiven, sheet_of, free_after_sheet, spared_of, step_lines, SheetOfSteps}
use Rattle.auditor.specs.Verdicts.{Accepted, Refused}
use Rattle.auditor.specs.Rules.{Rules, plain, NoLooser}
use Rattle.auditor.specs.Audit.{limit, audit_of, limited_audit_of, verdict_word, verdict_fields}
use Rattle.auditor.specs.Sheet.{Sheet}
use Rattle.auditor.specs.Cases.{NoVersion, NoCard, CardNotTaken, BadLine, Disagrees, Known, Given}
use Rattle.promises.specs.Claims.{AllDirected, AllSummed}

-- ---- 1: 'A caller of any entry, with any numbers and any bytes, gets an answer or a refusal of document 01': the contracts of the five C entries
-- (crates/heat_battery/src/lib.rt) equate what each returns and leaves with open_of, entry_of and own_advanced of the version that it is given, and with limited_audit_of and audit_of of `plain`; these are their numbers, 0 for an answer

abbrev pub OpeningNumbers : Type 0
OpeningNumbers = (version : ℕ) (card rec free : List ℕ) → OneOf (0 ∷ 10 ∷ 11 ∷ 40 ∷ card_refusals) (open_of version card rec free).code

abbrev pub CallNumbers : Type 0
CallNumbers = (version : ℕ) (rec call free : List ℕ) → OneOf (0 ∷ 10 ∷ 11 ∷ 20 ∷ 21 ∷ 22 ∷ 23 ∷ 24 ∷ 25 ∷ 40 ∷ []) (entry_of version rec call free).code

abbrev pub OwnRecordNumbers : Type 0
OwnRecordNumbers = (version : ℕ) (own : OwnRecord) (call : List ℕ) → OneOf (0 ∷ 10 ∷ 20 ∷ 21 ∷ 22 ∷ 23 ∷ 24 ∷ 25 ∷ 40 ∷ []) (own_advanced version own call).shown.refusal

-- accepted, 40 or 41 at line 0, 42 or 43 at a call line, or 44 at line 0
abbrev pub AuditVerdicts : Type 0
AuditVerdicts = (bs : List ℕ) → Given (limited_audit_of plain bs)

-- the auditor without a limit of length: the same without 44
abbrev pub AuditorVerdicts : Type 0
AuditorVerdicts = (bs : List ℕ) (r i : ℕ) → audit_of plain bs ≡ Refused r i → Known r i

-- 'and a refused call changes no battery, total or byte that 01 doesn't name'

abbrev pub RefusedOpeningChangesNothing : Type 0
RefusedOpeningChangesNothing =
    (version : ℕ) (card rec free : List ℕ) → ((open_of version card rec free).code ≡ 0 → ⊥) → open_of version card rec free ≡ unchanged (open_of version card rec free).code rec free

-- 10, 11 and 40
abbrev pub CallWithoutLineChangesNothing : Type 0
CallWithoutLineChangesNothing =
    (version : ℕ) (rec call free : List ℕ) → OneOf (10 ∷ 11 ∷ 40 ∷ []) (entry_of version rec call free).code
    → entry_of version rec call free ≡ unchanged (entry_of version rec call free).code rec free

-- 20 to 25: 'A refusal line shows energy 0, outlet absent, time 0, substeps 0, and zones and totals as before'
abbrev pub RefusalLineLeavesTheRecord : Type 0
RefusalLineLeavesTheRecord =
    (version : ℕ) (rec call free : List ℕ) → 20 ≤ (entry_of version rec call free).code → (entry_of version rec call free).code ≤ 25
    → ((entry_of version rec call free).record' ≡ rec)
    × ((entry_of version rec call free).sheet ≡ over (line_bytes version call (refused_with (entry_of version rec call free).code (record_of version rec))) free)

abbrev pub RefusedOwnRecordStays : Type 0
RefusedOwnRecordStays =
    (version : ℕ) (own : OwnRecord) (call : List ℕ) → ((own_advanced version own call).shown.refusal ≡ 0 → ⊥) → (own_advanced version own call).own ≡ own

-- 'places above the count .. are never written': whatever the caller's own record holds there stays, answered or refused
abbrev pub PlacesAboveTheCountStay : Type 0
PlacesAboveTheCountStay =
    (version : ℕ) (own : OwnRecord) (call : List ℕ) → SameAbove own.battery.card.layers own.battery.zones (own_advanced version own call).own.battery.zones

-- and so do its services and its flag, whatever they hold, read or not
abbrev pub ExtensionStays : Type 0
ExtensionStays =
    (version : ℕ) (own : OwnRecord) (call : List ℕ)
    → ((own_advanced version own call).own.services ≡ own.services) × ((own_advanced version own call).own.numbers ≡ own.numbers) × ((own_advanced version own call).own.classes ≡ own.classes)
    × ((own_advanced version own call).own.floor ≡ own.floor)

-- ---- 2: 'engine, sheet writer and sheet reader are proved against 01's steps'

-- after every list of calls the record and each line are the encodings of the steps' state and answer. Document 02, Three: 'The caller gives every call of a sheet
-- the version it was opened with; demand 3 speaks of such lists'
abbrev pub EqualToTheSteps : Type 0
EqualToTheSteps =
    (version : ℕ) → known_version version ≡ true → (card rec free : List ℕ) → Opens version card rec free → (calls : List ListedCall) → AllGiven version calls
    → SheetOfSteps version card rec free calls

-- ---- 3: 'For every accepted card that opens A's sheet'

abbrev pub Opening : Type 0
Opening = (version : ℕ) (card rec free : List ℕ) → ((open_of version card rec free).code ≡ 0) ↔ ((known_version version ≡ true) × Opens version card rec free)

-- 'and every list of calls from a fresh battery (any kind, any fields, refused ones included), B accepts the sheet that A then has, however few bytes were free.'
-- `free` is the lent buffer, `calls` are any bytes whatsoever.
pub record AList (rules : Rules) (version : ℕ) (card rec free : List ℕ) (calls : List ListedCall) : Type 0 where
  -- as many lines as calls that got one
  pub verdict : audit_of rules (sheet_of version card rec free calls) ≡ Accepted (length (spared_of version card rec free calls))
  -- the version, line 0 and, for each such call in order, a line with the call's own bytes and the steps' answer
  pub bytes :
      sheet_of version card rec free calls
      ≡ opening_bytes version card ++ step_lines version (extension_at version card) (fresh (card_at version card)) (spared_of version card rec free calls)
  -- within the buffer
  pub fits : length (sheet_of version card rec free calls) ≤ length free
  -- the bytes after it are as before
  pub following : free_after_sheet version card rec free calls ≡ drop (length (sheet_of version card rec free calls)) free

abbrev pub AcceptsAList : Type 0
AcceptsAList =
    (version : ℕ) (card rec free : List ℕ) (calls : List ListedCall) → (open_of version card rec free).code ≡ 0 → AllGiven version calls
    → AList plain version card rec free calls

-- the same of every audit whose comparison accepts a finite number beside itself, and which takes the card
abbrev pub AcceptsAListByRules : Type 0
AcceptsAListByRules =
    (rules : Rules) → AcceptsItself rules.same → (version : ℕ) (card rec free : List ℕ) (calls : List ListedCall) → rules.test version (card_at version card) ≡ true
    → (open_of version card rec free).code ≡ 0 → AllGiven version calls → AList rules version card rec free calls

-- 'Whatever bytes B is handed, it accepts them exactly when they have 01's layout, their card is accepted and every call line agrees with 01's steps for the calls up to it.'
-- Of every comparison and card test: document 01's are `plain`.
abbrev pub ExactlyWhen : Type 0
ExactlyWhen = (rules : Rules) (bs : List ℕ) (n : ℕ) → (audit_of rules bs ≡ Accepted n) ↔ Sheet rules bs n

-- the same of its number for at most 65,536 bytes, which the C audit returns by `plain`
abbrev pub ExactlyWhenInC : Type 0
ExactlyWhenInC = (rules : Rules) (bs : List ℕ) (n : ℕ) → length bs ≤ limit → (verdict_word (limited_audit_of rules bs) ≡ n * 256) ↔ Sheet rules bs n

-- and that number tells the verdict
abbrev pub WordTellsTheVerdict : Type 0
WordTellsTheVerdict =
    (rules : Rules) (bs cs : List ℕ) → verdict_word (limited_audit_of rules bs) ≡ verdict_word (limited_audit_of rules cs) → limited_audit_of rules bs ≡ limited_audit_of rules cs

-- the same of its refusal and its line for any length, which the C audit without a limit returns by `plain`
abbrev pub ExactlyWhenOfAnyLength : Type 0
ExactlyWhenOfAnyLength =
    (rules : Rules) (bs : List ℕ) (n : ℕ) → (((verdict_fields (audit_of rules bs)).refusal ≡ 0) × ((verdict_fields (audit_of rules bs)).line ≡ n)) ↔ Sheet rules bs n

-- and these two tell the verdict
abbrev pub FieldsTellTheVerdict : Type 0
FieldsTellTheVerdict =
    (rules : Rules) (bs : List ℕ) (r i : ℕ) → 1 ≤ r
    → (((verdict_fields (audit_of rules bs)).refusal ≡ r) × ((verdict_fields (audit_of rules bs)).line ≡ i)) ↔ (audit_of rules bs ≡ Refused r i)

-- where both audits look at the lines, they say the same
abbrev pub BothAuditsAgree : Type 0
BothAuditsAgree =
    (rules : Rules) (bs : List ℕ) → length bs ≤ limit
    → verdict_word (limited_audit_of rules bs) ≡ (verdict_fields (audit_of rules bs)).line * 256 + (verdict_fields (audit_of rules bs)).refusal

-- 'In each accepted sheet no zone is warmer after a standing loss, none cooler after an electric charge, and none altered by a refused or trial line.'
-- This and the next of every audit whose comparison accepts no more than f64 equality, as document 01's.
abbrev pub ZonesMoveTheRightWay : Type 0
ZonesMoveTheRightWay =
    (rules : Rules) → NoLooser rules → (bs : List ℕ) (n : ℕ) (sheet : Sheet rules bs n)
    → AllDirected sheet.version (card_at sheet.version sheet.card) (λ i. (card_at sheet.version sheet.card).start) sheet.lines

-- 'On each of its call lines the charged total is the f64 sum, in line order, of the energies of the answered charge lines up to it.'
abbrev pub ChargedTotalAddsUp : Type 0
ChargedTotalAddsUp =
    (rules : Rules) → NoLooser rules → (bs : List ℕ) (n : ℕ) (sheet : Sheet rules bs n) → AllSummed sheet.version (card_at sheet.version sheet.card) zero sheet.lines

-- ---- document 01: 'Each is given only in its case', and in its case it is given

-- document 02, Three: 'an unknown one is 40 there, before all', and only an unknown one
abbrev pub FortyExactlyWhenUnknown : Type 0
FortyExactlyWhenUnknown =
    (version : ℕ)
    → ((card rec free : List ℕ) → ((open_of version card rec free).code ≡ 40) ↔ (known_version version ≡ false))
    × ((rec call free : List ℕ) → ((entry_of version rec call free).code ≡ 40) ↔ (known_version version ≡ false))
    × ((own : OwnRecord) (call : List ℕ) → ((own_advanced version own call).shown.refusal ≡ 40) ↔ (known_version version ≡ false))

abbrev pub OpeningRefusals : Type 0
OpeningRefusals =
    (version : ℕ) → known_version version ≡ true → (card rec free : List ℕ)
    → (((open_of version card rec free).code ≡ 1) ↔ OpenCase1 version card) × (((open_of version card rec free).code ≡ 2) ↔ OpenCase2 version card)
    × (((open_of version card rec free).code ≡ 3) ↔ OpenCase3 version card) × (((open_of version card rec free).code ≡ 4) ↔ OpenCase4 version card)
    × (((open_of version card rec free).code ≡ 61) ↔ OpenCase61 version card)
    × (((open_of version card rec free).code ≡ 10) ↔ OpenCase10 version card rec) × (((open_of version card rec free).code ≡ 11) ↔ OpenCase11 version card rec free)

abbrev pub CallRefusals : Type 0
CallRefusals =
    (version : ℕ) → known_version version ≡ true → (rec call free : List ℕ)
    → (((entry_of version rec call free).code ≡ 10) ↔ CallCase10 version rec call) × (((entry_of version rec call free).code ≡ 11) ↔ CallCase11 version rec call free)
    × (((entry_of version rec call free).code ≡ 20) ↔ LineCase Case20 version rec call free) × (((entry_of version rec call free).code ≡ 21) ↔ LineCase Case21 version rec call free)
    × (((entry_of version rec call free).code ≡ 22) ↔ LineCase Case22 version rec call free) × (((entry_of version rec call free).code ≡ 23) ↔ LineCase (Case23 version) version rec call free)
    × (((entry_of version rec call free).code ≡ 24) ↔ LineCase Case24 version rec call free) × (((entry_of version rec call free).code ≡ 25) ↔ LineCase Case25 version rec call free)

abbrev pub OwnRecordRefusals : Type 0
OwnRecordRefusals =
    (version : ℕ) → known_version version ≡ true → (own : OwnRecord) (call : List ℕ)
    → (((own_advanced version own call).shown.refusal ≡ 10) ↔ OwnCase10 version (extension_of version own) own.battery call)
    × (((own_advanced version own call).shown.refusal ≡ 20) ↔ OwnCase Case20 version (extension_of version own) own.battery call)
    × (((own_advanced version own call).shown.refusal ≡ 21) ↔ OwnCase Case21 version (extension_of version own) own.battery call)
    × (((own_advanced version own call).shown.refusal ≡ 22) ↔ OwnCase Case22 version (extension_of version own) own.battery call)
    × (((own_advanced version own call).shown.refusal ≡ 23) ↔ OwnCase (Case23 version) version (extension_of version own) own.battery call)
    × (((own_advanced version own call).shown.refusal ≡ 24) ↔ OwnCase Case24 version (extension_of version own) own.battery call)
    × (((own_advanced version own call).shown.refusal ≡ 25) ↔ OwnCase Case25 version (extension_of version own) own.battery call)

-- 70 is given by no audit that takes every card, as document 01's (AuditorVerdicts)
abbrev pub AuditRefusals : Type 0
AuditRefusals =
    (rules : Rules) (bs : List ℕ) (k : ℕ)
    → ((audit_of rules bs ≡ Refused 40 0) ↔ NoVersion bs) × ((audit_of rules bs ≡ Refused 41 0) ↔ NoCard bs) × ((audit_of rules bs ≡ Refused 70 0) ↔ CardNotTaken rules bs)
    × ((audit_of rules bs ≡ Refused 42 (k + 1)) ↔ BadLine rules bs k) × ((audit_of rules bs ≡ Refused 43 (k + 1)) ↔ Disagrees rules bs k)
    × ((limited_audit_of rules bs ≡ Refused 44 0) ↔ (limit < length bs))

-- Document 01, module 8: the auditor 'reads calls from the sheet and steps its own battery'. Refusals 40 to 43, 'the lowest line wins, 42 before 43'.
-- It takes its comparison and its test of an accepted card as Rules.
use Rattle.std.specs.Prelude.{ℕ, zero, suc, ◌+◌, ◌*◌, Bool, false, cond, Option, Some, None, List, [], ◌∷◌, leb, ltb, eqb, length, take, drop, get_or, Float}
use Rattle.refusals.specs.Refusals.{bad_call, no_version, bad_card, bad_line, disagrees, too_long}
use Rattle.codec.specs.Bytes.{be_at}
use Rattle.card.specs.Version.{known_version}
use Rattle.card.specs.Extension.{Extension}
use Rattle.card.specs.declared.Card.{Card}
use Rattle.battery.specs.Battery.{fresh}
use Rattle.battery.specs.declared.Battery.{Battery}
use Rattle.battery.specs.declared.Answer.{Answer}
use Rattle.engine.specs.Steps.{advance_of}
use Rattle.sheet_records.specs.Cards.{card_length, card_at, extension_at, refusal_at}
use Rattle.sheet_lines.specs.Answers.{agrees}
use Rattle.sheet_lines.specs.Lines.{opening_length}
use Rattle.sheet_lines.specs.Front.{line_call, line_answer, following}
use Rattle.auditor.specs.Rules.{Rules}
use Rattle.auditor.specs.declared.CardLine.{CardLine}
use Rattle.auditor.specs.Verdicts.{Verdict, Accepted, Refused}
use Rattle.auditor.specs.declared.AuditVerdict.{AuditVerdict}
use Rattle.battery.specs.declared.Call.{Call}

-- after k lines: what the line shows against the steps' own answer, whose 10 is a field out of range
unfoldable pub judge : (Float → Float → Bool) → ℕ → Answer → Answer → (Battery → Verdict) → Verdict
judge same k seen own go =
    cond (eqb own.refusal bad_call)
    (Refused bad_line (k + 1))
    (cond (agrees same seen own) (go own.battery) (Refused disagrees (k + 1)))

unfoldable pub audit_line : (Float → Float → Bool) → ℕ → Battery → ℕ → Answer → Option Call → (Battery → Verdict) → Verdict
audit_line same version battery k seen None go = Refused bad_line (k + 1)
audit_line same version battery k seen (Some call) go = judge same k seen (advance_of version battery call) go

-- the lines from the front of bs on, after k lines; `most` bounds how many there are
unfoldable pub audit_from : (Float → Float → Bool) → ℕ → Extension → Card → ℕ → Battery → ℕ → List ℕ → Verdict
audit_from same version extension card zero battery k bs = Accepted k
audit_from same version extension card (suc most) battery k [] = Accepted k
audit_from same version extension card (suc most) battery k (x ∷ bs) =
    audit_line same version battery k (line_answer version card (x ∷ bs)) (line_call version extension card (x ∷ bs))
    (λ next. audit_from same version extension card most next (k + 1) (following version card (x ∷ bs)))

-- line 0's content, and all that follows it
abbrev pub card_part : ℕ → List ℕ → List ℕ
card_part version bs = take (card_length version (drop 3 bs)) (drop 3 bs)

abbrev pub lines_part : ℕ → List ℕ → List ℕ
lines_part version bs = drop (opening_length version (drop 3 bs)) bs

-- '41 card line missing, of wrong length or refused'
unfoldable pub card_line_ok : ℕ → List ℕ → Bool
card_line_ok version bs =
    cond (leb (opening_length version (drop 3 bs)) (length bs))
    (cond (eqb (be_at bs 1 2) (card_length version (drop 3 bs)))
    (eqb (refusal_at version (card_part version bs)) 0)
    false)
    false

-- the accepted card, and where the call lines begin
unfoldable pub card_line : ℕ → List ℕ → Option CardLine
card_line version bs = cond (card_line_ok version bs) (Some (record { card = card_at version (card_part version bs); end = opening_length version (drop 3 bs) })) None

-- the call lines, on a card with this extension, from its fresh battery on
unfoldable pub audit_lines : (Float → Float → Bool) → ℕ → Extension → Card → List ℕ → Verdict
audit_lines same version extension card bs = audit_from same version extension card (length bs) (fresh card) 0 bs

-- the lines of an accepted card; 70 (index 0) for one that the audit doesn't take
unfoldable pub audit_card : Rules → ℕ → Extension → Card → List ℕ → Verdict
audit_card rules version extension card bs = cond (rules.test version card) (audit_lines rules.same version extension card bs) (Refused 70 0)

-- document 02, Three: '40 means a first byte that is missing or no known version', at index 0; the first byte is the version
unfoldable pub audit_of : Rules → List ℕ → Verdict
audit_of rules bs =
    let version = get_or bs 0 0 in
    cond (known_version version)
    (cond (card_line_ok version bs)
    (audit_card rules version (extension_at version (card_part version bs)) (card_at version (card_part version bs)) (lines_part version bs))
    (Refused bad_card 0))
    (Refused no_version 0)

-- the most bytes that the program and the C audit take
abbrev pub limit : ℕ
limit = 65536

-- '44 more than 65,536 bytes, from the program and the C audit only (index 0, tested first)'
unfoldable pub limited_audit_of : Rules → List ℕ → Verdict
limited_audit_of rules bs = cond (ltb limit (length bs)) (Refused too_long 0) (audit_of rules bs)

-- document 01's numbers: 'K × 256 + R, or N × 256 when it accepts'
unfoldable pub verdict_word : Verdict → ℕ
verdict_word (Accepted n) = n * 256
verdict_word (Refused r k) = k * 256 + r

-- the same side by side: the refusal and its line, or 0 and the number of call lines
unfoldable pub verdict_fields : Verdict → AuditVerdict
verdict_fields (Accepted n) = record { refusal = 0; line = n }
verdict_fields (Refused r k) = record { refusal = r; line = k }

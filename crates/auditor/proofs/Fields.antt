-- The refusal and the line of an audit without the limit, as it hands them to C, tell its verdict, and that a sheet is accepted.
use Prim.Native.Nat.{ℕ, ◌+◌, ◌*◌, ◌≤◌}
use native.Mathlib.Omega.{arith}
use mathlib.Core.Path.{◌≡◌, ap, ◌∙◌}
use mathlib.Core.Logic.{◌↔◌}
use mathlib.Core.List.{List}
use lib.ListN.{length}
use Rattle.auditor.specs.Verdicts.{Verdict, Accepted, Refused}
use Rattle.auditor.specs.Rules.{Rules}
use Rattle.auditor.specs.Audit.{limit, audit_of, limited_audit_of, verdict_word, verdict_fields}
use Rattle.auditor.specs.Sheet.{Sheet}
use Rattle.auditor.specs.Cases.{GivenBy}
use Rattle.auditor.proofs.Exact.{exact}
use Rattle.auditor.proofs.Refusals.{within_limit}
use Rattle.auditor.proofs.Words.{audit_given, number_small}

-- a verdict's fields
abbrev Has : Verdict → ℕ → ℕ → Type 0
Has v r i = ((verdict_fields v).refusal ≡ r) × ((verdict_fields v).line ≡ i)

has : (v w : Verdict) → v ≡ w → Has v (verdict_fields w).refusal (verdict_fields w).line
has v w e = (ap (λ (x : Verdict). (verdict_fields x).refusal) e, ap (λ (x : Verdict). (verdict_fields x).line) e)

accepted_of : (v : Verdict) (n : ℕ) → GivenBy v → Has v 0 n → v ≡ Accepted n
unfolding verdict_fields
accepted_of (Accepted m) n g h = ap Accepted h.1
accepted_of (Refused r i) n g h = let t = number_small r i g in let z : r ≡ 0 = h.0 in absurd (omega arith)

refused_of : (v : Verdict) (r i : ℕ) → 1 ≤ r → Has v r i → v ≡ Refused r i
unfolding verdict_fields
refused_of (Accepted n) r i l h = let z : 0 ≡ r = h.0 in absurd (omega arith)
refused_of (Refused s j) r i l h = ap (λ (x : ℕ). Refused x j) h.0 ∙ ap (Refused r) h.1

-- 0 and N exactly when the bytes are a sheet with N lines, however many there are
pub fields_accept : (rules : Rules) (bs : List ℕ) (n : ℕ) → (((verdict_fields (audit_of rules bs)).refusal ≡ 0) × ((verdict_fields (audit_of rules bs)).line ≡ n)) ↔ Sheet rules bs n
unfolding verdict_fields
fields_accept rules bs n = (λ h. (exact rules bs n).0 (accepted_of (audit_of rules bs) n (audit_given rules bs) h), λ s. has (audit_of rules bs) (Accepted n) ((exact rules bs n).1 s))

-- another number and a line exactly when that is the verdict
pub fields_refuse : (rules : Rules) (bs : List ℕ) (r i : ℕ) → 1 ≤ r → (((verdict_fields (audit_of rules bs)).refusal ≡ r) × ((verdict_fields (audit_of rules bs)).line ≡ i)) ↔ (audit_of rules bs ≡ Refused r i)
unfolding verdict_fields
fields_refuse rules bs r i l = (refused_of (audit_of rules bs) r i l, has (audit_of rules bs) (Refused r i))

word_of : (v : Verdict) → verdict_word v ≡ (verdict_fields v).line * 256 + (verdict_fields v).refusal
unfolding verdict_word verdict_fields
word_of (Accepted n) = omega arith
word_of (Refused r k) = omega arith

-- within the limit the word is made of them
pub fields_word : (rules : Rules) (bs : List ℕ) → length bs ≤ limit → verdict_word (limited_audit_of rules bs) ≡ (verdict_fields (audit_of rules bs)).line * 256 + (verdict_fields (audit_of rules bs)).refusal
fields_word rules bs l = ap verdict_word (within_limit rules bs l) ∙ word_of (audit_of rules bs)

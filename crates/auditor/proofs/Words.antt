-- The word of an audit with the limit, as the C audit returns it, tells its verdict, and that a sheet is accepted.
use Prim.Native.Nat.{ℕ, ◌*◌, ◌≤◌, ◌<◌}
use native.Mathlib.Omega.{arith}
use mathlib.Core.Path.{◌≡◌, refl, ap, ◌∙◌}
use mathlib.Core.Logic.{◌⊎◌, ◌↔◌, inl, inr}
use mathlib.Core.List.{List}
use mathlib.Core.Bool.{Bool, true, false, cond}
use lib.Dec.{ltb}
use lib.ListN.{length}
use Rattle.auditor.specs.Verdicts.{Verdict, Accepted, Refused}
use Rattle.auditor.specs.Rules.{Rules, plain}
use Rattle.auditor.specs.Audit.{limit, audit_of, limited_audit_of, verdict_word}
use Rattle.auditor.specs.Sheet.{Sheet}
use Rattle.auditor.specs.Cases.{KnownBy, Given, GivenBy}
use Rattle.auditor.proofs.Exact.{exact}
use Rattle.auditor.proofs.Refusals.{no_other_by, no_other, within_limit}

-- the verdicts that there are
pub audit_given : (rules : Rules) (bs : List ℕ) → GivenBy (audit_of rules bs)
audit_given rules bs = on (audit_of rules bs) refl
  where
    on : (v : Verdict) → audit_of rules bs ≡ v → GivenBy v
    on (Accepted n) e = tt
    on (Refused r i) e = inl (no_other_by rules bs r i e)

pub verdict_given : (rules : Rules) (bs : List ℕ) → GivenBy (limited_audit_of rules bs)
unfolding limited_audit_of
verdict_given rules bs = on (ltb limit (length bs))
  where
    on : (t : Bool) → GivenBy (cond t (Refused 44 0) (audit_of rules bs))
    on true = inr (refl, refl)
    on false = audit_given rules bs

-- document 01's
pub plain_given : (bs : List ℕ) → Given (limited_audit_of plain bs)
unfolding limited_audit_of
plain_given bs = on (ltb limit (length bs)) (audit_of plain bs) refl
  where
    on : (t : Bool) (v : Verdict) → audit_of plain bs ≡ v → Given (cond t (Refused 44 0) v)
    on true v e = inr (refl, refl)
    on false (Accepted n) e = tt
    on false (Refused r i) e = inl (no_other bs r i e)

-- no number is a multiple of 256
pub number_small : (r i : ℕ) → KnownBy r i ⊎ ((r ≡ 44) × (i ≡ 0)) → (1 ≤ r) × (r < 256)
number_small r i (inl (inl (inl z))) = (omega arith, omega arith)
number_small r i (inl (inl (inr (inl z)))) = (omega arith, omega arith)
number_small r i (inl (inl (inr (inr (inl z))))) = (omega arith, omega arith)
number_small r i (inl (inl (inr (inr (inr z))))) = (omega arith, omega arith)
number_small r i (inl (inr z)) = (omega arith, omega arith)
number_small r i (inr z) = (omega arith, omega arith)

-- no two verdicts share a word
pub same_verdict : (v w : Verdict) → GivenBy v → GivenBy w → verdict_word v ≡ verdict_word w → v ≡ w
unfolding verdict_word
same_verdict (Accepted m) (Accepted n) g k h = let e : m ≡ n = omega arith in ap Accepted e
same_verdict (Accepted m) (Refused s j) g k h = let t = number_small s j k in absurd (omega arith)
same_verdict (Refused r i) (Accepted n) g k h = let t = number_small r i g in absurd (omega arith)
same_verdict (Refused r i) (Refused s j) g k h =
    let t = number_small r i g in
    let u = number_small s j k in
    let p : i ≡ j = omega arith in
    let q : r ≡ s = omega arith in
    ap (λ (x : ℕ). Refused x i) q ∙ ap (Refused s) p

-- within the limit, N × 256 exactly when the bytes are a sheet with N lines
pub word_accepts : (rules : Rules) (bs : List ℕ) (n : ℕ) → length bs ≤ limit → (verdict_word (limited_audit_of rules bs) ≡ n * 256) ↔ Sheet rules bs n
unfolding verdict_word
word_accepts rules bs n l = (
  λ h. (exact rules bs n).0 (rw (within_limit rules bs l) at (same_verdict (limited_audit_of rules bs) (Accepted n) (verdict_given rules bs) tt h)),
  λ s. ap verdict_word (within_limit rules bs l ∙ (exact rules bs n).1 s),
)

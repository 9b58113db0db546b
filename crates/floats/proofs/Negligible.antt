-- An energy nearly equal to 0 is one of a magnitude of at most 1e-6: two comparisons choose as `nearly_equal` does, at a NaN and at the infinities too. Assumes nothing.
use mathlib.Core.Path.{◌≡◌, refl, sym, subst, ◌∙◌}
use Prim.Native.Nat.{ℕ, zero, suc, ◌+◌, ◌*◌, ◌%◌, ◌^◌, ◌≤◌, ◌<◌}
use native.Mathlib.Omega.{arith}
use mathlib.Core.Logic.{inl, inr}
use mathlib.Core.Bool.{Bool, true, false, cond, ◌&&◌}
use lib.IntN.{pos}
use lib.Dec.{T, eqb, leb, ltb, ltb→lt}
use lib.Ieee.{Float, nan, inf, fin, binary64, up, down, of_bits, neg, mul, lt, le, eq, fits}
use lib.Ieee.Bits.{is_true}
use lib.Ieee.Fits.{and_l, and_r, neg-fits}
use lib.Ieee.Scale.{finite}
use Rattle.logic.proofs.Tests.{fails}
use Rattle.floats.specs.F64.{◌⊖◌, ◌⊗◌}
use Rattle.floats.specs.Constants as Constants
use Rattle.floats.specs.Constants.{negligible_energy, max_relative}
use Rattle.floats.specs.Standins.{finite64, magnitude, larger, nearly_equal}
use Rattle.floats.proofs.Parts as Parts
use Rattle.floats.proofs.Parts.{number}
use Rattle.floats.proofs.Compare.{le_of_lt, le_of_eq}
use Rattle.floats.proofs.Order.{le_refl, le_trans, lt_trans, lt_of_le_of_lt, lt_of_lt_of_le, le_total, lt→not_le, lt_false→le, le_respects, lt_respects, eq_refl, here→le, finite_number}
use Rattle.floats.proofs.Sign.{neg_anti}
use Rattle.floats.proofs.Difference.{neg_nonneg}
use Rattle.floats.proofs.SumLaws.{neg_respects}
use Rattle.floats.proofs.Product.{mul_number}
use Rattle.floats.proofs.ProductOrder.{mul_mono_l}
use Rattle.floats.proofs.QuotientSame.{neg_neg}
use Rattle.floats.proofs.Identity.{sub_zero_r}
use Rattle.floats.proofs.Strict.{neg_finite}
use Rattle.logic.proofs.Branch.{by_test, via_true, via_false, one_decides}

-- the definition's test
abbrev negligible : Float → Bool
negligible x = nearly_equal x Constants.zero negligible_energy max_relative

-- ---- x × 2^-52 < x from 1e-6 on, by the powers of 2^32 that x lies between

abbrev power : ℕ → Float
power n = fin false 1 (pos (32 * n))

-- the first n of them, each times 2^-52, lie below the one before
abbrev steps : ℕ → Bool
steps zero = true
steps (suc n) = lt (power (suc n) ⊗ max_relative) (power n) && steps n

all_steps : T (steps 32)
unfolding of_bits mul lt
all_steps = tt

first_step : T (lt (power 0 ⊗ max_relative) negligible_energy)
unfolding of_bits mul lt
first_step = tt

-- a ≤ x ≤ b and b × 2^-52 < a
between : (a x b : Float) → T (finite x) → T (finite b) → T (lt (b ⊗ max_relative) a) → T (le a x) → T (le x b) → T (lt (x ⊗ max_relative) x)
unfolding of_bits
between a x b p q s h k =
    lt_of_lt_of_le (x ⊗ max_relative) a x
    (lt_of_le_of_lt (x ⊗ max_relative) (b ⊗ max_relative) a
    (mul_mono_l binary64 x b max_relative (mul_number binary64 x max_relative p tt) (mul_number binary64 b max_relative q tt) (unfold le lt eq in tt) k) s)
    h

shrinks : (n : ℕ) → T (steps n) → (x : Float) → T (finite x) → T (le negligible_energy x) → T (le x (power n)) → T (lt (x ⊗ max_relative) x)
shrinks zero s x p h k = between negligible_energy x (power 0) p tt first_step h k
shrinks (suc n) s x p h k =
    let step = lt (power (suc n) ⊗ max_relative) (power n) in
    elim (le_total x (power n) (finite_number x p) tt) [
      | inl l ↦ shrinks n (and_r step (steps n) s) x p h l
      | inr l ↦ between (power n) x (power (suc n)) p tt (and_l step (steps n) s) l k
    ]

-- a finite value of binary64 is below 2^1024, which is t: `omega` takes no number of that length
positive_below : (a d t : ℕ) → a < t * d → a * 1 + 0 * d ≤ 1 * t * d + 0 * 1
positive_below a d t h = omega arith

others_below : (u a d t : ℕ) → 0 * u * 1 + 0 * d ≤ 1 * t * d + a * 1
others_below u a d t = omega arith

below_top : (x : Float) → T (fits binary64 x) → T (finite x) → T (le x (power 32))
unfolding fits
below_top nan F p = absurd p
below_top (inf s) F p = absurd p
below_top (fin true m e) F p = here→le (fin true m e) (power 32) tt tt (others_below 1 (m * up e) (down e) (2 ^ 1024))
below_top (fin false zero e) F p = here→le (fin false zero e) (power 32) tt tt (others_below (up e) 0 (down e) (2 ^ 1024))
below_top (fin false (suc m) e) F p =
    here→le (fin false (suc m) e) (power 32) tt tt
    (positive_below (suc m * up e) (down e) (2 ^ 1024)
    (ltb→lt (suc m * up e) (2 ^ 1024 * down e)
    (and_r (eqb (suc m % 2) 1 && ltb (suc m) (2 ^ 53) && leb (down e) (2 ^ 1074)) (ltb (suc m * up e) (2 ^ 1024 * down e)) F)))

times_relative : (x : Float) → T (fits binary64 x) → T (finite x) → T (le negligible_energy x) → T (lt (x ⊗ max_relative) x)
times_relative x F p h = shrinks 32 all_steps x p h (below_top x F p)

-- ---- magnitudes

magnitude_of_negative : (x : Float) → T (lt x Parts.zero) → magnitude x ≡ neg x
unfolding magnitude of_bits
magnitude_of_negative x h = rw (is_true (lt x Parts.zero) h)

pub magnitude_of_others : (x : Float) → T (le Parts.zero x) → magnitude x ≡ x
unfolding magnitude of_bits
magnitude_of_others x h = rw (fails (lt x Parts.zero) (λ l. lt→not_le x Parts.zero l h))

magnitude_respects : (x y : Float) → T (eq x y) → T (eq (magnitude x) (magnitude y))
unfolding magnitude of_bits
magnitude_respects x y h = rw (lt_respects x y Parts.zero Parts.zero h (unfold eq in tt)) (go (lt y Parts.zero))
  where
    go : (b : Bool) → T (eq (cond b (neg x) x) (cond b (neg y) y))
    go true = neg_respects x y h
    go false = h

zero_finite : finite64 Constants.zero ≡ true
unfolding finite64 fits of_bits
zero_finite = refl

-- ---- a finite x that binary64 holds

module _ (x : Float) (F : T (fits binary64 x)) (p : T (finite x)) where
  magnitude_fits : T (fits binary64 (magnitude x))
  unfolding magnitude
  magnitude_fits = by_test (λ (y : Float). T (fits binary64 y)) (lt x Constants.zero) (neg x) x (λ h. neg-fits binary64 x F) (λ h. F)

  magnitude_finite : T (finite (magnitude x))
  unfolding magnitude
  magnitude_finite = by_test (λ (y : Float). T (finite y)) (lt x Constants.zero) (neg x) x (λ h. neg_finite x p) (λ h. p)

  magnitude_nonneg : T (le Parts.zero (magnitude x))
  unfolding magnitude of_bits
  magnitude_nonneg =
      by_test (λ (y : Float). T (le Parts.zero y)) (lt x Parts.zero) (neg x) x (λ h. neg_nonneg x (le_of_lt x Parts.zero h))
      (lt_false→le x Parts.zero (finite_number x p) tt)

  larger_is : larger (magnitude x) (magnitude Constants.zero) ≡ magnitude x
  unfolding larger of_bits
  larger_is =
      rw (magnitude_of_others Parts.zero (le_refl Parts.zero tt), fails (lt (magnitude x) Parts.zero) (λ l. lt→not_le (magnitude x) Parts.zero l magnitude_nonneg))

  at_zero : T (eq x Constants.zero) → T (le (magnitude x) negligible_energy)
  unfolding of_bits
  at_zero h =
      le_trans (magnitude x) Parts.zero negligible_energy
      (le_of_eq (magnitude x) Parts.zero (rw (magnitude_of_others Parts.zero (le_refl Parts.zero tt)) at (magnitude_respects x Parts.zero h)))
      (unfold le lt eq in tt)

  not_relative : T (le (magnitude x) (magnitude x ⊗ max_relative)) → T (le (magnitude x) negligible_energy)
  not_relative h = elim (le_total (magnitude x) negligible_energy (finite_number (magnitude x) magnitude_finite) (unfold of_bits in tt)) [
    | inl l ↦ l
    | inr l ↦ absurd (lt→not_le (magnitude x ⊗ max_relative) (magnitude x) (times_relative (magnitude x) magnitude_fits magnitude_finite l) h)
  ]

  -- x - 0 is x
  less_zero : (y : Float) → T (number y) → le (magnitude (x ⊖ Constants.zero)) y ≡ le (magnitude x) y
  unfolding of_bits
  less_zero y n =
      le_respects (magnitude (x ⊖ Constants.zero)) (magnitude x) y y
      (magnitude_respects (x ⊖ Constants.zero) x (sub_zero_r binary64 x F (finite_number x p))) (eq_refl y n)

  -- negligible is of a magnitude of at most 1e-6
  pub negligible_is : negligible x ≡ le (magnitude x) negligible_energy
  unfolding nearly_equal finite64
  negligible_is =
      rw (
        is_true (fits binary64 x) F,
        is_true (finite x) p,
        zero_finite,
        larger_is,
        less_zero negligible_energy (unfold of_bits in tt),
        less_zero (magnitude x ⊗ max_relative) (mul_number binary64 (magnitude x) max_relative magnitude_finite (unfold of_bits in tt)),
      )
      (one_decides (eq x Constants.zero) (le (magnitude x) negligible_energy) (le (magnitude x) (magnitude x ⊗ max_relative)) at_zero not_relative)

  -- the three answers
  above_is : T (lt negligible_energy x) → T (lt Constants.zero x) × (negligible x ≡ false)
  unfolding of_bits
  above_is h =
      let z = lt_trans Parts.zero negligible_energy x (unfold lt in tt) h in
      (z, negligible_is ∙ rw (magnitude_of_others x (le_of_lt Parts.zero x z)) (fails (le x negligible_energy) (lt→not_le negligible_energy x h)))

  below_is : T (lt x (neg negligible_energy)) → T (lt x Constants.zero) × (negligible x ≡ false)
  unfolding of_bits
  below_is h =
      let z = lt_trans x (neg negligible_energy) Parts.zero h (unfold neg lt in tt) in (
        z,
        negligible_is ∙ rw (magnitude_of_negative x z)
            (fails (le (neg x) negligible_energy) (λ l. lt→not_le x (neg negligible_energy) h (rw (neg_neg x) at (neg_anti (neg x) negligible_energy l)))),
      )

  neither_is : T (le x negligible_energy) → T (le (neg negligible_energy) x) → negligible x ≡ true
  unfolding magnitude
  neither_is h k =
      negligible_is ∙ is_true (le (magnitude x) negligible_energy)
      (by_test (λ (y : Float). T (le y negligible_energy)) (lt x Constants.zero) (neg x) x
      (λ l. rw (neg_neg negligible_energy) at (neg_anti (neg negligible_energy) x k))
      (λ l. h))

-- ---- a choice by the definition's tests, and the same by two comparisons

module _ {A : Type 0} (unchanged above below : A) where
  abbrev defined : Float → A
  defined x = cond (negligible x) unchanged (cond (lt Constants.zero x) above (cond (lt x Constants.zero) below unchanged))

  abbrev compared : Float → A
  compared x = cond (lt negligible_energy x) above (cond (lt x (neg negligible_energy)) below unchanged)

  finite_compared : (x : Float) → T (fits binary64 x) → T (finite x) → compared x ≡ defined x
  finite_compared x F p =
      by_test (λ (v : A). v ≡ defined x) (lt negligible_energy x) _ _
      (λ h. let t = above_is x F p h in via_false _ _ t.1 (via_true _ _ (is_true (lt Constants.zero x) t.0) refl))
      (λ h. by_test (λ (v : A). v ≡ defined x) (lt x (neg negligible_energy)) _ _
      (λ k. let t = below_is x F p k in
      via_false _ _ t.1
      (via_false _ _ (fails (lt Constants.zero x) (λ l. lt→not_le Constants.zero x l (le_of_lt x Constants.zero t.0))) (via_true _ _ (is_true (lt x Constants.zero) t.0) refl)))
      (λ k. via_true _ _ (neither_is x F p (lt_false→le negligible_energy x (unfold of_bits in tt) (finite_number x p) h) (lt_false→le x (neg negligible_energy) (finite_number x p) (unfold neg of_bits in tt) k)) refl))

  pub negligible_compared : (x : Float) → fits binary64 x ≡ true → compared x ≡ defined x
  unfolding nearly_equal finite64 of_bits neg lt eq fits
  negligible_compared nan F = refl
  negligible_compared (inf true) F = refl
  negligible_compared (inf false) F = refl
  negligible_compared (fin s m e) F = finite_compared (fin s m e) (subst (λ (b : Bool). T b) (sym F) tt) tt

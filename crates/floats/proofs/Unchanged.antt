-- x - 0 is x itself: the zeros of either sign, the infinities and a NaN too. Assumes nothing.
use mathlib.Core.Path.{◌≡◌, refl}
use mathlib.Core.Logic.{inl, inr}
use Prim.Native.Nat.{ℕ, zero, suc, ◌*◌, ◌^◌}
use native.Mathlib.Nat.{pow-suc}
use native.Mathlib.Omega.{arith}
use mathlib.Core.Bool.{Bool, true, false}
use lib.IntN.{ℤ, pos, negsuc}
use lib.Dec.{T, eqb→eq}
use lib.Ieee.{Float, nan, inf, fin, binary64, of_bits, neg, sum, add, sub, eq, fits}
use lib.Ieee.Fits.{sub-fits}
use Rattle.floats.specs.F64.{◌⊖◌}
use Rattle.floats.specs.Constants as Constants
use Rattle.floats.proofs.Parts as Parts
use Rattle.floats.proofs.Order.{eq_sym, eq_trans}
use Rattle.floats.proofs.Identity.{sub_zero_r}
use Rattle.floats.proofs.ProductOrder.{eq_sign}
use Rattle.floats.proofs.Unique.{eq_cases}

no_power : (k : ℕ) → 2 ^ suc k ≡ 1 → ⊥
no_power k h = let g = rw (pow-suc 2 k) at h in omega arith

not_zero : (s : Bool) (m : ℕ) (e : ℤ) → T (eq (fin s (suc m) e) Parts.zero) → ⊥
not_zero s m e h = let r = (eq_sign s false (suc m) 0 e (pos 0) h (omega arith)).1 in omega arith

-- of a value other than 0
some : (s : Bool) (m : ℕ) (e : ℤ) → T (fits binary64 (fin s (suc m) e)) → sub binary64 (fin s (suc m) e) Parts.zero ≡ fin s (suc m) e
some s m e F =
    let x = fin s (suc m) e in
    let y = sub binary64 x Parts.zero in
    let h = sub_zero_r binary64 x F tt in
    elim (eq_cases binary64 y x (sub-fits binary64 x Parts.zero) F h) [
      | inl l ↦ l
      | inr l ↦ absurd (not_zero s m e (eq_trans x y Parts.zero (eq_sym y x h) l))
    ]

pub less_zero : (x : Float) → T (fits binary64 x) → x ⊖ Constants.zero ≡ x
unfolding of_bits neg sum add sub fits
less_zero nan F = refl
less_zero (inf s) F = refl
less_zero (fin true zero (pos zero)) F = refl
less_zero (fin false zero (pos zero)) F = refl
less_zero (fin s zero (pos (suc k))) F = let h = eqb→eq (2 ^ suc k * 1) 1 F in absurd (no_power k (omega arith))
less_zero (fin s zero (negsuc k)) F = let h = eqb→eq (1 * 2 ^ suc k) 1 F in absurd (no_power k (omega arith))
less_zero (fin s (suc m) e) F = some s m e F

-- 2 × x and x + x are one value, at a NaN, the infinities and the zeros of either sign too. Assumes nothing.
use mathlib.Core.Path.{◌≡◌, refl}
use Prim.Native.Nat.{ℕ, ◌+◌, ◌*◌, ◌<◌}
use native.Mathlib.Nat.{mul-pos}
use native.Mathlib.Omega.{arith}
use mathlib.Core.Bool.{Bool, true, false}
use lib.Ieee.{Float, nan, inf, fin, binary64, up, down, of_bits, round, sum, add, mul}
use lib.Ieee.Fits.{down_pos}
use lib.Ieee.Scale.{round_same}
use Rattle.floats.specs.F64.{◌⊕◌, ◌⊗◌}
use Rattle.floats.specs.Constants.{two}

-- 2 × a / d and a / d + a / d are one fraction
one_fraction : (s : Bool) (a d : ℕ) → 0 < d → round binary64 s (1 * 2 * a) (1 * d) ≡ round binary64 s (a * d + a * d) (d * d)
one_fraction s a d D = round_same binary64 s (1 * 2 * a) (1 * d) (a * d + a * d) (d * d) (omega arith) (mul-pos D D) (omega arith)

pub doubled : (x : Float) → two ⊗ x ≡ x ⊕ x
unfolding of_bits sum add mul
doubled nan = refl
doubled (inf true) = refl
doubled (inf false) = refl
doubled (fin true m e) = one_fraction true (m * up e) (down e) (down_pos e)
doubled (fin false m e) = one_fraction false (m * up e) (down e) (down_pos e)

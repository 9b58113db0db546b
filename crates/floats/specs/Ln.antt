-- Document 01, 'Stand-ins': ln of m × 2^k, 1 ≤ m < 2.
use Rattle.std.specs.Prelude.{cond, ℕ, zero, suc, ◌+◌, ◌-◌, ◌*◌, ◌/◌, ◌%◌, ◌^◌, pos, Float, Option, Some, None}
use Rattle.std.specs.Float.Ieee.{lt, le, of_bits, to_bits, of_int}
use Rattle.std.specs.Float.{binary64}
use Rattle.floats.specs.F64.{◌⊕◌, ◌⊖◌, ◌⊗◌, ◌⊘◌}
use Rattle.floats.specs.Constants.{half, one, two, root_two, ln_two, bias, smallest_normal, largest_finite}

-- of x, positive and normal: m, the digits of its bits under the exponent of 1, and the exponent's field, which is k + 1023
unfoldable pub mantissa : Float → Float
mantissa x = of_bits binary64 (to_bits binary64 x % 2 ^ 52 + 1023 * 2 ^ 52)

unfoldable pub exponent : Float → ℕ
exponent x = to_bits binary64 x / 2 ^ 52 % 2 ^ 11

-- 'p = 1/21, then for d = 19, 17 .. 1 p = p × w + 1/d': after the first j of these d
unfoldable pub series : Float → ℕ → Float
series w zero = one ⊘ of_int binary64 (pos 21)
series w (suc j) = series w j ⊗ w ⊕ one ⊘ of_int binary64 (pos (19 - 2 * j))

-- 's = (m-1)/(m+1), w = s × s .. result (2 × s) × p + k × 0.6931471805599453'
unfoldable pub ln_at : Float → Float → Float
ln_at m k =
    let s = (m ⊖ one) ⊘ (m ⊕ one) in
    (two ⊗ s) ⊗ series (s ⊗ s) 10 ⊕ k ⊗ ln_two

-- 'if m > 1.4142135623730951 halve m and add 1 to k'
unfoldable pub ln_normal : Float → Float
ln_normal x =
    let m = mantissa x in
    let k = of_int binary64 (pos (exponent x)) ⊖ bias in
    cond (lt root_two m) (ln_at (m ⊗ half) (k ⊕ one)) (ln_at m k)

-- refused where 'the logarithm's argument is not positive, normal and finite'
unfoldable pub ln : Float → Option Float
ln x = cond (le smallest_normal x) (cond (le x largest_finite) (Some (ln_normal x)) None) None

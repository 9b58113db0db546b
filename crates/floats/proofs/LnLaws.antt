-- The parts of the logarithm: a pattern under the exponent of 1 is no NaN, and the series term by term.
use mathlib.Core.Path.{◌≡◌, sym, ◌∙◌}
use mathlib.Core.Bool.{true, false, not, true≢false}
use Prim.Native.Nat.{ℕ, ◌≤◌, ◌+◌, ◌*◌, ◌-◌, ◌%◌}
use native.Mathlib.Omega.{arith}
use native.Mathlib.Numerals.{add-one}
use borrow.Author.Tests.{le-ltb}
use lib.Dec.{T}
use lib.IntN.{pos}
use lib.Ieee.{Float, nan, inf, fin, binary64, nan_bits, of_int, le, lt, eq, is_nan}
use lib.Ieee.Bits.{nan_bits_above}
use Rattle.floats.specs.F64.{◌⊕◌, ◌⊗◌, ◌⊘◌}
use Rattle.floats.specs.Ln.{series}
use Rattle.floats.specs.Constants.{one}

-- a pattern with the exponent of 1 is no NaN's
pub not_nan_bits : (n : ℕ) → nan_bits binary64 (n % 4503599627370496 + 4607182418800017408) ≡ false
not_nan_bits n =
    let b : (n % 4503599627370496 + 4607182418800017408) % 9223372036854775808 ≤ 9218868437227405312 = omega arith in
    nan_bits_above binary64 _ ∙ le-ltb _ _ b

pub not_nan_pattern : (n : ℕ) → T (not (nan_bits binary64 (n % 4503599627370496 + 4607182418800017408)))
not_nan_pattern n = rw (not_nan_bits n) tt

-- what is above something is no NaN
pub ordered : (a x : Float) → le a x ≡ true → T (not (is_nan x))
unfolding le lt eq is_nan
ordered nan nan h = absurd (true≢false (sym h))
ordered (inf s) nan h = absurd (true≢false (sym h))
ordered (fin s m e) nan h = absurd (true≢false (sym h))
ordered a (inf s) h = tt
ordered a (fin s m e) h = tt

pub series_more : (w p : Float) (j : ℕ) → p ≡ series w j → p ⊗ w ⊕ one ⊘ of_int binary64 (pos (19 - 2 * j)) ≡ series w (j + 1)
unfolding series
series_more w p j e = rw (add-one, ← e)

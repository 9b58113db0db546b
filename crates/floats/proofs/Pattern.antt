-- Bit patterns of an f64, as a program reads and writes them: a test for a NaN's pattern, and the way there and back. Assumes nothing.
use mathlib.Core.Path.{◌≡◌, sym, ap, subst, ◌∙◌}
use Prim.Native.Nat.{ℕ, ◌%◌, ◌<◌, ◌≤◌}
use native.Mathlib.Omega.{arith}
use mathlib.Core.Bool.{Bool, not}
use lib.Dec.{T, leb, ltb, leb→le, le→leb, ltb→lt, nltb→le, not_T}
use lib.Ieee.{Float, binary64, fits, is_nan, of_bits, to_bits, nan_bits}
use lib.Ieee.Bits.{of_bits-to_bits, to_bits-lt, to_bits-of_bits, nan_bits_is, nan_bits_above}
use Rattle.floats.proofs.Parts.{number}
use Rattle.logic.proofs.Tests.{same_test}
use Rattle.floats.proofs.Finite.{number_is}

-- a number is no NaN, as `f64::to_bits` asks it
pub number_no_nan : (x : Float) → T (number x) → T (not (is_nan x))
number_no_nan x p = subst T (number_is x) p

-- n % 2^63 ≤ 0x7ff0000000000000: the pattern n is no NaN's
pub no_nan_pattern : (n : ℕ) → n % 0x8000_0000_0000_0000 ≤ 0x7ff0_0000_0000_0000 → T (not (nan_bits binary64 n))
no_nan_pattern n h =
    rw (nan_bits_above binary64 n)
    (not_T (ltb 0x7ff0_0000_0000_0000 (n % 0x8000_0000_0000_0000)) (λ t. let k = ltb→lt 0x7ff0_0000_0000_0000 (n % 0x8000_0000_0000_0000) t in omega arith))

-- what is read from a pattern that is no NaN's is a number that the format holds
pub of_bits_number : (n : ℕ) → T (not (nan_bits binary64 n)) → T (number (of_bits binary64 n))
of_bits_number n h = rw (number_is (of_bits binary64 n), ← nan_bits_is binary64 n) h

-- written and read back, a value is itself
pub write_read : (x : Float) → T (fits binary64 x) → of_bits binary64 (to_bits binary64 x) ≡ x
write_read x h = of_bits-to_bits binary64 x h

-- read and written back, a pattern that is no NaN's is itself
pub read_write : (n : ℕ) → n < 0x1_0000_0000_0000_0000 → T (not (nan_bits binary64 n)) → to_bits binary64 (of_bits binary64 n) ≡ n
read_write n h k = to_bits-of_bits binary64 n h (subst (λ (b : Bool). T (not b)) (nan_bits_is binary64 n) k)

-- the pattern written for a number is no NaN's, and has 64 bits
pub to_bits_no_nan : (x : Float) → T (fits binary64 x) → T (number x) → T (not (nan_bits binary64 (to_bits binary64 x)))
to_bits_no_nan x h p = rw (nan_bits_is binary64 (to_bits binary64 x), of_bits-to_bits binary64 x h) (number_no_nan x p)

pub to_bits_fits : (x : Float) → T (fits binary64 x) → to_bits binary64 x < 0x1_0000_0000_0000_0000
to_bits_fits x h = to_bits-lt binary64 x h

not_above : (a k : ℕ) → leb a k ≡ not (ltb k a)
not_above a k = same_test (leb a k) (not (ltb k a)) (λ h. not_T (ltb k a) (λ t. let l = leb→le a k h in let m = ltb→lt k a t in omega arith)) (λ h. le→leb a k (nltb→le k a h))

-- the same as one test
pub no_nan_test : (n : ℕ) → leb (n % 0x8000_0000_0000_0000) 0x7ff0_0000_0000_0000 ≡ not (nan_bits binary64 n)
no_nan_test n = not_above (n % 0x8000_0000_0000_0000) 0x7ff0_0000_0000_0000 ∙ ap not (sym (nan_bits_above binary64 n))

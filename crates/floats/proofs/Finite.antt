-- Tests that a program can run: x - x == 0.0 holds of the finite values alone, x == x of the numbers alone; and bounds that make a value finite. Assumes nothing.
use mathlib.Core.Path.{◌≡◌, refl}
use mathlib.Core.Bool.{true, false, not}
use lib.Dec.{T}
use Rattle.std.specs.Float.{float_is_finite}
use lib.Ieee.{Float, nan, inf, fin, Format, binary64, sub, eq, le, is_nan, of_bits}
use lib.Ieee.Scale.{finite}
use Rattle.floats.proofs.Parts.{number, zero}
use Rattle.floats.proofs.Compare.{eq_numbers, le_numbers}
use Rattle.floats.proofs.Order.{le_refl, le_antisym, eq_refl}
use Rattle.logic.proofs.Tests.{same_test}
use Rattle.floats.proofs.Difference.{no_le, no_ge}
use Rattle.floats.proofs.SumLaws.{sub_number, sub_nonneg, sub_nonpos}

-- the program's 0.0
pub zero_literal : of_bits binary64 0 ≡ zero
unfolding of_bits
zero_literal = refl

-- a number is what is no NaN
pub number_is : (x : Float) → number x ≡ not (is_nan x)
unfolding is_nan
number_is nan = refl
number_is (inf s) = refl
number_is (fin s m e) = refl

-- x == x tests for a number
pub eq_self_is : (x : Float) → eq x x ≡ number x
eq_self_is x = same_test (eq x x) (number x) (λ h. (eq_numbers x x h).0) (eq_refl x)

-- x - x = 0 at a finite x
pub sub_self : (f : Format) (x : Float) → T (finite x) → T (eq (sub f x x) zero)
sub_self f nan p = absurd p
sub_self f (inf s) p = absurd p
sub_self f (fin s m e) p =
    let x = fin s m e in
    let n = sub_number f x x tt tt in
    le_antisym (sub f x x) zero (sub_nonpos f x x n (le_refl x tt)) (sub_nonneg f x x n (le_refl x tt))

-- the library's test
pub finite_is : (x : Float) → float_is_finite x ≡ finite x
unfolding float_is_finite
finite_is nan = refl
finite_is (inf s) = refl
finite_is (fin s m e) = refl

-- what lies between two finite values is finite
pub between_finite : (a x b : Float) → T (finite a) → T (finite b) → T (le a x) → T (le x b) → T (finite x)
between_finite a nan b p q h k = absurd (le_numbers a nan h).1
between_finite a (inf true) b p q h k = absurd (no_ge a h p)
between_finite a (inf false) b p q h k = absurd (no_le b k q)
between_finite a (fin s m e) b p q h k = tt

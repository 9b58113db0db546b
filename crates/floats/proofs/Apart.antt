-- Where an operation on infinities is a number: a difference of two values that are apart, and a product with a finite factor above zero. Assumes nothing.
use mathlib.Core.Bool.{true, false}
use Prim.Native.Nat.{ℕ, suc}
use native.Mathlib.Omega.{arith}
use lib.Dec.{T, eqb-suc-zero}
use lib.Ieee.{Float, nan, inf, fin, Format, sub, mul, lt, le}
use lib.Ieee.Scale.{finite}
use Rattle.floats.proofs.Parts.{number, zero}
use Rattle.floats.proofs.Compare.{lt_numbers, le_of_lt}
use Rattle.floats.proofs.Order.{lt_irrefl}
use Rattle.floats.proofs.Product.{mul_number}
use Rattle.floats.proofs.ProductLaws.{turned}
use Rattle.floats.proofs.Quotient.{positive_is}
use Rattle.floats.proofs.SumLaws.{sub_number, sub_nonneg, sub_nonpos}

-- y < x: x - y is no difference of equal infinities
pub sub_number_of_gt : (f : Format) (x y : Float) → T (lt y x) → T (number (sub f x y))
sub_number_of_gt f nan y h = absurd (lt_numbers y nan h).1
sub_number_of_gt f (inf s) nan h = absurd (lt_numbers nan (inf s) h).0
sub_number_of_gt f (inf true) (inf true) h = absurd (lt_irrefl (inf true) h)
sub_number_of_gt f (inf true) (inf false) h = unfold sub in tt
sub_number_of_gt f (inf false) (inf true) h = unfold sub in tt
sub_number_of_gt f (inf false) (inf false) h = absurd (lt_irrefl (inf false) h)
sub_number_of_gt f (inf s) (fin t n d) h = unfold sub in tt
sub_number_of_gt f (fin s m e) y h = sub_number f (fin s m e) y tt (lt_numbers y (fin s m e) h).0

pub sub_number_of_lt : (f : Format) (x y : Float) → T (lt x y) → T (number (sub f x y))
sub_number_of_lt f nan y h = absurd (lt_numbers nan y h).0
sub_number_of_lt f (inf s) nan h = absurd (lt_numbers (inf s) nan h).1
sub_number_of_lt f (inf true) (inf true) h = absurd (lt_irrefl (inf true) h)
sub_number_of_lt f (inf true) (inf false) h = unfold sub in tt
sub_number_of_lt f (inf false) (inf true) h = unfold sub in tt
sub_number_of_lt f (inf false) (inf false) h = absurd (lt_irrefl (inf false) h)
sub_number_of_lt f (inf s) (fin t n d) h = unfold sub in tt
sub_number_of_lt f (fin s m e) y h = sub_number f (fin s m e) y tt (lt_numbers (fin s m e) y h).1

-- the sign of x - y from the test of x and y
pub gap_nonneg : (f : Format) (x y : Float) → T (lt y x) → T (le zero (sub f x y))
gap_nonneg f x y h = sub_nonneg f x y (sub_number_of_gt f x y h) (le_of_lt y x h)

pub gap_nonpos : (f : Format) (x y : Float) → T (lt x y) → T (le (sub f x y) zero)
gap_nonpos f x y h = sub_nonpos f x y (sub_number_of_lt f x y h) (le_of_lt x y h)

-- a number times a finite value above zero is a number
pub mul_number_positive : (f : Format) (x y : Float) → T (number x) → T (finite y) → T (lt zero y) → T (number (mul f x y))
mul_number_positive f nan y p q h = absurd p
mul_number_positive f (inf s) nan p q h = absurd q
mul_number_positive f (inf s) (inf t) p q h = absurd q
mul_number_positive f (inf s) (fin t ℕ.zero d) p q h = absurd (omega (arith, (positive_is t 0 d h).1))
mul_number_positive f (inf s) (fin t (suc n) d) p q h = unfold mul in rw (eqb-suc-zero n) tt
mul_number_positive f (fin s m e) y p q h = mul_number f (fin s m e) y tt q

pub mul_positive_number : (f : Format) (x y : Float) → T (finite x) → T (lt zero x) → T (number y) → T (number (mul f x y))
mul_positive_number f x y p h q = turned f y x (mul_number_positive f y x q p h)

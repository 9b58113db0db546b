-- Several steps in one direction: x - d₁ - d₂ ≤ x and x ≤ x + d₁ + d₂ for d₁, d₂ ≥ 0, though a step may reach an infinity. Assumes nothing.
use lib.Dec.{T}
use mathlib.Core.Bool.{true, false}
use lib.Ieee.{Float, nan, inf, fin, Format, add, sub, lt, le, fits}
use lib.Ieee.Scale.{finite}
use Rattle.floats.proofs.Parts.{number, zero}
use Rattle.floats.proofs.Compare.{le_numbers, lt_numbers}
use Rattle.floats.proofs.Order.{le_trans, lt_irrefl, lt_of_le_of_lt, lt_of_lt_of_le}
use Rattle.floats.proofs.Difference.{add_number, no_ge, sub_le_self, add_ge_self}
use Rattle.floats.proofs.SumLaws.{sub_number}

-- a finite value lies below +inf, and above -inf
pub finite_below : (x : Float) → T (finite x) → T (lt x (inf false))
unfolding lt
finite_below nan p = p
finite_below (inf s) p = absurd p
finite_below (fin s m e) p = tt

pub finite_above : (x : Float) → T (finite x) → T (lt (inf true) x)
unfolding lt
finite_above nan p = p
finite_above (inf s) p = absurd p
finite_above (fin s m e) p = tt

-- x < +inf and d ≥ 0: x - d is a number
pub sub_number_below : (f : Format) (x d : Float) → T (lt x (inf false)) → T (le zero d) → T (number (sub f x d))
sub_number_below f nan d h k = absurd (lt_numbers nan (inf false) h).0
sub_number_below f (inf true) nan h k = absurd (le_numbers zero nan k).1
sub_number_below f (inf true) (inf true) h k = absurd (no_ge zero k tt)
sub_number_below f (inf true) (inf false) h k = unfold sub in tt
sub_number_below f (inf true) (fin t n d) h k = unfold sub in tt
sub_number_below f (inf false) d h k = absurd (lt_irrefl (inf false) h)
sub_number_below f (fin s m e) d h k = sub_number f (fin s m e) d tt (le_numbers zero d k).1

-- x > -inf and d ≥ 0: x + d is a number
pub add_number_above : (f : Format) (x d : Float) → T (lt (inf true) x) → T (le zero d) → T (number (add f x d))
add_number_above f nan d h k = absurd (lt_numbers (inf true) nan h).1
add_number_above f (inf true) d h k = absurd (lt_irrefl (inf true) h)
add_number_above f (inf false) nan h k = absurd (le_numbers zero nan k).1
add_number_above f (inf false) (inf true) h k = absurd (no_ge zero k tt)
add_number_above f (inf false) (inf false) h k = unfold add in tt
add_number_above f (inf false) (fin t n d) h k = unfold add in tt
add_number_above f (fin s m e) d h k = add_number f (fin s m e) d tt (le_numbers zero d k).1

-- one step down from x ≤ z leaves it at most z, and below +inf
pub step_down : (f : Format) (z x d : Float) → T (fits f x) → T (lt z (inf false)) → T (le x z) → T (le zero d) → T (le (sub f x d) z)
step_down f z x d F Z h k = le_trans (sub f x d) x z (sub_le_self f x d F (sub_number_below f x d (lt_of_le_of_lt x z (inf false) h Z) k) k) h

-- one step up from x ≥ z leaves it at least z
pub step_up : (f : Format) (z x d : Float) → T (fits f x) → T (lt (inf true) z) → T (le z x) → T (le zero d) → T (le z (add f x d))
step_up f z x d F Z h k = le_trans z x (add f x d) h (add_ge_self f x d F (add_number_above f x d (lt_of_lt_of_le (inf true) z x Z h) k) k)

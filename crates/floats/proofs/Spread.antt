-- A running test of finiteness: s + (x - x) equals 0 where s does and x is finite, and nowhere else. Assumes nothing.
use mathlib.Core.Path.{◌≡◌, refl}
use mathlib.Core.Bool.{true, false, ◌&&◌}
use lib.Dec.{T}
use lib.Ieee.{Float, nan, inf, fin, Format, add, sub, eq, fits, of_bits}
use lib.Ieee.Fits.{and_i, and_l, and_r}
use lib.Ieee.Scale.{finite}
use Rattle.floats.specs.Constants as Constants
use Rattle.floats.proofs.Parts.{number, zero}
use Rattle.floats.proofs.Compare.{eq_numbers}
use Rattle.floats.proofs.Order.{eq_refl, eq_sym, eq_trans}
use Rattle.logic.proofs.Tests.{same_test}
use Rattle.floats.proofs.Sum.{add_nan_l, add_nan_r}
use Rattle.floats.proofs.SumLaws.{add_respects}
use Rattle.floats.proofs.Identity.{add_zero_r}
use Rattle.floats.proofs.Finite.{sub_self}

-- the operands of a sum that is no NaN are none
pub add_numbers : (f : Format) (x y : Float) → T (number (add f x y)) → T (number x) × T (number y)
add_numbers f nan y p = absurd (add_nan_l f y p)
add_numbers f (inf s) nan p = absurd (add_nan_r f (inf s) p)
add_numbers f (inf s) (inf t) p = (tt, tt)
add_numbers f (inf s) (fin t n d) p = (tt, tt)
add_numbers f (fin s m e) nan p = absurd (add_nan_r f (fin s m e) p)
add_numbers f (fin s m e) (inf t) p = (tt, tt)
add_numbers f (fin s m e) (fin t n d) p = (tt, tt)

-- x - x is a NaN unless x is finite
pub self_number : (f : Format) (x : Float) → T (number (sub f x x)) → T (finite x)
unfolding sub
self_number f nan p = absurd p
self_number f (inf true) p = absurd p
self_number f (inf false) p = absurd p
self_number f (fin s m e) p = tt

-- s + d = s at a zero d of either sign
pub add_either_zero : (f : Format) (s d : Float) → T (fits f s) → T (number s) → T (eq d zero) → T (eq (add f s d) s)
add_either_zero f s d F p h =
    let e = add_zero_r f s F p in
    let g = add_respects f s s zero d (eq_refl s p) (eq_sym d zero h) (eq_numbers (add f s zero) s e).0 in
    eq_trans (add f s d) (add f s zero) s (eq_sym (add f s zero) (add f s d) g) e

module _ (f : Format) (s x : Float) (F : T (fits f s)) where
  all_zero : T (eq (add f s (sub f x x)) zero) → T (eq s zero && finite x)
  all_zero h =
      let n = add_numbers f s (sub f x x) (eq_numbers (add f s (sub f x x)) zero h).0 in
      let p = self_number f x n.1 in
      let e = add_either_zero f s (sub f x x) F n.0 (sub_self f x p) in
      and_i (eq s zero) (finite x) (eq_trans s (add f s (sub f x x)) zero (eq_sym (add f s (sub f x x)) s e) h) p

  zero_more : T (eq s zero && finite x) → T (eq (add f s (sub f x x)) zero)
  zero_more h =
      let z = and_l (eq s zero) (finite x) h in
      let e = add_either_zero f s (sub f x x) F (eq_numbers s zero z).0 (sub_self f x (and_r (eq s zero) (finite x) h)) in
      eq_trans (add f s (sub f x x)) s zero e z

  -- s + (x - x) = 0 tests for s = 0 and a finite x
  pub spread_is : eq (add f s (sub f x x)) zero ≡ (eq s zero && finite x)
  spread_is = same_test (eq (add f s (sub f x x)) zero) (eq s zero && finite x) all_zero zero_more

-- before the first number
pub spread_start : eq Constants.zero Constants.zero ≡ true
unfolding of_bits eq
spread_start = refl

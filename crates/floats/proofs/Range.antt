-- Operands in a range of finite values, and a result that does not overflow at the range's ends, give a finite result. Assumes nothing.
use lib.Dec.{T}
use lib.Ieee.{Float, Format, add, sub, mul, le}
use lib.Ieee.Scale.{finite}
use Rattle.floats.proofs.Parts.{zero}
use Rattle.floats.proofs.Compare.{le_numbers}
use Rattle.floats.proofs.Order.{le_trans, finite_number}
use Rattle.floats.proofs.Sum.{add_mono}
use Rattle.floats.proofs.Difference.{add_number}
use Rattle.floats.proofs.SumLaws.{sub_number, sub_mono}
use Rattle.floats.proofs.Product.{mul_number}
use Rattle.floats.proofs.ProductLaws.{mul_nonneg}
use Rattle.floats.proofs.ProductOrder.{mul_mono_l, mul_mono_r}
use Rattle.floats.proofs.Finite.{between_finite}

module _ (f : Format) (a x b c y d : Float) (A : T (finite a)) (B : T (finite b)) (C : T (finite c)) (D : T (finite d)) (ax : T (le a x)) (xb : T (le x b)) (cy : T (le c y)) (yd : T (le y d)) where
  -- a ≤ x ≤ b and c ≤ y ≤ d: a + c ≤ x + y ≤ b + d
  pub add_range : T (le (add f a c) (add f x y)) × T (le (add f x y) (add f b d))
  add_range =
      let n = add_number f x y (between_finite a x b A B ax xb) (le_numbers c y cy).1 in
      (add_mono f a x c y (add_number f a c A (finite_number c C)) n ax cy, add_mono f x b y d n (add_number f b d B (finite_number d D)) xb yd)

  -- so x + y is finite where a + c and b + d are
  pub add_finite : T (finite (add f a c)) → T (finite (add f b d)) → T (finite (add f x y))
  add_finite p q = between_finite (add f a c) (add f x y) (add f b d) p q add_range.0 add_range.1

  -- a - d ≤ x - y ≤ b - c
  pub sub_range : T (le (sub f a d) (sub f x y)) × T (le (sub f x y) (sub f b c))
  sub_range =
      let n = sub_number f x y (between_finite a x b A B ax xb) (le_numbers c y cy).1 in
      (sub_mono f a x d y (sub_number f a d A (finite_number d D)) n ax yd, sub_mono f x b y c n (sub_number f b c B (finite_number c C)) xb cy)

  pub sub_finite : T (finite (sub f a d)) → T (finite (sub f b c)) → T (finite (sub f x y))
  sub_finite p q = between_finite (sub f a d) (sub f x y) (sub f b c) p q sub_range.0 sub_range.1

-- 0 ≤ x ≤ b and 0 ≤ y ≤ d: x * y ≤ b * d
pub mul_range : (f : Format) (x b y d : Float) → T (finite b) → T (finite d) → T (le zero x) → T (le x b) → T (le zero y) → T (le y d) → T (le (mul f x y) (mul f b d))
mul_range f x b y d B D zx xb zy yd =
    let X = between_finite zero x b tt B zx xb in
    let Y = between_finite zero y d tt D zy yd in
    le_trans (mul f x y) (mul f b y) (mul f b d) (mul_mono_l f x b y (mul_number f x y X Y) (mul_number f b y B Y) zy xb)
    (mul_mono_r f b y d (mul_number f b y B Y) (mul_number f b d B D) (le_trans zero x b zx xb) yd)

-- so x * y is finite where b * d is
pub mul_finite : (f : Format) (x b y d : Float) → T (finite b) → T (finite d) → T (le zero x) → T (le x b) → T (le zero y) → T (le y d) → T (finite (mul f b d)) → T (finite (mul f x y))
mul_finite f x b y d B D zx xb zy yd p =
    let X = between_finite zero x b tt B zx xb in
    let Y = between_finite zero y d tt D zy yd in
    between_finite zero (mul f x y) (mul f b d) tt p (mul_nonneg f x y (mul_number f x y X Y) zx zy) (mul_range f x b y d B D zx xb zy yd)

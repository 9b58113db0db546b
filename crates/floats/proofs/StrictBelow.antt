-- The other side of `Strict.antt`: x < y gives x - y < 0, and so x - y == 0.0 tests x == y. Assumes nothing.
use mathlib.Core.Path.{◌≡◌, subst}
use mathlib.Core.Logic.{inl, inr}
use Prim.Native.Nat.{◌+◌, ◌*◌, ◌^◌, ◌<◌}
use native.Mathlib.Nat.{mul-pos}
use native.Mathlib.Omega.{arith}
use mathlib.Core.Bool.{false}
use lib.Dec.{T, not_T}
use lib.Pow.{pow_pos}
use lib.Ieee.{Float, Format, low, round, neg, add, sub, lt, eq, le, fits}
use lib.Ieee.Fits.{neg-fits}
use lib.Ieee.Scale.{finite}
use lib.Ieee.Positive.{den, den_pos}
use Rattle.floats.proofs.Parts.{zero, plus, minus}
use Rattle.floats.proofs.Compare.{le_of_eq, lt_or_eq, lt_numbers}
use Rattle.floats.proofs.Order.{le_trans, le_total, lt_of_le_of_lt, lt→not_le, not_le→lt, ge_of_eq, eq_sym, eq_trans, finite_number}
use Rattle.logic.proofs.Tests.{same_test}
use Rattle.floats.proofs.Sign.{neg_number, neg_plus, neg_minus, neg_den, round_neg}
use Rattle.floats.proofs.Rounding.{signed, signed_mono, signed_neg, signed_pos}
use Rattle.floats.proofs.Sum.{plus_sum, minus_sum, add_is}
use Rattle.floats.proofs.Difference.{neg_nonpos}
use Rattle.floats.proofs.SumLaws.{sub_number, sub_respects}
use Rattle.floats.proofs.Finite.{sub_self}
use Rattle.floats.proofs.QuotientSame.{neg_neg}
use Rattle.floats.proofs.Strict.{tiny_above, whole, parts, one_unit, lt→here, neg_finite, sub_positive}

-- x > 0 gives -x < 0
pub neg_negative : (x : Float) → T (lt zero x) → T (lt (neg x) zero)
neg_negative x h =
    not_le→lt zero (neg x) tt (neg_number x (lt_numbers zero x h).1)
    (not_T (le zero (neg x)) (λ k. lt→not_le zero x h (subst (λ (z : Float). T (le z zero)) (neg_neg x) (neg_nonpos (neg x) k))))

tiny_below : (f : Format) → T (lt (signed f 0 1 (2 ^ low f)) zero)
tiny_below f =
    let c = 2 ^ low f in
    rw (signed_neg f 0 1 c (omega arith), round_neg f 1 c) (neg_negative (round f false 1 c) (rw (signed_pos f 1 0 c (omega arith)) at (tiny_above f)))

sum_below : (f : Format) (x y : Float) → T (fits f x) → T (finite x) → T (fits f y) → T (finite y) → plus_sum x y < minus_sum x y → T (lt (add f x y) zero)
sum_below f x y F p G q h =
    let a = whole f x F p in
    let b = whole f y G q in
    let s = signed f (plus_sum x y) (minus_sum x y) (den x * den y) in
    let t = signed f 0 1 (2 ^ low f) in
    lt_of_le_of_lt (add f x y) t zero
    (le_trans (add f x y) s t (le_of_eq (add f x y) s (add_is f x y p q))
    (signed_mono f (plus_sum x y) (minus_sum x y) (den x * den y) 0 1 (2 ^ low f) (mul-pos (den_pos x) (den_pos y)) (pow_pos (low f))
    (let r = one_unit (minus_sum x y) (plus_sum x y) (2 ^ low f) (den x * den y) (a.1 + b.1) (a.0 + b.0) (pow_pos (low f)) (mul-pos (den_pos x) (den_pos y)) (parts (minus x) (minus y) (den x) (den y) (2 ^ low f) a.1 b.1 a.3 b.3) (parts (plus x) (plus y) (den x) (den y) (2 ^ low f) a.0 b.0 a.2 b.2) h in omega arith)))
    (tiny_below f)

-- x < y gives x - y < 0, both finite
pub sub_negative : (f : Format) (x y : Float) → T (fits f x) → T (fits f y) → T (finite x) → T (finite y) → T (lt x y) → T (lt (sub f x y) zero)
unfolding sub
sub_negative f x y F G p q h =
    sum_below f x (neg y) F p (neg-fits f y G) (neg_finite y q) (rw (neg_plus y, neg_minus y, neg_den y) (omega (arith, lt→here x y p q h)))

-- x - y == 0.0 tests x == y, both finite
pub sub_zero_is : (f : Format) (x y : Float) → T (fits f x) → T (fits f y) → T (finite x) → T (finite y) → eq (sub f x y) zero ≡ eq x y
sub_zero_is f x y F G p q = same_test (eq (sub f x y) zero) (eq x y) there back
  where
    there : T (eq (sub f x y) zero) → T (eq x y)
    there h = elim (le_total x y (finite_number x p) (finite_number y q)) [
      | inl l ↦ elim (lt_or_eq x y l) [ inl k ↦ absurd (lt→not_le (sub f x y) zero (sub_negative f x y F G p q k) (ge_of_eq (sub f x y) zero h)) | inr k ↦ k ]
      | inr l ↦ elim (lt_or_eq y x l) [ inl k ↦ absurd (lt→not_le zero (sub f x y) (sub_positive f x y F G (sub_number f x y p (finite_number y q)) k) (le_of_eq (sub f x y) zero h)) | inr k ↦ eq_sym y x k ]
    ]

    back : T (eq x y) → T (eq (sub f x y) zero)
    back h =
        eq_trans (sub f x y) (sub f y y) zero
        (sub_respects f x y y y h (eq_trans y x y (eq_sym x y h) h) (sub_number f x y p (finite_number y q)))
        (sub_self f y q)

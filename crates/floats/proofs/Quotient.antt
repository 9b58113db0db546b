-- `div` by a value above zero: of finite values it is one signed rounding; signs and order, infinities included. Assumes nothing.
use mathlib.Core.Path.{◌≡◌, refl, ap}
use mathlib.Core.Logic.{inl, inr}
use Prim.Native.Nat.{ℕ, suc, ◌*◌, ◌<◌}
use native.Mathlib.Nat.{mul-pos, mul-le-mul_right}
use native.Mathlib.Omega.{arith}
use mathlib.Core.Bool.{Bool, true, false, cond}
use lib.IntN.{ℤ, pos}
use lib.Dec.{T, eqb, eqb-suc-zero}
use lib.Ieee.{Float, nan, inf, fin, Format, unlike, up, down, round, div, lt, eq, le}
use lib.Ieee.Fits.{up_pos, down_pos}
use lib.Ieee.Scale.{finite}
use lib.Ieee.Positive.{den, den_pos}
use Rattle.floats.proofs.Parts.{number, zero, plus, minus}
use Rattle.floats.proofs.Compare.{lt→Less, le_of_lt, le_of_eq, lt_numbers, eq_numbers}
use Rattle.floats.proofs.Order.{here→le, le_trans, le_antisym, eq_refl, ge_of_eq}
use Rattle.floats.proofs.Sign.{le_bottom, le_top}
use Rattle.floats.proofs.Rounding.{signed}
use Rattle.floats.proofs.Exact.{round_plus, round_minus}
use Rattle.floats.proofs.Difference.{signed_nonneg, signed_nonpos, nonneg_parts, nonpos_parts, no_le, no_ge}

-- ---- a divisor above zero

pub positive_parts : (y : Float) → T (finite y) → T (lt zero y) → minus y < plus y
positive_parts nan q h = absurd q
positive_parts (inf s) q h = absurd q
positive_parts (fin s m e) q h = elim (lt→Less zero (fin s m e) h) [ inl r ↦ omega arith | inr r ↦ omega arith ]

-- its sign is clear, and its significand is not 0
pub positive_is : (t : Bool) (n : ℕ) (d : ℤ) → T (lt zero (fin t n d)) → (t ≡ false) × (0 < n)
positive_is true n d h = absurd (omega (arith, positive_parts (fin true n d) tt h))
positive_is false ℕ.zero d h = absurd (omega (arith, positive_parts (fin false 0 d) tt h))
positive_is false (suc n) d h = (refl, omega arith)

-- the significand of a divisor above zero is a successor: the quotient is a `round`
pub div_opens : (f : Format) (s t : Bool) (m n : ℕ) (e d : ℤ) → 0 < n → div f (fin s m e) (fin t n d) ≡ round f (unlike s t) (m * up e * down d) (n * up d * down e)
unfolding div
div_opens f s t m ℕ.zero e d h = absurd (omega arith)
div_opens f s t m (suc n) e d h =
    ap (λ (b : Bool). cond b (cond (eqb m 0) nan (inf (unlike s t))) (round f (unlike s t) (m * up e * down d) (suc n * up d * down e))) (eqb-suc-zero n)

-- the parts of x / y over den x * plus y, for y > 0
pub div_is : (f : Format) (x y : Float) → T (finite x) → T (finite y) → T (lt zero y) → T (eq (div f x y) (signed f (plus x * den y) (minus x * den y) (plus y * den x)))
div_is f nan y p q h = absurd p
div_is f (inf s) y p q h = absurd p
div_is f (fin s m e) nan p q h = absurd q
div_is f (fin s m e) (inf t) p q h = absurd q
div_is f (fin s m e) (fin true n d) p q h = absurd (omega (arith, positive_parts (fin true n d) tt h))
div_is f (fin true m e) (fin false n d) p q h =
    let N = (positive_is false n d h).1 in
    rw (div_opens f true false m n e d N)
    (round_minus f (0 * down d) (m * up e * down d) (m * up e * down d) (n * up d * down e) (mul-pos (mul-pos N (up_pos d)) (down_pos e)) (omega arith))
div_is f (fin false m e) (fin false n d) p q h =
    let N = (positive_is false n d h).1 in
    rw (div_opens f false false m n e d N)
    (round_plus f (m * up e * down d) (0 * down d) (m * up e * down d) (n * up d * down e) (mul-pos (mul-pos N (up_pos d)) (down_pos e)) (omega arith))

pub plus_pos : (y : Float) → T (finite y) → T (lt zero y) → 0 < plus y
plus_pos y q h = omega (arith, positive_parts y q h)

-- ---- with an infinity

pub div_nan_l : (f : Format) (y : Float) → T (number (div f nan y)) → ⊥
unfolding div
div_nan_l f y p = p

-- an infinity over y > 0, where it is a number, is that infinity
pub div_inf_l : (f : Format) (s : Bool) (y : Float) → T (number (div f (inf s) y)) → T (lt zero y) → div f (inf s) y ≡ inf (unlike s false)
unfolding div
div_inf_l f s nan p h = absurd p
div_inf_l f s (inf t) p h = absurd p
div_inf_l f s (fin t n d) p h = ap (λ (u : Bool). inf (unlike s u)) (positive_is t n d h).0

-- a finite value over an infinity is a zero
pub div_inf_r : (f : Format) (x : Float) (t : Bool) → T (number (div f x (inf t))) → T (eq (div f x (inf t)) zero)
unfolding div
div_inf_r f nan t p = absurd p
div_inf_r f (inf s) t p = absurd p
div_inf_r f (fin s m e) t p = zeros (unlike s t)
  where
    zeros : (u : Bool) → T (eq (fin u 0 (pos 0)) zero)
    zeros true = le_antisym (fin true 0 (pos 0)) zero (here→le (fin true 0 (pos 0)) zero tt tt (omega arith)) (here→le zero (fin true 0 (pos 0)) tt tt (omega arith))
    zeros false = eq_refl zero tt

-- a finite value over a value above zero is a number
pub div_number : (f : Format) (x y : Float) → T (finite x) → T (lt zero y) → T (number (div f x y))
div_number f nan y p h = absurd p
div_number f (inf s) y p h = absurd p
div_number f (fin s m e) nan p h = absurd (lt_numbers zero nan h).1
div_number f (fin s m e) (inf t) p h = unfold div in tt
div_number f (fin s m e) (fin t n d) p h = (eq_numbers (div f (fin s m e) (fin t n d)) (signed f (plus (fin s m e) * down d) (minus (fin s m e) * down d) (plus (fin t n d) * down e)) (div_is f (fin s m e) (fin t n d) tt tt h)).0

-- a number over a finite value above zero is a number
pub div_number_finite : (f : Format) (x y : Float) → T (number x) → T (finite y) → T (lt zero y) → T (number (div f x y))
div_number_finite f nan y p q h = absurd p
div_number_finite f (inf s) nan p q h = absurd q
div_number_finite f (inf s) (inf t) p q h = absurd q
div_number_finite f (inf s) (fin t n d) p q h = unfold div in tt
div_number_finite f (fin s m e) y p q h = div_number f (fin s m e) y tt h

pub no_lt : (t : Bool) → T (lt zero (inf t)) → t ≡ false
no_lt true h = absurd (no_ge zero (le_of_lt zero (inf true) h) tt)
no_lt false h = refl

-- ---- signs

-- x ≥ 0 and y > 0 give x / y ≥ 0, where it is a number
pub div_nonneg : (f : Format) (x y : Float) → T (number (div f x y)) → T (le zero x) → T (lt zero y) → T (le zero (div f x y))
div_nonneg f nan y p h k = absurd (div_nan_l f y p)
div_nonneg f (inf true) y p h k = absurd (no_ge zero h tt)
div_nonneg f (inf false) y p h k = rw (div_inf_l f false y p k) (le_top zero tt)
div_nonneg f (fin s m e) nan p h k = absurd (lt_numbers zero nan k).1
div_nonneg f (fin s m e) (inf t) p h k = ge_of_eq (div f (fin s m e) (inf t)) zero (div_inf_r f (fin s m e) t p)
div_nonneg f (fin s m e) (fin t n d) p h k =
    let x = fin s m e in
    let y = fin t n d in
    le_trans zero (signed f (plus x * den y) (minus x * den y) (plus y * den x)) (div f x y)
    (signed_nonneg f (plus x * den y) (minus x * den y) (plus y * den x) (mul-le-mul_right (den y) (nonneg_parts x tt h)))
    (ge_of_eq (div f x y) (signed f (plus x * den y) (minus x * den y) (plus y * den x)) (div_is f x y tt tt k))

-- x ≤ 0 and y > 0 give x / y ≤ 0, where it is a number
pub div_nonpos : (f : Format) (x y : Float) → T (number (div f x y)) → T (le x zero) → T (lt zero y) → T (le (div f x y) zero)
div_nonpos f nan y p h k = absurd (div_nan_l f y p)
div_nonpos f (inf false) y p h k = absurd (no_le zero h tt)
div_nonpos f (inf true) y p h k = rw (div_inf_l f true y p k) (le_bottom zero tt)
div_nonpos f (fin s m e) nan p h k = absurd (lt_numbers zero nan k).1
div_nonpos f (fin s m e) (inf t) p h k = le_of_eq (div f (fin s m e) (inf t)) zero (div_inf_r f (fin s m e) t p)
div_nonpos f (fin s m e) (fin t n d) p h k =
    let x = fin s m e in
    let y = fin t n d in
    le_trans (div f x y) (signed f (plus x * den y) (minus x * den y) (plus y * den x)) zero
    (le_of_eq (div f x y) (signed f (plus x * den y) (minus x * den y) (plus y * den x)) (div_is f x y tt tt k))
    (signed_nonpos f (plus x * den y) (minus x * den y) (plus y * den x) (mul-pos (plus_pos y tt k) (den_pos x)) (mul-le-mul_right (den y) (nonpos_parts x tt h)))

-- a quotient that is a number has a number on its left
pub div_number_left : (f : Format) (x y : Float) → T (number (div f x y)) → T (number x)
div_number_left f nan y h = absurd (div_nan_l f y h)
div_number_left f (inf s) y h = tt
div_number_left f (fin s m e) y h = tt

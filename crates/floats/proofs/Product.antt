-- `mul`: of finite values it is one signed rounding; signs, order, and equal operands. Assumes nothing.
use mathlib.Core.Path.{◌≡◌, refl, ap, ◌∙◌}
use Prim.Native.Nat.{ℕ, ◌+◌, ◌*◌}
use native.Mathlib.Nat.{mul-pos, mul_comm}
use native.Mathlib.Omega.{arith}
use mathlib.Core.Bool.{Bool, true, false, not, cond}
use lib.IntN.{ℤ}
use lib.Dec.{T, eqb}
use lib.Ieee.{Float, nan, inf, fin, Format, unlike, up, down, round, mul, eq}
use lib.Ieee.Fits.{down_pos}
use lib.Ieee.Scale.{finite}
use lib.Ieee.Positive.{den}
use Rattle.floats.proofs.Parts.{number, plus, minus}
use Rattle.floats.proofs.Compare.{eq_numbers}
use Rattle.floats.proofs.Rounding.{signed}
use Rattle.floats.proofs.Exact.{round_plus, round_minus}

-- ---- a finite product

-- the parts of x * y over den x * den y
abbrev pub plus_product : Float → Float → ℕ
plus_product x y = plus x * plus y + minus x * minus y

abbrev pub minus_product : Float → Float → ℕ
minus_product x y = plus x * minus y + minus x * plus y

pub mul_is : (f : Format) (x y : Float) → T (finite x) → T (finite y) → T (eq (mul f x y) (signed f (plus_product x y) (minus_product x y) (den x * den y)))
unfolding mul
mul_is f nan y p q = absurd p
mul_is f (inf s) y p q = absurd p
mul_is f (fin s m e) nan p q = absurd q
mul_is f (fin s m e) (inf t) p q = absurd q
mul_is f (fin true m e) (fin true n d) p q =
    round_plus f (0 * 0 + m * up e * (n * up d)) (0 * (n * up d) + m * up e * 0) (m * up e * (n * up d)) (down e * down d) (mul-pos (down_pos e) (down_pos d)) (omega arith)
mul_is f (fin true m e) (fin false n d) p q =
    round_minus f (0 * (n * up d) + m * up e * 0) (0 * 0 + m * up e * (n * up d)) (m * up e * (n * up d)) (down e * down d) (mul-pos (down_pos e) (down_pos d)) (omega arith)
mul_is f (fin false m e) (fin true n d) p q =
    round_minus f (m * up e * 0 + 0 * (n * up d)) (m * up e * (n * up d) + 0 * 0) (m * up e * (n * up d)) (down e * down d) (mul-pos (down_pos e) (down_pos d)) (omega arith)
mul_is f (fin false m e) (fin false n d) p q =
    round_plus f (m * up e * (n * up d) + 0 * 0) (m * up e * 0 + 0 * (n * up d)) (m * up e * (n * up d)) (down e * down d) (mul-pos (down_pos e) (down_pos d)) (omega arith)

-- ---- the factors may change places

unlike_comm : (s t : Bool) → unlike s t ≡ unlike t s
unlike_comm true true = refl
unlike_comm true false = refl
unlike_comm false true = refl
unlike_comm false false = refl

-- x * y is y * x, a NaN's and a zero's sign included
pub mul_commutes : (f : Format) (x y : Float) → mul f x y ≡ mul f y x
unfolding mul
mul_commutes f nan nan = refl
mul_commutes f nan (inf t) = refl
mul_commutes f nan (fin t n d) = refl
mul_commutes f (inf s) nan = refl
mul_commutes f (inf s) (inf t) = ap inf (unlike_comm s t)
mul_commutes f (inf s) (fin t n d) = ap (λ (u : Bool). cond (eqb n 0) nan (inf u)) (unlike_comm s t)
mul_commutes f (fin s m e) nan = refl
mul_commutes f (fin s m e) (inf t) = ap (λ (u : Bool). cond (eqb m 0) nan (inf u)) (unlike_comm s t)
mul_commutes f (fin s m e) (fin t n d) =
    ap (λ (u : Bool). round f u (m * up e * (n * up d)) (down e * down d)) (unlike_comm s t)
    ∙ ap (λ (a : ℕ). round f (unlike t s) a (down e * down d)) (mul_comm (m * up e) (n * up d))
    ∙ ap (λ (c : ℕ). round f (unlike t s) (n * up d * (m * up e)) c) (mul_comm (down e) (down d))

-- ---- where a product is a number

pub mul_number : (f : Format) (x y : Float) → T (finite x) → T (finite y) → T (number (mul f x y))
mul_number f x y p q = (eq_numbers (mul f x y) (signed f (plus_product x y) (minus_product x y) (den x * den y)) (mul_is f x y p q)).0

pub mul_nan : (f : Format) (y : Float) → T (number (mul f nan y)) → ⊥
unfolding mul
mul_nan f y p = p

-- the sign of a value, a NaN's clear
abbrev pub negative : Float → Bool
negative nan = false
negative (inf s) = s
negative (fin s m e) = s

-- an infinity times y, where it is a number, is an infinity, and a finite y is not zero
pub mul_inf : (f : Format) (s : Bool) (y : Float) → T (number (mul f (inf s) y)) → mul f (inf s) y ≡ inf (unlike s (negative y))
unfolding mul
mul_inf f s nan p = absurd p
mul_inf f s (inf t) p = refl
mul_inf f s (fin t n d) p = go (eqb n 0) p
  where
    go : (b : Bool) → T (number (cond b nan (inf (unlike s t)))) → cond b nan (inf (unlike s t)) ≡ inf (unlike s t)
    go true q = absurd q
    go false q = refl

pub mul_inf_not_zero : (f : Format) (s t : Bool) (n : ℕ) (d : ℤ) → T (number (mul f (inf s) (fin t n d))) → T (not (eqb n 0))
unfolding mul
mul_inf_not_zero f s t n d p = go (eqb n 0) p
  where
    go : (b : Bool) → T (number (cond b nan (inf (unlike s t)))) → T (not b)
    go true q = q
    go false q = tt

-- a product that is a number has a number on its left
pub mul_number_left : (f : Format) (x y : Float) → T (number (mul f x y)) → T (number x)
mul_number_left f nan y h = absurd (mul_nan f y h)
mul_number_left f (inf s) y h = tt
mul_number_left f (fin s m e) y h = tt

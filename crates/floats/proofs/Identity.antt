-- Adding 0, taking it away, and multiplying or dividing by 1 change no value that the format holds; a factor up to 1 raises nothing. And a sum's operands may change places. Assumes nothing.
use mathlib.Core.Path.{◌≡◌, refl, ap, ◌∙◌}
use Prim.Native.Nat.{ℕ, ◌-◌, ◌*◌, ◌≤◌, ◌<◌}
use native.Mathlib.Nat.{mul-pos, mul_comm, add_comm}
use native.Mathlib.Omega.{arith}
use mathlib.Core.Bool.{Bool, true, false, not, cond}
use lib.IntN.{pos}
use lib.Dec.{T, ltb, ltb→lt, nltb→le}
use lib.Ieee.{Float, nan, inf, fin, Format, binary64, up, down, round, sum, add, sub, mul, div, lt, eq, le, fits, of_bits}
use lib.Ieee.Scale.{finite}
use lib.Ieee.Positive.{den, den_pos}
use Rattle.floats.proofs.Parts.{number, zero, plus, minus}
use Rattle.floats.proofs.Compare.{le_of_eq, le_numbers}
use Rattle.floats.proofs.Order.{le_refl, le_trans, le_antisym, eq_refl, eq_trans, ge_of_eq}
use Rattle.floats.proofs.Rounding.{signed, signed_same}
use Rattle.floats.proofs.Exact.{signed_own}
use Rattle.floats.proofs.Difference.{add_number, add_le_self, add_ge_self, sub_le_self, sub_ge_self}
use Rattle.floats.proofs.SumLaws.{sub_number}
use Rattle.floats.proofs.Product.{plus_product, minus_product, mul_is}
use Rattle.floats.proofs.ProductOrder.{mul_mono_r}
use Rattle.floats.proofs.Quotient.{div_is}
use Rattle.floats.proofs.QuotientOrder.{div_anti_r}

-- +1.0
abbrev pub one : Float
one = fin false 1 (pos 0)

-- the program's 1.0
pub one_literal : of_bits binary64 0x3ff0_0000_0000_0000 ≡ one
unfolding of_bits
one_literal = refl

-- ---- zero

number_plus_zero : (f : Format) (x : Float) → T (number x) → T (number (add f x zero))
number_plus_zero f nan p = absurd p
number_plus_zero f (inf s) p = unfold add in tt
number_plus_zero f (fin s m e) p = add_number f (fin s m e) zero tt tt

number_less_zero : (f : Format) (x : Float) → T (number x) → T (number (sub f x zero))
number_less_zero f nan p = absurd p
number_less_zero f (inf s) p = unfold sub in tt
number_less_zero f (fin s m e) p = sub_number f (fin s m e) zero tt tt

-- x + 0 = x
pub add_zero_r : (f : Format) (x : Float) → T (fits f x) → T (number x) → T (eq (add f x zero) x)
add_zero_r f x F p = let q = number_plus_zero f x p in le_antisym (add f x zero) x (add_le_self f x zero F q (le_refl zero tt)) (add_ge_self f x zero F q (le_refl zero tt))

-- x - 0 = x
pub sub_zero_r : (f : Format) (x : Float) → T (fits f x) → T (number x) → T (eq (sub f x zero) x)
sub_zero_r f x F p = let q = number_less_zero f x p in le_antisym (sub f x zero) x (sub_le_self f x zero F q (le_refl zero tt)) (sub_ge_self f x zero F q (le_refl zero tt))

-- ---- one

mul_one_finite : (f : Format) (x : Float) → T (fits f x) → T (finite x) → T (eq (mul f x one) x)
mul_one_finite f x F p =
    let s = signed f (plus_product x one) (minus_product x one) (den x * den one) in
    let o = signed f (plus x) (minus x) (den x) in
    eq_trans (mul f x one) s x (mul_is f x one p tt)
    (eq_trans s o x
    (signed_same f (plus_product x one) (minus_product x one) (den x * den one) (plus x) (minus x) (den x) (mul-pos (den_pos x) (den_pos one)) (den_pos x) (omega arith))
    (signed_own f x F p))

-- x * 1 = x
pub mul_one_r : (f : Format) (x : Float) → T (fits f x) → T (number x) → T (eq (mul f x one) x)
mul_one_r f nan F p = absurd p
mul_one_r f (inf true) F p = unfold mul in eq_refl (inf true) tt
mul_one_r f (inf false) F p = unfold mul in eq_refl (inf false) tt
mul_one_r f (fin s m e) F p = mul_one_finite f (fin s m e) F tt

zero_lt_one : T (lt zero one)
unfolding lt
zero_lt_one = tt

div_one_finite : (f : Format) (x : Float) → T (fits f x) → T (finite x) → T (eq (div f x one) x)
div_one_finite f x F p =
    let s = signed f (plus x * den one) (minus x * den one) (plus one * den x) in
    let o = signed f (plus x) (minus x) (den x) in
    eq_trans (div f x one) s x (div_is f x one p tt zero_lt_one)
    (eq_trans s o x
    (signed_same f (plus x * den one) (minus x * den one) (plus one * den x) (plus x) (minus x) (den x) (mul-pos (omega arith) (den_pos x)) (den_pos x) (omega arith))
    (signed_own f x F p))

-- x / 1 = x
pub div_one_r : (f : Format) (x : Float) → T (fits f x) → T (number x) → T (eq (div f x one) x)
div_one_r f nan F p = absurd p
div_one_r f (inf true) F p = unfold div in eq_refl (inf true) tt
div_one_r f (inf false) F p = unfold div in eq_refl (inf false) tt
div_one_r f (fin s m e) F p = div_one_finite f (fin s m e) F tt

-- x ≥ 0 and k ≤ 1 give x * k ≤ x, where x * k is a number
pub mul_lowers : (f : Format) (x k : Float) → T (fits f x) → T (number (mul f x k)) → T (le zero x) → T (le k one) → T (le (mul f x k) x)
mul_lowers f x k F p h l =
    let e = mul_one_r f x F (le_numbers zero x h).1 in
    let u = le_of_eq (mul f x one) x e in
    le_trans (mul f x k) (mul f x one) x (mul_mono_r f x k one p (le_numbers (mul f x one) x u).0 h l) u

-- x ≥ 0 and k ≥ 1 give x ≤ x * k, where x * k is a number
pub mul_raises : (f : Format) (x k : Float) → T (fits f x) → T (number (mul f x k)) → T (le zero x) → T (le one k) → T (le x (mul f x k))
mul_raises f x k F p h l =
    let u = ge_of_eq (mul f x one) x (mul_one_r f x F (le_numbers zero x h).1) in
    le_trans x (mul f x one) (mul f x k) u (mul_mono_r f x one k (le_numbers x (mul f x one) u).1 p h l)

-- x ≥ 0 and y ≥ 1 give x / y ≤ x, where x / y is a number
pub div_lowers : (f : Format) (x y : Float) → T (fits f x) → T (number (div f x y)) → T (le zero x) → T (le one y) → T (le (div f x y) x)
div_lowers f x y F p h l =
    let u = le_of_eq (div f x one) x (div_one_r f x F (le_numbers zero x h).1) in
    le_trans (div f x y) (div f x one) x (div_anti_r f x one y (le_numbers (div f x one) x u).0 p h zero_lt_one l) u

-- ---- the operands of a sum

sum_commutes : (f : Format) (s t : Bool) (a b c : ℕ) → sum f s a t b c ≡ sum f t b s a c
unfolding sum
sum_commutes f true true a b c = ap (λ (n : ℕ). round f true n c) (add_comm a b)
sum_commutes f false false a b c = ap (λ (n : ℕ). round f false n c) (add_comm a b)
sum_commutes f true false a b c = go (ltb a b) (ltb b a) (ltb→lt a b) (nltb→le a b) (ltb→lt b a) (nltb→le b a)
  where
    go : (x y : Bool) → (T x → a < b) → (T (not x) → b ≤ a) → (T y → b < a) → (T (not y) → a ≤ b)
        → cond x (round f false (b - a) c) (round f y (a - b) c) ≡ cond y (round f true (a - b) c) (round f false (b - a) c)
    go true true p q r w = absurd (let l = p tt in let k = r tt in omega arith)
    go true false p q r w = refl
    go false true p q r w = refl
    go false false p q r w = ap (λ (n : ℕ). round f false n c) (let l = q tt in let k = w tt in omega arith)
sum_commutes f false true a b c = go (ltb a b) (ltb b a) (ltb→lt a b) (nltb→le a b) (ltb→lt b a) (nltb→le b a)
  where
    go : (x y : Bool) → (T x → a < b) → (T (not x) → b ≤ a) → (T y → b < a) → (T (not y) → a ≤ b)
        → cond x (round f true (b - a) c) (round f false (a - b) c) ≡ cond y (round f false (a - b) c) (round f x (b - a) c)
    go true true p q r w = absurd (let l = p tt in let k = r tt in omega arith)
    go true false p q r w = refl
    go false true p q r w = refl
    go false false p q r w = ap (λ (n : ℕ). round f false n c) (let l = q tt in let k = w tt in omega arith)

-- x + y is y + x, a NaN's and a zero's sign included
pub add_commutes : (f : Format) (x y : Float) → add f x y ≡ add f y x
unfolding add
add_commutes f nan nan = refl
add_commutes f nan (inf t) = refl
add_commutes f nan (fin t n d) = refl
add_commutes f (inf s) nan = refl
add_commutes f (inf true) (inf true) = refl
add_commutes f (inf true) (inf false) = refl
add_commutes f (inf false) (inf true) = refl
add_commutes f (inf false) (inf false) = refl
add_commutes f (inf s) (fin t n d) = refl
add_commutes f (fin s m e) nan = refl
add_commutes f (fin s m e) (inf t) = refl
add_commutes f (fin s m e) (fin t n d) =
    sum_commutes f s t (m * up e * down d) (n * up d * down e) (down e * down d)
    ∙ ap (λ (c : ℕ). sum f t (n * up d * down e) s (m * up e * down d) c) (mul_comm (down e) (down d))

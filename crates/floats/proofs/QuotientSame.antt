-- A quotient sees only the values of its operands, where the divisor is not zero; and a divisor's sign goes through a quotient. Assumes nothing.
use mathlib.Core.Path.{◌≡◌, refl, sym, ap, subst, subst₂, ◌∙◌}
use mathlib.Core.Logic.{◌⊎◌, inl, inr}
use Prim.Native.Nat.{ℕ, ◌+◌, ◌*◌}
use native.Mathlib.Nat.{mul-pos}
use native.Mathlib.Omega.{arith}
use mathlib.Core.Bool.{Bool, true, false, not, cond}
use lib.IntN.{pos}
use lib.Dec.{T, eqb, not_T, T_not}
use lib.Ieee.{Float, nan, inf, fin, Format, unlike, up, down, round, neg, div, lt, eq, le}
use lib.Ieee.Scale.{finite}
use lib.Ieee.Positive.{den, den_pos}
use Rattle.floats.proofs.Parts.{number, zero, plus, minus}
use Rattle.floats.proofs.Compare.{le_of_eq, lt_or_eq, lt_numbers, eq_numbers, eq→Same}
use Rattle.floats.proofs.Order.{monomials, eq_refl, eq_sym, eq_trans, lt_of_lt_of_le, lt→not_le, not_le→lt, le_total}
use Rattle.floats.proofs.Sign.{neg_number, round_neg}
use Rattle.floats.proofs.Rounding.{signed, signed_same}
use Rattle.floats.proofs.Difference.{neg_nonneg}
use Rattle.floats.proofs.SumLaws.{eq_inf, eq_finite, neg_respects}
use Rattle.floats.proofs.Quotient.{plus_pos, div_is, div_nan_l, div_inf_l, div_inf_r}
use Rattle.floats.proofs.QuotientOrder.{no_minus}

-- ---- equal operands, over a divisor above zero

same_cross : (px nx dx px' nx' dx' py dy py' dy' : ℕ) → px * dx' + nx' * dx ≡ px' * dx + nx * dx' → py * dy' ≡ py' * dy
    → px * dy * (py' * dx') + nx' * dy' * (py * dx) ≡ px' * dy' * (py * dx) + nx * dy * (py' * dx')
same_cross px nx dx px' nx' dx' py dy py' dy' h k =
    simp monomials
    (omega (arith, simp monomials at (ap (λ (z : ℕ). z * (py' * dy)) h), simp monomials at (ap (λ (z : ℕ). z * (px' * dx)) k), simp monomials at (ap (λ (z : ℕ). z * (nx' * dx)) k)))

same_plus : (y y' : Float) → T (finite y) → T (finite y') → T (lt zero y) → T (lt zero y') → T (eq y y') → plus y * den y' ≡ plus y' * den y
same_plus y y' q q' k k' h = let r = (eq→Same y y' h).1 in omega (arith, ap (λ (z : ℕ). z * den y') (no_minus y q k), ap (λ (z : ℕ). z * den y) (no_minus y' q' k'))

div_same_finite : (f : Format) (x x' y y' : Float) → T (finite x) → T (finite x') → T (finite y) → T (finite y') → T (lt zero y) → T (lt zero y') → T (eq x x') → T (eq y y') → T (eq (div f x y) (div f x' y'))
div_same_finite f x x' y y' p p' q q' k k' h g =
    let s = signed f (plus x * den y) (minus x * den y) (plus y * den x) in
    let s' = signed f (plus x' * den y') (minus x' * den y') (plus y' * den x') in
    eq_trans (div f x y) s (div f x' y') (div_is f x y p q k)
    (eq_trans s s' (div f x' y')
    (signed_same f (plus x * den y) (minus x * den y) (plus y * den x) (plus x' * den y') (minus x' * den y') (plus y' * den x') (mul-pos (plus_pos y q k) (den_pos x)) (mul-pos (plus_pos y' q' k') (den_pos x'))
    (same_cross (plus x) (minus x) (den x) (plus x') (minus x') (den x') (plus y) (den y) (plus y') (den y') (eq→Same x x' h).1 (same_plus y y' q q' k k' g)))
    (eq_sym (div f x' y') s' (div_is f x' y' p' q' k')))

over_inf_finite : (f : Format) (x : Float) (t : Bool) → T (number (div f x (inf t))) → T (finite x)
unfolding div
over_inf_finite f nan t p = p
over_inf_finite f (inf s) t p = p
over_inf_finite f (fin s m e) t p = tt

finite_over_inf : (f : Format) (x : Float) (t : Bool) → T (finite x) → T (number (div f x (inf t)))
unfolding div
finite_over_inf f nan t p = p
finite_over_inf f (inf s) t p = p
finite_over_inf f (fin s m e) t p = tt

inf_over_finite : (f : Format) (s : Bool) (y : Float) → T (finite y) → T (number (div f (inf s) y))
unfolding div
inf_over_finite f s nan p = p
inf_over_finite f s (inf t) p = p
inf_over_finite f s (fin t n d) p = tt

-- x = x' and y = y' > 0 give x / y = x' / y', where x / y is no NaN
pub div_respects_pos : (f : Format) (x x' y y' : Float) → T (eq x x') → T (eq y y') → T (lt zero y) → T (number (div f x y)) → T (eq (div f x y) (div f x' y'))
div_respects_pos f x x' nan y' h g k p = absurd (lt_numbers zero nan k).1
div_respects_pos f x x' (inf t) y' h g k p =
    let p' = finite_over_inf f x' t (eq_finite x x' h (over_inf_finite f x t p)) in
    rw (eq_inf t y' g) (eq_trans (div f x (inf t)) zero (div f x' (inf t)) (div_inf_r f x t p) (eq_sym (div f x' (inf t)) zero (div_inf_r f x' t p')))
div_respects_pos f nan x' (fin t n d) y' h g k p = absurd (div_nan_l f (fin t n d) p)
div_respects_pos f (inf s) x' (fin t n d) y' h g k p =
    let q' = eq_finite (fin t n d) y' g tt in
    let k' = lt_of_lt_of_le zero (fin t n d) y' k (le_of_eq (fin t n d) y' g) in
    rw (eq_inf s x' h, div_inf_l f s (fin t n d) p k, div_inf_l f s y' (inf_over_finite f s y' q') k') (eq_refl (inf (unlike s false)) tt)
div_respects_pos f (fin s m e) x' (fin t n d) y' h g k p =
    div_same_finite f (fin s m e) x' (fin t n d) y' tt (eq_finite (fin s m e) x' h tt) tt (eq_finite (fin t n d) y' g tt) k (lt_of_lt_of_le zero (fin t n d) y' k (le_of_eq (fin t n d) y' g)) h g

-- ---- a divisor below zero

pub neg_neg : (x : Float) → neg (neg x) ≡ x
unfolding neg
neg_neg nan = refl
neg_neg (inf true) = refl
neg_neg (inf false) = refl
neg_neg (fin true m e) = refl
neg_neg (fin false m e) = refl

unlike_not : (s t : Bool) → unlike s (not t) ≡ not (unlike s t)
unlike_not true true = refl
unlike_not true false = refl
unlike_not false true = refl
unlike_not false false = refl

round_not : (f : Format) (s : Bool) (a c : ℕ) → round f (not s) a c ≡ neg (round f s a c)
round_not f false a c = round_neg f a c
round_not f true a c = sym (neg_neg (round f false a c)) ∙ ap neg (sym (round_neg f a c))

-- x / -y is -(x / y)
pub div_neg_r : (f : Format) (x y : Float) → div f x (neg y) ≡ neg (div f x y)
unfolding div neg
div_neg_r f nan y = refl
div_neg_r f (inf s) nan = refl
div_neg_r f (inf s) (inf t) = refl
div_neg_r f (inf s) (fin t n d) = ap inf (unlike_not s t)
div_neg_r f (fin s m e) nan = refl
div_neg_r f (fin s m e) (inf t) = ap (λ (u : Bool). fin u 0 (pos 0)) (unlike_not s t)
div_neg_r f (fin s m e) (fin t n d) =
    ap (λ (u : Bool). cond (eqb n 0) (cond (eqb m 0) nan (inf u)) (round f u (m * up e * down d) (n * up d * down e))) (unlike_not s t)
    ∙ go (eqb n 0) (eqb m 0)
  where
    go : (b c : Bool) → cond b (cond c nan (inf (not (unlike s t)))) (round f (not (unlike s t)) (m * up e * down d) (n * up d * down e))
        ≡ neg (cond b (cond c nan (inf (unlike s t))) (round f (unlike s t) (m * up e * down d) (n * up d * down e)))
    go true true = refl
    go true false = refl
    go false c = round_not f (unlike s t) (m * up e * down d) (n * up d * down e)

-- y < 0 gives -y > 0
pub neg_positive : (y : Float) → T (lt y zero) → T (lt zero (neg y))
neg_positive y h =
    not_le→lt (neg y) zero (neg_number y (lt_numbers y zero h).0) tt
    (not_T (le (neg y) zero) (λ k. lt→not_le y zero h (subst (λ (z : Float). T (le zero z)) (neg_neg y) (neg_nonneg (neg y) k))))

pub div_respects_neg : (f : Format) (x x' y y' : Float) → T (eq x x') → T (eq y y') → T (lt y zero) → T (number (div f x y)) → T (eq (div f x y) (div f x' y'))
div_respects_neg f x x' y y' h g k p =
    let r = div_respects_pos f x x' (neg y) (neg y') h (neg_respects y y' g) (neg_positive y k) (rw (div_neg_r f x y) (neg_number (div f x y) p)) in
    subst₂ (λ (a b : Float). T (eq a b)) (back x y) (back x' y') (neg_respects (div f x (neg y)) (div f x' (neg y')) r)
  where
    back : (x y : Float) → neg (div f x (neg y)) ≡ div f x y
    back x y = ap neg (div_neg_r f x y) ∙ neg_neg (div f x y)

-- a number that does not equal zero is above it or below it
pub above_or_below : (y : Float) → T (number y) → T (not (eq y zero)) → T (lt zero y) ⊎ T (lt y zero)
above_or_below y p h = elim (le_total zero y tt p) [
  | inl k ↦ elim (lt_or_eq zero y k) [ inl l ↦ inl l | inr e ↦ absurd (T_not (eq y zero) h (eq_sym zero y e)) ]
  | inr k ↦ elim (lt_or_eq y zero k) [ inl l ↦ inr l | inr e ↦ absurd (T_not (eq y zero) h e) ]
]

-- x = x' and y = y' give x / y = x' / y', where y is not zero and x / y is no NaN
pub div_respects : (f : Format) (x x' y y' : Float) → T (eq x x') → T (eq y y') → T (not (eq y zero)) → T (number (div f x y)) → T (eq (div f x y) (div f x' y'))
div_respects f x x' y y' h g k p = elim (above_or_below y (eq_numbers y y' g).0 k) [
  | inl l ↦ div_respects_pos f x x' y y' h g l p
  | inr l ↦ div_respects_neg f x x' y y' h g l p
]

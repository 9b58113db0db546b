-- A quotient by a value above zero keeps the order of what is divided, and turns that of the divisor. Infinities included. Assumes nothing.
use mathlib.Core.Path.{◌≡◌, refl, ap}
use Prim.Native.Nat.{ℕ, ◌+◌, ◌*◌, ◌≤◌}
use native.Mathlib.Nat.{mul-pos, mul-le-mul_right}
use native.Mathlib.Omega.{arith}
use mathlib.Core.Bool.{true, false}
use lib.Dec.{T}
use lib.Ieee.{Float, nan, inf, fin, Format, div, lt, le}
use lib.Ieee.Scale.{finite}
use lib.Ieee.Positive.{den, den_pos}
use Rattle.floats.proofs.Parts.{number, zero, plus, minus}
use Rattle.floats.proofs.Compare.{le_of_lt, le_of_eq, le_numbers, lt_numbers}
use Rattle.floats.proofs.Order.{monomials, le→here, le_trans, le_refl, ge_of_eq, lt_of_lt_of_le}
use Rattle.floats.proofs.Sign.{le_bottom, le_top, top_le}
use Rattle.floats.proofs.Rounding.{signed, signed_mono}
use Rattle.floats.proofs.Difference.{nonneg_parts, no_ge}
use Rattle.floats.proofs.ProductLaws.{rearrange}
use Rattle.floats.proofs.Quotient.{positive_parts, plus_pos, div_is, div_nan_l, div_inf_l, div_inf_r, div_nonneg}

-- ---- what is divided

over_cross : (px nx dx px' nx' dx' py dy : ℕ) → px * dx' + nx' * dx ≤ px' * dx + nx * dx' → px * dy * (py * dx') + nx' * dy * (py * dx) ≤ px' * dy * (py * dx) + nx * dy * (py * dx')
over_cross px nx dx px' nx' dx' py dy h =
    simp monomials (omega (arith, simp monomials at (mul-le-mul_right (py * dy) h)))

div_mono_finite : (f : Format) (x x' y : Float) → T (finite x) → T (finite x') → T (finite y) → T (lt zero y) → T (le x x') → T (le (div f x y) (div f x' y))
div_mono_finite f x x' y p p' q k h =
    let s = signed f (plus x * den y) (minus x * den y) (plus y * den x) in
    let s' = signed f (plus x' * den y) (minus x' * den y) (plus y * den x') in
    le_trans (div f x y) s (div f x' y) (le_of_eq (div f x y) s (div_is f x y p q k))
    (le_trans s s' (div f x' y)
    (signed_mono f (plus x * den y) (minus x * den y) (plus y * den x) (plus x' * den y) (minus x' * den y) (plus y * den x') (mul-pos (plus_pos y q k) (den_pos x)) (mul-pos (plus_pos y q k) (den_pos x'))
    (over_cross (plus x) (minus x) (den x) (plus x') (minus x') (den x') (plus y) (den y) (le→here x x' p p' h)))
    (ge_of_eq (div f x' y) s' (div_is f x' y p' q k)))

-- x ≤ x' and y > 0 give x / y ≤ x' / y, where neither is a NaN
pub div_mono_l : (f : Format) (x x' y : Float) → T (number (div f x y)) → T (number (div f x' y)) → T (lt zero y) → T (le x x') → T (le (div f x y) (div f x' y))
div_mono_l f x x' nan p p' k h = absurd (lt_numbers zero nan k).1
div_mono_l f x x' (inf t) p p' k h = le_trans (div f x (inf t)) zero (div f x' (inf t)) (le_of_eq (div f x (inf t)) zero (div_inf_r f x t p)) (ge_of_eq (div f x' (inf t)) zero (div_inf_r f x' t p'))
div_mono_l f nan x' (fin t n d) p p' k h = absurd (div_nan_l f (fin t n d) p)
div_mono_l f (inf true) x' (fin t n d) p p' k h = rw (div_inf_l f true (fin t n d) p k) (le_bottom (div f x' (fin t n d)) p')
div_mono_l f (inf false) x' (fin t n d) p p' k h = rw (top_le x' h) (le_refl (div f (inf false) (fin t n d)) p)
div_mono_l f (fin s m e) nan (fin t n d) p p' k h = absurd (div_nan_l f (fin t n d) p')
div_mono_l f (fin s m e) (inf true) (fin t n d) p p' k h = absurd (no_ge (fin s m e) h tt)
div_mono_l f (fin s m e) (inf false) (fin t n d) p p' k h = rw (div_inf_l f false (fin t n d) p' k) (le_top (div f (fin s m e) (fin t n d)) p)
div_mono_l f (fin s m e) (fin s' m' e') (fin t n d) p p' k h = div_mono_finite f (fin s m e) (fin s' m' e') (fin t n d) tt tt tt k h

-- ---- the divisor

-- a finite value above zero has no negative part
pub no_minus : (y : Float) → T (finite y) → T (lt zero y) → minus y ≡ 0
no_minus nan q h = absurd q
no_minus (inf s) q h = absurd q
no_minus (fin true n d) q h = absurd (omega (arith, positive_parts (fin true n d) tt h))
no_minus (fin false n d) q h = refl

under_cross : (px nx dx py dy py' dy' : ℕ) → nx ≤ px → py * dy' ≤ py' * dy → px * dy' * (py * dx) + nx * dy * (py' * dx) ≤ px * dy * (py' * dx) + nx * dy' * (py * dx)
under_cross px nx dx py dy py' dy' k h =
    simp monomials (omega (arith, simp monomials at (mul-le-mul_right dx (rearrange (py' * dy) (py * dy') px nx h k))))

order_of : (y y' : Float) → T (finite y) → T (finite y') → T (lt zero y) → T (lt zero y') → T (le y y') → plus y * den y' ≤ plus y' * den y
order_of y y' q q' k k' h = let r = le→here y y' q q' h in omega (arith, ap (λ (z : ℕ). z * den y') (no_minus y q k), ap (λ (z : ℕ). z * den y) (no_minus y' q' k'))

div_anti_finite : (f : Format) (x y y' : Float) → T (finite x) → T (finite y) → T (finite y') → T (le zero x) → T (lt zero y) → T (lt zero y') → T (le y y') → T (le (div f x y') (div f x y))
div_anti_finite f x y y' p q q' g k k' h =
    let s = signed f (plus x * den y) (minus x * den y) (plus y * den x) in
    let s' = signed f (plus x * den y') (minus x * den y') (plus y' * den x) in
    le_trans (div f x y') s' (div f x y) (le_of_eq (div f x y') s' (div_is f x y' p q' k'))
    (le_trans s' s (div f x y)
    (signed_mono f (plus x * den y') (minus x * den y') (plus y' * den x) (plus x * den y) (minus x * den y) (plus y * den x) (mul-pos (plus_pos y' q' k') (den_pos x)) (mul-pos (plus_pos y q k) (den_pos x))
    (under_cross (plus x) (minus x) (den x) (plus y) (den y) (plus y') (den y') (nonneg_parts x p g) (order_of y y' q q' k k' h)))
    (ge_of_eq (div f x y) s (div_is f x y p q k)))

-- x ≥ 0 and 0 < y ≤ y' give x / y' ≤ x / y, where neither is a NaN
pub div_anti_r : (f : Format) (x y y' : Float) → T (number (div f x y)) → T (number (div f x y')) → T (le zero x) → T (lt zero y) → T (le y y') → T (le (div f x y') (div f x y))
div_anti_r f x nan y' p p' g k h = absurd (lt_numbers zero nan k).1
div_anti_r f x (inf true) y' p p' g k h = absurd (no_ge zero (le_of_lt zero (inf true) k) tt)
div_anti_r f x (inf false) y' p p' g k h = rw (top_le y' h) (le_refl (div f x (inf false)) p)
div_anti_r f x (fin t n d) nan p p' g k h = absurd (le_numbers (fin t n d) nan h).1
div_anti_r f x (fin t n d) (inf u) p p' g k h = le_trans (div f x (inf u)) zero (div f x (fin t n d)) (le_of_eq (div f x (inf u)) zero (div_inf_r f x u p')) (div_nonneg f x (fin t n d) p g k)
div_anti_r f nan (fin t n d) (fin t' n' d') p p' g k h = absurd (div_nan_l f (fin t n d) p)
div_anti_r f (inf true) (fin t n d) (fin t' n' d') p p' g k h = absurd (no_ge zero g tt)
div_anti_r f (inf false) (fin t n d) (fin t' n' d') p p' g k h = rw (div_inf_l f false (fin t n d) p k) (le_top (div f (inf false) (fin t' n' d')) p')
div_anti_r f (fin s m e) (fin t n d) (fin t' n' d') p p' g k h = div_anti_finite f (fin s m e) (fin t n d) (fin t' n' d') tt tt tt g k (lt_of_lt_of_le zero (fin t n d) (fin t' n' d') k h) h

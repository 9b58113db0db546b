-- A product keeps the order in each factor where the other is not negative, and sees only its factors' values. Infinities included. Assumes nothing.
use mathlib.Core.Path.{◌≡◌, refl, ap, ◌∙◌}
use Prim.Native.Nat.{ℕ, suc, ◌+◌, ◌*◌, ◌≤◌, ◌<◌}
use native.Mathlib.Nat.{mul-pos, mul-le-mul_right}
use native.Mathlib.Omega.{arith}
use mathlib.Core.Bool.{Bool, true, false, cond}
use lib.IntN.{ℤ}
use lib.Dec.{T, eqb-suc-zero}
use lib.Ieee.{Float, nan, inf, fin, Format, unlike, up, down, mul, eq, le}
use lib.Ieee.Fits.{up_pos, down_pos}
use lib.Ieee.Scale.{finite}
use lib.Ieee.Positive.{den, den_pos}
use Rattle.floats.proofs.Parts.{number, zero, plus, minus}
use Rattle.floats.proofs.Compare.{le_of_eq, le_numbers, eq_numbers, eq→Same}
use Rattle.floats.proofs.Order.{monomials, le→here, le_trans, le_refl, eq_refl, ge_of_eq, eq_sym, eq_trans}
use Rattle.floats.proofs.Sign.{le_bottom, le_top, top_le}
use Rattle.floats.proofs.Rounding.{signed, signed_mono, signed_same}
use Rattle.floats.proofs.Difference.{zero_le_unsigned, nonneg_parts, no_ge}
use Rattle.floats.proofs.SumLaws.{eq_inf, eq_finite}
use Rattle.floats.proofs.Product.{plus_product, minus_product, mul_is, mul_commutes, mul_nan, mul_inf, mul_inf_not_zero}
use Rattle.floats.proofs.ProductLaws.{not_zero, inf_times_nonneg, turned, rearrange}

-- ---- order

-- with a = px / dx - nx / dx and b the same of x', times py - ny ≥ 0 and over dy
product_cross : (px nx dx px' nx' dx' py ny dy : ℕ) → ny ≤ py → px * dx' + nx' * dx ≤ px' * dx + nx * dx'
    → (px * py + nx * ny) * (dx' * dy) + (px' * ny + nx' * py) * (dx * dy) ≤ (px' * py + nx' * ny) * (dx * dy) + (px * ny + nx * py) * (dx' * dy)
product_cross px nx dx px' nx' dx' py ny dy k h =
    simp monomials
    (omega (arith, simp monomials at (mul-le-mul_right dy (rearrange (px' * dx + nx * dx') (px * dx' + nx' * dx) py ny h k))))

mul_mono_finite : (f : Format) (x x' y : Float) → T (finite x) → T (finite x') → T (finite y) → T (le zero y) → T (le x x') → T (le (mul f x y) (mul f x' y))
mul_mono_finite f x x' y p p' q k h =
    let s = signed f (plus_product x y) (minus_product x y) (den x * den y) in
    let s' = signed f (plus_product x' y) (minus_product x' y) (den x' * den y) in
    le_trans (mul f x y) s (mul f x' y) (le_of_eq (mul f x y) s (mul_is f x y p q))
    (le_trans s s' (mul f x' y)
    (signed_mono f (plus_product x y) (minus_product x y) (den x * den y) (plus_product x' y) (minus_product x' y) (den x' * den y) (mul-pos (den_pos x) (den_pos y)) (mul-pos (den_pos x') (den_pos y))
    (product_cross (plus x) (minus x) (den x) (plus x') (minus x') (den x') (plus y) (minus y) (den y) (nonneg_parts y q k) (le→here x x' p p' h)))
    (ge_of_eq (mul f x' y) s' (mul_is f x' y p' q)))

-- an infinity times x, the other way round
times_inf : (f : Format) (x : Float) → T (number (mul f x (inf false))) → T (le zero x) → mul f x (inf false) ≡ inf false
times_inf f x p h = mul_commutes f x (inf false) ∙ inf_times_nonneg f false x (turned f x (inf false) p) h

times_inf_negative : (f : Format) (m : ℕ) (e : ℤ) → T (number (mul f (fin true m e) (inf false))) → mul f (fin true m e) (inf false) ≡ inf true
times_inf_negative f m e p = mul_commutes f (fin true m e) (inf false) ∙ mul_inf f false (fin true m e) (turned f (fin true m e) (inf false) p)

-- x ≤ x' and y ≥ 0 give x * y ≤ x' * y, where neither is a NaN
pub mul_mono_l : (f : Format) (x x' y : Float) → T (number (mul f x y)) → T (number (mul f x' y)) → T (le zero y) → T (le x x') → T (le (mul f x y) (mul f x' y))
mul_mono_l f nan x' y p p' k h = absurd (mul_nan f y p)
mul_mono_l f (inf true) x' y p p' k h = rw (inf_times_nonneg f true y p k) (le_bottom (mul f x' y) p')
mul_mono_l f (inf false) x' y p p' k h = rw (top_le x' h) (le_refl (mul f (inf false) y) p)
mul_mono_l f (fin s m e) x' nan p p' k h = absurd (le_numbers zero nan k).1
mul_mono_l f (fin s m e) x' (inf true) p p' k h = absurd (no_ge zero k tt)
mul_mono_l f (fin true m e) x' (inf false) p p' k h = rw (times_inf_negative f m e p) (le_bottom (mul f x' (inf false)) p')
mul_mono_l f (fin false m e) x' (inf false) p p' k h =
    rw (times_inf f x' p' (le_trans zero (fin false m e) x' (zero_le_unsigned (fin false m e) tt) h)) (le_top (mul f (fin false m e) (inf false)) p)
mul_mono_l f (fin s m e) nan (fin t n d) p p' k h = absurd (mul_nan f (fin t n d) p')
mul_mono_l f (fin s m e) (inf true) (fin t n d) p p' k h = absurd (no_ge (fin s m e) h tt)
mul_mono_l f (fin s m e) (inf false) (fin t n d) p p' k h = rw (inf_times_nonneg f false (fin t n d) p' k) (le_top (mul f (fin s m e) (fin t n d)) p)
mul_mono_l f (fin s m e) (fin s' m' e') (fin t n d) p p' k h = mul_mono_finite f (fin s m e) (fin s' m' e') (fin t n d) tt tt tt k h

-- y ≤ y' and x ≥ 0 give x * y ≤ x * y', where neither is a NaN
pub mul_mono_r : (f : Format) (x y y' : Float) → T (number (mul f x y)) → T (number (mul f x y')) → T (le zero x) → T (le y y') → T (le (mul f x y) (mul f x y'))
mul_mono_r f x y y' p p' k h = rw (mul_commutes f x y, mul_commutes f x y') (mul_mono_l f y y' x (turned f x y p) (turned f x y' p') k h)

-- ---- equal factors

same_cross : (px nx dx px' nx' dx' py ny dy : ℕ) → px * dx' + nx' * dx ≡ px' * dx + nx * dx'
    → (px * py + nx * ny) * (dx' * dy) + (px' * ny + nx' * py) * (dx * dy) ≡ (px' * py + nx' * ny) * (dx * dy) + (px * ny + nx * py) * (dx' * dy)
same_cross px nx dx px' nx' dx' py ny dy h =
    simp monomials
    (omega (arith, simp monomials at (ap (λ (z : ℕ). z * (py * dy)) h), simp monomials at (ap (λ (z : ℕ). z * (ny * dy)) h)))

mul_same_finite : (f : Format) (x x' y : Float) → T (finite x) → T (finite x') → T (finite y) → T (eq x x') → T (eq (mul f x y) (mul f x' y))
mul_same_finite f x x' y p p' q h =
    let s = signed f (plus_product x y) (minus_product x y) (den x * den y) in
    let s' = signed f (plus_product x' y) (minus_product x' y) (den x' * den y) in
    eq_trans (mul f x y) s (mul f x' y) (mul_is f x y p q)
    (eq_trans s s' (mul f x' y)
    (signed_same f (plus_product x y) (minus_product x y) (den x * den y) (plus_product x' y) (minus_product x' y) (den x' * den y) (mul-pos (den_pos x) (den_pos y)) (mul-pos (den_pos x') (den_pos y))
    (same_cross (plus x) (minus x) (den x) (plus x') (minus x') (den x') (plus y) (minus y) (den y) (eq→Same x x' h).1))
    (eq_sym (mul f x' y) s' (mul_is f x' y p' q)))

-- a value that is not zero: what equals it has its sign and is not zero
no_product : (m a b c : ℕ) → 0 < m → 0 < a → 0 < b → m * a * b + c ≡ 0 → ⊥
no_product m a b c h k l e = omega (arith, mul-pos (mul-pos h k) l)

left_zero : (m a b n c d : ℕ) → 0 < m → 0 < a → 0 < b → m * a * b ≡ n * c * d → 0 < n
left_zero m a b ℕ.zero c d h k l e = omega (arith, mul-pos (mul-pos h k) l)
left_zero m a b (suc n) c d h k l e = omega arith

pub eq_sign : (s t : Bool) (m n : ℕ) (e d : ℤ) → T (eq (fin s m e) (fin t n d)) → 0 < m → (t ≡ s) × (0 < n)
eq_sign true true m n e d h p = (refl, left_zero m (up e) (down d) n (up d) (down e) p (up_pos e) (down_pos d) (let r = (eq→Same (fin true m e) (fin true n d) h).1 in omega arith))
eq_sign true false m n e d h p = absurd (no_product m (up e) (down d) (n * up d * down e) p (up_pos e) (down_pos d) (let r = (eq→Same (fin true m e) (fin false n d) h).1 in omega arith))
eq_sign false true m n e d h p = absurd (no_product m (up e) (down d) (n * up d * down e) p (up_pos e) (down_pos d) (let r = (eq→Same (fin false m e) (fin true n d) h).1 in omega arith))
eq_sign false false m n e d h p = (refl, left_zero m (up e) (down d) n (up d) (down e) p (up_pos e) (down_pos d) (let r = (eq→Same (fin false m e) (fin false n d) h).1 in omega arith))

fin_times_inf : (f : Format) (s t : Bool) (m : ℕ) (e : ℤ) → 0 < m → mul f (fin s m e) (inf t) ≡ inf (unlike s t)
unfolding mul
fin_times_inf f s t ℕ.zero e h = absurd (omega arith)
fin_times_inf f s t (suc m) e h = ap (λ (b : Bool). cond b nan (inf (unlike s t))) (eqb-suc-zero m)

-- x = x' gives x * y = x' * y, where x * y is no NaN
pub mul_respects_l : (f : Format) (x x' y : Float) → T (eq x x') → T (number (mul f x y)) → T (eq (mul f x y) (mul f x' y))
mul_respects_l f nan x' y h p = absurd (mul_nan f y p)
mul_respects_l f (inf s) x' y h p = rw (eq_inf s x' h) (eq_refl (mul f (inf s) y) p)
mul_respects_l f (fin s m e) x' nan h p = absurd (mul_nan f (fin s m e) (turned f (fin s m e) nan p))
mul_respects_l f (fin s m e) nan (inf t) h p = absurd (eq_numbers (fin s m e) nan h).1
mul_respects_l f (fin s m e) (inf s') (inf t) h p = absurd (eq_finite (fin s m e) (inf s') h tt)
mul_respects_l f (fin s m e) (fin s' m' e') (inf t) h p =
    let M = not_zero m (mul_inf_not_zero f t s m e (turned f (fin s m e) (inf t) p)) in
    let r = eq_sign s s' m m' e e' h M in
    rw (fin_times_inf f s t m e M, fin_times_inf f s' t m' e' r.1, r.0) (eq_refl (inf (unlike s t)) tt)
mul_respects_l f (fin s m e) x' (fin t n d) h p = mul_same_finite f (fin s m e) x' (fin t n d) tt (eq_finite (fin s m e) x' h tt) tt h

-- x = x' and y = y' give x * y = x' * y', where x * y is no NaN
pub mul_respects : (f : Format) (x x' y y' : Float) → T (eq x x') → T (eq y y') → T (number (mul f x y)) → T (eq (mul f x y) (mul f x' y'))
mul_respects f x x' y y' h k p =
    let a = mul_respects_l f x x' y h p in
    let q = (eq_numbers (mul f x y) (mul f x' y) a).1 in
    eq_trans (mul f x y) (mul f x' y) (mul f x' y') a (rw (mul_commutes f x' y, mul_commutes f x' y') (mul_respects_l f y y' x' k (turned f x' y q)))

-- The sign of a product, infinities included. Assumes nothing.
use mathlib.Core.Path.{◌≡◌, refl, sym, ap, subst, ◌∙◌}
use Prim.Native.Nat.{ℕ, suc, ◌+◌, ◌-◌, ◌*◌, ◌≤◌, ◌<◌}
use native.Mathlib.Nat.{mul-pos, mul-le-mul_right}
use native.Mathlib.Omega.{arith}
use mathlib.Core.Bool.{Bool, true, false, not}
use lib.Dec.{T, eqb}
use lib.Ieee.{Float, nan, inf, fin, Format, unlike, mul, le}
use lib.Ieee.Fits.{up_pos}
use lib.Ieee.Scale.{finite}
use lib.Ieee.Positive.{den, den_pos}
use Rattle.floats.proofs.Parts.{number, zero, plus, minus}
use Rattle.floats.proofs.Compare.{le_of_eq, le_numbers}
use Rattle.floats.proofs.Order.{le_trans, ge_of_eq}
use Rattle.floats.proofs.Sign.{le_bottom, le_top}
use Rattle.floats.proofs.Rounding.{signed}
use Rattle.floats.proofs.Difference.{signed_nonneg, signed_nonpos, nonneg_parts, nonpos_parts, no_le, no_ge}
use Rattle.floats.proofs.Product.{plus_product, minus_product, mul_is, mul_commutes, mul_nan, negative, mul_inf, mul_inf_not_zero}

-- ---- the sign of a factor beside an infinity

pub not_zero : (n : ℕ) → T (not (eqb n 0)) → 0 < n
not_zero ℕ.zero h = absurd h
not_zero (suc n) h = omega arith

sign_of_nonneg : (f : Format) (s : Bool) (y : Float) → T (number (mul f (inf s) y)) → T (le zero y) → negative y ≡ false
sign_of_nonneg f s nan p h = refl
sign_of_nonneg f s (inf true) p h = absurd (no_ge zero h tt)
sign_of_nonneg f s (inf false) p h = refl
sign_of_nonneg f s (fin true n d) p h =
    absurd (omega (arith, mul-pos (not_zero n (mul_inf_not_zero f s true n d p)) (up_pos d), nonneg_parts (fin true n d) tt h))
sign_of_nonneg f s (fin false n d) p h = refl

sign_of_nonpos : (f : Format) (s : Bool) (y : Float) → T (number (mul f (inf s) y)) → T (le y zero) → negative y ≡ true
sign_of_nonpos f s nan p h = absurd (le_numbers nan zero h).0
sign_of_nonpos f s (inf true) p h = refl
sign_of_nonpos f s (inf false) p h = absurd (no_le zero h tt)
sign_of_nonpos f s (fin true n d) p h = refl
sign_of_nonpos f s (fin false n d) p h =
    absurd (omega (arith, mul-pos (not_zero n (mul_inf_not_zero f s false n d p)) (up_pos d), nonpos_parts (fin false n d) tt h))

-- an infinity times y ≥ 0, where it is a number, is the same infinity; times y ≤ 0 it is the other
pub inf_times_nonneg : (f : Format) (s : Bool) (y : Float) → T (number (mul f (inf s) y)) → T (le zero y) → mul f (inf s) y ≡ inf (unlike s false)
inf_times_nonneg f s y p h = mul_inf f s y p ∙ ap (λ (t : Bool). inf (unlike s t)) (sign_of_nonneg f s y p h)

pub inf_times_nonpos : (f : Format) (s : Bool) (y : Float) → T (number (mul f (inf s) y)) → T (le y zero) → mul f (inf s) y ≡ inf (unlike s true)
inf_times_nonpos f s y p h = mul_inf f s y p ∙ ap (λ (t : Bool). inf (unlike s t)) (sign_of_nonpos f s y p h)

-- the product with the factors the other way round is a number too
pub turned : (f : Format) (x y : Float) → T (number (mul f x y)) → T (number (mul f y x))
turned f x y p = subst (λ (z : Float). T (number z)) (mul_commutes f x y) p

-- ---- signs

-- b ≤ a and d ≤ c: (a - b) * (c - d) ≥ 0
pub rearrange : (a b c d : ℕ) → b ≤ a → d ≤ c → a * d + b * c ≤ a * c + b * d
rearrange a b c d h k =
    let e : c ≡ d + (c - d) = omega arith in
    subst (λ (z : ℕ). a * d + b * z ≤ a * z + b * d) (sym e) (omega (arith, mul-le-mul_right (c - d) h))

product_nonneg : (f : Format) (x y : Float) → T (finite x) → T (finite y) → minus_product x y ≤ plus_product x y → T (le zero (mul f x y))
product_nonneg f x y p q h =
    let s = signed f (plus_product x y) (minus_product x y) (den x * den y) in
    le_trans zero s (mul f x y) (signed_nonneg f (plus_product x y) (minus_product x y) (den x * den y) h) (ge_of_eq (mul f x y) s (mul_is f x y p q))

product_nonpos : (f : Format) (x y : Float) → T (finite x) → T (finite y) → plus_product x y ≤ minus_product x y → T (le (mul f x y) zero)
product_nonpos f x y p q h =
    let s = signed f (plus_product x y) (minus_product x y) (den x * den y) in
    le_trans (mul f x y) s zero (le_of_eq (mul f x y) s (mul_is f x y p q)) (signed_nonpos f (plus_product x y) (minus_product x y) (den x * den y) (mul-pos (den_pos x) (den_pos y)) h)

-- x ≥ 0 and y ≥ 0 give x * y ≥ 0, where it is a number (0 times an infinity is none)
pub mul_nonneg : (f : Format) (x y : Float) → T (number (mul f x y)) → T (le zero x) → T (le zero y) → T (le zero (mul f x y))
mul_nonneg f nan y p h k = absurd (mul_nan f y p)
mul_nonneg f (inf true) y p h k = absurd (no_ge zero h tt)
mul_nonneg f (inf false) y p h k = rw (inf_times_nonneg f false y p k) (le_top zero tt)
mul_nonneg f (fin s m e) nan p h k = absurd (le_numbers zero nan k).1
mul_nonneg f (fin s m e) (inf true) p h k = absurd (no_ge zero k tt)
mul_nonneg f (fin s m e) (inf false) p h k = rw (mul_commutes f (fin s m e) (inf false), inf_times_nonneg f false (fin s m e) (turned f (fin s m e) (inf false) p) h) (le_top zero tt)
mul_nonneg f (fin s m e) (fin t n d) p h k =
    let x = fin s m e in
    let y = fin t n d in
    product_nonneg f x y tt tt (rearrange (plus x) (minus x) (plus y) (minus y) (nonneg_parts x tt h) (nonneg_parts y tt k))

-- x ≤ 0 and y ≥ 0 give x * y ≤ 0, where it is a number
pub mul_nonpos_nonneg : (f : Format) (x y : Float) → T (number (mul f x y)) → T (le x zero) → T (le zero y) → T (le (mul f x y) zero)
mul_nonpos_nonneg f nan y p h k = absurd (mul_nan f y p)
mul_nonpos_nonneg f (inf false) y p h k = absurd (no_le zero h tt)
mul_nonpos_nonneg f (inf true) y p h k = rw (inf_times_nonneg f true y p k) (le_bottom zero tt)
mul_nonpos_nonneg f (fin s m e) nan p h k = absurd (le_numbers zero nan k).1
mul_nonpos_nonneg f (fin s m e) (inf true) p h k = absurd (no_ge zero k tt)
mul_nonpos_nonneg f (fin s m e) (inf false) p h k = rw (mul_commutes f (fin s m e) (inf false), inf_times_nonpos f false (fin s m e) (turned f (fin s m e) (inf false) p) h) (le_bottom zero tt)
mul_nonpos_nonneg f (fin s m e) (fin t n d) p h k =
    let x = fin s m e in
    let y = fin t n d in
    product_nonpos f x y tt tt (let r = rearrange (minus x) (plus x) (plus y) (minus y) (nonpos_parts x tt h) (nonneg_parts y tt k) in omega arith)

-- x ≥ 0 and y ≤ 0 give x * y ≤ 0, where it is a number
pub mul_nonneg_nonpos : (f : Format) (x y : Float) → T (number (mul f x y)) → T (le zero x) → T (le y zero) → T (le (mul f x y) zero)
mul_nonneg_nonpos f x y p h k = rw (mul_commutes f x y) (mul_nonpos_nonneg f y x (turned f x y p) k h)

-- x ≤ 0 and y ≤ 0 give x * y ≥ 0, where it is a number
pub mul_nonpos_nonpos : (f : Format) (x y : Float) → T (number (mul f x y)) → T (le x zero) → T (le y zero) → T (le zero (mul f x y))
mul_nonpos_nonpos f nan y p h k = absurd (mul_nan f y p)
mul_nonpos_nonpos f (inf false) y p h k = absurd (no_le zero h tt)
mul_nonpos_nonpos f (inf true) y p h k = rw (inf_times_nonpos f true y p k) (le_top zero tt)
mul_nonpos_nonpos f (fin s m e) nan p h k = absurd (le_numbers nan zero k).0
mul_nonpos_nonpos f (fin s m e) (inf false) p h k = absurd (no_le zero k tt)
mul_nonpos_nonpos f (fin s m e) (inf true) p h k = rw (mul_commutes f (fin s m e) (inf true), inf_times_nonpos f true (fin s m e) (turned f (fin s m e) (inf true) p) h) (le_top zero tt)
mul_nonpos_nonpos f (fin s m e) (fin t n d) p h k =
    let x = fin s m e in
    let y = fin t n d in
    product_nonneg f x y tt tt (let r = rearrange (minus x) (plus x) (minus y) (plus y) (nonpos_parts x tt h) (nonpos_parts y tt k) in omega arith)

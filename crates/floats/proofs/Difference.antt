-- Which way a sum or a difference goes: adding what is not negative lowers nothing, taking it away raises nothing; and the signs of sums and differences. Assumes nothing.
use mathlib.Core.Path.{◌≡◌, refl, subst}
use mathlib.Core.Logic.{inl, inr}
use Prim.Native.Nat.{ℕ, ◌+◌, ◌-◌, ◌*◌, ◌≤◌, ◌<◌}
use native.Mathlib.Nat.{mul-pos, mul-le-mul_right}
use native.Mathlib.Omega.{arith}
use mathlib.Core.Bool.{true, false}
use lib.IntN.{pos}
use lib.Dec.{T}
use lib.Ieee.{Float, nan, inf, fin, Format, neg, round, add, sub, le, fits}
use lib.Ieee.Scale.{finite}
use lib.Ieee.Positive.{den, den_pos}
use Rattle.floats.proofs.Parts.{number, zero, plus, minus}
use Rattle.floats.proofs.Compare.{le_of_eq, le_numbers}
use Rattle.floats.proofs.Order.{le→here, here→le, le_trans, le_refl, ge_of_eq}
use Rattle.floats.proofs.Sign.{unsigned, neg_anti, neg_le_unsigned, round_neg, round_unsigned, le_bottom, le_top, top_le, le_bottom_only}
use Rattle.floats.proofs.Rounding.{signed, signed_mono, signed_neg, signed_pos, neg_or_pos}
use Rattle.floats.proofs.Exact.{signed_own}
use Rattle.floats.proofs.Sum.{plus_sum, minus_sum, add_is, add_inf_l, add_inf_r, add_nan_l, add_nan_r}

-- ---- where a sum is a number

-- a finite value and a number
pub add_number : (f : Format) (x y : Float) → T (finite x) → T (number y) → T (number (add f x y))
unfolding add
add_number f nan y p q = absurd p
add_number f (inf s) y p q = absurd p
add_number f (fin s m e) nan p q = absurd q
add_number f (fin s m e) (inf t) p q = tt
add_number f (fin s m e) (fin t n d) p q = (le_numbers (add f (fin s m e) (fin t n d)) (signed f (plus_sum (fin s m e) (fin t n d)) (minus_sum (fin s m e) (fin t n d)) (den (fin s m e) * den (fin t n d))) (le_of_eq (add f (fin s m e) (fin t n d)) (signed f (plus_sum (fin s m e) (fin t n d)) (minus_sum (fin s m e) (fin t n d)) (den (fin s m e) * den (fin t n d))) (add_is f (fin s m e) (fin t n d) tt tt))).0

-- what a difference is
pub sub_is_add : (f : Format) (x y : Float) → sub f x y ≡ add f x (neg y)
unfolding sub
sub_is_add f x y = refl

-- ---- zero

pub zero_le_unsigned : (x : Float) → T (unsigned x) → T (le zero x)
zero_le_unsigned nan p = absurd p
zero_le_unsigned (inf true) p = absurd p
zero_le_unsigned (inf false) p = le_top zero tt
zero_le_unsigned (fin true m e) p = absurd p
zero_le_unsigned (fin false m e) p = here→le zero (fin false m e) tt tt (omega arith)

-- the sign of x / c is that of x
pub signed_nonneg : (f : Format) (p n c : ℕ) → n ≤ p → T (le zero (signed f p n c))
signed_nonneg f p n c h = rw (signed_pos f p n c h) (zero_le_unsigned (round f false (p - n) c) (round_unsigned f (p - n) c))

pub signed_nonpos : (f : Format) (p n c : ℕ) → 0 < c → p ≤ n → T (le (signed f p n c) zero)
signed_nonpos f p n c C h = elim (neg_or_pos p n) [
  | inl l ↦ rw (signed_neg f p n c l, round_neg f (n - p) c) (neg_le_unsigned (round f false (n - p) c) zero (round_unsigned f (n - p) c) tt)
  | inr l ↦
      le_trans (signed f p n c) (signed f 0 0 1) zero (signed_mono f p n c 0 0 1 C (omega arith) (omega arith))
      (le_of_eq (signed f 0 0 1) zero (signed_own f zero (unfold fits in tt) tt))
]

-- -0 and +0 are equal: d ≥ 0 gives -d ≤ 0, and d ≤ 0 gives -d ≥ 0
pub neg_nonpos : (d : Float) → T (le zero d) → T (le (neg d) zero)
unfolding neg
neg_nonpos d h = le_trans (neg d) (neg zero) zero (neg_anti zero d h) (here→le (fin true 0 (pos 0)) zero tt tt (omega arith))

pub neg_nonneg : (d : Float) → T (le d zero) → T (le zero (neg d))
unfolding neg
neg_nonneg d h = le_trans zero (neg zero) (neg d) (here→le zero (fin true 0 (pos 0)) tt tt (omega arith)) (neg_anti d zero h)

-- ---- direction

lower : (px nx dx py ny dy : ℕ) → py ≤ ny → (px * dy + py * dx) * dx + nx * (dx * dy) ≤ px * (dx * dy) + (nx * dy + ny * dx) * dx
lower px nx dx py ny dy h = omega (arith, mul-le-mul_right (dx * dx) h)

higher : (px nx dx py ny dy : ℕ) → ny ≤ py → px * (dx * dy) + (nx * dy + ny * dx) * dx ≤ (px * dy + py * dx) * dx + nx * (dx * dy)
higher px nx dx py ny dy h = omega (arith, mul-le-mul_right (dx * dx) h)

pub nonpos_parts : (y : Float) → T (finite y) → T (le y zero) → plus y ≤ minus y
nonpos_parts y q h = omega (arith, le→here y zero q tt h)

pub nonneg_parts : (y : Float) → T (finite y) → T (le zero y) → minus y ≤ plus y
nonneg_parts y q h = omega (arith, le→here zero y tt q h)

add_le_finite : (f : Format) (x y : Float) → T (fits f x) → T (finite x) → T (finite y) → T (le y zero) → T (le (add f x y) x)
add_le_finite f x y F p q h =
    let s = signed f (plus_sum x y) (minus_sum x y) (den x * den y) in
    let o = signed f (plus x) (minus x) (den x) in
    le_trans (add f x y) s x (le_of_eq (add f x y) s (add_is f x y p q))
    (le_trans s o x
    (signed_mono f (plus_sum x y) (minus_sum x y) (den x * den y) (plus x) (minus x) (den x) (mul-pos (den_pos x) (den_pos y)) (den_pos x) (lower (plus x) (minus x) (den x) (plus y) (minus y) (den y) (nonpos_parts y q h)))
    (le_of_eq o x (signed_own f x F p)))

add_ge_finite : (f : Format) (x y : Float) → T (fits f x) → T (finite x) → T (finite y) → T (le zero y) → T (le x (add f x y))
add_ge_finite f x y F p q h =
    let s = signed f (plus_sum x y) (minus_sum x y) (den x * den y) in
    let o = signed f (plus x) (minus x) (den x) in
    le_trans x o (add f x y) (ge_of_eq o x (signed_own f x F p))
    (le_trans o s (add f x y)
    (signed_mono f (plus x) (minus x) (den x) (plus_sum x y) (minus_sum x y) (den x * den y) (den_pos x) (mul-pos (den_pos x) (den_pos y)) (higher (plus x) (minus x) (den x) (plus y) (minus y) (den y) (nonneg_parts y q h)))
    (ge_of_eq (add f x y) s (add_is f x y p q)))

pub no_le : (x : Float) → T (le (inf false) x) → T (finite x) → ⊥
no_le x h p = subst (λ (z : Float). T (finite z)) (top_le x h) p

pub no_ge : (x : Float) → T (le x (inf true)) → T (finite x) → ⊥
no_ge x h p = subst (λ (z : Float). T (finite z)) (le_bottom_only x h) p

-- y ≤ 0 gives x + y ≤ x, where x + y is a number
pub add_le_self : (f : Format) (x y : Float) → T (fits f x) → T (number (add f x y)) → T (le y zero) → T (le (add f x y) x)
add_le_self f nan y F p h = absurd (add_nan_l f y p)
add_le_self f (inf s) y F p h = rw (add_inf_l f s y p) (le_refl (inf s) tt)
add_le_self f (fin s m e) nan F p h = absurd (add_nan_r f (fin s m e) p)
add_le_self f (fin s m e) (inf true) F p h = rw (add_inf_r f (fin s m e) true p) (le_bottom (fin s m e) tt)
add_le_self f (fin s m e) (inf false) F p h = absurd (no_le zero h tt)
add_le_self f (fin s m e) (fin t n d) F p h = add_le_finite f (fin s m e) (fin t n d) F tt tt h

-- y ≥ 0 gives x ≤ x + y, where x + y is a number
pub add_ge_self : (f : Format) (x y : Float) → T (fits f x) → T (number (add f x y)) → T (le zero y) → T (le x (add f x y))
add_ge_self f nan y F p h = absurd (add_nan_l f y p)
add_ge_self f (inf s) y F p h = rw (add_inf_l f s y p) (le_refl (inf s) tt)
add_ge_self f (fin s m e) nan F p h = absurd (add_nan_r f (fin s m e) p)
add_ge_self f (fin s m e) (inf true) F p h = absurd (no_ge zero h tt)
add_ge_self f (fin s m e) (inf false) F p h = rw (add_inf_r f (fin s m e) false p) (le_top (fin s m e) tt)
add_ge_self f (fin s m e) (fin t n d) F p h = add_ge_finite f (fin s m e) (fin t n d) F tt tt h

-- d ≥ 0 gives x - d ≤ x
pub sub_le_self : (f : Format) (x d : Float) → T (fits f x) → T (number (sub f x d)) → T (le zero d) → T (le (sub f x d) x)
unfolding sub
sub_le_self f x d F p h = add_le_self f x (neg d) F p (neg_nonpos d h)

-- d ≤ 0 gives x ≤ x - d
pub sub_ge_self : (f : Format) (x d : Float) → T (fits f x) → T (number (sub f x d)) → T (le d zero) → T (le x (sub f x d))
unfolding sub
sub_ge_self f x d F p h = add_ge_self f x (neg d) F p (neg_nonneg d h)

-- `add` and `sub` of finite values as one signed rounding; sums keep the order in each argument, infinities included. Assumes nothing.
use mathlib.Core.Path.{◌≡◌, refl, ap, subst, ◌∙◌}
use Prim.Native.Nat.{ℕ, ◌+◌, ◌-◌, ◌*◌, ◌≤◌, ◌<◌}
use native.Mathlib.Nat.{mul-pos, mul-le-mul_right}
use native.Mathlib.Omega.{arith}
use mathlib.Core.Bool.{Bool, true, false, not, cond}
use lib.IntN.{ℤ}
use lib.Dec.{T, ltb, ltb→lt, nltb→le}
use lib.Ieee.{Float, nan, inf, fin, Format, up, down, round, sum, add, eq, le}
use lib.Ieee.Fits.{down_pos}
use lib.Ieee.Scale.{finite}
use lib.Ieee.Positive.{den, den_pos}
use Rattle.floats.proofs.Parts.{number, plus, minus}
use Rattle.floats.proofs.Compare.{le_of_eq}
use Rattle.floats.proofs.Order.{monomials, le→here, le_trans, ge_of_eq}
use Rattle.floats.proofs.Sign.{le_bottom, le_top, top_le, le_bottom_only}
use Rattle.floats.proofs.Rounding.{signed, signed_mono}
use Rattle.floats.proofs.Exact.{round_plus, round_minus}

-- ---- a finite sum

-- two magnitudes with opposite signs
opposite : (f : Format) (a b c p n : ℕ) → 0 < c → p + b ≡ n + a → T (eq (sum f false a true b c) (signed f p n c))
unfolding sum
opposite f a b c p n C h = go (ltb a b) (ltb→lt a b) (nltb→le a b)
  where
    go : (t : Bool) → (T t → a < b) → (T (not t) → b ≤ a) → T (eq (cond t (round f true (b - a) c) (round f false (a - b) c)) (signed f p n c))
    go true x y = let l = x tt in round_minus f p n (b - a) c C (omega arith)
    go false x y = let l = y tt in round_plus f p n (a - b) c C (omega arith)

opposite' : (f : Format) (a b c p n : ℕ) → 0 < c → p + a ≡ n + b → T (eq (sum f true a false b c) (signed f p n c))
unfolding sum
opposite' f a b c p n C h = go (ltb a b) (ltb b a) (ltb→lt a b) (nltb→le a b) (ltb→lt b a) (nltb→le b a)
  where
    go : (t u : Bool) → (T t → a < b) → (T (not t) → b ≤ a) → (T u → b < a) → (T (not u) → a ≤ b) → T (eq (cond t (round f false (b - a) c) (round f u (a - b) c)) (signed f p n c))
    go true u x y z w = let l = x tt in round_plus f p n (b - a) c C (omega arith)
    go false true x y z w = let l = y tt in round_minus f p n (a - b) c C (omega arith)
    go false false x y z w = let l = y tt in let k = w tt in round_plus f p n (a - b) c C (omega arith)

-- the parts of x + y over den x * den y
abbrev pub plus_sum : Float → Float → ℕ
plus_sum x y = plus x * den y + plus y * den x

abbrev pub minus_sum : Float → Float → ℕ
minus_sum x y = minus x * den y + minus y * den x

pub add_is : (f : Format) (x y : Float) → T (finite x) → T (finite y) → T (eq (add f x y) (signed f (plus_sum x y) (minus_sum x y) (den x * den y)))
unfolding add
add_is f nan y p q = absurd p
add_is f (inf s) y p q = absurd p
add_is f (fin s m e) nan p q = absurd q
add_is f (fin s m e) (inf t) p q = absurd q
add_is f (fin true m e) (fin true n d) p q =
    round_minus f (0 * down d + 0 * down e) (m * up e * down d + n * up d * down e) (m * up e * down d + n * up d * down e) (down e * down d) (mul-pos (down_pos e) (down_pos d)) (omega arith)
add_is f (fin true m e) (fin false n d) p q =
    opposite' f (m * up e * down d) (n * up d * down e) (down e * down d) (0 * down d + n * up d * down e) (m * up e * down d + 0 * down e) (mul-pos (down_pos e) (down_pos d)) (omega arith)
add_is f (fin false m e) (fin true n d) p q =
    opposite f (m * up e * down d) (n * up d * down e) (down e * down d) (m * up e * down d + 0 * down e) (0 * down d + n * up d * down e) (mul-pos (down_pos e) (down_pos d)) (omega arith)
add_is f (fin false m e) (fin false n d) p q =
    round_plus f (m * up e * down d + n * up d * down e) (0 * down d + 0 * down e) (m * up e * down d + n * up d * down e) (down e * down d) (mul-pos (down_pos e) (down_pos d)) (omega arith)

-- ---- sums keep the order

sum_cross : (px nx dx px' nx' dx' py ny dy py' ny' dy' : ℕ) → px * dx' + nx' * dx ≤ px' * dx + nx * dx' → py * dy' + ny' * dy ≤ py' * dy + ny * dy'
    → (px * dy + py * dx) * (dx' * dy') + (nx' * dy' + ny' * dx') * (dx * dy) ≤ (px' * dy' + py' * dx') * (dx * dy) + (nx * dy + ny * dx) * (dx' * dy')
sum_cross px nx dx px' nx' dx' py ny dy py' ny' dy' h k =
    simp monomials
    (omega (arith, simp monomials at (mul-le-mul_right (dy * dy') h), simp monomials at (mul-le-mul_right (dx * dx') k)))

pub add_mono_finite : (f : Format) (x x' y y' : Float) → T (finite x) → T (finite x') → T (finite y) → T (finite y') → T (le x x') → T (le y y') → T (le (add f x y) (add f x' y'))
add_mono_finite f x x' y y' p p' q q' h k =
    let s = signed f (plus_sum x y) (minus_sum x y) (den x * den y) in
    let s' = signed f (plus_sum x' y') (minus_sum x' y') (den x' * den y') in
    le_trans (add f x y) s (add f x' y') (le_of_eq (add f x y) s (add_is f x y p q))
    (le_trans s s' (add f x' y')
    (signed_mono f (plus_sum x y) (minus_sum x y) (den x * den y) (plus_sum x' y') (minus_sum x' y') (den x' * den y') (mul-pos (den_pos x) (den_pos y)) (mul-pos (den_pos x') (den_pos y'))
    (sum_cross (plus x) (minus x) (den x) (plus x') (minus x') (den x') (plus y) (minus y) (den y) (plus y') (minus y') (den y') (le→here x x' p p' h) (le→here y y' q q' k)))
    (ge_of_eq (add f x' y') s' (add_is f x' y' p' q')))

-- a sum with an infinity in it, where it is a number, is that infinity
pub add_inf_l : (f : Format) (s : Bool) (y : Float) → T (number (add f (inf s) y)) → add f (inf s) y ≡ inf s
unfolding add
add_inf_l f s nan p = absurd p
add_inf_l f true (inf true) p = refl
add_inf_l f true (inf false) p = absurd p
add_inf_l f false (inf true) p = absurd p
add_inf_l f false (inf false) p = refl
add_inf_l f s (fin t n d) p = refl

pub add_inf_r : (f : Format) (x : Float) (t : Bool) → T (number (add f x (inf t))) → add f x (inf t) ≡ inf t
unfolding add
add_inf_r f nan t p = absurd p
add_inf_r f (inf true) true p = refl
add_inf_r f (inf true) false p = absurd p
add_inf_r f (inf false) true p = absurd p
add_inf_r f (inf false) false p = refl
add_inf_r f (fin s m e) t p = refl

pub add_nan_l : (f : Format) (y : Float) → T (number (add f nan y)) → ⊥
unfolding add
add_nan_l f y p = p

pub add_nan_r : (f : Format) (x : Float) → T (number (add f x nan)) → ⊥
unfolding add
add_nan_r f nan p = p
add_nan_r f (inf s) p = p
add_nan_r f (fin s m e) p = p

fin≢inf : {s t : Bool} {m : ℕ} {e : ℤ} → fin s m e ≡ inf t → ⊥
fin≢inf h = let z : ◌≡◌ {A = ℕ} 0 1 = cc in omega arith

-- x ≤ x' and y ≤ y' give x + y ≤ x' + y', where neither sum is a NaN
pub add_mono : (f : Format) (x x' y y' : Float) → T (number (add f x y)) → T (number (add f x' y')) → T (le x x') → T (le y y') → T (le (add f x y) (add f x' y'))
add_mono f nan x' y y' p q h k = absurd (add_nan_l f y p)
add_mono f (inf true) x' y y' p q h k = rw (add_inf_l f true y p) (le_bottom (add f x' y') q)
add_mono f (inf false) x' y y' p q h k =
    let e : add f x' y' ≡ inf false = ap (λ (z : Float). add f z y') (top_le x' h) ∙ add_inf_l f false y' (subst (λ (z : Float). T (number (add f z y'))) (top_le x' h) q) in
    rw e (le_top (add f (inf false) y) p)
add_mono f (fin s m e) x' nan y' p q h k = absurd (add_nan_r f (fin s m e) p)
add_mono f (fin s m e) x' (inf true) y' p q h k = rw (add_inf_r f (fin s m e) true p) (le_bottom (add f x' y') q)
add_mono f (fin s m e) x' (inf false) y' p q h k =
    let w : add f x' y' ≡ inf false = ap (λ (z : Float). add f x' z) (top_le y' k) ∙ add_inf_r f x' false (subst (λ (z : Float). T (number (add f x' z))) (top_le y' k) q) in
    rw w (le_top (add f (fin s m e) (inf false)) p)
add_mono f (fin s m e) nan (fin t n d) y' p q h k = absurd (add_nan_l f y' q)
add_mono f (fin s m e) (inf true) (fin t n d) y' p q h k = absurd (fin≢inf (le_bottom_only (fin s m e) h))
add_mono f (fin s m e) (inf false) (fin t n d) y' p q h k = rw (add_inf_l f false y' q) (le_top (add f (fin s m e) (fin t n d)) p)
add_mono f (fin s m e) (fin s' m' e') (fin t n d) nan p q h k = absurd (add_nan_r f (fin s' m' e') q)
add_mono f (fin s m e) (fin s' m' e') (fin t n d) (inf true) p q h k = absurd (fin≢inf (le_bottom_only (fin t n d) k))
add_mono f (fin s m e) (fin s' m' e') (fin t n d) (inf false) p q h k = rw (add_inf_r f (fin s' m' e') false q) (le_top (add f (fin s m e) (fin t n d)) p)
add_mono f (fin s m e) (fin s' m' e') (fin t n d) (fin t' n' d') p q h k = add_mono_finite f (fin s m e) (fin s' m' e') (fin t n d) (fin t' n' d') tt tt tt tt h k

-- Strict laws: two different values have a difference that is not zero, since each is a whole number of the format's smallest value; and a sum with something above zero is above zero. Assumes nothing.
use mathlib.Core.Path.{◌≡◌, refl, sym, ap, subst, ◌∙◌}
use mathlib.Core.Logic.{inl, inr}
use Prim.Native.Nat.{ℕ, zero, suc, ◌+◌, ◌*◌, ◌%◌, ◌^◌, ◌≤◌, ◌<◌}
use native.Mathlib.Nat.{mul-pos, mul-le-mul_right, mul-lt-mul_of_pos_right, lt_of_mul-lt-mul_right, one-mul, le_trans as ℕ-le-trans, le_of_eq as ℕ-le-of-eq}
use native.Mathlib.Omega.{arith}
use mathlib.Core.Bool.{Bool, true, false, ◌&&◌, true≢false}
use lib.IntN.{ℤ, pos, negsuc}
use lib.Dec.{T, leb, ltb, eqb, leb→le, eqb→eq}
use lib.Pow.{pow_pos, pow-lt}
use lib.Ieee.{Float, nan, inf, fin, Format, prec, emax, low, up, down, round, neg, add, sub, lt, le, fits}
use lib.Ieee.Fits.{and_l, and_r, down_pos, two, two-le_pos, neg-fits}
use lib.Ieee.Exact.{HasValue, round_exact}
use lib.Ieee.Scale.{finite}
use lib.Ieee.Positive.{den, den_pos}
use Rattle.floats.proofs.Parts as Parts
use Rattle.floats.proofs.Parts.{number, plus, minus, here}
use Rattle.floats.proofs.Compare.{le_of_eq, le_of_lt, lt→Less, Less→lt, le_numbers, lt_numbers}
use Rattle.floats.proofs.Order.{le_trans, lt_of_lt_of_le, ge_of_eq, finite_rank, lt→not_le}
use Rattle.floats.proofs.Rounding.{signed, signed_mono}
use Rattle.floats.proofs.Exact.{place, round_plus}
use Rattle.floats.proofs.Sign.{neg_plus, neg_minus, neg_den, le_bottom, le_top}
use Rattle.floats.proofs.Sum.{plus_sum, minus_sum, add_is, add_inf_l}
use Rattle.floats.proofs.Difference.{add_ge_self, sub_is_add}
use Rattle.floats.proofs.SumLaws.{add_nonneg}

-- ---- a finite value that the format holds is a whole number of 2 ^ -low

least_down : (f : Format) (s : Bool) (m : ℕ) (e : ℤ) → T (fits f (fin s m e)) → down e ≤ 2 ^ low f
unfolding fits
least_down f s zero e h = one_le e (eqb→eq (up e * down e) 1 h)
  where
    one_le : (e : ℤ) → up e * down e ≡ 1 → down e ≤ 2 ^ low f
    one_le (pos k) h = pow_pos (low f)
    one_le (negsuc k) h = ℕ-le-trans (ℕ-le-of-eq (sym (one-mul (2 ^ suc k)) ∙ h)) (pow_pos (low f))
least_down f s (suc m) e h =
    let a = eqb (suc m % 2) 1 in
    let b = ltb (suc m) (2 ^ prec f) in
    let c = leb (down e) (2 ^ low f) in
    let d = ltb (suc m * up e) (2 ^ suc (emax f) * down e) in
    leb→le (down e) (2 ^ low f) (and_r (a && b) c (and_l (a && b && c) d h))

-- the parts of x, in units of 2 ^ -low
abbrev pub Whole : Format → Float → Type 0
Whole f x = (p : ℕ) × (n : ℕ) × (plus x * 2 ^ low f ≡ p * den x) × (minus x * 2 ^ low f ≡ n * den x)

pub whole : (f : Format) (x : Float) → T (fits f x) → T (finite x) → Whole f x
whole f nan h q = absurd q
whole f (inf s) h q = absurd q
whole f (fin true m e) h q = let r = place (low f) e (least_down f true m e h) in (0, m * 2 ^ r.0, omega arith, r.1 m)
whole f (fin false m e) h q = let r = place (low f) e (least_down f false m e h) in (m * 2 ^ r.0, 0, r.1 m, omega arith)

-- a difference that is above zero is one unit at least
pub one_unit : (P N L D p n : ℕ) → 0 < L → 0 < D → P * L ≡ p * D → N * L ≡ n * D → N < P → 1 * D + N * L ≤ P * L
one_unit P N L D p n l d e g h =
    let k : n * D < p * D = omega (arith, mul-lt-mul_of_pos_right h l) in
    let j : n < p = lt_of_mul-lt-mul_right D k in
    omega (arith, mul-le-mul_right D j)

pub parts : (px py dx dy L p q : ℕ) → px * L ≡ p * dx → py * L ≡ q * dy → (px * dy + py * dx) * L ≡ (p + q) * (dx * dy)
parts px py dx dy L p q e g = omega (arith, ap (λ (z : ℕ). z * dy) e, ap (λ (z : ℕ). z * dx) g)

-- the format's smallest value above zero, as a fraction
abbrev pub tiny : Format → Float
tiny f = signed f 1 0 (2 ^ low f)

pub above_zero : (x : Float) (a c : ℕ) → HasValue x false a c → 0 < a → T (lt Parts.zero x)
above_zero nan a c h p = absurd h
above_zero (inf t) a c h p = absurd h
above_zero (fin true m e) a c h p = absurd (true≢false h.0)
above_zero (fin false m e) a c h p = Less→lt Parts.zero (fin false m e) tt tt (inr (refl, omega (arith, nonzero (m * up e) c a (down e) h.1 p (down_pos e))))
  where
    nonzero : (x c a d : ℕ) → x * c ≡ a * d → 0 < a → 0 < d → 0 < x
    nonzero zero c a d h p q = omega (arith, mul-pos p q)
    nonzero (suc x) c a d h p q = omega arith

pub tiny_above : (f : Format) → T (lt Parts.zero (tiny f))
tiny_above f =
    let r = round f false 1 (2 ^ low f) in
    lt_of_lt_of_le Parts.zero r (tiny f)
    (above_zero r 1 (2 ^ low f) (round_exact f false 1 (2 ^ low f) 1 0 (pow_pos (low f)) (pow-lt (two-le_pos (prec f) (two f))) (pow-lt (room f)) refl) (omega arith))
    (le_of_eq r (tiny f) (round_plus f 1 0 1 (2 ^ low f) (pow_pos (low f)) (omega arith)))
  where
    room : (f : Format) → 0 < low f + suc (emax f)
    room f = omega arith

sum_above : (f : Format) (x y : Float) → T (fits f x) → T (finite x) → T (fits f y) → T (finite y) → minus_sum x y < plus_sum x y → T (lt Parts.zero (add f x y))
sum_above f x y F p G q h =
    let a = whole f x F p in
    let b = whole f y G q in
    let s = signed f (plus_sum x y) (minus_sum x y) (den x * den y) in
    lt_of_lt_of_le Parts.zero (tiny f) (add f x y) (tiny_above f)
    (le_trans (tiny f) s (add f x y)
    (signed_mono f 1 0 (2 ^ low f) (plus_sum x y) (minus_sum x y) (den x * den y) (pow_pos (low f)) (mul-pos (den_pos x) (den_pos y))
    (let r = one_unit (plus_sum x y) (minus_sum x y) (2 ^ low f) (den x * den y) (a.0 + b.0) (a.1 + b.1) (pow_pos (low f)) (mul-pos (den_pos x) (den_pos y)) (parts (plus x) (plus y) (den x) (den y) (2 ^ low f) a.0 b.0 a.2 b.2) (parts (minus x) (minus y) (den x) (den y) (2 ^ low f) a.1 b.1 a.3 b.3) h in omega arith))
    (ge_of_eq (add f x y) s (add_is f x y p q)))

-- ---- differences

pub lt→here : (x y : Float) → T (finite x) → T (finite y) → T (lt x y) → here x y < here y x
lt→here x y p q h = elim (lt→Less x y h) [ inl r ↦ omega (arith, finite_rank x p, finite_rank y q) | inr r ↦ r.1 ]

pub neg_finite : (y : Float) → T (finite y) → T (finite (neg y))
unfolding neg
neg_finite nan q = q
neg_finite (inf s) q = q
neg_finite (fin s m e) q = tt

difference_above : (f : Format) (x y : Float) → T (fits f x) → T (fits f y) → T (finite x) → T (finite y) → T (lt y x) → T (lt Parts.zero (sub f x y))
unfolding sub
difference_above f x y F G p q h =
    sum_above f x (neg y) F p (neg-fits f y G) (neg_finite y q) (rw (neg_plus y, neg_minus y, neg_den y) (omega (arith, lt→here y x q p h)))

-- y < x gives x - y > 0, where it is a number
pub sub_positive : (f : Format) (x y : Float) → T (fits f x) → T (fits f y) → T (number (sub f x y)) → T (lt y x) → T (lt Parts.zero (sub f x y))
sub_positive f nan y F G p h = absurd (lt_numbers y nan h).1
sub_positive f (inf true) y F G p h = absurd (lt→not_le y (inf true) h (le_bottom y (lt_numbers y (inf true) h).0))
sub_positive f (inf false) y F G p h = rw (sub_is_add f (inf false) y, add_inf_l f false (neg y) p') (unfold lt in tt)
  where
    p' : T (number (add f (inf false) (neg y)))
    p' = subst (λ (z : Float). T (number z)) (sub_is_add f (inf false) y) p
sub_positive f (fin s m e) nan F G p h = absurd (lt_numbers nan (fin s m e) h).0
sub_positive f (fin s m e) (inf true) F G p h = unfold sub lt in tt
sub_positive f (fin s m e) (inf false) F G p h = absurd (lt→not_le (inf false) (fin s m e) h (le_top (fin s m e) tt))
sub_positive f (fin s m e) (fin t n d) F G p h = difference_above f (fin s m e) (fin t n d) F G tt tt h

-- ---- sums

-- x > 0 and y ≥ 0 give x + y > 0
pub add_positive : (f : Format) (x y : Float) → T (fits f x) → T (lt Parts.zero x) → T (le Parts.zero y) → T (lt Parts.zero (add f x y))
add_positive f x y F h k =
    lt_of_lt_of_le Parts.zero x (add f x y) h
    (add_ge_self f x y F (le_numbers Parts.zero (add f x y) (add_nonneg f x y (le_of_lt Parts.zero x h) k)).1 k)

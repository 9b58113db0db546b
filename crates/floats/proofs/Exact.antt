-- Where rounding changes no value: at a fraction that the format holds, at zero; and `round` with a sign as `signed`. Assumes nothing.
use mathlib.Core.Path.{◌≡◌, refl, sym, ap, ◌∙◌}
use mathlib.Core.Logic.{inl, inr}
use Prim.Native.Nat.{ℕ, zero, suc, ◌+◌, ◌-◌, ◌*◌, ◌%◌, ◌^◌, ◌≤◌, ◌<◌}
use native.Mathlib.Nat.{mul-lt-mul_of_pos_right, eq_of_mul-eq-mul_right, lt_of_mul-lt-mul_right, lt_of_not-le, lt_of_lt_of_le, lt_irrefl, le_of_suc-le-suc, mul_assoc}
use native.Mathlib.Omega.{arith}
use mathlib.Core.Bool.{Bool, true, false, ◌&&◌, true≢false}
use lib.IntN.{ℤ, pos, negsuc}
use lib.Dec.{T, leb, ltb, eqb, ltb→lt, leb→le}
use lib.Pow.{pow-add, pow_pos, pow-lt}
use lib.Ieee.{Float, nan, inf, fin, Format, prec, emax, low, up, down, round, eq, fits}
use lib.Ieee.Fits.{and_l, and_r, down_pos}
use lib.Ieee.Exact.{HasValue, round_exact}
use lib.Ieee.Scale.{finite}
use lib.Ieee.Positive.{den}
use Rattle.floats.proofs.Parts.{plus, minus}
use Rattle.floats.proofs.Compare.{Same→eq}
use Rattle.floats.proofs.Order.{eq_refl, eq_sym, eq_trans}
use Rattle.floats.proofs.Rounding.{signed, round_number, signed_neg, signed_pos, neg_or_pos}

-- ---- two values with one sign and one fraction are equal

cancel : (x y de dd a c : ℕ) → 0 < c → x * c ≡ a * de → y * c ≡ a * dd → x * dd ≡ y * de
cancel x y de dd a c C p q =
    let l : x * dd * c ≡ y * de * c = omega (arith, ap (λ (z : ℕ). z * dd) p, ap (λ (z : ℕ). z * de) q) in
    eq_of_mul-eq-mul_right c C (x * dd) (y * de) l

pub eq_of_values : (x y : Float) (s : Bool) (a c : ℕ) → 0 < c → HasValue x s a c → HasValue y s a c → T (eq x y)
eq_of_values nan y s a c C p q = absurd p
eq_of_values (inf t) y s a c C p q = absurd p
eq_of_values (fin t m e) nan s a c C p q = absurd q
eq_of_values (fin t m e) (inf u) s a c C p q = absurd q
eq_of_values (fin true m e) (fin true n d) s a c C p q = Same→eq (fin true m e) (fin true n d) tt tt (refl, omega (arith, cancel (m * up e) (n * up d) (down e) (down d) a c C p.1 q.1))
eq_of_values (fin true m e) (fin false n d) s a c C p q = absurd (true≢false (p.0 ∙ sym q.0))
eq_of_values (fin false m e) (fin true n d) s a c C p q = absurd (true≢false (q.0 ∙ sym p.0))
eq_of_values (fin false m e) (fin false n d) s a c C p q = Same→eq (fin false m e) (fin false n d) tt tt (refl, omega (arith, cancel (m * up e) (n * up d) (down e) (down d) a c C p.1 q.1))

-- ---- a zero

-- 0 / c rounds to a zero, with the sign asked for
pub round_zero : (f : Format) (s : Bool) (c : ℕ) → 0 < c → HasValue (round f s 0 c) s 0 c
round_zero f s c C = round_exact f s 0 c 0 0 C (pow_pos (prec f)) (pow_pos (low f + suc (emax f))) (omega arith)

zero_eq_zero : (x y : Float) (s t : Bool) (c : ℕ) → 0 < c → HasValue x s 0 c → HasValue y t 0 c → T (eq x y)
zero_eq_zero nan y s t c C p q = absurd p
zero_eq_zero (inf u) y s t c C p q = absurd p
zero_eq_zero (fin u m e) nan s t c C p q = absurd q
zero_eq_zero (fin u m e) (inf v) s t c C p q = absurd q
zero_eq_zero (fin u m e) (fin v n d) s t c C p q =
    let a : m * up e ≡ 0 = none (m * up e) c C (p.1 ∙ omega arith) in
    let b : n * up d ≡ 0 = none (n * up d) c C (q.1 ∙ omega arith) in
    go u v a b
  where
    none : (x c : ℕ) → 0 < c → x * c ≡ 0 → x ≡ 0
    none x c C h = eq_of_mul-eq-mul_right c C x 0 (h ∙ omega arith)

    go : (u v : Bool) → m * up e ≡ 0 → n * up d ≡ 0 → T (eq (fin u m e) (fin v n d))
    go true true a b = Same→eq (fin true m e) (fin true n d) tt tt (refl, omega (arith, ap (λ (z : ℕ). z * down d) a, ap (λ (z : ℕ). z * down e) b))
    go true false a b = Same→eq (fin true m e) (fin false n d) tt tt (refl, omega (arith, ap (λ (z : ℕ). z * down d) a, ap (λ (z : ℕ). z * down e) b))
    go false true a b = Same→eq (fin false m e) (fin true n d) tt tt (refl, omega (arith, ap (λ (z : ℕ). z * down d) a, ap (λ (z : ℕ). z * down e) b))
    go false false a b = Same→eq (fin false m e) (fin false n d) tt tt (refl, omega (arith, ap (λ (z : ℕ). z * down d) a, ap (λ (z : ℕ). z * down e) b))

-- ---- `round` with a sign is `signed` of any two parts that differ by as much

pub round_plus : (f : Format) (p n a c : ℕ) → 0 < c → p ≡ n + a → T (eq (round f false a c) (signed f p n c))
round_plus f p n a c C h =
    let e : p - n ≡ a = omega arith in
    rw (signed_pos f p n c (omega arith), e) (eq_refl (round f false a c) (round_number f false a c))

pub round_minus : (f : Format) (p n a c : ℕ) → 0 < c → n ≡ p + a → T (eq (round f true a c) (signed f p n c))
round_minus f p n a c C h = elim (neg_or_pos p n) [
  | inl l ↦
      let e : n - p ≡ a = omega arith in
      rw (signed_neg f p n c l, e) (eq_refl (round f true a c) (round_number f true a c))
  | inr l ↦
      let e : p - n ≡ 0 = omega arith in
      let z : a ≡ 0 = omega arith in
      rw (signed_pos f p n c l, e, z) (zero_eq_zero (round f true 0 c) (round f false 0 c) true false c C (round_zero f true c C) (round_zero f false c C))
]

-- ---- a value that the format holds

pow_le_back : (a l : ℕ) → 2 ^ a ≤ 2 ^ l → a ≤ l
pow_le_back a l h = le_of_suc-le-suc (lt_of_not-le (λ (g : suc l ≤ a). lt_irrefl (2 ^ l) (lt_of_lt_of_le (pow-lt g) h)))

-- m * 2 ^ e is m * 2 ^ j in units of 2 ^ -l
pub place : (l : ℕ) (e : ℤ) → down e ≤ 2 ^ l → (j : ℕ) × ((m : ℕ) → m * up e * 2 ^ l ≡ m * 2 ^ j * down e)
place l (pos k) h = (k + l, λ m. rw (pow-add 2 k l) (omega arith))
place l (negsuc k) h =
    let r : suc k ≤ l = pow_le_back (suc k) l h in
    let e : l - suc k + suc k ≡ l = omega arith in
    (l - suc k, λ m. let q : 2 ^ l ≡ 2 ^ (l - suc k) * 2 ^ suc k = ap (λ (z : ℕ). 2 ^ z) (sym e) ∙ pow-add 2 (l - suc k) (suc k) in mul_assoc m 1 (2 ^ l) ∙ ap (λ (z : ℕ). m * z) (omega arith ∙ q) ∙ sym (mul_assoc m (2 ^ (l - suc k)) (2 ^ suc k)))

below_top : (m ue de L E j : ℕ) → 0 < de → 0 < L → m * ue < E * de → m * ue * L ≡ m * j * de → m * j < L * E
below_top m ue de L E j D P h e =
    let k : m * j * de < L * E * de = omega (arith, mul-lt-mul_of_pos_right h P) in
    lt_of_mul-lt-mul_right de k

-- the format's own value: rounding the fraction that it is gives its value back
pub round_own : (f : Format) (s : Bool) (m : ℕ) (e : ℤ) → T (fits f (fin s m e)) → HasValue (round f s (m * up e) (down e)) s (m * up e) (down e)
unfolding fits
round_own f s zero e h =
    let z : 0 * up e ≡ 0 = omega arith in
    rw z (round_zero f s (down e) (down_pos e))
round_own f s (suc m) e h =
    let a = eqb (suc m % 2) 1 in
    let b = ltb (suc m) (2 ^ prec f) in
    let c = leb (down e) (2 ^ low f) in
    let d = ltb (suc m * up e) (2 ^ suc (emax f) * down e) in
    let B : suc m < 2 ^ prec f = ltb→lt (suc m) (2 ^ prec f) (and_r a b (and_l (a && b) c (and_l (a && b && c) d h))) in
    let C : down e ≤ 2 ^ low f = leb→le (down e) (2 ^ low f) (and_r (a && b) c (and_l (a && b && c) d h)) in
    let D : suc m * up e < 2 ^ suc (emax f) * down e = ltb→lt (suc m * up e) (2 ^ suc (emax f) * down e) (and_r (a && b && c) d h) in
    let pl = place (low f) e C in
    let j = pl.0 in
    round_exact f s (suc m * up e) (down e) (suc m) j (down_pos e) B
    (rw (pow-add 2 (low f) (suc (emax f))) (below_top (suc m) (up e) (down e) (2 ^ low f) (2 ^ suc (emax f)) (2 ^ j) (down_pos e) (pow_pos (low f)) D (pl.1 (suc m))))
    (pl.1 (suc m))

-- a finite value that the format holds is what its own fraction rounds to
pub signed_own : (f : Format) (x : Float) → T (fits f x) → T (finite x) → T (eq (signed f (plus x) (minus x) (den x)) x)
signed_own f nan h k = absurd k
signed_own f (inf s) h k = absurd k
signed_own f (fin true m e) h k =
    let r = round f true (m * up e) (down e) in
    eq_trans (signed f 0 (m * up e) (down e)) r (fin true m e)
    (eq_sym r (signed f 0 (m * up e) (down e)) (round_minus f 0 (m * up e) (m * up e) (down e) (down_pos e) (omega arith)))
    (eq_of_values r (fin true m e) true (m * up e) (down e) (down_pos e) (round_own f true m e h) (refl, refl))
signed_own f (fin false m e) h k =
    let r = round f false (m * up e) (down e) in
    eq_trans (signed f (m * up e) 0 (down e)) r (fin false m e)
    (eq_sym r (signed f (m * up e) 0 (down e)) (round_plus f (m * up e) 0 (m * up e) (down e) (down_pos e) (omega arith)))
    (eq_of_values r (fin false m e) false (m * up e) (down e) (down_pos e) (round_own f false m e h) (refl, refl))

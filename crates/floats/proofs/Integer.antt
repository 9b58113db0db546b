-- Whole numbers as floats: their sign, their order, and where they are exact. Assumes nothing.
use mathlib.Core.Path.{◌≡◌, refl}
use mathlib.Core.Logic.{inr}
use Prim.Native.Nat.{ℕ, ◌+◌, ◌*◌, ◌^◌, ◌≤◌, ◌<◌}
use native.Mathlib.Nat.{mul-pos}
use native.Mathlib.Omega.{arith}
use mathlib.Core.Bool.{Bool, true, false, true≢false}
use lib.IntN.{pos}
use lib.Dec.{T}
use lib.Pow.{pow_pos}
use lib.Ieee.{Float, nan, inf, fin, Format, prec, round, add, mul, lt, eq, le, of_int}
use lib.Ieee.Fits.{down_pos}
use lib.Ieee.Scale.{finite}
use lib.Ieee.Exact.{HasValue}
use lib.Ieee.Order.{round_mono}
use lib.Ieee.Back.{round_whole}
use lib.Ieee.Positive.{den, den_pos}
use Rattle.floats.proofs.Parts.{zero, plus, minus}
use Rattle.floats.proofs.Compare.{Less→lt}
use Rattle.floats.proofs.Order.{lt_of_lt_of_le, eq_sym, eq_trans}
use Rattle.floats.proofs.Rounding.{signed, signed_same}
use Rattle.floats.proofs.Exact.{round_plus}
use Rattle.floats.proofs.Sum.{plus_sum, minus_sum, add_is}
use Rattle.floats.proofs.Product.{plus_product, minus_product, mul_is}
use Rattle.floats.proofs.Sign.{round_unsigned}
use Rattle.floats.proofs.Difference.{zero_le_unsigned}

-- n ≥ 0
pub of_int_nonneg : (f : Format) (n : ℕ) → T (le zero (of_int f (pos n)))
unfolding of_int
of_int_nonneg f n = zero_le_unsigned (round f false n 1) (round_unsigned f n 1)

-- m ≤ n as numbers gives m ≤ n as floats
pub of_int_mono : (f : Format) (m n : ℕ) → m ≤ n → T (le (of_int f (pos m)) (of_int f (pos n)))
unfolding of_int
of_int_mono f m n h = round_mono f m 1 n 1 (omega arith) (omega arith) (omega arith)

-- up to 2 ^ prec a whole number is exact
pub of_int_exact : (f : Format) (n : ℕ) → n ≤ 2 ^ prec f → HasValue (of_int f (pos n)) false n 1
unfolding of_int
of_int_exact f n h = round_whole f false n h

finite_of_value : (x : Float) (s : Bool) (a c : ℕ) → HasValue x s a c → T (finite x)
finite_of_value nan s a c h = h
finite_of_value (inf t) s a c h = h
finite_of_value (fin t m e) s a c h = tt

-- up to 2 ^ prec a whole number is finite
pub of_int_finite : (f : Format) (n : ℕ) → n ≤ 2 ^ prec f → T (finite (of_int f (pos n)))
of_int_finite f n h = finite_of_value (of_int f (pos n)) false n 1 (of_int_exact f n h)

positive_value : (x : Float) (a : ℕ) → HasValue x false a 1 → 0 < a → T (lt zero x)
positive_value nan a h p = absurd h
positive_value (inf t) a h p = absurd h
positive_value (fin true m e) a h p = absurd (true≢false h.0)
positive_value (fin false m e) a h p = Less→lt zero (fin false m e) tt tt (inr (refl, (let k = mul-pos p (down_pos e) in omega (arith, h.1))))

-- n > 0 as a number gives n > 0 as a float
pub of_int_positive : (f : Format) (n : ℕ) → 0 < n → T (lt zero (of_int f (pos n)))
of_int_positive f n h =
    lt_of_lt_of_le zero (of_int f (pos 1)) (of_int f (pos n)) (positive_value (of_int f (pos 1)) 1 (of_int_exact f 1 (pow_pos (prec f))) (omega arith)) (of_int_mono f 1 n h)

-- ---- sums, differences and products of whole numbers up to 2 ^ prec are rounded once from the true result, so they are exact up to 2 ^ prec too

of_value : (x : Float) (a : ℕ) → HasValue x false a 1 → (plus x ≡ a * den x) × (minus x ≡ 0)
of_value nan a h = absurd h
of_value (inf t) a h = absurd h
of_value (fin true m e) a h = absurd (true≢false h.0)
of_value (fin false m e) a h = (let k = h.1 in omega arith, refl)

rounded : (f : Format) (p n c k : ℕ) → 0 < c → p ≡ n + k * c → T (eq (signed f p n c) (of_int f (pos k)))
unfolding of_int
rounded f p n c k C h =
    eq_trans (signed f p n c) (signed f k 0 1) (round f false k 1) (signed_same f p n c k 0 1 C (omega arith) (omega arith))
    (eq_sym (round f false k 1) (signed f k 0 1) (round_plus f k 0 k 1 (omega arith) (omega arith)))

module _ (f : Format) (m n : ℕ) (M : m ≤ 2 ^ prec f) (N : n ≤ 2 ^ prec f) where
  -- m + n
  pub of_int_add : T (eq (add f (of_int f (pos m)) (of_int f (pos n))) (of_int f (pos (m + n))))
  of_int_add =
      let x = of_int f (pos m) in
      let y = of_int f (pos n) in
      let a = of_value x m (of_int_exact f m M) in
      let b = of_value y n (of_int_exact f n N) in
      let s = signed f (plus_sum x y) (minus_sum x y) (den x * den y) in
      eq_trans (add f x y) s (of_int f (pos (m + n))) (add_is f x y (of_int_finite f m M) (of_int_finite f n N))
      (rounded f (plus_sum x y) (minus_sum x y) (den x * den y) (m + n) (mul-pos (den_pos x) (den_pos y))
      (rw (a.0, b.0, a.1, b.1) (omega arith)))

  -- m * n
  pub of_int_mul : T (eq (mul f (of_int f (pos m)) (of_int f (pos n))) (of_int f (pos (m * n))))
  of_int_mul =
      let x = of_int f (pos m) in
      let y = of_int f (pos n) in
      let a = of_value x m (of_int_exact f m M) in
      let b = of_value y n (of_int_exact f n N) in
      let s = signed f (plus_product x y) (minus_product x y) (den x * den y) in
      eq_trans (mul f x y) s (of_int f (pos (m * n))) (mul_is f x y (of_int_finite f m M) (of_int_finite f n N))
      (rounded f (plus_product x y) (minus_product x y) (den x * den y) (m * n) (mul-pos (den_pos x) (den_pos y))
      (rw (a.0, b.0, a.1, b.1) (omega arith)))

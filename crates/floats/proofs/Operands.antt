-- A finite result has finite operands, and no finite number of binary64 is above the largest one: a small number beside it doesn't overflow. Assumes nothing.
use Prim.Native.Nat.{ℕ, zero, suc, ◌+◌, ◌-◌, ◌*◌, ◌%◌, ◌^◌, ◌≤◌, ◌<◌}
use native.Mathlib.Nat.{le_refl, le_trans, mul-le-mul, mul-le-mul_right, lt_of_mul-lt-mul_right, mul_assoc}
use native.Mathlib.Decide.{dec_le}
use native.Mathlib.Omega.{arith}
use mathlib.Core.Path.{◌≡◌, refl, sym, ap, ◌∙◌, subst}
use mathlib.Core.Bool.{Bool, true, false, cond, ◌&&◌}
use mathlib.Core.List.{List}
use lib.Dec.{T, eqb, leb, ltb, ltb→lt}
use lib.IntN.{ℤ, pos, negsuc}
use lib.ListN.{get_or}
use lib.Pow.{pow_pos, pow_mono, pow-add, le_ones}
use lib.Ieee.{Float, nan, inf, fin, Format, binary64, up, down, low, add, mul, neg, le, fits, of_bits, of_int}
use lib.Ieee.Fits.{and_l, and_r, neg-fits}
use lib.Ieee.Scale.{finite}
use Rattle.floats.specs.F64.{◌⊕◌}
use Rattle.floats.specs.Constants as Constants
use Rattle.floats.specs.Constants.{largest_finite}
use Rattle.floats.specs.Standins.{finite64}
use Rattle.floats.specs.Sum2.{sum2_step, sum2_after, sum2}
use Rattle.floats.proofs.Parts.{here}
use Rattle.floats.proofs.Order.{here→le}
use Rattle.floats.proofs.Sign.{neg_anti}
use Rattle.floats.proofs.Strict.{neg_finite}
use Rattle.floats.proofs.Range.{add_finite}
use Rattle.floats.proofs.Standins.{finite64_fits, finite64_finite}

-- ---- operands

pub sum_operands : (f : Format) (x y : Float) → T (finite (add f x y)) → T (finite x) × T (finite y)
unfolding add
sum_operands f nan y p = absurd p
sum_operands f (inf s) nan p = absurd p
sum_operands f (inf true) (inf true) p = absurd p
sum_operands f (inf true) (inf false) p = absurd p
sum_operands f (inf false) (inf true) p = absurd p
sum_operands f (inf false) (inf false) p = absurd p
sum_operands f (inf s) (fin t n d) p = absurd p
sum_operands f (fin s m e) nan p = absurd p
sum_operands f (fin s m e) (inf t) p = absurd p
sum_operands f (fin s m e) (fin t n d) p = (tt, tt)

-- neither way of a product with an infinity is finite
no_way : (b s : Bool) → T (finite (cond b nan (inf s))) → ⊥
no_way true s p = p
no_way false s p = p

pub product_operands : (f : Format) (x y : Float) → T (finite (mul f x y)) → T (finite x) × T (finite y)
unfolding mul
product_operands f nan y p = absurd p
product_operands f (inf s) nan p = absurd p
product_operands f (inf s) (inf t) p = absurd p
product_operands f (inf s) (fin t n d) p = absurd (no_way (eqb n 0) _ p)
product_operands f (fin s m e) nan p = absurd p
product_operands f (fin s m e) (inf t) p = absurd (no_way (eqb m 0) _ p)
product_operands f (fin s m e) (fin t n d) p = (tt, tt)

-- the last item of a finite Sum2
pub last_operand : (xs : List Float) (n : ℕ) → T (finite (sum2 xs (suc n))) → T (finite (get_or xs n nan))
unfolding sum2 sum2_after sum2_step
last_operand xs n p = (sum_operands _ _ _ (sum_operands _ _ _ p).0).1

-- ---- the largest one

module _ (p q m k : ℕ) (small : m < 2 ^ p) (bounded : m * 2 ^ k < 2 ^ (p + q)) where
  most : m * 2 ^ k ≤ (2 ^ p - 1) * 2 ^ q
  most = on (dec_le k q)
    where
      on : Dec (k ≤ q) → m * 2 ^ k ≤ (2 ^ p - 1) * 2 ^ q
      on (yes h) = mul-le-mul (le_ones p small) (pow_mono h)
      on (no h) =
          let d = k - q in
          let e : k ≡ d + q = omega arith in
          let s : m * 2 ^ k ≡ m * 2 ^ d * 2 ^ q = ap (λ (x : ℕ). m * 2 ^ x) e ∙ ap (λ (x : ℕ). m * x) (pow-add 2 d q) ∙ sym (mul_assoc m (2 ^ d) (2 ^ q)) in
          let b : m * 2 ^ d < 2 ^ p = lt_of_mul-lt-mul_right (2 ^ q) (rw (s, pow-add 2 p q) at bounded) in
          rw s (mul-le-mul_right (2 ^ q) (le_ones p b))

-- the two sides of the comparison with it
above_one : (a b : ℕ) → a ≤ b → a * 1 + 0 * 1 ≤ b * 1 + 0 * 1
above_one a b h = omega arith

below_one : (a b d : ℕ) → a ≤ b → 0 < d → a * 1 * 1 + 0 * d ≤ b * d + 0 * 1
below_one a b d h l =
    let k : b * 1 ≤ b * d = mul-le-mul (le_refl b) l in
    omega arith

two_of_four : (a b c d : Bool) → T (a && b && c && d) → T b × T d
two_of_four a b c d h = (and_r a b (and_l (a && b) c (and_l (a && b && c) d h)), and_r (a && b && c) d h)

-- what a format holds of a number that isn't 0
held : (s : Bool) (m : ℕ) (e : ℤ) → T (fits binary64 (fin s (suc m) e)) → (suc m < 2 ^ 53) × (suc m * up e < 2 ^ 1024 * down e)
unfolding fits
held s m e h =
    let p = two_of_four (eqb (suc m % 2) 1) (ltb (suc m) (2 ^ 53)) (leb (down e) (2 ^ low binary64)) (ltb (suc m * up e) (2 ^ 1024 * down e)) h in
    (ltb→lt (suc m) (2 ^ 53) p.0, ltb→lt (suc m * up e) (2 ^ 1024 * down e) p.1)

none_above : (c d b : ℕ) → 0 * c + 0 * d ≤ b
none_above c d b = omega arith

nothing_above : (u c d b : ℕ) → 0 * u * c + 0 * d ≤ b
nothing_above u c d b = omega arith

pub at_most_largest : (y : Float) → T (fits binary64 y) → T (finite y) → T (le y largest_finite)
unfolding of_bits
at_most_largest nan f p = absurd p
at_most_largest (inf s) f p = absurd p
at_most_largest (fin true m e) f p = here→le (fin true m e) largest_finite tt tt (none_above 1 (down e) (here largest_finite (fin true m e)))
at_most_largest (fin false zero e) f p = here→le (fin false zero e) largest_finite tt tt (nothing_above (up e) 1 (down e) (here largest_finite (fin false zero e)))
at_most_largest (fin false (suc m) (pos k)) f p =
    let h = held false m (pos k) f in
    here→le (fin false (suc m) (pos k)) largest_finite tt tt (above_one (suc m * 2 ^ k) ((2 ^ 53 - 1) * 2 ^ 971) (most 53 971 (suc m) k h.0 h.1))
at_most_largest (fin false (suc m) (negsuc k)) f p =
    let h = held false m (negsuc k) f in
    here→le (fin false (suc m) (negsuc k)) largest_finite tt tt
    (below_one (suc m) ((2 ^ 53 - 1) * 2 ^ 971) (2 ^ suc k) (le_trans (le_ones 53 h.0) (mul-le-mul (le_refl (2 ^ 53 - 1)) (pow_pos 971))) (pow_pos (suc k)))

twice_negative : (y : Float) → neg (neg y) ≡ y
unfolding neg
twice_negative nan = refl
twice_negative (inf true) = refl
twice_negative (inf false) = refl
twice_negative (fin true m e) = refl
twice_negative (fin false m e) = refl

pub at_least_lowest : (y : Float) → T (fits binary64 y) → T (finite y) → T (le (neg largest_finite) y)
at_least_lowest y f p =
    subst (λ (x : Float). T (le (neg largest_finite) x)) (twice_negative y)
    (neg_anti (neg y) largest_finite (at_most_largest (neg y) (neg-fits binary64 y f) (neg_finite y p)))

-- so a number from 0 to 2 ^ 28 beside a finite one doesn't overflow
abbrev pub aside : Float
aside = of_int binary64 (pos 268435456)

ends : T (finite (neg largest_finite)) × T (finite (add binary64 Constants.zero (neg largest_finite))) × T (finite (add binary64 aside largest_finite))
unfolding neg add of_bits of_int
ends = (tt, tt, tt)

aside_finite : T (finite aside) × T (finite largest_finite) × T (finite Constants.zero)
unfolding of_bits of_int
aside_finite = (tt, tt, tt)

pub small_beside : (x y : Float) → T (le Constants.zero x) → T (le x aside) → T (finite64 y) → T (finite (x ⊕ y))
small_beside x y low high h =
    let f = finite64_fits y h in
    let p = finite64_finite y h in
    add_finite binary64 Constants.zero x aside (neg largest_finite) y largest_finite aside_finite.2 aside_finite.0 ends.0 aside_finite.1 low high (at_least_lowest y f p) (at_most_largest y f p) ends.1 ends.2

-- Truncation from the bits: what `to_unsigned` gives of a bit pattern's value.
use mathlib.Core.Path.{◌≡◌, refl, sym, ◌∙◌, ap}
use mathlib.Core.Bool.{Bool, true, false, not, cond, true≢false}
use Prim.Native.Nat.{ℕ, zero, suc, min, ◌≤◌, ◌<◌, ◌+◌, ◌*◌, ◌-◌, ◌/◌, ◌%◌, ◌^◌}
use native.Mathlib.Omega.{arith}
use native.Mathlib.Nat.{mul-div-mul_right, mul-div_cancel, div-eq_of_lt, lt_of_lt_of_le, eq-or-lt_of_le, mod-eq_of_lt, add_comm, min-eq_left, min-eq_right, mul_assoc, le_trans, mul-le-mul}
use borrow.Author.Tests.{lt-leb, le-leb, ne_eqb}
use mathlib.Core.Logic.{⊎_elim}
use lib.Dec.{T, leb, eqb, lit≤}
use lib.Pow.{pow-add, pow_pos, pow_mono, shl_lt, shl_exact, shr_le, le_ones}
use lib.Ieee.{Float, nan, inf, fin, binary64, to_unsigned, is_nan, fits, to_bits, of_bits, of_fields, odd, up, down}
use lib.Ieee.Exact.{HasValue, odd_sign}
use lib.Ieee.Bits.{of_bits-to_bits}
use lib.Ieee.Nearest.{div_same}
use lib.Ieee.Fits.{down_pos}

-- of a value a / c
pub of_value : (w : ℕ) (x : Float) (a c : ℕ) → 0 < c → HasValue x false a c → to_unsigned w x ≡ min (a / c) (2 ^ w - 1)
unfolding to_unsigned
of_value w nan a c p v = absurd v
of_value w (inf t) a c p v = absurd v
of_value w (fin t m e) a c p v = rw (v.0, div_same (m * up e) (down e) a c (down_pos e) p v.1)

pub of_negative : (w : ℕ) (x : Float) (a c : ℕ) → HasValue x true a c → to_unsigned w x ≡ 0
unfolding to_unsigned
of_negative w nan a c v = absurd v
of_negative w (inf t) a c v = absurd v
of_negative w (fin t m e) a c v = rw v.0

-- ---- the fields of a pattern: the exponent's field e and the digits t

module _ (e t : ℕ) (h : t < 4503599627370496) where
  -- the value of a normal pattern
  normal : e < 2046 → HasValue (of_fields binary64 false (suc e) t) false ((4503599627370496 + t) * 2 ^ e) (2 ^ 1074)
  unfolding of_fields
  normal p =
      let d : eqb (suc e) 2047 ≡ false = ne_eqb (suc e) 2047 (λ q. omega arith) in
      rw d (odd_sign 53 false (4503599627370496 + t) e 1074)

  cut : e < 2046 → to_unsigned 64 (of_fields binary64 false (suc e) t) ≡ min ((4503599627370496 + t) * 2 ^ e / 2 ^ 1074) (2 ^ 64 - 1)
  cut p = of_value 64 _ _ _ (pow_pos 1074) (normal p)

  below_one : e < 1022 → to_unsigned 64 (of_fields binary64 false (suc e) t) ≡ 0
  below_one p =
      let m : 4503599627370496 + t < 2 ^ 53 = omega arith in
      let s : (4503599627370496 + t) * 2 ^ e < 2 ^ 1074 = lt_of_lt_of_le (shl_lt 53 e m) (pow_mono {i = 53 + e} {j = 1074} (omega arith)) in
      cut (omega arith) ∙ rw (div-eq_of_lt s)

  to_right : 1022 ≤ e → e < 1074 → to_unsigned 64 (of_fields binary64 false (suc e) t) ≡ (t + 4503599627370496) / 2 ^ (1075 - suc e)
  to_right p q =
      let k : 1075 - suc e + e ≡ 1074 = omega arith in
      let u : 2 ^ 1074 ≡ 2 ^ (1075 - suc e) * 2 ^ e = ap (λ (x : ℕ). 2 ^ x) (sym k) ∙ pow-add 2 (1075 - suc e) e in
      let v : (4503599627370496 + t) * 2 ^ e / 2 ^ 1074 ≡ (4503599627370496 + t) / 2 ^ (1075 - suc e) =
      ap (λ (x : ℕ). (4503599627370496 + t) * 2 ^ e / x) u ∙ mul-div-mul_right (4503599627370496 + t) (2 ^ (1075 - suc e)) (pow_pos e) in
      let w : (4503599627370496 + t) / 2 ^ (1075 - suc e) ≤ 2 ^ 64 - 1 = le_trans (shr_le (4503599627370496 + t) (1075 - suc e)) (omega arith) in
      cut (omega arith) ∙ ap (λ (x : ℕ). min x (2 ^ 64 - 1)) v ∙ min-eq_left w ∙ ap (λ (x : ℕ). x / 2 ^ (1075 - suc e)) (add_comm 4503599627370496 t)

  shifted : 1074 ≤ e → (4503599627370496 + t) * 2 ^ e / 2 ^ 1074 ≡ (t + 4503599627370496) * 2 ^ (suc e - 1075)
  shifted p =
      let k : suc e - 1075 + 1074 ≡ e = omega arith in
      let u : 2 ^ e ≡ 2 ^ (suc e - 1075) * 2 ^ 1074 = ap (λ (x : ℕ). 2 ^ x) (sym k) ∙ pow-add 2 (suc e - 1075) 1074 in
      ap (λ (x : ℕ). (4503599627370496 + t) * x / 2 ^ 1074) u
      ∙ ap (λ (x : ℕ). x / 2 ^ 1074) (sym (mul_assoc (4503599627370496 + t) (2 ^ (suc e - 1075)) (2 ^ 1074)))
      ∙ mul-div_cancel ((4503599627370496 + t) * 2 ^ (suc e - 1075)) (pow_pos 1074)
      ∙ ap (λ (x : ℕ). x * 2 ^ (suc e - 1075)) (add_comm 4503599627370496 t)

  to_left : 1074 ≤ e → e < 1086 → to_unsigned 64 (of_fields binary64 false (suc e) t) ≡ (t + 4503599627370496) * 2 ^ (suc e - 1075) % 2 ^ 64
  to_left p q =
      let m : t + 4503599627370496 < 2 ^ 53 = omega arith in
      let x : (t + 4503599627370496) * 2 ^ (suc e - 1075) % 2 ^ 64 ≡ (t + 4503599627370496) * 2 ^ (suc e - 1075) = shl_exact 53 (suc e - 1075) 64 m (omega arith) in
      let y : (t + 4503599627370496) * 2 ^ (suc e - 1075) ≤ 2 ^ 64 - 1 = le_ones 64 (lt_of_lt_of_le (shl_lt 53 (suc e - 1075) m) (pow_mono {i = 53 + (suc e - 1075)} {j = 64} (omega arith))) in
      cut (omega arith) ∙ ap (λ (z : ℕ). min z (2 ^ 64 - 1)) (shifted p) ∙ min-eq_left y ∙ sym x

  to_top : 1086 ≤ e → e < 2046 → to_unsigned 64 (of_fields binary64 false (suc e) t) ≡ 2 ^ 64 - 1
  to_top p q =
      let y : 2 ^ 52 * 2 ^ 12 ≤ (t + 4503599627370496) * 2 ^ (suc e - 1075) = let z : 2 ^ 52 ≤ t + 4503599627370496 = omega arith in mul-le-mul z (pow_mono {i = 12} {j = suc e - 1075} (omega arith)) in
      cut q ∙ ap (λ (z : ℕ). min z (2 ^ 64 - 1)) (shifted (omega arith)) ∙ min-eq_right (omega arith)

-- ---- by the exponent's field

small_zero : (t : ℕ) → t < 4503599627370496 → to_unsigned 64 (of_fields binary64 false 0 t) ≡ 0
unfolding of_fields
small_zero t h =
    let s : t * 2 ^ 0 < 2 ^ 1074 = lt_of_lt_of_le (shl_lt 52 0 h) (pow_mono {i = 52} {j = 1074} (lit≤ tt)) in
    of_value 64 _ _ _ (pow_pos 1074) (odd_sign 53 false t 0 1074) ∙ rw (div-eq_of_lt s)

small : (e t : ℕ) → t < 4503599627370496 → e < 1023 → to_unsigned 64 (of_fields binary64 false e t) ≡ 0
small (suc e) t h p = below_one e t h (omega arith)
small zero t h p = small_zero t h

right : (e t : ℕ) → t < 4503599627370496 → 1023 ≤ e → e < 1075 → to_unsigned 64 (of_fields binary64 false e t) ≡ (t + 4503599627370496) / 2 ^ (1075 - e)
right zero t h p q = absurd (omega arith)
right (suc e) t h p q = to_right e t h (omega arith) (omega arith)

left : (e t : ℕ) → t < 4503599627370496 → 1075 ≤ e → e < 1087 → to_unsigned 64 (of_fields binary64 false e t) ≡ (t + 4503599627370496) * 2 ^ (e - 1075) % 2 ^ 64
left zero t h p q = absurd (omega arith)
left (suc e) t h p q = to_left e t h (omega arith) (omega arith)

infinite : (t : ℕ) (z : Bool) → T (not (is_nan (cond z (inf false) nan))) → to_unsigned 64 (cond z (inf false) nan) ≡ 2 ^ 64 - 1
unfolding to_unsigned is_nan
infinite t true n = refl
infinite t false n = absurd n

last : (t : ℕ) → T (not (is_nan (of_fields binary64 false 2047 t))) → to_unsigned 64 (of_fields binary64 false 2047 t) ≡ 2 ^ 64 - 1
unfolding of_fields
last t n = infinite t (eqb t 0) n

high : (e t : ℕ) → t < 4503599627370496 → 1087 ≤ e → e < 2048 → T (not (is_nan (of_fields binary64 false e t))) → to_unsigned 64 (of_fields binary64 false e t) ≡ 2 ^ 64 - 1
high zero t h p q n = absurd (omega arith)
high (suc e) t h p q n =
    let le : e ≤ 2046 = omega arith in
    ⊎_elim (λ d. rw d (last t (rw d at n))) (λ a. to_top e t h (omega arith) a) (eq-or-lt_of_le le)

negative : (e t : ℕ) → to_unsigned 64 (of_fields binary64 true e t) ≡ 0
unfolding of_fields to_unsigned
negative zero t = of_negative 64 (odd 53 true t 0 1074) (t * 2 ^ 0) (2 ^ 1074) (odd_sign 53 true t 0 1074)
negative (suc e) t = go (eqb (suc e) 2047) (eqb t 0)
  where
    go : (a z : Bool) → to_unsigned 64 (cond a (cond z (inf true) nan) (odd 53 true (4503599627370496 + t) e 1074)) ≡ 0
    go true true = refl
    go true false = refl
    go false z = of_negative 64 (odd 53 true (4503599627370496 + t) e 1074) ((4503599627370496 + t) * 2 ^ e) (2 ^ 1074) (odd_sign 53 true (4503599627370496 + t) e 1074)

fields : (b : ℕ) → b < 9223372036854775808 → of_bits binary64 b ≡ of_fields binary64 false (b / 4503599627370496) (b % 4503599627370496)
unfolding of_bits
fields b p =
    let s : leb 9223372036854775808 b ≡ false = lt-leb _ _ p in
    let f : b % 9223372036854775808 ≡ b = mod-eq_of_lt p in
    rw (s, f)

fields_neg : (b : ℕ) → 9223372036854775808 ≤ b → of_bits binary64 b ≡ of_fields binary64 true (b % 9223372036854775808 / 4503599627370496) (b % 4503599627370496)
unfolding of_bits
fields_neg b p = let s : leb 9223372036854775808 b ≡ true = le-leb _ _ p in rw s

-- ---- what the code returns on each way

module _ (x : Float) (fit : fits binary64 x ≡ true) where
  whole : of_bits binary64 (to_bits binary64 x) ≡ x
  whole = of_bits-to_bits binary64 x (rw fit tt)

  to : {n : ℕ} → to_unsigned 64 (of_bits binary64 (to_bits binary64 x)) ≡ n → n ≡ to_unsigned 64 x
  to e = sym e ∙ ap (to_unsigned 64) whole

  pub trunc_negative : 9223372036854775808 ≤ to_bits binary64 x → 0 ≡ to_unsigned 64 x
  trunc_negative p = to (ap (to_unsigned 64) (fields_neg (to_bits binary64 x) p) ∙ negative _ _)

  module _ (p : to_bits binary64 x < 9223372036854775808) where
    at_fields : {n : ℕ} → to_unsigned 64 (of_fields binary64 false (to_bits binary64 x / 4503599627370496) (to_bits binary64 x % 4503599627370496)) ≡ n → n ≡ to_unsigned 64 x
    at_fields e = to (ap (to_unsigned 64) (fields (to_bits binary64 x) p) ∙ e)

    digits : to_bits binary64 x % 4503599627370496 < 4503599627370496
    digits = omega arith

    pub trunc_small : to_bits binary64 x / 4503599627370496 < 1023 → 0 ≡ to_unsigned 64 x
    trunc_small q = at_fields (small _ _ digits q)

    pub trunc_right :
        1023 ≤ to_bits binary64 x / 4503599627370496 →
        to_bits binary64 x / 4503599627370496 < 1075 →
        (to_bits binary64 x % 4503599627370496 + 4503599627370496) / 2 ^ (1075 - to_bits binary64 x / 4503599627370496) ≡ to_unsigned 64 x
    trunc_right q r = at_fields (right _ _ digits q r)

    pub trunc_left :
        1075 ≤ to_bits binary64 x / 4503599627370496 →
        to_bits binary64 x / 4503599627370496 < 1087 →
        (to_bits binary64 x % 4503599627370496 + 4503599627370496) * 2 ^ (to_bits binary64 x / 4503599627370496 - 1075) % 2 ^ 64 ≡ to_unsigned 64 x
    trunc_left q r = at_fields (left _ _ digits q r)

    pub trunc_top : 1087 ≤ to_bits binary64 x / 4503599627370496 → T (not (is_nan x)) → 2 ^ 64 - 1 ≡ to_unsigned 64 x
    trunc_top q n =
        let e : of_fields binary64 false (to_bits binary64 x / 4503599627370496) (to_bits binary64 x % 4503599627370496) ≡ x = sym (fields (to_bits binary64 x) p) ∙ whole in
        at_fields (high _ _ digits q (omega arith) (rw e n))

-- a NaN gives 0; what equals itself is no NaN
pub trunc_nan : (x : Float) → is_nan x ≡ true → 0 ≡ to_unsigned 64 x
unfolding is_nan to_unsigned
trunc_nan nan h = refl
trunc_nan (inf s) h = absurd (true≢false (sym h))
trunc_nan (fin s m e) h = absurd (true≢false (sym h))

pub not_nan : (x : Float) → is_nan x ≡ false → T (not (is_nan x))
not_nan x h = rw h tt

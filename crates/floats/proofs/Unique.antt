-- Two values that a format holds and that are equal are one value, or both are zeros. Assumes nothing.
use mathlib.Core.Path.{◌≡◌, refl, sym, ap, subst, ◌∙◌}
use mathlib.Core.Logic.{◌⊎◌, inl, inr}
use Prim.Native.Nat.{ℕ, zero, suc, ◌+◌, ◌*◌, ◌%◌, ◌^◌, ◌<◌}
use native.Mathlib.Nat.{mul_assoc, mul-one, pow-suc}
use native.Mathlib.Omega.{arith}
use mathlib.Core.Bool.{Bool, true, false, not, ◌&&◌, true≢false}
use lib.IntN.{ℤ, pos, negsuc}
use lib.Dec.{T, leb, ltb, eqb, eqb→eq, T_not}
use lib.Pow.{pow-add}
use lib.Ieee.{Float, nan, inf, fin, Format, prec, emax, low, up, down, eq, fits}
use lib.Ieee.Fits.{and_l}
use Rattle.floats.proofs.Parts as Parts
use Rattle.floats.proofs.Compare.{eq→Same, eq_numbers}
use Rattle.floats.proofs.Order.{here→le, le_antisym}
use Rattle.floats.proofs.SumLaws.{eq_inf, eq_finite}
use Rattle.floats.proofs.ProductOrder.{eq_sign}

-- ---- an odd number times a power of two is written in one way

even : (m t : ℕ) → m % 2 ≡ 1 → m ≡ 2 * t → ⊥
even m t o h = omega arith

odd_pow : (m n a b : ℕ) → m % 2 ≡ 1 → n % 2 ≡ 1 → m * 2 ^ a ≡ n * 2 ^ b → (m ≡ n) × (a ≡ b)
odd_pow m n zero zero o p h = (sym (mul-one m) ∙ h ∙ mul-one n, refl)
odd_pow m n zero (suc b) o p h = absurd (even m (n * 2 ^ b) o (let k = rw (pow-suc 2 b) at h in omega arith))
odd_pow m n (suc a) zero o p h = absurd (even n (m * 2 ^ a) p (let k = rw (pow-suc 2 a) at h in omega arith))
odd_pow m n (suc a) (suc b) o p h =
    let k : m * 2 ^ a ≡ n * 2 ^ b = (let l = rw (pow-suc 2 a, pow-suc 2 b) at h in omega arith) in
    let r = odd_pow m n a b o p k in
    (r.0, ap suc r.1)

no_sum_lem : (a b : ℕ) → a + suc b ≡ 0 → ⊥
no_sum_lem a b h = omega arith

same_exponent : (m n : ℕ) (e d : ℤ) → m % 2 ≡ 1 → n % 2 ≡ 1 → m * up e * down d ≡ n * up d * down e → (m ≡ n) × (e ≡ d)
same_exponent m n (pos a) (pos b) o p h = let r = odd_pow m n a b o p (omega arith) in (r.0, ap pos r.1)
same_exponent m n (pos a) (negsuc b) o p h =
    let r = odd_pow m n (a + suc b) 0 o p (ap (λ (z : ℕ). m * z) (pow-add 2 a (suc b)) ∙ sym (mul_assoc m (2 ^ a) (2 ^ suc b)) ∙ h ∙ mul-one (n * 1)) in
    absurd (no_sum_lem a b r.1)
same_exponent m n (negsuc a) (pos b) o p h =
    let r = odd_pow n m (b + suc a) 0 p o (ap (λ (z : ℕ). n * z) (pow-add 2 b (suc a)) ∙ sym (mul_assoc n (2 ^ b) (2 ^ suc a)) ∙ sym h ∙ mul-one (m * 1)) in
    absurd (no_sum_lem b a r.1)
same_exponent m n (negsuc a) (negsuc b) o p h = let r = odd_pow m n (suc b) (suc a) o p (omega arith) in (r.0, ap negsuc (omega (arith, r.1)))

-- a value that fits and is not zero has an odd significand
odd_significand : (f : Format) (s : Bool) (m : ℕ) (e : ℤ) → T (fits f (fin s m e)) → 0 < m → m % 2 ≡ 1
unfolding fits
odd_significand f s zero e t h = absurd (omega arith)
odd_significand f s (suc m) e t h =
    let a = eqb (suc m % 2) 1 in
    let b = ltb (suc m) (2 ^ prec f) in
    let c = leb (down e) (2 ^ low f) in
    let d = ltb (suc m * up e) (2 ^ suc (emax f) * down e) in
    eqb→eq (suc m % 2) 1 (and_l a b (and_l (a && b) c (and_l (a && b && c) d t)))

-- a zero, of either sign, equals zero
zero_eq : (s : Bool) (e : ℤ) → T (eq (fin s 0 e) Parts.zero)
zero_eq true e = le_antisym (fin true 0 e) Parts.zero (here→le (fin true 0 e) Parts.zero tt tt (omega arith)) (here→le Parts.zero (fin true 0 e) tt tt (omega arith))
zero_eq false e = le_antisym (fin false 0 e) Parts.zero (here→le (fin false 0 e) Parts.zero tt tt (omega arith)) (here→le Parts.zero (fin false 0 e) tt tt (omega arith))

eq_magnitude : (s t : Bool) (m n : ℕ) (e d : ℤ) → T (eq (fin s m e) (fin t n d)) → t ≡ s → m * up e * down d ≡ n * up d * down e
eq_magnitude true true m n e d h k = let r = (eq→Same (fin true m e) (fin true n d) h).1 in omega arith
eq_magnitude true false m n e d h k = absurd (true≢false (sym k))
eq_magnitude false true m n e d h k = absurd (true≢false k)
eq_magnitude false false m n e d h k = let r = (eq→Same (fin false m e) (fin false n d) h).1 in omega arith

finite_unique : (f : Format) (s t : Bool) (m n : ℕ) (e d : ℤ) → T (fits f (fin s m e)) → T (fits f (fin t n d)) → T (eq (fin s m e) (fin t n d)) → 0 < m → fin s m e ≡ fin t n d
finite_unique f s t m n e d p q h M =
    let r = eq_sign s t m n e d h M in
    let c : m * up e * down d ≡ n * up d * down e = eq_magnitude s t m n e d h r.0 in
    let k = same_exponent m n e d (odd_significand f s m e p M) (odd_significand f t n d q r.1) c in
    let z = sym r.0 in
    λ i. fin (z i) (k.0 i) (k.1 i)

-- equal values that a format holds are one value, where they are not zero
pub eq_unique : (f : Format) (x y : Float) → T (fits f x) → T (fits f y) → T (eq x y) → T (not (eq x Parts.zero)) → x ≡ y
eq_unique f nan y p q h k = absurd (eq_numbers nan y h).0
eq_unique f (inf s) y p q h k = sym (eq_inf s y h)
eq_unique f (fin s m e) nan p q h k = absurd (eq_numbers (fin s m e) nan h).1
eq_unique f (fin s m e) (inf t) p q h k = absurd (eq_finite (fin s m e) (inf t) h tt)
eq_unique f (fin s zero e) (fin t n d) p q h k = absurd (T_not (eq (fin s 0 e) Parts.zero) k (zero_eq s e))
eq_unique f (fin s (suc m) e) (fin t n d) p q h k = finite_unique f s t (suc m) n e d p q h (omega arith)

-- as a choice: one value, or two zeros
pub eq_cases : (f : Format) (x y : Float) → T (fits f x) → T (fits f y) → T (eq x y) → (x ≡ y) ⊎ T (eq x Parts.zero)
eq_cases f x y p q h = go (eq x Parts.zero) refl
  where
    go : (b : Bool) → eq x Parts.zero ≡ b → (x ≡ y) ⊎ T (eq x Parts.zero)
    go true e = inr (subst T (sym e) tt)
    go false e = inl (eq_unique f x y p q h (subst (λ (z : Bool). T (not z)) (sym e) tt))

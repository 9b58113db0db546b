-- `signed`, the rounding of a signed fraction (p - n) / c: it keeps the order, and it changes no value that the format holds. Assumes nothing.
use mathlib.Core.Path.{◌≡◌, refl}
use mathlib.Core.Logic.{◌⊎◌, inl, inr}
use Prim.Native.Nat.{ℕ, ◌+◌, ◌-◌, ◌*◌, ◌≤◌, ◌<◌}
use native.Mathlib.Nat.{mul-le-mul_right, mul-lt-mul_of_pos_right}
use native.Mathlib.Omega.{arith}
use mathlib.Core.Bool.{Bool, true, false, not, cond}
use lib.Dec.{T, ltb, ltb→lt, nltb→le}
use lib.Ieee.{Float, Format, round, eq, le}
use lib.Ieee.Order.{round_mono}
use Rattle.floats.proofs.Parts.{number}
use Rattle.floats.proofs.Order.{le_antisym}
use Rattle.floats.proofs.Sign.{neg_anti, neg_number, round_neg, round_unsigned, unsigned_number, neg_le_unsigned}

-- (p - n) / c, rounded. A zero is +0.
unfoldable pub signed : Format → ℕ → ℕ → ℕ → Float
signed f p n c = cond (ltb p n) (round f true (n - p) c) (round f false (p - n) c)

pub round_number : (f : Format) (s : Bool) (a c : ℕ) → T (number (round f s a c))
round_number f true a c = rw (round_neg f a c) (neg_number (round f false a c) (unsigned_number (round f false a c) (round_unsigned f a c)))
round_number f false a c = unsigned_number (round f false a c) (round_unsigned f a c)

-- ---- which `round` it is

pub signed_neg : (f : Format) (p n c : ℕ) → p < n → signed f p n c ≡ round f true (n - p) c
unfolding signed
signed_neg f p n c h = go (ltb p n) (nltb→le p n)
  where
    go : (b : Bool) → (T (not b) → n ≤ p) → cond b (round f true (n - p) c) (round f false (p - n) c) ≡ round f true (n - p) c
    go true k = refl
    go false k = absurd (let l = k tt in omega arith)

pub signed_pos : (f : Format) (p n c : ℕ) → n ≤ p → signed f p n c ≡ round f false (p - n) c
unfolding signed
signed_pos f p n c h = go (ltb p n) (ltb→lt p n)
  where
    go : (b : Bool) → (T b → p < n) → cond b (round f true (n - p) c) (round f false (p - n) c) ≡ round f false (p - n) c
    go true k = absurd (let l = k tt in omega arith)
    go false k = refl

-- below zero or not
pub neg_or_pos : (p n : ℕ) → (p < n) ⊎ (n ≤ p)
neg_or_pos p n = go (ltb p n) (ltb→lt p n) (nltb→le p n)
  where
    go : (b : Bool) → (T b → p < n) → (T (not b) → n ≤ p) → (p < n) ⊎ (n ≤ p)
    go true h k = inl (h tt)
    go false h k = inr (k tt)

pub signed_number : (f : Format) (p n c : ℕ) → T (number (signed f p n c))
signed_number f p n c = elim (neg_or_pos p n) [
  | inl h ↦ rw (signed_neg f p n c h) (round_number f true (n - p) c)
  | inr h ↦ rw (signed_pos f p n c h) (round_number f false (p - n) c)
]

-- ---- it keeps the order

off_minus : (p k c p' k' c' : ℕ) → p * c' + (p' + k') * c ≤ p' * c + (p + k) * c' → k' * c ≤ k * c'
off_minus p k c p' k' c' h = omega arith

off_plus : (n k c n' k' c' : ℕ) → (n + k) * c' + n' * c ≤ (n' + k') * c + n * c' → k * c' ≤ k' * c
off_plus n k c n' k' c' h = omega arith

crossed : (p n c p' n' c' : ℕ) → 0 < c → n ≤ p → p' < n' → p * c' + n' * c ≤ p' * c + n * c' → ⊥
crossed p n c p' n' c' C a b h = omega (arith, mul-le-mul_right c' a, mul-lt-mul_of_pos_right b C)

more : (p n : ℕ) → p ≤ n → n ≡ p + (n - p)
more p n h = omega arith

-- (p - n) / c ≤ (p' - n') / c' gives the same of what they round to
pub signed_mono : (f : Format) (p n c p' n' c' : ℕ) → 0 < c → 0 < c' → p * c' + n' * c ≤ p' * c + n * c' → T (le (signed f p n c) (signed f p' n' c'))
signed_mono f p n c p' n' c' C C' h = elim (neg_or_pos p n) [
  | inl a ↦ elim (neg_or_pos p' n') [
    | inl b ↦
        rw (signed_neg f p n c a, signed_neg f p' n' c' b, round_neg f (n - p) c, round_neg f (n' - p') c')
        (neg_anti (round f false (n' - p') c') (round f false (n - p) c) (round_mono f (n' - p') c' (n - p) c C' C
        (off_minus p (n - p) c p' (n' - p') c' (rw (more p n (omega arith), more p' n' (omega arith)) at h))))
    | inr b ↦
        rw (signed_neg f p n c a, signed_pos f p' n' c' b, round_neg f (n - p) c)
        (neg_le_unsigned (round f false (n - p) c) (round f false (p' - n') c') (round_unsigned f (n - p) c) (round_unsigned f (p' - n') c'))
  ]
  | inr a ↦ elim (neg_or_pos p' n') [
    | inl b ↦ absurd (crossed p n c p' n' c' C a b h)
    | inr b ↦
        rw (signed_pos f p n c a, signed_pos f p' n' c' b)
        (round_mono f (p - n) c (p' - n') c' C C' (off_plus n (p - n) c n' (p' - n') c' (rw (more n p a, more n' p' b) at h)))
  ]
]

-- equal fractions round to equal values
pub signed_same : (f : Format) (p n c p' n' c' : ℕ) → 0 < c → 0 < c' → p * c' + n' * c ≡ p' * c + n * c' → T (eq (signed f p n c) (signed f p' n' c'))
signed_same f p n c p' n' c' C C' h =
    le_antisym (signed f p n c) (signed f p' n' c') (signed_mono f p n c p' n' c' C C' (omega arith)) (signed_mono f p' n' c' p n c C' C (omega arith))

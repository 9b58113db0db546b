-- The numbers that an entry can give, from their bounds to a list.
use Prim.Native.Nat.{ℕ, ◌≤◌}
use native.Mathlib.Omega.{arith}
use native.Mathlib.Decide.{ℕ_discrete}
use mathlib.Core.Path.{◌≡◌}
use mathlib.Core.Logic.{◌⊎◌, inl, inr}
use mathlib.Core.List.{[], ◌∷◌}
use Rattle.card.specs.Card.{OneOf}

-- a number from 20 to 25, or 40
late : (n : ℕ) → 20 ≤ n → n ≤ 25 → OneOf (20 ∷ 21 ∷ 22 ∷ 23 ∷ 24 ∷ 25 ∷ 40 ∷ []) n
late n low high = on (ℕ_discrete n 20) (ℕ_discrete n 21) (ℕ_discrete n 22) (ℕ_discrete n 23) (ℕ_discrete n 24)
  where
    on : Dec (n ≡ 20) → Dec (n ≡ 21) → Dec (n ≡ 22) → Dec (n ≡ 23) → Dec (n ≡ 24) → OneOf (20 ∷ 21 ∷ 22 ∷ 23 ∷ 24 ∷ 25 ∷ 40 ∷ []) n
    on (yes e) b c d f = inl e
    on (no a) (yes e) c d f = inr (inl e)
    on (no a) (no b) (yes e) d f = inr (inr (inl e))
    on (no a) (no b) (no c) (yes e) f = inr (inr (inr (inl e)))
    on (no a) (no b) (no c) (no d) (yes e) = inr (inr (inr (inr (inl e))))
    on (no a) (no b) (no c) (no d) (no f) = inr (inr (inr (inr (inr (inl (omega arith))))))

forty : (n : ℕ) → n ≡ 40 → OneOf (20 ∷ 21 ∷ 22 ∷ 23 ∷ 24 ∷ 25 ∷ 40 ∷ []) n
forty n h = inr (inr (inr (inr (inr (inr (inl h))))))

pub among_call : (n : ℕ) → (((n ≡ 10) ⊎ (n ≡ 11)) ⊎ ((n ≡ 0) ⊎ ((20 ≤ n) × (n ≤ 25)))) ⊎ (n ≡ 40) → OneOf (0 ∷ 10 ∷ 11 ∷ 20 ∷ 21 ∷ 22 ∷ 23 ∷ 24 ∷ 25 ∷ 40 ∷ []) n
among_call n (inl (inl (inl h))) = inr (inl h)
among_call n (inl (inl (inr h))) = inr (inr (inl h))
among_call n (inl (inr (inl h))) = inl h
among_call n (inl (inr (inr h))) = inr (inr (inr (late n h.0 h.1)))
among_call n (inr h) = inr (inr (inr (forty n h)))

pub among_own : (n : ℕ) → ((n ≡ 10) ⊎ ((n ≡ 0) ⊎ ((20 ≤ n) × (n ≤ 25)))) ⊎ (n ≡ 40) → OneOf (0 ∷ 10 ∷ 20 ∷ 21 ∷ 22 ∷ 23 ∷ 24 ∷ 25 ∷ 40 ∷ []) n
among_own n (inl (inl h)) = inr (inl h)
among_own n (inl (inr (inl h))) = inl h
among_own n (inl (inr (inr h))) = inr (inr (late n h.0 h.1))
among_own n (inr h) = inr (inr (forty n h))

-- The refusals of a card: a card that is not accepted has one of them, and none of them is a number that an entry gives for another reason.
use Rattle.std.specs.Prelude.{Result, Ok, Err}
use mathlib.Core.Path.{◌≡◌, refl}
use mathlib.Core.Logic.{inl, inr}
use mathlib.Core.Bool.{Bool, true, false, cond}
use lib.Ieee.{lt, le}
use Rattle.floats.specs.Constants.{max_relative, tolerance, rated_ambient}
use Rattle.floats.specs.Standins.{nearly_equal}
use Prim.Native.Nat.{ℕ, ◌≤◌}
use native.Mathlib.Omega.{arith}
use Rattle.card.specs.Card.{card_in_range, card_verdict, verdict_number, card_refusal, CardRefusal}
use Rattle.refusals.specs.declared.Refusal.{Refusal}
use Rattle.refusals.specs.declared.Refusal.TheVariants.{CardOutOfRange, LowerAboveUpper, MaxTooLow, NothingToStore}
use Rattle.card.specs.declared.Card.{Card}

-- the verdict by its tests
abbrev tested : Bool → Bool → Bool → Bool → Bool → Result Unit Refusal
tested a b m d e = cond a (cond b (cond m (Err MaxTooLow) (cond d (Err NothingToStore) (cond e (Err NothingToStore) (Ok tt)))) (Err LowerAboveUpper)) (Err CardOutOfRange)

verdict_refusal : (a b m d e : Bool) → (verdict_number (tested a b m d e) ≡ 0 → ⊥) → CardRefusal (verdict_number (tested a b m d e))
unfolding verdict_number
verdict_refusal false b m d e h = inl refl
verdict_refusal true false m d e h = inr (inl refl)
verdict_refusal true true true d e h = inr (inr (inl refl))
verdict_refusal true true false true e h = inr (inr (inr (inl refl)))
verdict_refusal true true false false true h = inr (inr (inr (inl refl)))
verdict_refusal true true false false false h = absurd (h refl)

pub card_refusal_lem : (version : ℕ) (c : Card) → (card_refusal version c ≡ 0 → ⊥) → CardRefusal (card_refusal version c)
unfolding card_refusal card_verdict
card_refusal_lem version c h =
    verdict_refusal (card_in_range c) (le c.lower c.upper) (le c.max rated_ambient) (lt c.max c.reference)
    (nearly_equal c.max c.reference tolerance max_relative) h

verdict_few : (a b m d e : Bool) → verdict_number (tested a b m d e) ≤ 4
unfolding verdict_number
verdict_few false b m d e = omega arith
verdict_few true false m d e = omega arith
verdict_few true true true d e = omega arith
verdict_few true true false true e = omega arith
verdict_few true true false false true = omega arith
verdict_few true true false false false = omega arith

-- the fields' refusals are 1 to 4
pub card_refusal_few : (version : ℕ) (c : Card) → card_refusal version c ≤ 4
unfolding card_refusal card_verdict
card_refusal_few version c =
    verdict_few (card_in_range c) (le c.lower c.upper) (le c.max rated_ambient) (lt c.max c.reference)
    (nearly_equal c.max c.reference tolerance max_relative)

-- 0 is an answer, 10, 11 and 40 are the caller's
pub card_refusal_own : (r : ℕ) → CardRefusal r → (r ≡ 0 → ⊥) × (r ≡ 10 → ⊥) × (r ≡ 11 → ⊥) × (r ≡ 40 → ⊥)
card_refusal_own r (inl e) = (λ z. omega arith, λ z. omega arith, λ z. omega arith, λ z. omega arith)
card_refusal_own r (inr (inl e)) = (λ z. omega arith, λ z. omega arith, λ z. omega arith, λ z. omega arith)
card_refusal_own r (inr (inr (inl e))) = (λ z. omega arith, λ z. omega arith, λ z. omega arith, λ z. omega arith)
card_refusal_own r (inr (inr (inr (inl e)))) = (λ z. omega arith, λ z. omega arith, λ z. omega arith, λ z. omega arith)
card_refusal_own r (inr (inr (inr (inr (inl e))))) = (λ z. omega arith, λ z. omega arith, λ z. omega arith, λ z. omega arith)
card_refusal_own r (inr (inr (inr (inr (inr x5))))) = elim x5 [ ]

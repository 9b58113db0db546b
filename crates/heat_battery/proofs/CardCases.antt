-- The number of a card by document 01's cases 1 to 4.
use Rattle.std.specs.Prelude.{Err, Ok}
use mathlib.Core.Path.{◌≡◌, refl}
use mathlib.Core.Bool.{Bool, true, false, cond}
use mathlib.Core.Logic.{◌⊎◌, inl, inr}
use Prim.Native.Nat.{ℕ}
use lib.Dec.{T}
use lib.Ieee.{Float, of_bits, lt, le}
use Rattle.floats.specs.Constants.{max_relative, tolerance, rated_ambient}
use Rattle.floats.specs.Standins.{nearly_equal}
use Rattle.floats.proofs.Parts.{number}
use Rattle.floats.proofs.Compare.{le_number_r}
use Rattle.floats.proofs.Order.{le_is_not_lt, lt_is_not_le}
use Rattle.card.specs.Ranges.{within, coldest, hottest, is_temperature}
use Rattle.card.specs.Card.{counts_in_range, times_in_range, temperatures_in_range, card_in_range, card_verdict, verdict_number, card_refusal}
use Rattle.refusals.specs.declared.Refusal.TheVariants.{CardOutOfRange, LowerAboveUpper, MaxTooLow, NothingToStore}
use Rattle.card.specs.declared.Card.{Card}
use Rattle.logic.proofs.Tests.{and_true}

abbrev NothingStored : Card → Type 0
NothingStored c = (lt c.max c.reference ≡ true) ⊎ (nearly_equal c.max c.reference tolerance max_relative ≡ true)

-- by which of its tests a card has its number
pub data CardWay (c : Card) (n : ℕ) : Type 0 where
  out_of_range : card_in_range c ≡ false → n ≡ 1 → CardWay c n
  lower_above : card_in_range c ≡ true → le c.lower c.upper ≡ false → n ≡ 2 → CardWay c n
  max_low : card_in_range c ≡ true → le c.lower c.upper ≡ true → le c.max rated_ambient ≡ true → n ≡ 3 → CardWay c n
  nothing : card_in_range c ≡ true → le c.lower c.upper ≡ true → le c.max rated_ambient ≡ false → NothingStored c → n ≡ 4 → CardWay c n
  accepted : n ≡ 0 → CardWay c n

way : (c : Card) (p q m d e : Bool) → card_in_range c ≡ p → le c.lower c.upper ≡ q → le c.max rated_ambient ≡ m → lt c.max c.reference ≡ d
    → nearly_equal c.max c.reference tolerance max_relative ≡ e
    → CardWay c (verdict_number (cond p (cond q (cond m (Err MaxTooLow) (cond d (Err NothingToStore) (cond e (Err NothingToStore) (Ok tt)))) (Err LowerAboveUpper)) (Err CardOutOfRange)))
unfolding verdict_number
way c false q m d e h₁ h₂ h₃ h₄ h₅ = out_of_range h₁ refl
way c true false m d e h₁ h₂ h₃ h₄ h₅ = lower_above h₁ h₂ refl
way c true true true d e h₁ h₂ h₃ h₄ h₅ = max_low h₁ h₂ h₃ refl
way c true true false true e h₁ h₂ h₃ h₄ h₅ = nothing h₁ h₂ h₃ (inl h₄) refl
way c true true false false true h₁ h₂ h₃ h₄ h₅ = nothing h₁ h₂ h₃ (inr h₅) refl
way c true true false false false h₁ h₂ h₃ h₄ h₅ = accepted refl

pub card_way : (version : ℕ) (c : Card) → CardWay c (card_refusal version c)
unfolding card_refusal card_verdict
card_way version c =
    way c (card_in_range c) (le c.lower c.upper) (le c.max rated_ambient) (lt c.max c.reference)
    (nearly_equal c.max c.reference tolerance max_relative) refl refl refl refl refl

module _ (version : ℕ) (c : Card) where
  pub card_1 : card_in_range c ≡ false → card_refusal version c ≡ 1
  unfolding card_refusal card_verdict verdict_number
  card_1 h = rw h

  module _ (h : card_in_range c ≡ true) where
    pub card_2 : le c.lower c.upper ≡ false → card_refusal version c ≡ 2
    unfolding card_refusal card_verdict verdict_number
    card_2 k = rw (h, k)

    module _ (k : le c.lower c.upper ≡ true) where
      pub card_3 : le c.max rated_ambient ≡ true → card_refusal version c ≡ 3
      unfolding card_refusal card_verdict verdict_number
      card_3 l = rw (h, k, l)

      pub card_4 : le c.max rated_ambient ≡ false → NothingStored c → card_refusal version c ≡ 4
      card_4 l s = on s (lt c.max c.reference) refl
        where
          on : NothingStored c → (t : Bool) → lt c.max c.reference ≡ t → card_refusal version c ≡ 4
          on s true e = unfold card_refusal card_verdict verdict_number in rw (h, k, l, e)
          on (inl x) false e = unfold card_refusal card_verdict verdict_number in rw (h, k, l, x)
          on (inr x) false e = unfold card_refusal card_verdict verdict_number in rw (h, k, l, e, x)

-- ---- temperatures in range are numbers, so that 'above' is 'not at most'

temperature_number : (x : Float) → is_temperature x ≡ true → T (number x)
unfolding is_temperature within
temperature_number x h = le_number_r coldest x (rw (and_true (le coldest x) (le x hottest) h).0 tt)

module _ (c : Card) (h : card_in_range c ≡ true) where
  temperatures : temperatures_in_range c ≡ true
  unfolding card_in_range
  temperatures =
      let p = and_true (counts_in_range c) _ h in
      let q = and_true (times_in_range c) _ p.1 in
      (and_true (temperatures_in_range c) _ q.1).0

  numbers : T (number c.max) × T (number c.lower) × T (number c.upper)
  unfolding temperatures_in_range
  numbers =
      let p₁ = and_true (is_temperature c.inlet) _ temperatures in
      let p₂ = and_true (is_temperature c.outlet) _ p₁.1 in
      let p₃ = and_true (is_temperature c.max) _ p₂.1 in
      let p₄ = and_true (is_temperature c.reference) _ p₃.1 in
      let p₅ = and_true (is_temperature c.lower) _ p₄.1 in
      let p₆ = and_true (is_temperature c.upper) (is_temperature c.start) p₅.1 in
      (temperature_number c.max p₃.0, temperature_number c.lower p₅.0, temperature_number c.upper p₆.0)

  ambient_number : T (number rated_ambient)
  unfolding of_bits
  ambient_number = tt

  pub lower_above_is : (le c.lower c.upper ≡ false → lt c.upper c.lower ≡ true) × (lt c.upper c.lower ≡ true → le c.lower c.upper ≡ false)
  lower_above_is =
      let e = le_is_not_lt c.lower c.upper numbers.1 numbers.2 in
      let f = lt_is_not_le c.upper c.lower numbers.2 numbers.1 in
      (λ k. rw (f, k), λ k. rw (e, k))

  pub max_above_is : (le c.max rated_ambient ≡ false → lt rated_ambient c.max ≡ true) × (lt rated_ambient c.max ≡ true → le c.max rated_ambient ≡ false)
  max_above_is =
      let e = le_is_not_lt c.max rated_ambient numbers.0 ambient_number in
      let f = lt_is_not_le rated_ambient c.max ambient_number numbers.0 in
      (λ k. rw (f, k), λ k. rw (e, k))

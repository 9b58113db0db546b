-- An accepted card as one test.
use Rattle.std.specs.Prelude.{Err, Ok}
use mathlib.Core.Path.{◌≡◌, refl, ◌∙◌}
use mathlib.Core.Bool.{Bool, true, false, cond, ◌&&◌, not}
use Prim.Native.Nat.{ℕ}
use lib.Dec.{T, eqb}
use lib.Ieee.{binary64, fits, of_bits, mul, le, lt}
use Rattle.floats.specs.F64.{◌⊖◌, ◌⊗◌}
use Rattle.floats.specs.Constants.{rated_ambient, tolerance, max_relative}
use Rattle.floats.specs.Standins.{nearly_equal}
use Rattle.floats.proofs.Order.{lt_is_not_le, finite_number}
use Rattle.floats.proofs.Standins.{finite64_finite}
use Rattle.floats.proofs.Clearly.{clearly_above_is}
use Rattle.card.specs.Ranges.{hottest}
use Rattle.refusals.specs.declared.Refusal.TheVariants.{CardOutOfRange, LowerAboveUpper, MaxTooLow, NothingToStore}
use Rattle.card.specs.declared.Card.{Card}
use Rattle.card.specs.Card.{card_in_range, card_verdict, verdict_number, card_refusal}
use Rattle.card.proofs.Accepted.{in_range, each_temperature}
use Rattle.card.proofs.Within.{temperature_finite, temperature_magnitude}

number_0 : (a b c d e : Bool) →
    eqb (verdict_number (cond a (cond b (cond c (Err MaxTooLow) (cond d (Err NothingToStore) (cond e (Err NothingToStore) (Ok tt)))) (Err LowerAboveUpper)) (Err CardOutOfRange))) 0
    ≡ (a && (b && (not c && (not d && not e))))
unfolding verdict_number
number_0 true true true d e = refl
number_0 true true false true e = refl
number_0 true true false false true = refl
number_0 true true false false false = refl
number_0 true false c d e = refl
number_0 false b c d e = refl

-- only where the ranges hold must the tests after them agree
where_in_range : (a b s t : Bool) → (a ≡ true → s ≡ t) → (a && (b && s)) ≡ (a && (b && t))
where_in_range true b s t h = rw (h refl)
where_in_range false b s t h = refl

-- 250 × 2^-52 is at most 1e-10
relative_small : T (le (hottest ⊗ max_relative) tolerance)
unfolding of_bits mul le lt
relative_small = tt

module _ (c : Card) (max-fits : T (fits binary64 c.max)) (reference-fits : T (fits binary64 c.reference)) where
  -- above 20, not below ref and not nearly equal to it: two comparisons
  stores_is :
      card_in_range c ≡ true →
      (not (le c.max rated_ambient) && (not (lt c.max c.reference) && not (nearly_equal c.max c.reference tolerance max_relative)))
      ≡ (lt rated_ambient c.max && lt tolerance (c.max ⊖ c.reference))
  stores_is h =
      let t = each_temperature c (in_range c h).2 in
      let m = temperature_finite c.max t.2 max-fits in
      rw (
        clearly_above_is c.max c.reference hottest tolerance max_relative m (temperature_finite c.reference t.3 reference-fits)
            (temperature_magnitude c.max t.2) (temperature_magnitude c.reference t.3) (unfold of_bits le lt in tt) (unfold of_bits le lt in tt) relative_small,
        lt_is_not_le rated_ambient c.max (unfold of_bits in tt) (finite_number c.max (finite64_finite c.max m)),
      )

  pub accepted_is : (version : ℕ) →
      eqb (card_refusal version c) 0
      ≡ (card_in_range c && (le c.lower c.upper && (lt rated_ambient c.max && lt tolerance (c.max ⊖ c.reference))))
  unfolding card_refusal card_verdict
  accepted_is version =
      number_0 (card_in_range c) (le c.lower c.upper) (le c.max rated_ambient) (lt c.max c.reference) (nearly_equal c.max c.reference tolerance max_relative)
      ∙ where_in_range (card_in_range c) (le c.lower c.upper) _ _ stores_is

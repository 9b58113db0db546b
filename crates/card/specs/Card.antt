-- Document 01, 'Card' and refusals 1 to 4. The version is the sheet's.
use Rattle.std.specs.Prelude.{ℕ, ◌≡◌, Bool, cond, ◌&&◌, List, [], ◌∷◌, ◌⊎◌, leb, Result, Ok, Err}
use Rattle.std.specs.Float.Ieee.{lt, le}
use Rattle.refusals.specs.Number.{refused_number}
use Rattle.refusals.specs.Refusals.{card_out_of_range, lower_above_upper, max_too_low, nothing_to_store, bad_services}
use Rattle.floats.specs.Constants.{max_relative, tolerance, rated_ambient}
use Rattle.floats.specs.Standins.{nearly_equal}
use Rattle.card.specs.Ranges.{is_substep, is_timestep, is_temperature, is_capacity, is_velocity, is_diameter, is_coefficient, is_flow, is_power}
use Rattle.refusals.specs.declared.Refusal.{Refusal}
use Rattle.refusals.specs.declared.Refusal.TheVariants.{CardOutOfRange, LowerAboveUpper, MaxTooLow, NothingToStore}
use Rattle.card.specs.declared.Card.{Card}

-- 'layers (u8, 1..64), units (u16, 1..1000), simultaneous (u8, 0 or 1), budget (u16, 1..65535)'
unfoldable pub counts_in_range : Card → Bool
counts_in_range card =
    leb 1 card.layers && (leb card.layers 64 && (leb 1 card.units && (leb card.units 1000 && (leb card.simultaneous 1
    && (leb 1 card.budget && leb card.budget 65535)))))

-- substep and timestep
unfoldable pub times_in_range : Card → Bool
times_in_range card = is_substep card.substep && is_timestep card.timestep

-- 'initial inlet, estimated outlet, max, ref, lower, upper', and the start temperature
unfoldable pub temperatures_in_range : Card → Bool
temperatures_in_range card =
    is_temperature card.inlet && (is_temperature card.outlet && (is_temperature card.max && (is_temperature card.reference
    && (is_temperature card.lower && (is_temperature card.upper && is_temperature card.start)))))

-- totals below, during, above
unfoldable pub capacities_in_range : Card → Bool
capacities_in_range card = is_capacity card.below && (is_capacity card.during && is_capacity card.above)

-- velocity, diameter, a, b, flow
unfoldable pub exchanger_in_range : Card → Bool
exchanger_in_range card =
    is_velocity card.velocity && (is_diameter card.diameter && (is_coefficient card.a && (is_coefficient card.b && is_flow card.flow)))

-- losses, power
unfoldable pub powers_in_range : Card → Bool
powers_in_range card = is_power card.losses && is_power card.power

-- every field finite and in range, both ends in
unfoldable pub card_in_range : Card → Bool
card_in_range card =
    counts_in_range card && (times_in_range card && (temperatures_in_range card && (capacities_in_range card && (exchanger_in_range card && powers_in_range card))))

-- '1 a field not finite or out of range; 2 lower above upper; 3 max at most 20; 4 max below ref or nearly equal to it (epsilon 1e-10). Tested in this order.'
unfoldable pub card_verdict : ℕ → Card → Result Unit Refusal
card_verdict version card =
    cond (card_in_range card)
    (cond (le card.lower card.upper)
    (cond (le card.max rated_ambient)
    (Err MaxTooLow)
    (cond (lt card.max card.reference)
    (Err NothingToStore)
    (cond (nearly_equal card.max card.reference tolerance max_relative)
    (Err NothingToStore)
    (Ok tt))))
    (Err LowerAboveUpper))
    (Err CardOutOfRange)

-- document 01's numbers, 0 for none
unfoldable pub verdict_number : Result Unit Refusal → ℕ
verdict_number verdict = refused_number verdict

unfoldable pub card_refusal : ℕ → Card → ℕ
card_refusal version card = verdict_number (card_verdict version card)

-- one of these numbers
abbrev pub OneOf : List ℕ → ℕ → Type 0
OneOf [] n = ⊥
OneOf (x ∷ xs) n = (n ≡ x) ⊎ OneOf xs n

-- the refusals of a card, with document 02's 61 for the services that it lists
abbrev pub card_refusals : List ℕ
card_refusals = card_out_of_range ∷ lower_above_upper ∷ max_too_low ∷ nothing_to_store ∷ bad_services ∷ []

abbrev pub CardRefusal : ℕ → Type 0
CardRefusal r = OneOf card_refusals r

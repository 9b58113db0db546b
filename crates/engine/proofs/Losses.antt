-- The losses of an accepted card are not negative, and no heat of a charger.
use Rattle.std.specs.Prelude.{Option}
use mathlib.Core.Path.{◌≡◌}
use mathlib.Core.Bool.{true, false}
use Prim.Native.Nat.{ℕ}
use lib.Dec.{T}
use lib.Ieee.{Float, binary64, of_bits, lt, le}
use Rattle.floats.specs.F64.{◌⊗◌}
use Rattle.floats.specs.Constants.{zero, hour}
use Rattle.floats.proofs.Apart.{mul_number_positive}
use Rattle.floats.proofs.Compare.{le_number_r}
use Rattle.floats.proofs.Difference.{neg_nonpos}
use Rattle.floats.proofs.Order.{le_trans}
use Rattle.floats.proofs.ProductLaws.{mul_nonneg}
use Rattle.card.specs.Ranges.{hundredth, day, is_substep, is_timestep, is_power}
use Rattle.card.specs.Card.{times_in_range, powers_in_range, card_refusal}
use Rattle.card.specs.declared.Card.{Card}
use Rattle.card.proofs.Accepted.{accepted}
use Rattle.logic.proofs.Tests.{and_true}
use Rattle.card.proofs.Within.{within_low, power_nonneg}
use Rattle.battery.specs.declared.Battery.{Battery}
use Rattle.substep.specs.Substep.{charger_heat}
use Rattle.substep.proofs.Charger.{charger_not_negative}
use Rattle.runs.specs.Charge.{loss_input}

-- seconds of hours that are not negative
pub seconds_nonneg : (hours : Float) → T (le zero hours) → T (le zero (hours ⊗ hour))
unfolding of_bits lt le
seconds_nonneg hours h = mul_nonneg binary64 hours hour (mul_number_positive binary64 hours hour (le_number_r zero hours h) tt tt) h tt

pub losses_nonneg : (c : Card) → powers_in_range c ≡ true → T (le zero c.losses)
unfolding powers_in_range
losses_nonneg c h = power_nonneg c.losses (and_true (is_power c.losses) (is_power c.power) h).0

pub timestep_nonneg : (c : Card) → times_in_range c ≡ true → T (le zero c.timestep)
unfolding times_in_range is_timestep of_bits le
timestep_nonneg c h =
    le_trans zero hundredth c.timestep tt (within_low hundredth day c.timestep (and_true (is_substep c.substep) (is_timestep c.timestep) h).1)

pub no_charger : (version : ℕ) (b : Battery) → card_refusal version b.card ≡ 0 → (floor : Option Float) → lt (charger_heat (loss_input b.card floor)).0 zero ≡ false
unfolding loss_input of_bits
no_charger version b h floor =
    let c = accepted version b.card h in
    charger_not_negative (loss_input b.card floor) (neg_nonpos b.card.losses (losses_nonneg b.card c.powers)) (seconds_nonneg b.card.timestep (timestep_nonneg b.card c.times))

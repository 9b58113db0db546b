-- A standing loss warms no zone, and an electric charge cools none: every zone, over rounding, answered or refused. With a floor a loss leaves no zone under it that
-- wasn't there.
use mathlib.Core.Path.{◌≡◌, refl}
use mathlib.Core.Bool.{Bool, true, false}
use Prim.Native.Nat.{ℕ, ◌≤◌, ◌<◌}
use native.Mathlib.Omega.{arith}
use lib.Dec.{T, eqb}
use lib.ListN.{length, get_or}
use lib.Ieee.{Float, nan, of_bits, lt, le}
use Rattle.floats.specs.Constants.{zero, room_temperature}
use Rattle.floats.specs.Standins.{finite64, max_zero}
use Rattle.logic.proofs.Branch.{by_test}
use Rattle.floats.proofs.Difference.{neg_nonpos}
use Rattle.floats.proofs.Order.{le_refl, finite_number}
use Rattle.floats.proofs.Standins.{finite64_finite, max_zero_nonneg}
use Rattle.zone.specs.Good.{GoodSalt}
use Rattle.zone.specs.Layer.{salt_at}
use Rattle.card.specs.Derived.{salts_of, derived}
use Rattle.card.specs.Fits.{CardFits}
use Rattle.card.specs.Ranges.{is_power}
use Rattle.card.proofs.Accepted.{accepted, accepted_layers}
use Rattle.card.proofs.Salt.{salts_good}
use Rattle.logic.proofs.Tests.{and_true, holds}
use Rattle.card.proofs.Within.{power_nonneg}
use Rattle.battery.specs.Answer.{refused_with, answer_finite}
use Rattle.battery.specs.Battery.{GoodBattery}
use Rattle.battery.specs.Call.{is_level, call_in_range}
use Rattle.battery.specs.declared.Answer.{Answer}
use Rattle.battery.specs.Ledger.{ledger_of}
use Rattle.battery.specs.declared.Battery.{Battery}
use Rattle.battery.specs.declared.Call.TheVariants.{ChargeElectric, HeatLoss}
use Rattle.battery.proofs.Accepted.{AcceptedBattery, accepted_battery}
use Rattle.battery.proofs.Zones.{zones_finite_at}
use Rattle.substep.proofs.Warmth.{losses_warm_none, losses_stop, charging_cools_none}
use Rattle.runs.specs.declared.End.{End}
use Rattle.runs.specs.Runs.{end_refusal, time_available}
use Rattle.zone_update.proofs.Floors.{GoodFloor}
use Rattle.runs.specs.Charge.{electric_input, electric_ended, charge_electric, charge_battery, loss_floor, loss_input, loss_ended, battery_heat_loss}
use Rattle.engine_replies.specs.Replies.{checked, unless_refused, run_answer, charged_battery, cooled_battery}
use Rattle.engine.specs.Steps.{charge, heat_loss, step_of}
use Rattle.engine.proofs.Losses.{seconds_nonneg, losses_nonneg, timestep_nonneg}
use Rattle.runs.specs.declared.Source.TheVariants.{Electric}

-- what holds of the answer and of every refusal line
pub by_refusal :
    (P : Answer → Type 0) (b : Battery) (end : End) (a : Answer) → P a → ((n : ℕ) → P (refused_with n b)) → P (unless_refused b end a)
unfolding unless_refused checked
by_refusal P b end a h k =
    by_test P (eqb (end_refusal end) 0) _ _
    (λ t. by_test P (answer_finite a) _ _ (λ u. h) (λ u. k 23))
    (λ t. k (end_refusal end))

-- 16 °C is a number
good_floor : (floor : Bool) → GoodFloor (loss_floor floor)
unfolding loss_floor of_bits
good_floor true = tt
good_floor false = tt

module _ (version : ℕ) (b : Battery) (g : GoodBattery version b) (f : CardFits b.card) where
  battery_accepted_lem : AcceptedBattery version b
  battery_accepted_lem = accepted_battery version b g.accepted

  salts : (j : ℕ) → j < b.card.layers → GoodSalt (salt_at (salts_of b.card) j)
  salts = salts_good version b.card battery_accepted_lem.card f

  places : b.card.layers ≤ length b.zones
  places = let n = accepted_layers version b.card battery_accepted_lem.card in let p = g.places in omega arith

  finite : (i : ℕ) → i < b.card.layers → T (finite64 (get_or b.zones i nan))
  finite i l = holds (zones_finite_at b.zones b.card.layers battery_accepted_lem.zones i l)

  pub as_before : (i : ℕ) → i < b.card.layers → T (le (get_or b.zones i nan) (get_or b.zones i nan))
  as_before i l =
      let t = get_or b.zones i nan in
      le_refl t (finite_number t (finite64_finite t (finite i l)))

  pub loss_warms_none : (floor : Bool) (i : ℕ) → i < b.card.layers → T (le (get_or (step_of version b (HeatLoss floor)).battery.zones i nan) (get_or b.zones i nan))
  unfolding step_of heat_loss battery_heat_loss loss_ended run_answer cooled_battery refused_with loss_input of_bits
  loss_warms_none floor i l =
      let c = accepted version b.card battery_accepted_lem.card in
      by_refusal (λ (a : Answer). T (le (get_or a.battery.zones i nan) (get_or b.zones i nan))) b (battery_heat_loss b floor).part.end _
      (losses_warm_none b.card (derived b.card) (salt_at (salts_of b.card)) (loss_input b.card (loss_floor floor)) b.zones salts
      (seconds_nonneg b.card.timestep (timestep_nonneg b.card c.times)) places finite (loss_floor floor) (good_floor floor) refl (neg_nonpos b.card.losses (losses_nonneg b.card c.powers)) i l)
      (λ n. as_before i l)

  -- a zone under the floor after a loss was there, and stayed
  pub loss_stops : (i : ℕ) → i < b.card.layers
      → lt (get_or (step_of version b (HeatLoss true)).battery.zones i nan) room_temperature ≡ true → get_or (step_of version b (HeatLoss true)).battery.zones i nan ≡ get_or b.zones i nan
  unfolding step_of heat_loss battery_heat_loss loss_ended run_answer cooled_battery refused_with loss_floor loss_input
  loss_stops i l =
      let c = accepted version b.card battery_accepted_lem.card in
      by_refusal (λ (a : Answer). lt (get_or a.battery.zones i nan) room_temperature ≡ true → get_or a.battery.zones i nan ≡ get_or b.zones i nan) b (battery_heat_loss b true).part.end _
      (losses_stop b.card (derived b.card) (salt_at (salts_of b.card)) (loss_input b.card (loss_floor true)) b.zones salts
      (seconds_nonneg b.card.timestep (timestep_nonneg b.card c.times)) places finite room_temperature refl i l)
      (λ n h. refl)

  pub electric_cools_none :
      (power target : Float) → call_in_range version b.card (ChargeElectric power target) ≡ true → (i : ℕ) → i < b.card.layers →
      T (le (get_or b.zones i nan) (get_or (step_of version b (ChargeElectric power target)).battery.zones i nan))
  unfolding step_of charge charge_battery charge_electric electric_ended run_answer charged_battery refused_with electric_input call_in_range of_bits
  electric_cools_none power target h i l =
      by_refusal (λ (a : Answer). T (le (get_or b.zones i nan) (get_or a.battery.zones i nan))) b (charge_battery b (Electric power) target).part.end _
      (charging_cools_none b.card (derived b.card) (salt_at (salts_of b.card)) (electric_input (ledger_of b) power target) b.zones salts
      (seconds_nonneg (max_zero (time_available (ledger_of b) zero)) (max_zero_nonneg (time_available (ledger_of b) zero))) places finite refl
      (power_nonneg power (and_true (is_power power) (is_level target) h).0) i l)
      (λ n. as_before i l)

-- The outcome of each of the seven kinds.
use Rattle.std.specs.Prelude.{None, Option, Some}
use mathlib.Core.Path.{◌≡◌, refl}
use mathlib.Core.Bool.{Bool, true, false, not, ◌&&◌}
use mathlib.Core.Logic.{inr}
use Prim.Native.Nat.{ℕ, ◌≤◌}
use native.Mathlib.Omega.{arith}
use lib.Ieee.{Float, le}
use Rattle.floats.specs.Constants.{zero, tolerance}
use Rattle.logic.proofs.Branch.{by_test, at_not}
use Rattle.zone.specs.Layer.{salt_at}
use Rattle.card.specs.Derived.{salts_of, derived}
use Rattle.battery.specs.Answer.{plain_answer}
use Rattle.battery.specs.Kinds.{is_charge, only_asks}
use Rattle.battery.specs.Ledger.{ledger_of}
use Rattle.battery.specs.declared.Battery.{Battery}
use Rattle.battery.specs.declared.Demand.{Demand}
use Rattle.battery.specs.declared.Call.{Call}
use Rattle.battery.specs.declared.Call.TheVariants.{DemandEnergy, ChargeElectric, ChargeHydronic, HeatLoss, CloseTimestep, ReadStateOfCharge, ChargeEnergyDemand}
use Rattle.battery.specs.declared.Answer.{Answer}
use Rattle.battery.specs.Places.{SameAbove}
use Rattle.substep.proofs.Above.{substep_above}
use Rattle.runs.specs.declared.Stopped.{Stopped}
use Rattle.runs.specs.declared.Exchanger.{Exchanger}
use Rattle.runs.specs.declared.Source.{Source}
use Rattle.runs.specs.declared.Source.TheVariants.{Electric, Wet}
use Rattle.run_demand.specs.Demand.{demand_ended}
use Rattle.runs.specs.Hydronic.{hydronic_ended, whole_substeps}
use Rattle.runs.specs.Charge.{electric_input, electric_ended, charge_electric, hydronic_task, hydronic_start, charge_hydronic, charge_battery, loss_floor, loss_input, loss_ended, battery_heat_loss, charge_energy_demand}
use Rattle.engine_replies.specs.Classes.{service_class, unserved}
use Rattle.engine_replies.specs.Replies.{demand_start, served, demand_kept, demand_answer, closed_battery, charged_answer, cooled_answer}
use Rattle.runs.specs.Zoned.{Zoned, zoned}
use Rattle.engine.specs.Steps.{demand_ran, demand_task, demand_from, demand_given, demand_energy, charge, heat_loss, level, read_level, demand_to_level, wet_source, step_of}
use Rattle.engine.proofs.Ends.{demand_run_above, demand_run_count, hydronic_run_above, hydronic_run_count}
use Rattle.engine.proofs.Outcomes.{StateKept, state_kept, Kept, Outcome, refused_outcome, checked_outcome, run_outcome, plain_kept, closed_kept, charged_kept, cooled_kept}

-- what a run hands out
pub record EndedKept (b : Battery) (r : Zoned Stopped) : Type 0 where
  pub above : SameAbove b.card.layers b.zones r.zones
  pub substeps : 1 ≤ b.card.budget → r.part.substeps ≤ b.card.budget

module _ (b : Battery) where
  demand_ended_lem : (d : Demand) (feed : Float) → EndedKept b (demand_ran b d feed)
  unfolding demand_ended demand_task demand_start
  demand_ended_lem d feed =
      let n = demand_run_count (demand_task (ledger_of b) d feed) (salt_at (salts_of b.card)) b.card.budget 0 (zoned (demand_start (ledger_of b)) b.zones) in
      record { above = demand_run_above (demand_task (ledger_of b) d feed) (salt_at (salts_of b.card)) b.card.budget 0 (zoned (demand_start (ledger_of b)) b.zones); substeps = λ h. omega arith }

  electric_ended_lem : (power target : Float) → EndedKept b (charge_electric b power target)
  unfolding charge_electric electric_ended
  electric_ended_lem power target =
      record { above = substep_above b.card (derived b.card) (salt_at (salts_of b.card)) (electric_input (ledger_of b) power target) b.zones; substeps = λ h. h }

  hydronic_ended_lem : (wet : Exchanger) (target : Float) → EndedKept b (charge_hydronic b wet target)
  unfolding charge_hydronic hydronic_ended hydronic_task hydronic_start
  hydronic_ended_lem wet target =
      let x = hydronic_task b.card wet target in
      record {
        above = hydronic_run_above x (salt_at (salts_of b.card)) (whole_substeps x) 0 (zoned (hydronic_start b.card wet) b.zones);
        substeps = λ h. hydronic_run_count x (salt_at (salts_of b.card)) (whole_substeps x) 0 (zoned (hydronic_start b.card wet) b.zones) (omega arith);
      }

  charge_ended : (source : Source) (target : Float) → EndedKept b (charge_battery b source target)
  unfolding charge_battery
  charge_ended (Electric power) target = electric_ended_lem power target
  charge_ended (Wet wet) target = hydronic_ended_lem wet target

  loss_ended_lem : (floor : Bool) → EndedKept b (battery_heat_loss b floor)
  unfolding battery_heat_loss loss_ended
  loss_ended_lem floor = record { above = substep_above b.card (derived b.card) (salt_at (salts_of b.card)) (loss_input b.card (loss_floor floor)) b.zones; substeps = λ h. h }

module _ (b : Battery) (d : Demand) where
  demand_kept_lem : (r : Zoned Stopped) → EndedKept b r → Kept b false (not d.commit) (demand_answer b d r)
  unfolding demand_answer demand_kept served
  demand_kept_lem r k =
      let s = served b (service_class b.card d.service) r in
      record {
        refusal = refl;
        mark = inr refl;
        state = by_test (StateKept b) d.commit s b (λ h. record { card = refl; count = refl; above = k.above }) (λ h. state_kept b);
        charged = by_test (λ (c : Battery). c.charged ≡ b.charged) d.commit s b (λ h. refl) (λ h. refl);
        substeps = k.substeps;
        same = at_not d.commit s b;
      }

  abbrev Demanded : Answer → Type 0
  Demanded = Outcome b false (not d.commit)

  demand_from_lem : (feed : Float) → Demanded (demand_from b d feed)
  unfolding demand_from
  demand_from_lem feed =
      let r = demand_ran b d feed in
      by_test Demanded (d.commit && unserved (service_class b.card d.service)) _ _
      (λ h. refused_outcome b false (not d.commit) 21 (omega arith) (omega arith))
      (λ h. run_outcome b false (not d.commit) (demand_answer b d r) (demand_kept_lem r (demand_ended_lem b d feed)) r.part.end)

  demand_given_lem : (g : Option Float) → Demanded (demand_given b d g)
  unfolding demand_given
  demand_given_lem None = refused_outcome b false (not d.commit) 20 (omega arith) (omega arith)
  demand_given_lem (Some feed) = demand_from_lem feed

  demand_outcome : Demanded (demand_energy b d)
  unfolding demand_energy
  demand_outcome =
      by_test Demanded (le d.required tolerance) _ _
      (λ h. checked_outcome b false (not d.commit) (plain_answer zero b) (plain_kept b (not d.commit) zero))
      (λ h. demand_given_lem d.feed)

module _ (b : Battery) where
  charge_outcome : (version : ℕ) (source : Source) (target : Float) → Outcome b true false (charge version b source target)
  unfolding charge
  charge_outcome version source target =
      let r = charge_battery b source target in
      let k = charge_ended b source target in
      run_outcome b true false (charged_answer version b r) (charged_kept b r k.above k.substeps version) r.part.end

  loss_outcome : (floor : Bool) → Outcome b false false (heat_loss b floor)
  unfolding heat_loss
  loss_outcome floor =
      let r = battery_heat_loss b floor in
      let k = loss_ended_lem b floor in
      run_outcome b false false (cooled_answer b r) (cooled_kept b r k.above k.substeps) r.part.end

  level_outcome : (s : Option Float) → Outcome b false true (read_level b s)
  unfolding read_level
  level_outcome None = refused_outcome b false true 25 (omega arith) (omega arith)
  level_outcome (Some soc) = checked_outcome b false true (plain_answer soc b) (plain_kept b true soc)

  to_level_outcome : (most : Option Float) (target : Float) (s : Option Float) → Outcome b false true (demand_to_level b most target s)
  unfolding demand_to_level
  to_level_outcome most target None = refused_outcome b false true 25 (omega arith) (omega arith)
  to_level_outcome most target (Some soc) =
      let e = (charge_energy_demand b.card most target soc).0 in
      checked_outcome b false true (plain_answer e b) (plain_kept b true e)

pub step_outcome : (version : ℕ) (b : Battery) (call : Call) → Outcome b (is_charge call) (only_asks call) (step_of version b call)
unfolding step_of is_charge only_asks
step_outcome version b (DemandEnergy d) = demand_outcome b d
step_outcome version b (ChargeElectric power target) = charge_outcome b version (Electric power) target
step_outcome version b (ChargeHydronic h) = charge_outcome b version (wet_source h) h.target
step_outcome version b (HeatLoss floor) = loss_outcome b floor
step_outcome version b CloseTimestep = checked_outcome b false false (plain_answer zero (closed_battery b)) (closed_kept b)
step_outcome version b ReadStateOfCharge = level_outcome b (level b)
step_outcome version b (ChargeEnergyDemand most target) = to_level_outcome b most target (level b)

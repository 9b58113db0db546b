-- Refusals 23, 24 and 25: the substep or the answer that is refused, and its test.
use Rattle.std.specs.Prelude.{ℕ, ◌≡◌, true, false, List, ◌⊎◌, Float, Some, None, Option}
use Rattle.std.specs.Float.Ieee.{lt, le, neg}
use Rattle.floats.specs.F64.{◌⊕◌, ◌⊗◌, ◌⊘◌}
use Rattle.floats.specs.Constants.{zero, one, tolerance, smallest_normal, largest_finite}
use Rattle.floats.specs.Sum2.{sum2}
use Rattle.zone.specs.Heat.{kj}
use Rattle.zone.specs.Layer.{salt_at, stored_energy}
use Rattle.zone.specs.declared.Kilojoules.{Kilojoules}
use Rattle.zone.specs.declared.Salt.{Salt}
use Rattle.zone_water.specs.declared.Mode.TheVariants.{Normal}
use Rattle.card.specs.Derived.{salts_of, stored_maximum, derived}
use Rattle.card.specs.declared.Card.{Card}
use Rattle.card.specs.declared.HeatBatteryPcm.{HeatBatteryPcm}
use Rattle.battery.specs.Answer.{plain_answer, answer_finite}
use Rattle.battery.specs.Ledger.{ledger_of}
use Rattle.battery.specs.declared.Battery.{Battery}
use Rattle.battery.specs.declared.Demand.{Demand}
use Rattle.battery.specs.declared.Hydronic.{Hydronic}
use Rattle.battery.specs.declared.Answer.{Answer}
use Rattle.battery.specs.declared.Call.{Call}
use Rattle.battery.specs.declared.Call.TheVariants.{DemandEnergy, ChargeElectric, ChargeHydronic, HeatLoss, CloseTimestep, ReadStateOfCharge, ChargeEnergyDemand}
use Rattle.substep.specs.Substep.{zone_transfer, common_of, progress_from, zones_after, progress_finite, process_heat_battery_zones}
use Rattle.substep.specs.declared.SubstepInput.{SubstepInput}
use Rattle.substep.specs.Progress.{Progress}
use Rattle.substep.specs.declared.Substep.{Substep}
use Rattle.substep.specs.declared.Fault.{Fault}
use Rattle.substep.specs.declared.Fault.TheVariants.{Logarithm, NotFinite}
use Rattle.runs.specs.Runs.{fault_end, end_refusal, reynold_between, end_state}
use Rattle.run_demand.specs.Demand.{demand_input}
use Rattle.runs.specs.Hydronic.{wet_input, fraction_seconds}
use Rattle.runs.specs.Charge.{electric_input, loss_floor, loss_input, charge_battery, battery_heat_loss, charge_energy_demand}
use Rattle.runs.specs.declared.HydronicTask.{HydronicTask}
use Rattle.runs.specs.declared.HydronicState.{HydronicState}
use Rattle.runs.specs.declared.End.{End}
use Rattle.runs.specs.declared.Source.TheVariants.{Electric}
use Rattle.engine_replies.specs.Replies.{demand_answer, charged_answer, cooled_answer, closed_battery}
use Rattle.runs.specs.Zoned.{Zoned, on_part}
use Rattle.engine.specs.Steps.{demand_task, demand_run_of, demand_ran, level, wet_source}
use Rattle.engine.specs.Budget.{whole_from, FractionDue, hydronic_task_of, hydronic_run_of}

-- '25 state of charge above 1.0 + 1e-10'
pub record AboveFull (battery : Battery) : Type 0 where
  pub above : level battery ≡ None
  pub passed : lt (one ⊕ tolerance) ((stored_energy (salt_at (salts_of battery.card)) battery.card.reference battery.zones battery.card.layers).0 ⊘ (stored_maximum (salts_of battery.card) battery.card).0) ≡ true

abbrev pub OverFull : Battery → Call → Type 0
OverFull battery (DemandEnergy d) = ⊥
OverFull battery (ChargeElectric power target) = ⊥
OverFull battery (ChargeHydronic h) = ⊥
OverFull battery (HeatLoss floor) = ⊥
OverFull battery CloseTimestep = ⊥
OverFull battery ReadStateOfCharge = AboveFull battery
OverFull battery (ChargeEnergyDemand most target) = AboveFull battery

-- a substep's faults: '24 the logarithm's argument is not positive, normal and finite', 'Only demand and hydronic substeps take a logarithm'
pub record ArgumentRefused (input : SubstepInput) : Type 0 where
  pub normal : input.mode ≡ Normal
  pub argument : (le smallest_normal (input.reynold ⊗ input.flow) ≡ false) ⊎ (le (input.reynold ⊗ input.flow) largest_finite ≡ false)

-- the zones' pass of a substep with the heat transfer u
abbrev pub progress_of : Card → HeatBatteryPcm → (ℕ → Salt) → SubstepInput → List Float → Float → Progress
progress_of card pcm salts input zones u = zones_after (common_of card pcm input u) salts card.layers card.layers (progress_from input zones)

-- '23 after a substep a zone, outlet, delivered sum or charged energy is not finite'
pub record ProgressNotFinite (card : Card) (pcm : HeatBatteryPcm) (salts : ℕ → Salt) (input : SubstepInput) (zones : List Float) : Type 0 where
  pub transfer : Float
  pub taken : zone_transfer input.mode card input ≡ Some transfer
  pub found : progress_finite card (progress_of card pcm salts input zones transfer) (kj (sum2 (progress_of card pcm salts input zones transfer).energies card.layers)) ≡ false

-- the test of each fault
abbrev pub FaultTest : Option Fault → Card → HeatBatteryPcm → (ℕ → Salt) → SubstepInput → List Float → Type 0
FaultTest None card pcm salts input zones = ⊥
FaultTest (Some Logarithm) card pcm salts input zones = ArgumentRefused input
FaultTest (Some NotFinite) card pcm salts input zones = ProgressNotFinite card pcm salts input zones

-- the substep d from these zones has the fault f, at f's test
pub record SubstepFault (which : Option Fault) (card : Card) (pcm : HeatBatteryPcm) (salts : ℕ → Salt) (input : SubstepInput) (zones : List Float) : Type 0 where
  pub fault : (process_heat_battery_zones card pcm salts input zones).fault ≡ which
  pub test : FaultTest which card pcm salts input zones

-- the heat of the whole substep u, and what is absorbed with it
abbrev pub heat_of : Substep → Kilojoules
heat_of substep = kj (neg substep.delivered.0)

abbrev pub absorbed_with : HydronicState → Substep → Kilojoules
absorbed_with state substep = kj (state.absorbed.0 ⊕ (heat_of substep).0)

-- the input of the fractional substep after the whole substep u
abbrev pub fraction_input : HydronicTask → HydronicState → Substep → SubstepInput
fraction_input task state substep =
    wet_input task (fraction_seconds task (absorbed_with state substep) (heat_of substep)) (reynold_between task.wet.inlet substep.outlet task.wet.velocity task.wet.diameter)

-- the fractional substep after the whole one from s is due and has the fault f
pub record FractionFault (which : Option Fault) (task : HydronicTask) (salts : ℕ → Salt) (state : Zoned HydronicState) : Type 0 where
  pub due : FractionDue task state.part (whole_from task salts state)
  pub fault : SubstepFault which task.card task.pcm salts (fraction_input task state.part (whole_from task salts state)) state.zones

-- the whole substep from s has the fault f, or the fractional one after it
abbrev pub HydronicFault : Option Fault → HydronicTask → (ℕ → Salt) → Zoned HydronicState → Type 0
HydronicFault which task salts run = SubstepFault which task.card task.pcm salts (wet_input task task.card.substep run.part.reynold) run.zones ⊎ FractionFault which task salts run

-- the call's run ended for the fault f, before the substep that has it
pub record DemandFaulted (which : Option Fault) (battery : Battery) (demand : Demand) : Type 0 where
  pub asked : le demand.required tolerance ≡ false
  pub feed : Float
  pub given : demand.feed ≡ Some feed
  pub ended : (demand_run_of battery demand feed).part.end ≡ fault_end which
  pub fault :
      SubstepFault which battery.card (derived battery.card) (salt_at (salts_of battery.card)) (demand_input (demand_task (ledger_of battery) demand feed) (demand_run_of battery demand feed).part.state) (demand_run_of battery demand feed).zones

pub record HydronicFaulted (which : Option Fault) (battery : Battery) (hydronic : Hydronic) : Type 0 where
  pub ended : (hydronic_run_of battery hydronic).part.end ≡ fault_end which
  pub fault : HydronicFault which (hydronic_task_of battery hydronic) (salt_at (salts_of battery.card)) (on_part end_state (hydronic_run_of battery hydronic))

abbrev pub NoLogarithmTaken : Battery → Call → Type 0
NoLogarithmTaken battery (DemandEnergy d) = DemandFaulted (Some Logarithm) battery d
NoLogarithmTaken battery (ChargeElectric power target) = ⊥
NoLogarithmTaken battery (ChargeHydronic h) = HydronicFaulted (Some Logarithm) battery h
NoLogarithmTaken battery (HeatLoss floor) = ⊥
NoLogarithmTaken battery CloseTimestep = ⊥
NoLogarithmTaken battery ReadStateOfCharge = ⊥
NoLogarithmTaken battery (ChargeEnergyDemand most target) = ⊥

-- 'or a reported number or total isn't': the answer that the call would have got, after a run that ended without a refusal
pub record AnswerNotFinite (end : End) (answer : Answer) : Type 0 where
  pub ended : end_refusal end ≡ 0
  pub found : answer_finite answer ≡ false

pub record DemandNotFinite (battery : Battery) (demand : Demand) : Type 0 where
  pub asked : le demand.required tolerance ≡ false
  pub feed : Float
  pub given : demand.feed ≡ Some feed
  pub answer : AnswerNotFinite (demand_ran battery demand feed).part.end (demand_answer battery demand (demand_ran battery demand feed))

pub record NoDemandNotFinite (battery : Battery) (demand : Demand) : Type 0 where
  pub asked : le demand.required tolerance ≡ true
  pub found : answer_finite (plain_answer zero battery) ≡ false

-- kinds 6 and 7, by the energy that they answer at a level
pub record LevelNotFinite (battery : Battery) (energy : Float → Float) : Type 0 where
  pub soc : Float
  pub read : level battery ≡ Some soc
  pub found : answer_finite (plain_answer (energy soc) battery) ≡ false

abbrev pub NotFiniteFound : ℕ → Battery → Call → Type 0
NotFiniteFound version battery (DemandEnergy d) = DemandFaulted (Some NotFinite) battery d ⊎ (DemandNotFinite battery d ⊎ NoDemandNotFinite battery d)
NotFiniteFound version battery (ChargeElectric power target) =
    SubstepFault (Some NotFinite) battery.card (derived battery.card) (salt_at (salts_of battery.card)) (electric_input (ledger_of battery) power target) battery.zones
    ⊎ AnswerNotFinite (charge_battery battery (Electric power) target).part.end (charged_answer version battery (charge_battery battery (Electric power) target))
NotFiniteFound version battery (ChargeHydronic h) =
    HydronicFaulted (Some NotFinite) battery h
    ⊎ AnswerNotFinite (charge_battery battery (wet_source h) h.target).part.end (charged_answer version battery (charge_battery battery (wet_source h) h.target))
NotFiniteFound version battery (HeatLoss floor) =
    SubstepFault (Some NotFinite) battery.card (derived battery.card) (salt_at (salts_of battery.card)) (loss_input battery.card (loss_floor floor)) battery.zones
    ⊎ AnswerNotFinite (battery_heat_loss battery floor).part.end (cooled_answer battery (battery_heat_loss battery floor))
NotFiniteFound version battery CloseTimestep = answer_finite (plain_answer zero (closed_battery battery)) ≡ false
NotFiniteFound version battery ReadStateOfCharge = LevelNotFinite battery (λ soc. soc)
NotFiniteFound version battery (ChargeEnergyDemand most target) = LevelNotFinite battery (λ soc. (charge_energy_demand battery.card most target soc).0)

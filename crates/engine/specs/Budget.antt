-- Refusal 22: the budget is used and another substep is due.
use Rattle.std.specs.Prelude.{ℕ, ◌<◌, ◌≡◌, ◌⊎◌, false, T, Float, Some, None}
use Rattle.std.specs.Float.Ieee.{lt, le, neg}
use Rattle.floats.specs.F64.{◌⊕◌}
use Rattle.floats.specs.Constants.{zero, tolerance}
use Rattle.zone.specs.Heat.{kj}
use Rattle.zone.specs.Layer.{salt_at}
use Rattle.zone.specs.declared.Salt.{Salt}
use Rattle.card.specs.Derived.{salts_of}
use Rattle.battery.specs.declared.Battery.{Battery}
use Rattle.battery.specs.declared.Demand.{Demand}
use Rattle.battery.specs.declared.Hydronic.{Hydronic}
use Rattle.battery.specs.declared.Call.{Call}
use Rattle.battery.specs.declared.Call.TheVariants.{DemandEnergy, ChargeElectric, ChargeHydronic, HeatLoss, CloseTimestep, ReadStateOfCharge, ChargeEnergyDemand}
use Rattle.substep.specs.Substep.{process_heat_battery_zones}
use Rattle.substep.specs.declared.Substep.{Substep}
use Rattle.runs.specs.Runs.{end_state}
use Rattle.runs.specs.declared.Ended.{Ended}
use Rattle.run_demand.specs.declared.DemandState.{DemandState}
use Rattle.runs.specs.declared.HydronicTask.{HydronicTask}
use Rattle.runs.specs.declared.HydronicState.{HydronicState}
use Rattle.runs.specs.declared.End.TheVariants.{OverBudget}
use Rattle.runs.specs.Hydronic.{wet_input, clearly_below, limit_reached, hydronic_run, whole_substeps}
use Rattle.runs.specs.Charge.{hydronic_task, hydronic_start, wet_of}
use Rattle.runs.specs.Zoned.{Zoned, zoned, on_part}
use Rattle.engine.specs.Steps.{demand_run_of}

-- a run of a demand, with its budget: its next step is positive
pub record DemandOver (budget : ℕ) (run : Ended DemandState) : Type 0 where
  pub ended : run.end ≡ OverBudget
  pub used : run.substeps ≡ budget
  pub due : T (lt zero run.state.step)

-- the whole substep from s
abbrev pub whole_from : HydronicTask → (ℕ → Salt) → Zoned HydronicState → Substep
whole_from task salts run = process_heat_battery_zones task.card task.pcm salts (wet_input task task.card.substep run.part.reynold) run.zones

-- after the whole substep u from s the limit is passed, and its heat is to be cut: the fractional substep is due
pub record FractionDue (task : HydronicTask) (state : HydronicState) (substep : Substep) : Type 0 where
  pub worked : substep.fault ≡ None
  pub below : T (clearly_below substep.outlet task.wet.inlet)
  pub passed : T (limit_reached (kj (state.absorbed.0 ⊕ neg substep.delivered.0)) task.limit)
  pub heat : T (lt zero (neg substep.delivered.0))

-- a hydronic run of so many whole substeps: one of them is left, or the fractional one after the last
pub record HydronicOver (task : HydronicTask) (salts : ℕ → Salt) (steps : ℕ) (run : Zoned (Ended HydronicState)) : Type 0 where
  pub ended : run.part.end ≡ OverBudget
  pub used : run.part.substeps ≡ task.card.budget
  pub due : (task.card.budget < steps) ⊎ FractionDue task run.part.state (whole_from task salts (on_part end_state run))

-- the call's run
pub record DemandUsed (battery : Battery) (demand : Demand) : Type 0 where
  pub asked : le demand.required tolerance ≡ false
  pub feed : Float
  pub given : demand.feed ≡ Some feed
  pub over : DemandOver battery.card.budget (demand_run_of battery demand feed).part

abbrev pub hydronic_task_of : Battery → Hydronic → HydronicTask
hydronic_task_of battery call = hydronic_task battery.card (wet_of call) call.target

abbrev pub hydronic_run_of : Battery → Hydronic → Zoned (Ended HydronicState)
hydronic_run_of battery call = hydronic_run (hydronic_task_of battery call) (salt_at (salts_of battery.card)) (whole_substeps (hydronic_task_of battery call)) 0 (zoned (hydronic_start battery.card (wet_of call)) battery.zones)

pub record HydronicUsed (battery : Battery) (hydronic : Hydronic) : Type 0 where
  pub over : HydronicOver (hydronic_task_of battery hydronic) (salt_at (salts_of battery.card)) (whole_substeps (hydronic_task_of battery hydronic)) (hydronic_run_of battery hydronic)

abbrev pub BudgetUsed : Battery → Call → Type 0
BudgetUsed battery (DemandEnergy d) = DemandUsed battery d
BudgetUsed battery (ChargeElectric power target) = ⊥
BudgetUsed battery (ChargeHydronic h) = HydronicUsed battery h
BudgetUsed battery (HeatLoss floor) = ⊥
BudgetUsed battery CloseTimestep = ⊥
BudgetUsed battery ReadStateOfCharge = ⊥
BudgetUsed battery (ChargeEnergyDemand most target) = ⊥

-- Document 01, 'Who can cause a refusal': the case of each of 20 to 25, by the battery and the call. A case says what its number's sentence says, and that
-- what comes before it doesn't apply.
use Rattle.std.specs.Prelude.{ℕ, ◌≡◌, true, Float, Some, None}
use Rattle.std.specs.Float.Ieee.{lt}
use Rattle.floats.specs.Constants.{tolerance}
use Rattle.battery.specs.declared.Battery.{Battery}
use Rattle.battery.specs.declared.Demand.{Demand}
use Rattle.battery.specs.declared.Call.{Call}
use Rattle.battery.specs.declared.Call.TheVariants.{DemandEnergy, ChargeElectric, ChargeHydronic, HeatLoss, CloseTimestep, ReadStateOfCharge, ChargeEnergyDemand}
use Rattle.engine.specs.Budget.{BudgetUsed}
use Rattle.engine.specs.Faults.{NotFiniteFound, NoLogarithmTaken, OverFull}

-- '20 required above 1e-10 without return temperature'
pub record NoReturn (demand : Demand) : Type 0 where
  pub above : lt tolerance demand.required ≡ true
  pub absent : demand.feed ≡ None

-- '21 committed, required above 1e-10, service type 0'; '20 before 21'. Document 02, Four: 'a demand for an unlisted number is 21, under 21's conditions': the reader
-- gives it type 0
pub record NoService (demand : Demand) : Type 0 where
  pub above : lt tolerance demand.required ≡ true
  pub temperature : Float
  pub given : demand.feed ≡ Some temperature
  pub committed : demand.commit ≡ true
  pub combi : demand.service ≡ 0

abbrev pub Case20 : Battery → Call → Type 0
Case20 battery (DemandEnergy d) = NoReturn d
Case20 battery (ChargeElectric power target) = ⊥
Case20 battery (ChargeHydronic h) = ⊥
Case20 battery (HeatLoss floor) = ⊥
Case20 battery CloseTimestep = ⊥
Case20 battery ReadStateOfCharge = ⊥
Case20 battery (ChargeEnergyDemand most target) = ⊥

abbrev pub Case21 : Battery → Call → Type 0
Case21 battery (DemandEnergy d) = NoService d
Case21 battery (ChargeElectric power target) = ⊥
Case21 battery (ChargeHydronic h) = ⊥
Case21 battery (HeatLoss floor) = ⊥
Case21 battery CloseTimestep = ⊥
Case21 battery ReadStateOfCharge = ⊥
Case21 battery (ChargeEnergyDemand most target) = ⊥

-- neither 20 nor 21, which stand 'before the first substep'
abbrev pub Runs : Battery → Call → Type 0
Runs battery call = (Case20 battery call → ⊥) × (Case21 battery call → ⊥)

-- 'The first to occur is given': each of these names the place of the run at which it occurs, or an answer after a run to its end
abbrev pub Case22 : Battery → Call → Type 0
Case22 battery call = Runs battery call × BudgetUsed battery call

abbrev pub Case23 : ℕ → Battery → Call → Type 0
Case23 version battery call = Runs battery call × NotFiniteFound version battery call

abbrev pub Case24 : Battery → Call → Type 0
Case24 battery call = Runs battery call × NoLogarithmTaken battery call

abbrev pub Case25 : Battery → Call → Type 0
Case25 battery call = Runs battery call × OverFull battery call

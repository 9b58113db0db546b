-- The steps by what a call asks.
use mathlib.Core.Path.{◌≡◌, refl, ap, ◌∙◌}
use Prim.Native.Nat.{ℕ}
use Rattle.battery.specs.declared.Battery.{Battery}
use Rattle.battery.specs.declared.Call.{Call}
use Rattle.battery.specs.declared.Call.TheVariants.{DemandEnergy, ChargeElectric, ChargeHydronic, HeatLoss, CloseTimestep, ReadStateOfCharge, ChargeEnergyDemand}
use Rattle.engine.specs.declared.Operation.{Operation}
use Rattle.engine.specs.Operations.{operation_of, operation_step}
use Rattle.engine.specs.Steps.{step_of}

by_kind : (version : ℕ) (b : Battery) (call : Call) → operation_step version b (operation_of call) ≡ step_of version b call
unfolding operation_of operation_step step_of
by_kind version b (DemandEnergy d) = refl
by_kind version b (ChargeElectric power target) = refl
by_kind version b (ChargeHydronic h) = refl
by_kind version b (HeatLoss floor) = refl
by_kind version b CloseTimestep = refl
by_kind version b ReadStateOfCharge = refl
by_kind version b (ChargeEnergyDemand most target) = refl

pub stepped : (version : ℕ) (b : Battery) (call : Call) (a : Operation) → a ≡ operation_of call → operation_step version b a ≡ step_of version b call
stepped version b call a e = ap (operation_step version b) e ∙ by_kind version b call

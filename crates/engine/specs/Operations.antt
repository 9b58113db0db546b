-- What a call asks, the charges by their source: 'A charging source is electric with its rated power, or wet'.
use Rattle.std.specs.Prelude.{ℕ}
use Rattle.battery.specs.declared.Battery.{Battery}
use Rattle.battery.specs.declared.Answer.{Answer}
use Rattle.battery.specs.declared.Call.{Call}
use Rattle.runs.specs.declared.Source.TheVariants.{Electric}
use Rattle.engine.specs.declared.Operation.{Operation}
use Rattle.engine.specs.declared.Operation.TheVariants.{DemandEnergy, Charge, HeatLoss, CloseTimestep, ReadStateOfCharge, ChargeEnergyDemand}
use Rattle.engine.specs.Steps.{demand_energy, charge, heat_loss, closed, level, read_level, demand_to_level, wet_source}

-- the call, its power or its exchanger as a source
unfoldable pub operation_of : Call → Operation
operation_of (Call.DemandEnergy d) = DemandEnergy d
operation_of (Call.ChargeElectric power target) = Charge (Electric power) target
operation_of (Call.ChargeHydronic h) = Charge (wet_source h) h.target
operation_of (Call.HeatLoss floor) = HeatLoss floor
operation_of Call.CloseTimestep = CloseTimestep
operation_of Call.ReadStateOfCharge = ReadStateOfCharge
operation_of (Call.ChargeEnergyDemand most target) = ChargeEnergyDemand most target

-- the steps by what is asked: `step_of`, by crates/engine/proofs/ByKind.antt
unfoldable pub operation_step : ℕ → Battery → Operation → Answer
operation_step version battery (DemandEnergy d) = demand_energy battery d
operation_step version battery (Charge source target) = charge version battery source target
operation_step version battery (HeatLoss floor) = heat_loss battery floor
operation_step version battery CloseTimestep = closed battery
operation_step version battery ReadStateOfCharge = read_level battery (level battery)
operation_step version battery (ChargeEnergyDemand most target) = demand_to_level battery most target (level battery)

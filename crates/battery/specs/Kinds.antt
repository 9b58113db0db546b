-- Document 01's kinds of call: their numbers, which charge, and which change nothing whatever they answer.
use Rattle.std.specs.Prelude.{ℕ, Bool, true, false, not}
use Rattle.battery.specs.declared.Call.{Call}
use Rattle.battery.specs.declared.Call.TheVariants.{DemandEnergy, ChargeElectric, ChargeHydronic, HeatLoss, CloseTimestep, ReadStateOfCharge, ChargeEnergyDemand}

unfoldable pub kind_of : Call → ℕ
kind_of (DemandEnergy d) = 1
kind_of (ChargeElectric power target) = 2
kind_of (ChargeHydronic h) = 3
kind_of (HeatLoss floor) = 4
kind_of CloseTimestep = 5
kind_of ReadStateOfCharge = 6
kind_of (ChargeEnergyDemand most target) = 7

-- kinds 2 and 3: 'An answered charge line adds its energy .. to the charged total'
unfoldable pub is_charge : Call → Bool
is_charge (DemandEnergy d) = false
is_charge (ChargeElectric power target) = true
is_charge (ChargeHydronic h) = true
is_charge (HeatLoss floor) = false
is_charge CloseTimestep = false
is_charge ReadStateOfCharge = false
is_charge (ChargeEnergyDemand most target) = false

-- a trial, kind 6, kind 7
unfoldable pub only_asks : Call → Bool
only_asks (DemandEnergy d) = not d.commit
only_asks (ChargeElectric power target) = false
only_asks (ChargeHydronic h) = false
only_asks (HeatLoss floor) = false
only_asks CloseTimestep = false
only_asks ReadStateOfCharge = true
only_asks (ChargeEnergyDemand most target) = true

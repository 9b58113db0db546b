-- Document 01, 'Kinds': the calls' fields, and refusal 10's test of their ranges. Kind, lengths, flags and marks are the sheet's.
use Rattle.std.specs.Prelude.{ℕ, Bool, true, ◌&&◌, leb, Float, Option, Some, None}
use Rattle.std.specs.Float.{binary64}
use Rattle.std.specs.Float.Ieee.{of_bits, neg}
use Rattle.floats.specs.Constants.{zero, one}
use Rattle.card.specs.Ranges.{within, million, day, is_temperature, is_velocity, is_coefficient, is_flow, is_power}
use Rattle.card.specs.declared.Card.{Card}
use Rattle.battery.specs.declared.Demand.{Demand}
use Rattle.battery.specs.declared.Hydronic.{Hydronic}
use Rattle.battery.specs.declared.Call.{Call}
use Rattle.battery.specs.declared.Call.TheVariants.{DemandEnergy, ChargeElectric, ChargeHydronic, HeatLoss, CloseTimestep, ReadStateOfCharge, ChargeEnergyDemand}

-- 0.00001
abbrev pub narrowest : Float
narrowest = of_bits binary64 0x3EE4F8B588E368F1

-- 'target 0..1'
unfoldable pub is_level : Float → Bool
is_level x = within zero one x

-- 'An absent value has .. no range'
unfoldable pub is_given_temperature : Option Float → Bool
is_given_temperature None = true
is_given_temperature (Some t) = is_temperature t

-- '1 demand: type (u8: 0 combi, 1 regular, 2 space, 3 direct), commit, control on, required -1e6..1e6 kWh, start 0..timestep h, return mark and temperature'.
-- Document 02, Four: from version 3 on the reader gives the class of any number, which is in range
unfoldable pub demand_in_range : Card → Demand → Bool
demand_in_range card demand =
    leb demand.service 3 && (within (neg million) million demand.required && (within zero card.timestep demand.start && is_given_temperature demand.feed))

-- '3 hydronic, in the Rust's order: inlet, hours 0..24, flow, target, limit 0..1e6 kWh, hex a, hex b, velocity, diameter 0.00001..1 m'
unfoldable pub hydronic_in_range : Hydronic → Bool
hydronic_in_range call =
    is_temperature call.inlet && (within zero day call.hours && (is_flow call.flow && (is_level call.target && (within zero million call.limit
    && (is_coefficient call.a && (is_coefficient call.b && (is_velocity call.velocity && within narrowest one call.diameter)))))))

-- '2 electric: power, target 0..1', '4 standing loss', '5 close timestep', '6 state of charge', '7 charge energy demand: mark and flow maximum, target'
unfoldable pub call_in_range : ℕ → Card → Call → Bool
call_in_range version card (DemandEnergy d) = demand_in_range card d
call_in_range version card (ChargeElectric power target) = is_power power && is_level target
call_in_range version card (ChargeHydronic h) = hydronic_in_range h
call_in_range version card (HeatLoss floor) = true
call_in_range version card CloseTimestep = true
call_in_range version card ReadStateOfCharge = true
call_in_range version card (ChargeEnergyDemand most target) = is_given_temperature most && is_level target

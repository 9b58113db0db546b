-- Document 01, module 6: `charge_battery_electric`, `battery_heat_loss`, the charge by its source, `calculate_charge_energy_demand`.
use Rattle.std.specs.Prelude.{Bool, cond, Float, Option, Some, None}
use Rattle.std.specs.Float.Ieee.{lt, neg}
use Rattle.floats.specs.F64.{◌⊕◌, ◌⊖◌, ◌⊗◌}
use Rattle.floats.specs.Constants.{zero, tolerance, max_relative, hour, ambient, room_temperature}
use Rattle.floats.specs.Standins.{nearly_equal, max_zero, min}
use Rattle.zone.specs.Heat.{kj, kwh, kilowatt_hours, kilojoules}
use Rattle.zone.specs.Layer.{Salts, salt_at}
use Rattle.zone.specs.declared.Kilojoules.{Kilojoules}
use Rattle.zone.specs.declared.KilowattHours.{KilowattHours}
use Rattle.zone_water.specs.declared.Mode.TheVariants.{OnlyCharging, Losses}
use Rattle.card.specs.Derived.{salts_of, energy_at, stored_maximum, derived}
use Rattle.card.specs.declared.Card.{Card}
use Rattle.battery.specs.Ledger.{ledger_of}
use Rattle.battery.specs.declared.Battery.{Battery}
use Rattle.battery.specs.declared.Ledger.{Ledger}
use Rattle.battery.specs.declared.Hydronic.{Hydronic}
use Rattle.substep.specs.Substep.{process_heat_battery_zones}
use Rattle.substep.specs.declared.SubstepInput.{SubstepInput}
use Rattle.substep.specs.declared.Outcome.{Outcome}
use Rattle.runs.specs.declared.Exchanger.{Exchanger}
use Rattle.runs.specs.declared.Source.{Source}
use Rattle.runs.specs.declared.Source.TheVariants.{Electric, Wet}
use Rattle.runs.specs.declared.HydronicTask.{HydronicTask}
use Rattle.runs.specs.declared.HydronicState.{HydronicState}
use Rattle.runs.specs.declared.Stopped.{Stopped}
use Rattle.runs.specs.Zoned.{Zoned, zoned, on_part}
use Rattle.runs.specs.Runs.{outcome, fault_end, reynold_between, time_available}
use Rattle.runs.specs.Hydronic.{hydronic_run, hydronic_ended, whole_substeps}

-- a hydronic call's exchanger
abbrev pub wet_of : Hydronic → Exchanger
wet_of call = record { inlet = call.inlet; hours = call.hours; flow = call.flow; limit = call.limit; a = call.a; b = call.b; velocity = call.velocity; diameter = call.diameter }

-- the call's power over the time left, which goes through max(0.0)
unfoldable pub electric_input : Ledger → Float → Float → SubstepInput
electric_input ledger power target =
    record { mode = OnlyCharging; inlet = zero; seconds = max_zero (time_available ledger zero) ⊗ hour; reynold = zero; flow = ledger.card.flow; power = power; target = target; a = ledger.card.a; b = ledger.card.b }

unfoldable pub electric_ended : Ledger → Outcome → Stopped
electric_ended ledger outcome =
    record { energy = outcome.charged; electric = kwh (ledger.totals.electric ⊕ outcome.charged.0); outlet = zero; time = zero; end = fault_end outcome.fault; substeps = 1 }

unfoldable pub charge_electric : Battery → Float → Float → Zoned Stopped
charge_electric battery power target =
    on_part (electric_ended (ledger_of battery)) (outcome (process_heat_battery_zones battery.card (derived battery.card) (salt_at (salts_of battery.card)) (electric_input (ledger_of battery) power target) battery.zones))

unfoldable pub hydronic_task : Card → Exchanger → Float → HydronicTask
hydronic_task card wet target =
    record { card = card; pcm = derived card; wet = wet; target = target; limit = kilojoules (kwh wet.limit) }

-- the first Reynolds number is that of the card's initial inlet and estimated outlet
unfoldable pub hydronic_start : Card → Exchanger → HydronicState
hydronic_start card wet =
    record { absorbed = kj zero; reynold = reynold_between card.inlet card.outlet wet.velocity wet.diameter; time = zero }

unfoldable pub charge_hydronic : Battery → Exchanger → Float → Zoned Stopped
charge_hydronic battery wet target =
    let x = hydronic_task battery.card wet target in
    on_part (hydronic_ended (kwh battery.electric)) (hydronic_run x (salt_at (salts_of battery.card)) (whole_substeps x) 0 (zoned (hydronic_start battery.card wet) battery.zones))

-- 'A charging source is electric with its rated power, or wet with its flow and exchanger figures'
unfoldable pub charge_battery : Battery → Source → Float → Zoned Stopped
charge_battery battery (Electric power) target = charge_electric battery power target
charge_battery battery (Wet wet) target = charge_hydronic battery wet target

-- document 02, Six: 'a floor of 16 °C for standing losses', where the card's flag is 1
unfoldable pub loss_floor : Bool → Option Float
loss_floor floor = cond floor (Some room_temperature) None

-- the rated losses over the whole timestep, against 16 °C
unfoldable pub loss_input : Card → Option Float → SubstepInput
loss_input card lowest =
    record { mode = Losses lowest; inlet = ambient; seconds = card.timestep ⊗ hour; reynold = zero; flow = zero; power = neg card.losses; target = zero; a = card.a; b = card.b }

unfoldable pub loss_ended : Ledger → Outcome → Stopped
loss_ended ledger outcome =
    record { energy = kilowatt_hours outcome.delivered; electric = kwh ledger.totals.electric; outlet = zero; time = zero; end = fault_end outcome.fault; substeps = 1 }

unfoldable pub battery_heat_loss : Battery → Bool → Zoned Stopped
battery_heat_loss battery floor =
    on_part (loss_ended (ledger_of battery)) (outcome (process_heat_battery_zones battery.card (derived battery.card) (salt_at (salts_of battery.card)) (loss_input battery.card (loss_floor floor)) battery.zones))

-- the energy to the target level, or to the flow maximum where that is less
unfoldable pub energy_deficit : Salts → Card → Option Float → Kilojoules → Kilojoules → Kilojoules
energy_deficit salts card None current wanted = kj (wanted.0 ⊖ current.0)
energy_deficit salts card (Some t) current wanted = kj (min (wanted.0 ⊖ current.0) (max_zero ((energy_at salts card t).0 ⊖ current.0)))

-- `calculate_charge_energy_demand`, from the state of charge
unfoldable pub charge_energy_demand : Card → Option Float → Float → Float → KilowattHours
charge_energy_demand card most target soc =
    let stored = stored_maximum (salts_of card) card in
    cond (lt target soc)
    (kwh zero)
    (cond (nearly_equal soc target tolerance max_relative)
    (kwh zero)
    (kilowatt_hours (energy_deficit (salts_of card) card most (kj (stored.0 ⊗ soc)) (kj (stored.0 ⊗ target)))))

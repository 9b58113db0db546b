-- Document 01, 'What demand 3 speaks of': the steps. 'Their state is zones and five totals, at first fresh'; a battery is that state with its card.
use Rattle.std.specs.Prelude.{ℕ, Bool, cond, ◌&&◌, eqb, Float, Option, Some, None}
use Rattle.std.specs.Float.Ieee.{le}
use Rattle.refusals.specs.Refusals.{bad_call, no_return, no_service, over_full}
use Rattle.floats.specs.F64.{◌⊗◌, ◌⊘◌}
use Rattle.floats.specs.Constants.{zero, tolerance, hour}
use Rattle.zone.specs.Heat.{kwh}
use Rattle.zone.specs.Layer.{salt_at, state_of_charge}
use Rattle.card.specs.Derived.{salts_of, stored_maximum, derived}
use Rattle.card.specs.declared.Card.{Card}
use Rattle.battery.specs.Battery.{battery_accepted}
use Rattle.battery.specs.Call.{call_in_range}
use Rattle.battery.specs.Answer.{refused_with, plain_answer}
use Rattle.battery.specs.Ledger.{ledger_of}
use Rattle.battery.specs.declared.Battery.{Battery}
use Rattle.battery.specs.declared.Ledger.{Ledger}
use Rattle.battery.specs.declared.Demand.{Demand}
use Rattle.battery.specs.declared.Hydronic.{Hydronic}
use Rattle.battery.specs.declared.Call.{Call}
use Rattle.battery.specs.declared.Call.TheVariants.{DemandEnergy, ChargeElectric, ChargeHydronic, HeatLoss, CloseTimestep, ReadStateOfCharge, ChargeEnergyDemand}
use Rattle.battery.specs.declared.Answer.{Answer}
use Rattle.runs.specs.declared.Source.{Source}
use Rattle.runs.specs.declared.Source.TheVariants.{Electric, Wet}
use Rattle.run_demand.specs.declared.DemandTask.{DemandTask}
use Rattle.runs.specs.declared.Ended.{Ended}
use Rattle.run_demand.specs.declared.DemandState.{DemandState}
use Rattle.runs.specs.declared.Stopped.{Stopped}
use Rattle.runs.specs.Runs.{time_available}
use Rattle.run_demand.specs.Demand.{demand_run, demand_ended}
use Rattle.runs.specs.Charge.{wet_of, charge_battery, battery_heat_loss, charge_energy_demand}
use Rattle.engine_replies.specs.Classes.{service_class, unserved}
use Rattle.engine_replies.specs.Replies.{checked, unless_refused, units_of, demand_start, demand_answer, charged_answer, cooled_answer, closed_battery}
use Rattle.runs.specs.Zoned.{Zoned, zoned, on_part}

-- '`electric_charge`: the card's power where the call's control flag is 1, else 0', where the card charges during a demand
unfoldable pub demand_power : Card → Bool → Float
demand_power card control = cond (eqb card.simultaneous 1 && control) card.power zero

unfoldable pub demand_task : Ledger → Demand → Float → DemandTask
demand_task ledger demand feed =
    record {
      card = ledger.card;
      pcm = derived ledger.card;
      feed = feed;
      power = demand_power ledger.card demand.control;
      demand = kwh (demand.required ⊘ units_of ledger.card);
      seconds = time_available ledger demand.start ⊗ hour;
    }

-- a demand's substeps, what they hand out, and the answer
abbrev pub demand_run_of : Battery → Demand → Float → Zoned (Ended DemandState)
demand_run_of battery demand feed = demand_run (demand_task (ledger_of battery) demand feed) (salt_at (salts_of battery.card)) battery.card.budget 0 (zoned (demand_start (ledger_of battery)) battery.zones)

abbrev pub demand_ran : Battery → Demand → Float → Zoned Stopped
demand_ran battery demand feed = on_part demand_ended (demand_run_of battery demand feed)

abbrev pub demand_answered : Battery → Demand → Float → Answer
demand_answered battery demand feed = unless_refused battery (demand_ran battery demand feed).part.end (demand_answer battery demand (demand_ran battery demand feed))

-- '21 committed, required above 1e-10, service type 0', before the first substep
unfoldable pub demand_from : Battery → Demand → Float → Answer
demand_from battery demand feed = cond (demand.commit && unserved (service_class battery.card demand.service)) (refused_with no_service battery) (demand_answered battery demand feed)

-- '20 required above 1e-10 without return temperature'
unfoldable pub demand_given : Battery → Demand → Option Float → Answer
demand_given battery demand None = refused_with no_return battery
demand_given battery demand (Some feed) = demand_from battery demand feed

-- `demand_energy`: 'Required at most 1e-10 answers 0 with no substep'
unfoldable pub demand_energy : Battery → Demand → Answer
demand_energy battery demand = cond (le demand.required tolerance) (checked battery (plain_answer zero battery)) (demand_given battery demand demand.feed)

unfoldable pub charge : ℕ → Battery → Source → Float → Answer
charge version battery source target =
    let r = charge_battery battery source target in
    unless_refused battery r.part.end (charged_answer version battery r)

unfoldable pub heat_loss : Battery → Bool → Answer
heat_loss battery floor =
    let r = battery_heat_loss battery floor in
    unless_refused battery r.part.end (cooled_answer battery r)

-- kind 5: 'the three running times become 0'
abbrev pub closed : Battery → Answer
closed battery = checked battery (plain_answer zero (closed_battery battery))

unfoldable pub level : Battery → Option Float
level battery = state_of_charge (salt_at (salts_of battery.card)) battery.card.reference (stored_maximum (salts_of battery.card) battery.card) battery.zones battery.card.layers

-- kind 6: '25 state of charge above 1.0 + 1e-10'
unfoldable pub read_level : Battery → Option Float → Answer
read_level battery None = refused_with over_full battery
read_level battery (Some soc) = checked battery (plain_answer soc battery)

-- kind 7
unfoldable pub demand_to_level : Battery → Option Float → Float → Option Float → Answer
demand_to_level battery most target None = refused_with over_full battery
demand_to_level battery most target (Some soc) = checked battery (plain_answer (charge_energy_demand battery.card most target soc).0 battery)

-- a hydronic call as a wet source
unfoldable pub wet_source : Hydronic → Source
wet_source call = Wet (wet_of call)

-- 'Kind 1 is `demand_energy`, 2 `charge_battery_electric`, 3 `charge_battery_hydronic`, 4 `battery_heat_loss`, 6 `calc_state_of_charge`,
-- 7 `calculate_charge_energy_demand` ..; 5 sets the running times to 0'
unfoldable pub step_of : ℕ → Battery → Call → Answer
step_of version battery (DemandEnergy d) = demand_energy battery d
step_of version battery (ChargeElectric power target) = charge version battery (Electric power) target
step_of version battery (ChargeHydronic h) = charge version battery (wet_source h) h.target
step_of version battery (HeatLoss floor) = heat_loss battery floor
step_of version battery CloseTimestep = closed battery
step_of version battery ReadStateOfCharge = read_level battery (level battery)
step_of version battery (ChargeEnergyDemand most target) = demand_to_level battery most target (level battery)

-- a call on any battery whatsoever: 10, or the steps
unfoldable pub advance_of : ℕ → Battery → Call → Answer
advance_of version battery call =
    cond (battery_accepted version battery && call_in_range version battery.card call) (step_of version battery call) (refused_with bad_call battery)

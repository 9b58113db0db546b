-- Document 01, module 7: the substeps of `demand_energy`.
use Rattle.std.specs.Prelude.{ℕ, zero, suc, ◌+◌, Bool, true, cond, Float, Option, Some, None}
use Rattle.std.specs.Float.Ieee.{lt}
use Rattle.floats.specs.F64.{◌⊕◌, ◌⊖◌, ◌⊘◌}
use Rattle.floats.specs.Constants as Constants
use Rattle.floats.specs.Constants.{tolerance, demand_relative}
use Rattle.floats.specs.Standins.{nearly_equal}
use Rattle.zone.specs.Heat.{kwh, kilowatt_hours}
use Rattle.zone.specs.declared.KilowattHours.{KilowattHours}
use Rattle.zone.specs.declared.Salt.{Salt}
use Rattle.zone_water.specs.declared.Mode.TheVariants.{Normal}
use Rattle.substep.specs.Substep.{process_heat_battery_zones}
use Rattle.substep.specs.declared.SubstepInput.{SubstepInput}
use Rattle.substep.specs.declared.Outcome.{Outcome}
use Rattle.substep.specs.declared.Fault.{Fault}
use Rattle.substep.specs.declared.Fault.TheVariants.{Logarithm, NotFinite}
use Rattle.run_demand.specs.declared.DemandTask.{DemandTask}
use Rattle.run_demand.specs.declared.DemandState.{DemandState}
use Rattle.run_demand.specs.declared.DemandTurn.{DemandTurn}
use Rattle.runs.specs.declared.Ended.{Ended}
use Rattle.runs.specs.declared.Stopped.{Stopped}
use Rattle.runs.specs.declared.End.{End}
use Rattle.runs.specs.declared.End.TheVariants.{Negative, Met, NoStep, OverBudget, NoLogarithm, NotFiniteRun}
use Rattle.runs.specs.Runs.{outcome, reynold_between, run_end}
use Rattle.runs.specs.Zoned.{Zoned, zoned, on_part}

-- a substep of the step's length; a demand charges to level 0
unfoldable pub demand_input : DemandTask → DemandState → SubstepInput
demand_input task state =
    record { mode = Normal; inlet = task.feed; seconds = state.step; reynold = state.reynold; flow = task.card.flow; power = task.power; target = Constants.zero; a = task.card.a; b = task.card.b }

-- a step is at most the card's substep
unfoldable pub capped : DemandTask → Float → Float
capped task step = cond (lt task.card.substep step) task.card.substep step

-- the next step at the power of this substep, to meet the demand; a delivery of 0 leaves the step
unfoldable pub next_step : DemandTask → KilowattHours → KilowattHours → Float → Float
next_step task heat delivered step =
    cond (lt Constants.zero (heat.0 ⊘ step))
    (capped task ((task.demand.0 ⊖ delivered.0) ⊘ (heat.0 ⊘ step)))
    (capped task step)

unfoldable pub demand_met : DemandTask → KilowattHours → Bool
demand_met task delivered =
    cond (nearly_equal task.demand.0 delivered.0 tolerance demand_relative) true (lt task.demand.0 delivered.0)

-- a step is cut to the time left
unfoldable pub cut : DemandTask → Float → Float → Float
cut task running step = cond (lt task.seconds (running ⊕ step)) (task.seconds ⊖ running) step

-- the state after a substep, with its next step and its delivery
unfoldable pub demand_state_after : DemandTask → DemandState → Outcome → Float → KilowattHours → DemandState
demand_state_after task state outcome step delivered =
    record {
      step = step;
      running = state.running ⊕ state.step;
      delivered = delivered;
      electric = kwh (state.electric.0 ⊕ outcome.charged.0);
      outlet = outcome.outlet;
      reynold = reynold_between task.feed outcome.outlet task.card.velocity task.pcm.diameter;
    }

abbrev pub demand_turn : DemandState → Option End → DemandTurn
demand_turn state next = record { state = state; next = next }

-- 'negative delivery, demand met'
unfoldable pub demand_delivered : DemandTask → DemandState → Outcome → DemandTurn
demand_delivered task state outcome =
    let heat = kilowatt_hours outcome.delivered in
    let delivered = kwh (state.delivered.0 ⊕ heat.0) in
    let step = next_step task heat delivered state.step in
    cond (lt outcome.delivered.0 Constants.zero)
    (demand_turn (demand_state_after task state outcome state.step state.delivered) (Some Negative))
    (cond (demand_met task delivered)
    (demand_turn (demand_state_after task state outcome step delivered) (Some Met))
    (demand_turn (demand_state_after task state outcome (cut task (state.running ⊕ state.step) step) delivered) None))

unfoldable pub demand_by : DemandTask → Zoned DemandState → Zoned Outcome → Option Fault → Zoned DemandTurn
demand_by task run outcome None = zoned (demand_delivered task run.part outcome.part) outcome.zones
demand_by task run outcome (Some Logarithm) = zoned (demand_turn run.part (Some NoLogarithm)) run.zones
demand_by task run outcome (Some NotFinite) = zoned (demand_turn run.part (Some NotFiniteRun)) run.zones

-- one substep
unfoldable pub demand_substep : DemandTask → (ℕ → Salt) → Zoned DemandState → Zoned DemandTurn
demand_substep task salts run =
    let u = outcome (process_heat_battery_zones task.card task.pcm salts (demand_input task run.part) run.zones) in
    demand_by task run u u.part.fault

abbrev pub turn_state : DemandTurn → DemandState
turn_state turn = turn.state

-- what follows a substep: it ends the run, or the run goes on from it
abbrev pub demand_then : (Zoned DemandState → Zoned (Ended DemandState)) → ℕ → Zoned DemandState → Option End → Zoned (Ended DemandState)
demand_then go n run None = go run
demand_then go n run (Some e) = run_end run e n

-- 'The substep loop ends at the first of: negative delivery, demand met, no positive step, a refusal; and the end hands out its count':
-- the run from s with n substeps done and k left of the budget
unfoldable pub demand_run : DemandTask → (ℕ → Salt) → ℕ → ℕ → Zoned DemandState → Zoned (Ended DemandState)
demand_run task salts zero n run = cond (lt Constants.zero run.part.step) (run_end run OverBudget n) (run_end run NoStep n)
demand_run task salts (suc k) n run =
    cond (lt Constants.zero run.part.step)
    (demand_then (demand_run task salts k (n + 1)) (n + 1) (on_part turn_state (demand_substep task salts run)) (demand_substep task salts run).part.next)
    (run_end run NoStep n)

-- what the run hands out
unfoldable pub demand_ended : Ended DemandState → Stopped
demand_ended run =
    record { energy = run.state.delivered; electric = run.state.electric; outlet = run.state.outlet; time = run.state.running; end = run.end; substeps = run.substeps }

-- Document 01, module 6: the substeps of `charge_battery_hydronic`, the fractional one included.
use Rattle.std.specs.Prelude.{ℕ, zero, suc, ◌+◌, Bool, true, cond, not, ◌&&◌, eqb, Float, Option, Some, None}
use Rattle.std.specs.Float.Ieee.{lt, neg}
use Rattle.floats.specs.F64.{◌⊕◌, ◌⊖◌, ◌⊗◌, ◌⊘◌}
use Rattle.floats.specs.Constants as Constants
use Rattle.floats.specs.Constants.{tolerance, max_relative, hour}
use Rattle.floats.specs.Standins.{nearly_equal, truncate}
use Rattle.zone.specs.Heat.{kj, kilowatt_hours}
use Rattle.zone.specs.declared.Kilojoules.{Kilojoules}
use Rattle.zone.specs.declared.KilowattHours.{KilowattHours}
use Rattle.zone.specs.declared.Salt.{Salt}
use Rattle.zone_water.specs.declared.Mode.TheVariants.{Normal}
use Rattle.substep.specs.Substep.{process_heat_battery_zones}
use Rattle.substep.specs.declared.SubstepInput.{SubstepInput}
use Rattle.substep.specs.declared.Outcome.{Outcome}
use Rattle.substep.specs.declared.Fault.{Fault}
use Rattle.substep.specs.declared.Fault.TheVariants.{Logarithm, NotFinite}
use Rattle.runs.specs.declared.HydronicTask.{HydronicTask}
use Rattle.runs.specs.declared.HydronicState.{HydronicState}
use Rattle.runs.specs.declared.HydronicTurn.{HydronicTurn}
use Rattle.runs.specs.declared.Ended.{Ended}
use Rattle.runs.specs.declared.Stopped.{Stopped}
use Rattle.runs.specs.declared.End.{End}
use Rattle.runs.specs.declared.End.TheVariants.{Level, Limit, Time, OverBudget, NoLogarithm, NotFiniteRun}
use Rattle.runs.specs.Runs.{outcome, reynold_between, run_end}
use Rattle.runs.specs.Zoned.{Zoned, zoned, on_part}

-- a substep of the wet source
unfoldable pub wet_input : HydronicTask → Float → Float → SubstepInput
wet_input task seconds reynold =
    record { mode = Normal; inlet = task.wet.inlet; seconds = seconds; reynold = reynold; flow = task.wet.flow; power = Constants.zero; target = task.target; a = task.wet.a; b = task.wet.b }

-- the outlet is clearly below the inlet
unfoldable pub clearly_below : Float → Float → Bool
clearly_below outlet inlet = lt outlet inlet && not (nearly_equal outlet inlet tolerance max_relative)

-- the limit is reached
unfoldable pub limit_reached : Kilojoules → Kilojoules → Bool
limit_reached absorbed limit = cond (lt limit.0 absorbed.0) true (nearly_equal absorbed.0 limit.0 tolerance max_relative)

abbrev pub hydronic_turn : Zoned HydronicState → Option End → ℕ → Zoned HydronicTurn
hydronic_turn run next n = zoned (record { state = run.part; next = next; substeps = n }) run.zones

-- after the fractional substep u: its zones, and the limit as the energy
unfoldable pub replay_by : HydronicTask → ℕ → Zoned HydronicState → Float → Float → Zoned Outcome → Option Fault → Zoned HydronicTurn
replay_by task n run seconds reynold outcome None =
    hydronic_turn (zoned (record { absorbed = task.limit; reynold = reynold; time = run.part.time ⊕ seconds }) outcome.zones) (Some Limit) n
replay_by task n run seconds reynold outcome (Some Logarithm) = hydronic_turn run (Some NoLogarithm) n
replay_by task n run seconds reynold outcome (Some NotFinite) = hydronic_turn run (Some NotFiniteRun) n

-- the fractional substep: from the zones before the whole one, with the Reynolds number after it; n substeps are done
unfoldable pub replayed : HydronicTask → (ℕ → Salt) → ℕ → Zoned HydronicState → Float → Float → Zoned HydronicTurn
replayed task salts n run seconds reynold =
    let u = outcome (process_heat_battery_zones task.card task.pcm salts (wet_input task seconds reynold) run.zones) in
    cond (eqb n task.card.budget)
    (hydronic_turn run (Some OverBudget) n)
    (replay_by task (n + 1) run seconds reynold u u.part.fault)

-- the fraction of the whole substep's heat that the limit allows, as seconds
unfoldable pub fraction_seconds : HydronicTask → Kilojoules → Kilojoules → Float
fraction_seconds task absorbed this = task.card.substep ⊗ ((task.limit.0 ⊖ (absorbed.0 ⊖ this.0)) ⊘ this.0)

-- after the whole substep u; n substeps are done
unfoldable pub hydronic_whole : HydronicTask → (ℕ → Salt) → ℕ → Zoned HydronicState → Zoned Outcome → Zoned HydronicTurn
hydronic_whole task salts n run outcome =
    let reynold = reynold_between task.wet.inlet outcome.part.outlet task.wet.velocity task.wet.diameter in
    let this = kj (neg outcome.part.delivered.0) in
    let absorbed = kj (run.part.absorbed.0 ⊕ this.0) in
    let time = run.part.time ⊕ task.card.substep in
    cond (clearly_below outcome.part.outlet task.wet.inlet)
    (cond (limit_reached absorbed task.limit)
    (cond (lt Constants.zero this.0)
    (replayed task salts n run (fraction_seconds task absorbed this) reynold)
    (hydronic_turn (zoned (record { absorbed = absorbed; reynold = reynold; time = time }) outcome.zones) (Some Limit) n))
    (hydronic_turn (zoned (record { absorbed = absorbed; reynold = reynold; time = time }) outcome.zones) None n))
    (hydronic_turn (zoned (record { absorbed = run.part.absorbed; reynold = reynold; time = time }) outcome.zones) (Some Level) n)

unfoldable pub hydronic_by : HydronicTask → (ℕ → Salt) → ℕ → Zoned HydronicState → Zoned Outcome → Option Fault → Zoned HydronicTurn
hydronic_by task salts n run outcome None = hydronic_whole task salts n run outcome
hydronic_by task salts n run outcome (Some Logarithm) = hydronic_turn run (Some NoLogarithm) n
hydronic_by task salts n run outcome (Some NotFinite) = hydronic_turn run (Some NotFiniteRun) n

-- one turn: a whole substep, and the fractional one where the limit calls for it
unfoldable pub hydronic_step : HydronicTask → (ℕ → Salt) → ℕ → Zoned HydronicState → Zoned HydronicTurn
hydronic_step task salts n run =
    let u = outcome (process_heat_battery_zones task.card task.pcm salts (wet_input task task.card.substep run.part.reynold) run.zones) in
    hydronic_by task salts (n + 1) run u u.part.fault

abbrev pub hydronic_state : HydronicTurn → HydronicState
hydronic_state turn = turn.state

abbrev pub hydronic_then : (ℕ → Zoned HydronicState → Zoned (Ended HydronicState)) → Zoned HydronicState → Option End → ℕ → Zoned (Ended HydronicState)
hydronic_then go run None n = go n run
hydronic_then go run (Some e) n = run_end run e n

-- the run from s with n substeps done and k whole ones left
unfoldable pub hydronic_run : HydronicTask → (ℕ → Salt) → ℕ → ℕ → Zoned HydronicState → Zoned (Ended HydronicState)
hydronic_run task salts zero n run = run_end run Time n
hydronic_run task salts (suc k) n run =
    cond (eqb n task.card.budget)
    (run_end run OverBudget n)
    (hydronic_then (hydronic_run task salts k) (on_part hydronic_state (hydronic_step task salts n run)) (hydronic_step task salts n run).part.next (hydronic_step task salts n run).part.substeps)

-- what the run hands out; the charged electric total stays
unfoldable pub hydronic_ended : KilowattHours → Ended HydronicState → Stopped
hydronic_ended electric run =
    record { energy = kilowatt_hours run.state.absorbed; electric = electric; outlet = Constants.zero; time = run.state.time; end = run.end; substeps = run.substeps }

-- whole substeps, truncated
unfoldable pub whole_substeps : HydronicTask → ℕ
whole_substeps task = truncate (task.wet.hours ⊗ hour ⊘ task.card.substep)

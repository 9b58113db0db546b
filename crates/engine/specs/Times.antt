-- Document 02, Three: the time of a hydronic run by the substeps that it ran, apart from how the run carries it along.
use Rattle.std.specs.Prelude.{ℕ, zero, suc, ◌+◌, ◌≡◌, ◌⊎◌, Float, None}
use Rattle.floats.specs.F64.{◌⊕◌}
use Rattle.floats.specs.Constants as Constants
use Rattle.zone.specs.declared.Salt.{Salt}
use Rattle.battery.specs.declared.Answer.{Answer}
use Rattle.substep.specs.Substep.{process_heat_battery_zones}
use Rattle.substep.specs.declared.Substep.{Substep}
use Rattle.runs.specs.declared.HydronicTask.{HydronicTask}
use Rattle.runs.specs.declared.HydronicState.{HydronicState}
use Rattle.runs.specs.declared.Ended.{Ended}
use Rattle.runs.specs.declared.End.TheVariants.{Limit}
use Rattle.runs.specs.Hydronic.{fraction_seconds, hydronic_state, hydronic_step}
use Rattle.runs.specs.Zoned.{Zoned, on_part}
use Rattle.engine.specs.Budget.{whole_from, FractionDue}
use Rattle.engine.specs.Faults.{heat_of, absorbed_with, fraction_input}

-- 'the f64 sum, in order', of n numbers s
unfoldable pub added_up : Float → ℕ → Float
added_up s zero = Constants.zero
added_up s (suc n) = added_up s n ⊕ s

-- the state after the first n turns of a run
unfoldable pub after_turns : HydronicTask → (ℕ → Salt) → Zoned HydronicState → ℕ → Zoned HydronicState
after_turns task salts start zero = start
after_turns task salts start (suc n) = on_part hydronic_state (hydronic_step task salts n (after_turns task salts start n))

-- the whole substep of the turn after them, whether the limit calls for a fractional one in its place, and that one
abbrev pub whole_after : HydronicTask → (ℕ → Salt) → Zoned HydronicState → ℕ → Substep
whole_after task salts start n = whole_from task salts (after_turns task salts start n)

abbrev pub DueAfter : HydronicTask → (ℕ → Salt) → Zoned HydronicState → ℕ → Type 0
DueAfter task salts start n = FractionDue task (after_turns task salts start n).part (whole_after task salts start n)

abbrev pub fraction_after : HydronicTask → (ℕ → Salt) → Zoned HydronicState → ℕ → Substep
fraction_after task salts start n =
    process_heat_battery_zones task.card task.pcm salts (fraction_input task (after_turns task salts start n).part (whole_after task salts start n)) (after_turns task salts start n).zones

-- 'the f64 sum, in order, of the substeps run, one whose outlet ends the loop too'
pub record AllWhole (task : HydronicTask) (salts : ℕ → Salt) (start : Zoned HydronicState) (run : Ended HydronicState) : Type 0 where
  pub time : run.state.time ≡ added_up task.card.substep run.substeps
  -- a run that the limit ends has replayed nothing
  pub limit : run.end ≡ Limit → (earlier : ℕ) × (run.substeps ≡ earlier + 1) × (DueAfter task salts start earlier → ⊥)

-- 'where the limit ends the run with a replayed substep, substep × fraction replaces the last one'
pub record LastReplaced (task : HydronicTask) (salts : ℕ → Salt) (start : Zoned HydronicState) (run : Ended HydronicState) : Type 0 where
  pub ended : run.end ≡ Limit
  pub earlier : ℕ
  pub due : DueAfter task salts start earlier
  pub worked : (fraction_after task salts start earlier).fault ≡ None
  -- the whole substep and the one in its place
  pub count : run.substeps ≡ earlier + 2
  pub time :
      run.state.time
      ≡ added_up task.card.substep earlier ⊕ fraction_seconds task (absorbed_with (after_turns task salts start earlier).part (whole_after task salts start earlier)) (heat_of (whole_after task salts start earlier))

abbrev pub TimeRun : HydronicTask → (ℕ → Salt) → Zoned HydronicState → Ended HydronicState → Type 0
TimeRun task salts start run = AllWhole task salts start run ⊎ LastReplaced task salts start run

-- an answer with another time
abbrev pub with_time : Float → Answer → Answer
with_time time answer =
    record { refusal = answer.refusal; energy = answer.energy; mark = answer.mark; outlet = answer.outlet; time = time; substeps = answer.substeps; battery = answer.battery }

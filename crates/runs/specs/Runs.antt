-- What the runs of substeps share: how they end, what they hand out, the Reynolds number between substeps, the time left.
use Rattle.std.specs.Prelude.{ℕ, Float, Option, Some, None}
use Rattle.refusals.specs.Refusals.{over_budget, not_finite, no_logarithm}
use Rattle.floats.specs.F64.{◌⊖◌, ◌⊗◌, ◌⊘◌}
use Rattle.floats.specs.Constants.{one}
use Rattle.zone_water.specs.Water.{kinematic_viscosity, reynold_number}
use Rattle.substep.specs.Substep.{outcome_of}
use Rattle.substep.specs.declared.Outcome.{Outcome}
use Rattle.substep.specs.declared.Substep.{Substep}
use Rattle.substep.specs.declared.Fault.{Fault}
use Rattle.substep.specs.declared.Fault.TheVariants.{Logarithm, NotFinite}
use Rattle.battery.specs.declared.Ledger.{Ledger}
use Rattle.runs.specs.Zoned.{Zoned, zoned}
use Rattle.runs.specs.declared.End.{End}
use Rattle.runs.specs.declared.Ended.{Ended}
use Rattle.runs.specs.declared.End.TheVariants.{Done, Negative, Met, NoStep, Level, Limit, Time, OverBudget, NoLogarithm, NotFiniteRun}

-- the end that a substep's fault makes
unfoldable pub fault_end : Option Fault → End
fault_end None = Done
fault_end (Some Logarithm) = NoLogarithm
fault_end (Some NotFinite) = NotFiniteRun

-- document 01's numbers, 0 for an end that answers
unfoldable pub end_refusal : End → ℕ
end_refusal Done = 0
end_refusal Negative = 0
end_refusal Met = 0
end_refusal NoStep = 0
end_refusal Level = 0
end_refusal Limit = 0
end_refusal Time = 0
end_refusal OverBudget = over_budget
end_refusal NotFiniteRun = not_finite
end_refusal NoLogarithm = no_logarithm

-- the refusal that a turn ends with, 0 for none
abbrev pub next_refusal : Option End → ℕ
next_refusal None = 0
next_refusal (Some e) = end_refusal e

-- what a run ends with: its state and zones, how it ended, and the count of its substeps
abbrev pub run_end : {S : Type 0} → Zoned S → End → ℕ → Zoned (Ended S)
run_end run end n = zoned (record { state = run.part; end = end; substeps = n }) run.zones

abbrev pub end_state : {S : Type 0} → Ended S → S
end_state run = run.state

-- a substep without its energies
abbrev pub outcome : Substep → Zoned Outcome
outcome substep = zoned (outcome_of substep) substep.zones

-- the Reynolds number of water between two temperatures
unfoldable pub reynold_between : Float → Float → Float → Float → Float
reynold_between inlet outlet velocity diameter = reynold_number (kinematic_viscosity inlet outlet) velocity diameter

-- `time_available`, in hours
unfoldable pub time_available : Ledger → Float → Float
time_available ledger start = (ledger.card.timestep ⊖ ledger.totals.total) ⊗ (one ⊖ start ⊘ ledger.card.timestep)

use Rattle.zone.specs.LentSalts.{lent_salt}
use Rattle.runs.specs.Zoned.{zoned}
use Rattle.run_demand.specs.Demand.{demand_run}
use mathlib.Core.Path.{◌≡◌}
use Prim.Native.Nat.{◌≤◌, ◌-◌}
use Rattle.run_demand.proofs.demand_run.Given as goal

abbrev pub invariant-loop-state : goal.invariant-loop-state
invariant-loop-state g l =
    (l.substeps ≤ l.budget) × (demand_run l.task (lent_salt l.salts) (l.budget - l.substeps) l.substeps (zoned l.state l.zones) ≡ demand_run l.task (lent_salt l.salts) l.budget 0 (zoned l.initial.state l.initial.zones))

abbrev pub decreases-loop-state : goal.decreases-loop-state
decreases-loop-state g l = l.budget - l.substeps

use Rattle.zone.specs.LentSalts.{lent_salt}
use Rattle.runs.specs.Zoned.{zoned}
use Rattle.runs.specs.Hydronic.{hydronic_run}
use mathlib.Core.Path.{◌≡◌}
use Prim.Native.Nat.{◌≤◌, ◌-◌}
use Rattle.run_hydronic.proofs.hydronic_run.Given as goal

abbrev pub invariant-loop-substeps : goal.invariant-loop-substeps
invariant-loop-substeps g l =
    (l.substeps ≤ l.steps) × (l.substeps ≤ l.task.card.budget) × (hydronic_run l.task (lent_salt l.salts) (l.steps - l.substeps) l.substeps (zoned l.state l.zones) ≡ hydronic_run l.task (lent_salt l.salts) l.steps 0 (zoned l.initial.state l.initial.zones))

abbrev pub decreases-loop-substeps : goal.decreases-loop-substeps
decreases-loop-substeps g l = l.steps - l.substeps

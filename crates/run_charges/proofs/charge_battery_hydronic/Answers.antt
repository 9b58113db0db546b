use native.Mathlib.Omega.{arith}
use Rattle.runs.proofs.HydronicTurns.{wet_ended}
use Rattle.runs.specs.Charge.{hydronic_task, charge_hydronic}
use Rattle.zone.proofs.Salts.{salts_at}
use Rattle.run_charges.proofs.charge_battery_hydronic.Goals as goal

pub hydronic_run-e-requires : goal.hydronic_run-e-requires
unfolding hydronic_task
hydronic_run-e-requires g c = (omega arith, rw c.hydronic_task-task.ensures c.args.lent.own.0)

pub returns : goal.returns
unfolding charge_hydronic
returns g c = rw (← (salts_at _ _ _ c.args.lent.own.1.1), ← c.hydronic_task-task.ensures, ← c.whole_substeps-steps.ensures, ← c.hydronic_start-start.ensures) (wet_ended _ _ _ _ _ c.hydronic_run-e.ensures c.hydronic_ended.ensures)

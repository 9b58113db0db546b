use native.Mathlib.Omega.{arith}
use Rattle.run_demand.proofs.InPlace.{demand_ended_lem}
use Rattle.engine.specs.Steps.{demand_task}
use Rattle.zone.proofs.Salts.{salts_at}
use Rattle.engine.proofs.demand.demand_stopped.Goals as goal

pub demand_run-e-requires : goal.demand_run-e-requires
unfolding demand_task
demand_run-e-requires g c = (omega arith, rw c.demand_task-task.ensures c.args.lent.own.0)

pub returns : goal.returns
returns g c = rw (← (salts_at _ _ _ c.args.lent.own.1.1), ← c.demand_task-task.ensures, ← c.demand_start-start.ensures) (demand_ended_lem _ _ _ _ c.demand_run-e.ensures.as_defined c.demand_ended.ensures)

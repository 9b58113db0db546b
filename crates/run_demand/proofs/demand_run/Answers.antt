use Rattle.run_demand.proofs.Turns.{demand_no_step, demand_over_budget, run_on, run_stops}
use Rattle.runs.proofs.InPlace.{as_defined}
use native.Mathlib.Nat.{sub-zero}
use mathlib.Core.Path.{◌∙◌, ap}
use mathlib.Core.Bool.{not}
use native.Mathlib.Omega.{arith}
use Rattle.run_demand.proofs.demand_run.Goals as goal

pub loop-state-init : goal.loop-state-init
loop-state-init g c = (omega arith, simp sub-zero)

pub loop-state-preserved : goal.loop-state-preserved
loop-state-preserved g c =
    let l = c.loop-state in
    (omega arith, run_on c.args.task _ _ _ _ _ _ l.invariant.0 c.if-substeps-budget.false (ap not c.if-not-state.false) c.demand_substep-turn.ensures c.in_default.is ∙ l.invariant.1)

pub returns-then-not-state : goal.returns-then-not-state
returns-then-not-state g c = record { as_defined = as_defined _ _ _ _ (demand_no_step _ _ _ _ _ (ap not c.if-not-state.true) ∙ c.loop-state.invariant.1); substeps_le_budget = omega arith }

pub returns-then-substeps-budget : goal.returns-then-substeps-budget
returns-then-substeps-budget g c = record { as_defined = as_defined _ _ _ _ (demand_over_budget _ _ _ _ _ c.if-substeps-budget.true (ap not c.if-not-state.false) ∙ c.loop-state.invariant.1); substeps_le_budget = omega arith }

pub returns-in-Some : goal.returns-in-Some
returns-in-Some g c =
    let l = c.loop-state in
    record {
      as_defined = run_stops c.args.task _ _ _ _ _ _ l.invariant.0 c.if-substeps-budget.false (ap not c.if-not-state.false) c.demand_substep-turn.ensures _ _ c.in-Some.is l.invariant.1;
      substeps_le_budget = omega arith;
    }

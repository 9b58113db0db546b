use Rattle.runs.proofs.InPlace.{as_defined}
use native.Mathlib.Nat.{sub-zero}
use Rattle.runs.proofs.Runs.{hydronic_time, hydronic_over_budget, wet_took, wet_on, wet_stop}
use mathlib.Core.Path.{◌≡◌, ◌∙◌}
use Prim.Native.Nat.{◌+◌}
use native.Mathlib.Omega.{arith}
use borrow.Author.Rules.{rules}
use Rattle.run_hydronic.proofs.hydronic_run.Goals as goal

pub loop-substeps-init : goal.loop-substeps-init
loop-substeps-init g c = (omega arith, omega arith, simp sub-zero)

pub hydronic_step-turn-requires : goal.hydronic_step-turn-requires
hydronic_step-turn-requires g c =
    let p = c.requires in
    (omega arith, (p, search rules))

pub loop-substeps-smaller : goal.loop-substeps-smaller
loop-substeps-smaller g c =
    let n : c.hydronic_step-turn.result.substeps ≡ c.loop-substeps.substeps + 1 =
    wet_took c.args.task _ _ _ _ c.loop-substeps.invariant.0 c.if-substeps-steps.false _ _ c.if-substeps-budget.false c.hydronic_step-turn.ensures c.in_default.is in
    omega arith

pub loop-substeps-preserved : goal.loop-substeps-preserved
loop-substeps-preserved g c =
    let n : c.hydronic_step-turn.result.substeps ≡ c.loop-substeps.substeps + 1 =
    wet_took c.args.task _ _ _ _ c.loop-substeps.invariant.0 c.if-substeps-steps.false _ _ c.if-substeps-budget.false c.hydronic_step-turn.ensures c.in_default.is in
    (omega arith, omega arith, wet_on c.args.task _ _ _ _ c.loop-substeps.invariant.0 c.if-substeps-steps.false _ _ c.if-substeps-budget.false c.hydronic_step-turn.ensures c.in_default.is ∙ c.loop-substeps.invariant.2)

pub returns-then-substeps-steps : goal.returns-then-substeps-steps
returns-then-substeps-steps g c = as_defined _ _ _ _ (hydronic_time _ _ _ _ _ c.if-substeps-steps.true ∙ c.loop-substeps.invariant.2)

pub returns-then-substeps-budget : goal.returns-then-substeps-budget
returns-then-substeps-budget g c = as_defined _ _ _ _ (hydronic_over_budget _ _ _ _ _ c.loop-substeps.invariant.0 c.if-substeps-steps.false c.if-substeps-budget.true ∙ c.loop-substeps.invariant.2)

pub returns-in-Some : goal.returns-in-Some
returns-in-Some g c =
    wet_stop c.args.task _ _ _ _ c.loop-substeps.invariant.0 c.if-substeps-steps.false _ _ c.if-substeps-budget.false c.hydronic_step-turn.ensures _ _ c.in-Some.is c.loop-substeps.invariant.2

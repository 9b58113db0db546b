use native.Mathlib.Omega.{arith}
use Rattle.substep.proofs.SubstepLaws.{level_none}
use Rattle.run_demand.proofs.InPlace.{demand_turn_lem, demand_faulted}
use Rattle.runs.specs.Runs.{fault_end}
use Rattle.substep.specs.declared.SubstepInput.{SubstepInput}
use Rattle.run_demand.specs.Demand.{demand_input, demand_by}
use mathlib.Core.Path.{refl, sym, ap, ◌∙◌}
use Rattle.run_demand.proofs.demand_substep.Goals as goal

pub process_in_place-u-requires : goal.process_in_place-u-requires
unfolding demand_input
process_in_place-u-requires g c =
    let p = c.requires in
    let e = c.demand_input-input.ensures in
    (omega arith, (p, (ap (λ (d : SubstepInput). d.mode) e, λ h j l. rw e (sym (level_none _ _ _)))))

pub returns-in-None : goal.returns-in-None
unfolding demand_by
returns-in-None g c = demand_turn_lem _ _ _ _ _ _ _ _ _ c.demand_input-input.ensures c.process_in_place-u.ensures c.in-None.is (c.demand_delivered.ensures, λ h. refl)

pub returns-in-Some : goal.returns-in-Some
returns-in-Some g c =
    demand_turn_lem _ _ _ _ _ _ _ _ _ c.demand_input-input.ensures c.process_in_place-u.ensures c.in-Some.is
    (demand_faulted c.args.task _ _ _ _ _ (c.from.ensures ∙ ap fault_end c.in-Some.is))

use Rattle.substep.proofs.Charger.{idle_charges_none}
use Rattle.runs.specs.Runs.{fault_end}
use Rattle.runs.proofs.HydronicTurns.{hydronic_turn_lem, hydronic_faulted}
use Rattle.substep.specs.declared.SubstepInput.{SubstepInput}
use Rattle.runs.specs.Hydronic.{wet_input, hydronic_by}
use mathlib.Core.Path.{ap, ◌∙◌}
use native.Mathlib.Omega.{arith}
use Rattle.run_hydronic.proofs.hydronic_step.Goals as goal

pub process_in_place-u-requires : goal.process_in_place-u-requires
unfolding wet_input
process_in_place-u-requires g c =
    let p = c.requires in
    let e = c.wet_input-input.ensures in
    (omega arith, (p.0, (ap (λ (d : SubstepInput). d.mode) e, idle_charges_none _ (ap (λ (d : SubstepInput). d.power) e))))

pub hydronic_whole-requires : goal.hydronic_whole-requires
hydronic_whole-requires g c = let p = c.requires in (omega arith, (p.0, omega (arith, p.1)))

pub returns-in-None : goal.returns-in-None
unfolding hydronic_by
returns-in-None g c = hydronic_turn_lem c.args.task _ _ _ _ _ _ _ _ _ c.process_in_place-u.ensures c.in-None.is _ c.wet_input-input.ensures c.hydronic_whole.ensures

pub returns-in-Some : goal.returns-in-Some
returns-in-Some g c =
    hydronic_turn_lem c.args.task _ _ _ _ _ _ _ _ _ c.process_in_place-u.ensures c.in-Some.is _ c.wet_input-input.ensures
    (hydronic_faulted c.args.task _ _ _ _ _ _ _ (c.from.ensures ∙ ap fault_end c.in-Some.is))

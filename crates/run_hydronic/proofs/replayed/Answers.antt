use native.Mathlib.Omega.{arith}
use Rattle.runs.proofs.InPlace.{as_defined}
use Rattle.runs.proofs.HydronicTurns.{replayed_turn}
use Rattle.substep.proofs.Charger.{idle_charges_none}
use Rattle.logic.proofs.Branch.{via_true}
use borrow.Author.Tests.{eq-eqb}
use Rattle.runs.specs.Hydronic.{replayed, wet_input}
use mathlib.Core.Path.{refl, ap}
use Rattle.substep.specs.declared.SubstepInput.{SubstepInput}
use Rattle.run_hydronic.proofs.replayed.Goals as goal

pub returns-then-n-task : goal.returns-then-n-task
unfolding replayed
returns-then-n-task g c = as_defined _ _ _ _ (via_true _ _ (eq-eqb _ _ c.if-n-task.true) refl)

pub process_in_place-u-requires : goal.process_in_place-u-requires
unfolding wet_input
process_in_place-u-requires g c =
    let p = c.requires in
    let e = c.wet_input-input.ensures in
    (omega arith, (p.0, (ap (λ (d : SubstepInput). d.mode) e, idle_charges_none _ (ap (λ (d : SubstepInput). d.power) e))))

pub returns : goal.returns
returns g c =
    replayed_turn c.args.task _ _ _ _ _ _ _ _ _ c.process_in_place-u.ensures refl _ _ c.if-n-task.false c.wet_input-input.ensures (c.replay_by.ensures _ _)

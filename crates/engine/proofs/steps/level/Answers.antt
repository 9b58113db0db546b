use mathlib.Core.Path.{◌∙◌}
use Prim.Native.Nat.{◌≤◌}
use native.Mathlib.Omega.{arith}
use lib.ListN.{length}
use Rattle.std.proofs.lemmas.List.{length-take}
use Rattle.zone.proofs.Salts.{salts_at}
use Rattle.zone.proofs.Sums.{level_front}
use Rattle.engine.specs.Steps.{level}
use Rattle.engine.proofs.steps.level.Goals as goal

pub energy_at-stored-requires : goal.energy_at-stored-requires
energy_at-stored-requires g c = (omega arith, c.args.lent.own.0)

pub shared_ref_as_front-calc_state_of_charge : goal.shared_ref_as_front-calc_state_of_charge
shared_ref_as_front-calc_state_of_charge g c = omega (arith, c.args.lent.own.0, c.args.lent.salts.salted.0)

pub calc_state_of_charge-requires : goal.calc_state_of_charge-requires
calc_state_of_charge-requires g c = omega (arith, c.args.lent.own.0, length-take c.args.lent.ledger.card.layers c.args.zones.now)

pub returns : goal.returns
unfolding level
returns g c =
    let p = c.args.lent.own.1.1 in
    let few : c.args.lent.ledger.card.layers ≤ length c.args.zones.now = omega (arith, c.args.lent.own.0, c.args.lent.salts.salted.0, c.well_formed) in
    rw (← (salts_at _ _ _ p), ← p, ← c.energy_at-stored.ensures) (c.calc_state_of_charge.ensures ∙ level_front _ _ _ c.args.zones.now _ few)

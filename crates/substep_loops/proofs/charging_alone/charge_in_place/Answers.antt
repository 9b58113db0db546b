use native.Mathlib.Omega.{arith}
use Rattle.std.specs.Prelude.{eqb}
use Rattle.zone.proofs.Salts.{one_salt}
use Rattle.substep.proofs.SubstepLaws.{passed, without_logarithm_charge, none_in_a_charge, common_level}
use Rattle.substep_loops.proofs.Steppings.{IfSome-then_some}
use mathlib.Core.Path.{refl, sym, ◌∙◌}
use borrow.Author.Tests.{eqb-true}
use Rattle.substep_loops.proofs.charging_alone.charge_in_place.Goals as goal

pub common_of-common-requires : goal.common_of-common-requires
common_of-common-requires g c = sym c.requires.1

pub over_zones-requires : goal.over_zones-requires
over_zones-requires g c =
    let p = c.requires in
    let first = c.target_of-first.ensures ∙ sym (common_level _ _ _ _ _ _ c.common_of-common.ensures.value) in
    (omega arith, (p.0, λ k b. (c.common_of-common.ensures.its_mode, rw c.then_some-target.ensures (IfSome-then_some (eqb c.stride.result 0) _ _ (λ e. rw (one_salt _ _ _ (sym c.stride.ensures ∙ eqb-true c.stride.result 0 e)) first)))))

pub returns : goal.returns
returns g c =
    rw (passed c.args.card c.args.pcm _ c.args.input c.args.zones.now _ _ _ _ (sym (without_logarithm_charge _ _ c.requires.1)) refl c.common_of-common.ensures.value (none_in_a_charge c.args.input c.requires.1)) c.over_zones.ensures.0

use native.Mathlib.Omega.{arith}
use Rattle.substep.specs.Substep.{without_logarithm, substep_from}
use Rattle.substep.proofs.SubstepLaws.{passed, refused_here, transfer_value, transfer_count, whole}
use mathlib.Core.Path.{refl, sym, ◌∙◌}
use Rattle.vectors_by_value.proofs.process_heat_battery_zones.Goals as goal

pub returns-in_default : goal.returns-in_default
unfolding without_logarithm
returns-in_default g c =
    let e = refused_here c.args.card c.args.pcm _ c.args.input c.args.zones _ (transfer_value _ _ _ _ c.zone_transfer-transfer.ensures) c.in_default.is in
    c.bare.ensures ∙ (whole _ _ _ (without_logarithm c.args.zones) (refl, c.without_logarithm-o.ensures _) refl ∙ sym e)

pub common_of-common-requires : goal.common_of-common-requires
common_of-common-requires g c = refl

pub zones_in_place-o-requires : goal.zones_in_place-o-requires
zones_in_place-o-requires g c = (omega arith, (c.requires, λ h. tt))

pub returns : goal.returns
unfolding substep_from
returns g c =
    let shared = c.zone_transfer-transfer.ensures in
    let e = passed c.args.card c.args.pcm _ c.args.input c.args.zones _ _ _ _ (transfer_value _ _ _ _ shared) c.in-Some.is c.common_of-common.ensures.value (transfer_count _ _ _ _ shared) in
    c.with_arrays.ensures ∙ (whole _ _ _ _ c.zones_in_place-o.ensures.0 (c.zones_in_place-o.ensures.1 refl) ∙ sym e)

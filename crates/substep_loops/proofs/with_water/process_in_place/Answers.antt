use native.Mathlib.Omega.{arith}
use Rattle.substep.specs.Substep.{zone_transfer, logarithms_of, without_logarithm, outcome_of}
use Rattle.zone_water.specs.declared.Mode.{Mode}
use Rattle.substep.specs.declared.Substep.{Substep}
use Rattle.substep.proofs.SubstepLaws.{passed, refused_here, transfer_value, transfer_count, common_level}
use mathlib.Core.Path.{sym, ◌∙◌, ap}
use Rattle.substep_loops.proofs.with_water.process_in_place.Goals as goal

pub returns-in_default : goal.returns-in_default
unfolding without_logarithm
returns-in_default g c =
    let e = sym (refused_here c.args.card c.args.pcm _ c.args.input c.args.zones.now _ (transfer_value _ _ _ _ c.zone_transfer-transfer.ensures ∙ ap (λ (m : Mode). zone_transfer m c.args.card c.args.input) (sym c.requires.1.0)) c.in_default.is) in
    (ap (λ (v : Substep). v.zones) e, c.without_logarithm.ensures _ ∙ ap outcome_of e)

pub common_of-common-requires : goal.common_of-common-requires
common_of-common-requires g c = sym c.requires.1.0

pub zones_in_place-requires : goal.zones_in_place-requires
zones_in_place-requires g c =
    let p = c.requires in
    (omega arith, (p.0, λ h j l. p.1.1 h j l ∙ sym (common_level _ _ _ _ _ _ c.common_of-common.ensures.value)))

pub returns : goal.returns
returns g c =
    let shared = c.zone_transfer-transfer.ensures in
    let t = transfer_value _ _ _ _ shared ∙ ap (λ (m : Mode). zone_transfer m c.args.card c.args.input) (sym c.requires.1.0) in
    rw (passed c.args.card c.args.pcm _ c.args.input c.args.zones.now _ _ _ _ t c.in-Some.is c.common_of-common.ensures.value (transfer_count _ _ _ _ shared ∙ ap logarithms_of (sym c.requires.1.0))) c.zones_in_place.ensures.0

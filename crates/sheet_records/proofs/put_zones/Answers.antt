use native.Mathlib.Numerals.{add-one}
use mathlib.Core.Path.{◌≡◌, refl, ◌∙◌}
use native.Mathlib.Omega.{arith}
use lib.ListN.{length}
use Rattle.codec.proofs.Puts.{nothing_written, then_f64}
use Rattle.sheet_records.specs.Records.{zones_bytes}
use Rattle.sheet_records.proofs.put_zones.Goals as goal

pub loop-zone-init : goal.loop-zone-init
unfolding zones_bytes
loop-zone-init c = (omega arith, refl, nothing_written _ _)

pub put_f64-p-requires : goal.put_f64-p-requires
put_f64-p-requires c =
    let l = c.loop-zone in
    omega (arith, c.loop-zone-test.true, l.invariant.0, l.invariant.1, c.requires)

pub loop-zone-preserved : goal.loop-zone-preserved
unfolding zones_bytes
loop-zone-preserved c =
    let l = c.loop-zone in
    (omega (arith, c.put_f64-p.ensures.0, l.invariant.0), c.put_f64-p.auto.bytes ∙ l.invariant.1, rw add-one (then_f64 _ l.invariant.2 c.put_f64-p.ensures))

pub shape_of-bytes : goal.shape_of-bytes
shape_of-bytes c = c.loop-zone.invariant.1

pub returns : goal.returns
returns c =
    let l = c.loop-zone in
    let e : l.zone-index ≡ length c.args.zones.now = omega (arith, l.auto.zone-index-end, c.loop-zone-test.false) in
    (omega (arith, e, l.invariant.0), rw (← e) l.invariant.2.memory)

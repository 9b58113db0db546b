use Prim.Native.Nat.{◌≤◌}
use native.Mathlib.Omega.{arith}
use lib.ListN.{length}
use lib.Seq.{length-take-le}
use Rattle.codec.proofs.Puts.{nothing_written, then_sized, written}
use Rattle.sheet_records.specs.Records.{zones_bytes, totals_bytes, state_bytes}
use Rattle.sheet_records.proofs.Lengths.{length_zones_bytes, zones_bytes_front, length_totals_bytes, length_state_bytes}
use Rattle.sheet_records.proofs.put_state.Goals as goal

pub returns : goal.returns
unfolding state_bytes
returns c =
    let a = c.args in
    let few : a.battery.card.layers ≤ length a.battery.zones = omega (arith, c.requires.0, c.well_formed) in
    let e = rw (zones_bytes_front a.battery.zones a.battery.card.layers few, length-take-le a.battery.card.layers a.battery.zones few) at c.put_zones-p.ensures in
    let w1 = then_sized (zones_bytes a.battery.zones a.battery.card.layers) (length_zones_bytes _ _) (nothing_written a.bytes.now a.at) e in
    let w2 = then_sized (totals_bytes a.battery) (length_totals_bytes _) w1 c.put_totals.ensures in
    written w2 (unfold state_bytes in length_state_bytes a.version a.battery)

use native.Mathlib.Omega.{arith}
use Rattle.codec.proofs.Puts.{nothing_written, then_f64}
use Rattle.sheet_records.specs.Records.{totals_bytes}
use Rattle.sheet_records.proofs.put_totals.Goals as goal

pub returns : goal.returns
unfolding totals_bytes
returns c =
    let a = c.args in
    let w0 = nothing_written a.bytes.now a.at in
    let w1 = then_f64 a.battery.total w0 c.put_f64-p1.ensures in
    let w2 = then_f64 a.battery.pump w1 c.put_f64-p2.ensures in
    let w3 = then_f64 a.battery.direct w2 c.put_f64-p3.ensures in
    let w4 = then_f64 a.battery.charged w3 c.put_f64-p4.ensures in
    let w5 = then_f64 a.battery.electric w4 c.put_f64.ensures in
    (omega (arith, c.put_f64-p1.ensures.0, c.put_f64-p2.ensures.0, c.put_f64-p3.ensures.0, c.put_f64-p4.ensures.0, c.put_f64.ensures.0), w5.memory)

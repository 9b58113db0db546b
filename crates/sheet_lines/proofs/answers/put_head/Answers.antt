use Rattle.codec.proofs.Puts.{nothing_written, then_f64, then_number, written}
use Rattle.sheet_lines.proofs.Lengths.{length_head_bytes}
use Rattle.sheet_lines.specs.Answers.{head_bytes}
use Rattle.sheet_lines.proofs.answers.put_head.Goals as goal

pub returns : goal.returns
unfolding head_bytes
returns c =
    let a = c.args in
    let w1 = then_number 1 a.answer.refusal (nothing_written a.bytes.now a.at) c.put_u8-p1.ensures in
    let w2 = then_f64 a.answer.energy w1 c.put_f64-p2.ensures in
    let w3 = then_number 1 a.answer.mark w2 c.put_u8-p3.ensures in
    let w4 = then_f64 a.answer.outlet w3 c.put_f64-p4.ensures in
    let w5 = then_f64 a.answer.time w4 c.put_f64-p5.ensures in
    let w6 = then_number 4 a.answer.substeps w5 c.put_u32.ensures in
    written w6 (length_head_bytes a.version a.answer)

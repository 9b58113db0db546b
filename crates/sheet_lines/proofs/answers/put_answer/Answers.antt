use Rattle.codec.proofs.Puts.{nothing_written, then_sized, written}
use Rattle.sheet_lines.specs.Answers.{head_bytes, answer_bytes}
use Rattle.sheet_records.specs.Records.{state_bytes}
use Rattle.sheet_records.proofs.Lengths.{length_state_bytes}
use Rattle.sheet_lines.proofs.Lengths.{length_head_bytes, length_answer_bytes}
use Rattle.sheet_lines.proofs.answers.put_answer.Goals as goal

pub returns : goal.returns
unfolding answer_bytes
returns c =
    let a = c.args in
    let w1 = then_sized (head_bytes a.answer) (length_head_bytes a.version a.answer) (nothing_written a.bytes.now a.at) c.put_head-p.ensures in
    let w2 = then_sized (state_bytes a.version a.answer.battery) (length_state_bytes _ _) w1 c.put_state.ensures in
    written w2 (length_answer_bytes a.version a.answer)

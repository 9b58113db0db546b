use Rattle.codec.proofs.Puts.{then_equal, nothing_written, then_sized, written_front}
use Rattle.sheet_lines.specs.Lines.{line_length, line_bytes}
use Rattle.sheet_lines.specs.Answers.{answer_bytes}
use Rattle.sheet_lines.proofs.Lengths.{length_answer_bytes, length_line_bytes}
use lib.ListN.{length}
use native.Mathlib.Omega.{arith}
use mathlib.Core.Path.{refl}
use Rattle.sheet_lines.proofs.lines.put_line.Goals as goal

pub returns : goal.returns
unfolding line_bytes
returns c =
    let a = c.args in
    let w1 = then_equal 2 (line_length a.version a.answer.battery.card (length a.call.now)) c.line_length-n.ensures (nothing_written a.sheet.now 0) c.put_be-p1.ensures in
    let w2 = then_sized a.call.now refl w1 c.put_bytes-p2.ensures in
    let w3 = then_sized (answer_bytes a.version a.answer) (length_answer_bytes _ _) w2 c.put_answer.ensures in
    written_front w3 (omega (arith, length_line_bytes a.version a.call.now a.answer, c.requires.2))

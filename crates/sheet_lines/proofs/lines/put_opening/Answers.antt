use Rattle.codec.proofs.Puts.{then_equal, nothing_written, then_sized, then_number, written_front}
use Rattle.sheet_lines.proofs.Lengths.{length_opening_bytes}
use native.Mathlib.Omega.{arith}
use Rattle.sheet_lines.specs.Lines.{opening_bytes}
use Rattle.sheet_records.specs.Cards.{card_length}
use mathlib.Core.Path.{refl}
use Rattle.sheet_lines.proofs.lines.put_opening.Goals as goal

pub returns : goal.returns
unfolding opening_bytes
returns c =
    let a = c.args in
    let w1 = then_number 1 a.version (nothing_written a.sheet.now 0) c.put_u8-p1.ensures in
    let w2 = then_equal 2 (card_length a.version a.card.now) c.card_length-n.ensures.0 w1 c.put_be-p2.ensures in
    let w3 = then_sized a.card.now refl w2 c.put_bytes.ensures in
    written_front w3 (omega (arith, length_opening_bytes a.version a.card.now c.requires.0, c.requires.1))

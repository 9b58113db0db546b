use Rattle.codec.proofs.Puts.{nothing_written, then_sized, written_whole}
use Rattle.sheet_records.specs.Records.{state_bytes, record_bytes}
use Rattle.sheet_records.proofs.Lengths.{length_state_bytes, length_record_bytes}
use mathlib.Core.Path.{sym, ◌∙◌, refl}
use Rattle.sheet_records.proofs.put_record.Goals as goal

pub returns : goal.returns
unfolding record_bytes
returns c =
    let a = c.args in
    let w1 = then_sized a.card.now refl (nothing_written a.bytes.now 0) c.put_bytes-p.ensures in
    let w2 = then_sized (state_bytes a.version a.battery) (length_state_bytes _ _) w1 c.put_state.ensures in
    written_whole w2 (length_record_bytes a.version a.card.now a.battery ∙ sym c.requires.1)

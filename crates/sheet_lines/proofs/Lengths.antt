-- The length of an answer's and of a line's encoding.
use mathlib.Core.Path.{◌≡◌}
use mathlib.Core.List.{List}
use Prim.Native.Nat.{ℕ}
use native.Mathlib.Omega.{arith}
use lib.ListN.{length, length-append}
use Rattle.codec.proofs.Laws.{length_be_bytes, length_f64_bytes}
use Rattle.battery.specs.declared.Answer.{Answer}
use Rattle.sheet_records.specs.Cards.{card_length}
use Rattle.sheet_records.proofs.Lengths.{length_state_bytes}
use Rattle.sheet_lines.specs.Answers.{head_length, head_bytes, answer_length, answer_bytes}
use Rattle.sheet_lines.specs.Lines.{line_length, line_size, line_bytes, opening_length, opening_bytes}

pub length_head_bytes : (version : ℕ) (a : Answer) → length (head_bytes a) ≡ head_length version
unfolding head_bytes head_length
length_head_bytes version a = simp (length-append, length_be_bytes, length_f64_bytes)

pub length_answer_bytes : (version : ℕ) (a : Answer) → length (answer_bytes version a) ≡ answer_length version a.battery.card
unfolding answer_bytes answer_length
length_answer_bytes version a = simp (length-append, length_head_bytes version, length_state_bytes)

pub length_line_bytes : (version : ℕ) (call : List ℕ) (a : Answer) → length (line_bytes version call a) ≡ line_size version a.battery.card (length call)
unfolding line_bytes line_size line_length
length_line_bytes version call a = simp (length-append, length_be_bytes, length_answer_bytes) (omega arith)

pub length_opening_bytes : (version : ℕ) (card : List ℕ) → length card ≡ card_length version card → length (opening_bytes version card) ≡ opening_length version card
unfolding opening_bytes opening_length
length_opening_bytes version card h = simp (length-append, length_be_bytes) (omega arith)

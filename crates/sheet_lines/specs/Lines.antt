-- Document 01, 'Sheet': 'Byte 0 is the version. Each line: length of what follows it (u16, big-endian like every number; f64 by its bits), then content.'
use Rattle.std.specs.Prelude.{ℕ, ◌+◌, List, ◌++◌, length}
use Rattle.codec.specs.Bytes.{be_bytes}
use Rattle.card.specs.declared.Card.{Card}
use Rattle.battery.specs.declared.Answer.{Answer}
use Rattle.sheet_records.specs.Cards.{card_length}
use Rattle.sheet_lines.specs.Answers.{answer_length, answer_bytes}

-- what follows the length of a line whose call has n bytes, and all the line's bytes
unfoldable pub line_length : ℕ → Card → ℕ → ℕ
line_length version card n = n + answer_length version card

unfoldable pub line_size : ℕ → Card → ℕ → ℕ
line_size version card n = 2 + line_length version card n

-- 'Call line: kind, call fields', then the answer
unfoldable pub line_bytes : ℕ → List ℕ → Answer → List ℕ
line_bytes version call answer = be_bytes 2 (line_length version answer.battery.card (length call)) ++ call ++ answer_bytes version answer

-- the version byte and line 0, with the card at the front of bs
unfoldable pub opening_length : ℕ → List ℕ → ℕ
opening_length version bs = 3 + card_length version bs

unfoldable pub opening_bytes : ℕ → List ℕ → List ℕ
opening_bytes version card = be_bytes 1 version ++ be_bytes 2 (card_length version card) ++ card

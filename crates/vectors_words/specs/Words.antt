-- Words of 8 bytes, the highest byte first, and the numbers that they are.
use Rattle.std.specs.Prelude.{ℕ, ◌*◌, ◌/◌, List, length, ltb, cond, Float}
use Rattle.std.specs.Float.{binary64}
use Rattle.std.specs.Float.Ieee.{of_bits}
use Rattle.codec.specs.Bytes.{be_at}

-- the word with an index, 0 after the last one
abbrev pub word_at : List ℕ → ℕ → ℕ
word_at bytes i = cond (ltb i (length bytes / 8)) (be_at bytes (8 * i) 8) 0

abbrev pub number_at : List ℕ → ℕ → Float
number_at bytes i = of_bits binary64 (word_at bytes i)

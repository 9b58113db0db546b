-- The bytes of a record.
use Rattle.std.specs.Prelude.{◌≡◌, ℕ, ◌+◌, ◌*◌, ◌++◌, List, Option, length}
use Rattle.std.specs.Io.KnownBytes.{Consumes}
use Rattle.codec.specs.Bytes.{be}

-- the four bytes in front: an id, and the number of the words, which take `size` bytes
abbrev pub IsFront : List ℕ → ℕ → ℕ → Type 0
IsFront front id size = (length front ≡ 4) × (8 * be front ≡ 524288 * id + size)

abbrev pub ReadsFront : Option (List ℕ) → Option (List ℕ) → ℕ → ℕ → Type 0
ReadsFront given left id size = (front : List ℕ) × IsFront front id size × Consumes given left front

abbrev pub ReadsRecord : Option (List ℕ) → Option (List ℕ) → ℕ → List ℕ → Type 0
ReadsRecord given left id words = (front : List ℕ) × IsFront front id (length words) × Consumes given left (front ++ words)

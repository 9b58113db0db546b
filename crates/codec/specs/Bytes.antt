-- Numbers as bytes, the highest byte first, and f64 by its bits.
use Rattle.std.specs.Prelude.{ℕ, zero, suc, ◌+◌, ◌*◌, ◌/◌, ◌%◌, List, [], ◌∷◌, ◌++◌, length, take, drop, Float}
use Rattle.std.specs.Float.{binary64}
use Rattle.std.specs.Float.Ieee.{of_bits, to_bits}

-- the number that bytes stand for, after the digits read so far
abbrev pub be_from : ℕ → List ℕ → ℕ
be_from a [] = a
be_from a (b ∷ bs) = be_from (a * 256 + b) bs

unfoldable pub be : List ℕ → ℕ
be bs = be_from 0 bs

-- the number that w bytes from a place on stand for
abbrev pub be_at : List ℕ → ℕ → ℕ → ℕ
be_at bs at w = be (take w (drop at bs))

-- the w lowest bytes of a number
unfoldable pub be_bytes : ℕ → ℕ → List ℕ
be_bytes zero x = []
be_bytes (suc w) x = be_bytes w (x / 256) ++ (x % 256 ∷ [])

unfoldable pub f64_of : List ℕ → Float
f64_of bs = of_bits binary64 (be bs)

abbrev pub f64_at : List ℕ → ℕ → Float
f64_at bs at = f64_of (take 8 (drop at bs))

-- the k-th of the f64 that stand one after the other from a place on
abbrev pub nth_f64 : List ℕ → ℕ → ℕ → Float
nth_f64 bs from k = f64_at bs (from + 8 * k)

unfoldable pub f64_bytes : Float → List ℕ
f64_bytes x = be_bytes 8 (to_bits binary64 x)

-- bytes over the front of a memory: what lies after them stays
unfoldable pub over : List ℕ → List ℕ → List ℕ
over bs memory = bs ++ drop (length bs) memory

-- Document 01, 'Stand-ins': finite, nearly equal, max(0.0), min and powi(2); and `as usize`, 'truncation from the bits'.
use Rattle.std.specs.Prelude.{ℕ, Bool, true, false, cond, ◌&&◌, Float}
use Rattle.std.specs.Float.{binary64}
use Rattle.std.specs.Float.Ieee.{fits, neg, lt, le, eq, to_unsigned}
use Rattle.std.specs.Float.Ieee.Scale.{finite}
use Rattle.floats.specs.F64.{◌⊖◌, ◌⊗◌}
use Rattle.floats.specs.Constants.{zero}

-- a finite number of binary64: no NaN and no infinity
unfoldable pub finite64 : Float → Bool
finite64 x = fits binary64 x && finite x

-- |p|
unfoldable pub magnitude : Float → Float
magnitude p = cond (lt p zero) (neg p) p

-- the larger of two magnitudes
unfoldable pub larger : Float → Float → Float
larger p q = cond (lt p q) q p

-- 'Nearly equal: equal, or both finite and |p-q| at most epsilon or at most the larger magnitude times max_relative'
unfoldable pub nearly_equal : Float → Float → Float → Float → Bool
nearly_equal p q epsilon relative =
    cond (eq p q) true
    (cond (finite64 p && finite64 q)
    (cond (le (magnitude (p ⊖ q)) epsilon) true
    (le (magnitude (p ⊖ q)) (larger (magnitude p) (magnitude q) ⊗ relative)))
    false)

-- 'max(0.0): p if p > 0, else 0'
unfoldable pub max_zero : Float → Float
max_zero p = cond (lt zero p) p zero

-- 'min: the smaller', of two equal ones the first
unfoldable pub min : Float → Float → Float
min p q = cond (le p q) p q

-- 'powi(2): p × p'
unfoldable pub square : Float → Float
square p = p ⊗ p

-- '`as usize`: truncation': towards 0, to the nearest end of the range where it lies outside, 0 of a NaN
unfoldable pub truncate : Float → ℕ
truncate x = to_unsigned 64 x

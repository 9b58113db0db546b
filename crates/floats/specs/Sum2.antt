-- Document 01, 'Stand-ins': Sum2, 's = c = 0; per item t = s+p, z = t-s, c += (s-(t-z)) + (p-z), s = t; result s+c'.
use Rattle.std.specs.Prelude.{List, ℕ, zero, suc, get_or, Float}
use Rattle.std.specs.Float.{nan}
use Rattle.floats.specs.F64.{◌⊕◌, ◌⊖◌}
use Rattle.floats.specs.Constants as Constants
use Rattle.floats.specs.declared.Sum2.{Sum2}

-- one item more
unfoldable pub sum2_step : Sum2 → Float → Sum2
sum2_step sum p =
    let t = sum.s ⊕ p in
    let z = t ⊖ sum.s in
    record { s = t; c = sum.c ⊕ ((sum.s ⊖ (t ⊖ z)) ⊕ (p ⊖ z)) }

-- after the first k of the numbers xs
unfoldable pub sum2_after : List Float → ℕ → Sum2
sum2_after xs zero = record { s = Constants.zero; c = Constants.zero }
sum2_after xs (suc k) = sum2_step (sum2_after xs k) (get_or xs k nan)

unfoldable pub sum2 : List Float → ℕ → Float
sum2 xs k = (sum2_after xs k).s ⊕ (sum2_after xs k).c

-- What the stand-ins answer: `max(0.0)` is never negative, and a finite number of binary64 is held by its format and is finite. Assumes nothing.
use lib.Dec.{T}
use lib.Ieee.{Float, binary64, fits, of_bits, le, lt}
use lib.Ieee.Fits.{and_l, and_r}
use lib.Ieee.Scale.{finite}
use Rattle.floats.specs.Constants.{zero}
use Rattle.floats.specs.Standins.{finite64, max_zero}
use Rattle.logic.proofs.Branch.{by_test}
use Rattle.floats.proofs.Compare.{le_of_lt}
use Rattle.floats.proofs.Order.{le_refl}

pub finite64_fits : (x : Float) → T (finite64 x) → T (fits binary64 x)
unfolding finite64
finite64_fits x h = and_l (fits binary64 x) (finite x) h

pub finite64_finite : (x : Float) → T (finite64 x) → T (finite x)
unfolding finite64
finite64_finite x h = and_r (fits binary64 x) (finite x) h

pub max_zero_nonneg : (p : Float) → T (le zero (max_zero p))
unfolding max_zero of_bits
max_zero_nonneg p = by_test (λ (x : Float). T (le zero x)) (lt zero p) p zero (le_of_lt zero p) (λ h. le_refl zero tt)

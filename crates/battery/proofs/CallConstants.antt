-- The named number is the float nearest to the fraction that its comment names.
use mathlib.Core.Path.{◌≡◌, refl}
use Prim.Native.Nat.{◌^◌}
use lib.Ieee.{round, of_bits}
use Rattle.floats.proofs.Constants.{fraction}
use Rattle.battery.specs.Call.{narrowest}

pub narrowest_diameter : narrowest ≡ fraction 1 (10 ^ 5)
unfolding of_bits round
narrowest_diameter = refl

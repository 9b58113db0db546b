-- Each named number is the float nearest to the fraction that its comment names.
use mathlib.Core.Path.{◌≡◌, refl}
use Prim.Native.Nat.{◌^◌}
use lib.Ieee.{round, of_bits, div}
use Rattle.floats.proofs.Constants.{fraction}
use Rattle.zone_water.specs.Water.{density, heat_capacity, viscosity2, viscosity1, viscosity0}

pub of_water : (density ≡ fraction 1 1) × (heat_capacity ≡ fraction 4184 3600000)
unfolding of_bits round div
of_water = (refl, refl)

pub coefficients : (viscosity2 ≡ fraction 145238 (10 ^ 15)) × (viscosity1 ≡ fraction 248238 (10 ^ 13)) × (viscosity0 ≡ fraction 1432 (10 ^ 9))
unfolding of_bits round
coefficients = (refl, refl, refl)

-- Each named number is the float nearest to the fraction that its comment names.
use mathlib.Core.Path.{◌≡◌, refl}
use Prim.Native.Nat.{◌^◌}
use lib.Ieee.{round, of_bits, neg}
use Rattle.floats.proofs.Constants.{fraction}
use Rattle.card.specs.Ranges.{coldest, hottest, million, tenth, hundredth, thousandth, ten_thousandth, day, hundred}

pub ends :
    (coldest ≡ neg (fraction 50 1)) × (hottest ≡ fraction 250 1) × (million ≡ fraction (10 ^ 6) 1) × (tenth ≡ fraction 1 10)
    × (hundredth ≡ fraction 1 100) × (thousandth ≡ fraction 1 1000) × (ten_thousandth ≡ fraction 1 10000) × (day ≡ fraction 24 1)
    × (hundred ≡ fraction 100 1)
unfolding of_bits round
ends = (refl, refl, refl, refl, refl, refl, refl, refl, refl)

-- Each named number is the float nearest to the fraction that its comment names; crates with numbers of their own have a file like this one.
use mathlib.Core.Bool.{false}
use mathlib.Core.Path.{◌≡◌, refl}
use Prim.Native.Nat.{ℕ, ◌-◌, ◌*◌, ◌^◌}
use lib.Ieee.{Float, binary64, round, of_bits}
use Rattle.floats.specs.Constants.{zero, half, one, two, max_relative, tolerance, demand_relative, negligible_energy, ambient, room_temperature, rated_ambient, minute, thousand, hour, root_two, ln_two, bias, smallest_normal, largest_finite}

-- p / q, rounded once, to nearest even
abbrev pub fraction : ℕ → ℕ → Float
fraction p q = round binary64 false p q

pub whole_numbers :
    (zero ≡ fraction 0 1) × (one ≡ fraction 1 1) × (two ≡ fraction 2 1) × (ambient ≡ fraction 16 1) × (room_temperature ≡ fraction 16 1) × (rated_ambient ≡ fraction 20 1)
    × (minute ≡ fraction 60 1) × (thousand ≡ fraction 1000 1) × (bias ≡ fraction 1023 1) × (hour ≡ fraction 3600 1)
unfolding of_bits round
whole_numbers = (refl, refl, refl, refl, refl, refl, refl, refl, refl, refl)

pub fractions :
    (half ≡ fraction 1 2) × (max_relative ≡ fraction 1 (2 ^ 52)) × (tolerance ≡ fraction 1 (10 ^ 10)) × (demand_relative ≡ fraction 1 (10 ^ 9))
    × (negligible_energy ≡ fraction 1 (10 ^ 6)) × (root_two ≡ fraction 14142135623730951 (10 ^ 16))
    × (ln_two ≡ fraction 6931471805599453 (10 ^ 16))
unfolding of_bits round
fractions = (refl, refl, refl, refl, refl, refl, refl)

pub normal_ends : (smallest_normal ≡ fraction 1 (2 ^ 1022)) × (largest_finite ≡ fraction ((2 ^ 53 - 1) * 2 ^ 971) 1)
unfolding of_bits round
normal_ends = (refl, refl)

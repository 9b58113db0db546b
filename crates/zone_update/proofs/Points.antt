-- Document 01, 'Points to hit', those marked P, computed on the definitions: one layer, below 4, during 32, above 2, lower 48, upper 56, max 80.
use mathlib.Core.Bool.{true}
use mathlib.Core.Path.{◌≡◌, refl}
use Prim.Native.Nat.{ℕ}
use lib.IntN.{pos}
use lib.Ieee.{Float, binary64, of_bits, of_int, add, sub, mul, div, neg, lt, le, eq, fits}
use Rattle.floats.specs.F64.{◌⊖◌, ◌⊘◌}
use Rattle.floats.specs.Constants.{room_temperature}
use Rattle.floats.specs.Standins.{finite64, magnitude, larger, nearly_equal, min}
use Rattle.zone.specs.Heat.{kj, kilowatt_hours}
use Rattle.zone.specs.Layer.{layer_energy_stored, temp_at, soc_to_temp, zone_energy_required}
use Rattle.zone_update.specs.Update.{new_zone_temperature, delivering, delivering_from_above, retrieving, retrieving_from_below, floored, zone_update}
use Rattle.std.specs.Prelude.{Some}
use Rattle.zone_update.specs.declared.ZoneUpdate.{ZoneUpdate}
use Rattle.zone.specs.declared.Salt.{Salt}

abbrev num : ℕ → Float
num n = of_int binary64 (pos n)

-- n hundredths
abbrev hundredths : ℕ → Float
hundredths n = num n ⊘ num 100

abbrev salt : Salt
salt = record { lower = num 48; upper = num 56; below = num 4; during = num 32; above = num 2 }

-- the energy of the layer at t above ref
abbrev energy : ℕ → ℕ → Float
energy t ref = (layer_energy_stored (num t) (num ref) salt).0

-- a zone at t after it gave up e
abbrev after : ℕ → Float → Float
after t e = new_zone_temperature salt (num t) (kj e)

pub points :
    (energy 0 0 ≡ num 0) × (energy 40 0 ≡ num 160) × (energy 48 0 ≡ num 192) × (energy 52 0 ≡ num 320) × (energy 56 0 ≡ num 448)
    × (energy 60 0 ≡ num 456) × (energy 60 52 ≡ num 136)
    × (after 60 (num 8) ≡ num 56) × (after 60 (num 16) ≡ hundredths 5575) × (after 60 (num 268) ≡ num 47)
    × (after 48 (num 4) ≡ num 47) × (after 48 (neg (num 32)) ≡ num 49) × (after 48 (num 1 ⊘ num 1000000) ≡ num 48)
    × (after 40 (neg (num 288)) ≡ num 56)
    × (soc_to_temp salt (num 0) (num 80) (num 1 ⊘ num 2) ≡ hundredths 4975) × ((zone_energy_required salt (num 40) (num 60)).0 ≡ neg (num 296))
unfolding layer_energy_stored temp_at soc_to_temp zone_energy_required new_zone_temperature delivering delivering_from_above retrieving retrieving_from_below nearly_equal finite64 magnitude larger of_bits of_int add sub mul div neg lt le eq fits
points = (refl, refl, refl, refl, refl, refl, refl, refl, refl, refl, refl, refl, refl, refl, refl, refl)

-- document 02, Six: 'Point 76 °C in document 01 ends at -103 °C'; with the floor it ends at 16, and 424 of 900 kJ are taken: 0.11777777777777777 kWh
abbrev stopped : Float → Float → ZoneUpdate
stopped t e = zone_update (Some room_temperature) salt t (kj e)

pub floor_point :
    (after 76 (num 900) ≡ neg (num 103)) × (stopped (num 76) (num 900) ≡ record { temperature = num 16; taken = kj (num 424); rest = kj (num 476) })
    × ((kilowatt_hours (kj (num 424))).0 ≡ of_bits binary64 0x3FBE26AF37C048D1)
unfolding kilowatt_hours layer_energy_stored min floored zone_update new_zone_temperature delivering delivering_from_above nearly_equal finite64 magnitude larger of_bits of_int add sub mul div neg lt le eq fits
floor_point = (refl, refl, refl)

-- more may be taken than the zone held above the floor, by rounding: 2.0000000000000004 kJ of 2, from 16.5 °C to exactly 16
pub more_than_held :
    ((layer_energy_stored (of_bits binary64 0x4030800000000000) room_temperature salt).0 ≡ num 2)
    × (eq (stopped (of_bits binary64 0x4030800000000000) (of_bits binary64 0x4000000000000001)).temperature (num 16) ≡ true)
    × ((stopped (of_bits binary64 0x4030800000000000) (of_bits binary64 0x4000000000000001)).taken.0 ≡ of_bits binary64 0x4000000000000001)
unfolding layer_energy_stored min floored zone_update new_zone_temperature delivering delivering_from_above nearly_equal finite64 magnitude larger of_bits of_int add sub mul div neg lt le eq fits
more_than_held = (refl, refl, refl)

-- and the energy less the rest isn't what was taken: of 139.31999999999996 kJ from 18.7 °C 10.799999999999997 are taken; less the rest there are 10.799999999999983
pub not_energy_less_rest :
    ((stopped (of_bits binary64 0x4032B33333333333) (of_bits binary64 0x40616A3D70A3D709)).taken.0 ≡ of_bits binary64 0x4025999999999998)
    × (of_bits binary64 0x40616A3D70A3D709 ⊖ (stopped (of_bits binary64 0x4032B33333333333) (of_bits binary64 0x40616A3D70A3D709)).rest.0 ≡ of_bits binary64 0x4025999999999990)
unfolding layer_energy_stored min floored zone_update new_zone_temperature delivering delivering_from_above nearly_equal finite64 magnitude larger of_bits of_int add sub mul div neg lt le eq fits
not_energy_less_rest = (refl, refl)

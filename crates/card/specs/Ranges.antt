-- Document 01's ranges, both ends in, each under its field's name: 'Fields named as on the card have its ranges'.
use Rattle.std.specs.Prelude.{Bool, ◌&&◌, Float}
use Rattle.std.specs.Float.{binary64}
use Rattle.std.specs.Float.Ieee.{of_bits, neg, le}
use Rattle.floats.specs.Constants.{zero, thousand, hour}

-- low ≤ x ≤ high; between finite ends lies no NaN and no infinity
unfoldable pub within : Float → Float → Float → Bool
within low high x = le low x && le x high

-- -50, 250, 1e6, and 0.1, 0.01, 0.001, 0.0001, 24, 100 by their bits
abbrev pub coldest : Float
coldest = neg (of_bits binary64 0x4049000000000000)

abbrev pub hottest : Float
hottest = of_bits binary64 0x406F400000000000

abbrev pub million : Float
million = of_bits binary64 0x412E848000000000

abbrev pub tenth : Float
tenth = of_bits binary64 0x3FB999999999999A

abbrev pub hundredth : Float
hundredth = of_bits binary64 0x3F847AE147AE147B

abbrev pub thousandth : Float
thousandth = of_bits binary64 0x3F50624DD2F1A9FC

abbrev pub ten_thousandth : Float
ten_thousandth = of_bits binary64 0x3F1A36E2EB1C432D

abbrev pub day : Float
day = of_bits binary64 0x4038000000000000

abbrev pub hundred : Float
hundred = of_bits binary64 0x4059000000000000

-- 'substep 0.1..3600 s'
unfoldable pub is_substep : Float → Bool
is_substep x = within tenth hour x

-- 'timestep 0.01..24 h'
unfoldable pub is_timestep : Float → Bool
is_timestep x = within hundredth day x

-- '-50..250 °C'
unfoldable pub is_temperature : Float → Bool
is_temperature x = within coldest hottest x

-- 'totals .. 0.001..1e6 kJ/K'
unfoldable pub is_capacity : Float → Bool
is_capacity x = within thousandth million x

-- 'velocity 0.0001..100 m/s'
unfoldable pub is_velocity : Float → Bool
is_velocity x = within ten_thousandth hundred x

-- 'diameter 0.01..1000 mm'
unfoldable pub is_diameter : Float → Bool
is_diameter x = within hundredth thousand x

-- 'a, b -1e6..1e6'
unfoldable pub is_coefficient : Float → Bool
is_coefficient x = within (neg million) million x

-- 'flow 0.001..1000 l/min'
unfoldable pub is_flow : Float → Bool
is_flow x = within thousandth thousand x

-- 'losses 0..1000 kW', 'power 0..1000 kW'
unfoldable pub is_power : Float → Bool
is_power x = within zero thousand x

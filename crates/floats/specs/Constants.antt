-- The numbers that document 01 and the Rust's arithmetic name, by their bits. proofs/Constants.antt has the fraction that each is nearest to.
use Rattle.std.specs.Prelude.{Float}
use Rattle.std.specs.Float.{binary64}
use Rattle.std.specs.Float.Ieee.{of_bits}

-- 0, 1/2, 1, 2
abbrev pub zero : Float
zero = of_bits binary64 0

abbrev pub half : Float
half = of_bits binary64 0x3FE0000000000000

abbrev pub one : Float
one = of_bits binary64 0x3FF0000000000000

abbrev pub two : Float
two = of_bits binary64 0x4000000000000000

-- 2^-52: max_relative of nearly equal, unless given
abbrev pub max_relative : Float
max_relative = of_bits binary64 0x3CB0000000000000

-- 1e-10: epsilon of a card's max and ref, of energies and temperatures; the tolerance above a state of charge of 1
abbrev pub tolerance : Float
tolerance = of_bits binary64 0x3DDB7CDFD9D7BDBB

-- 1e-9: max_relative of a demand's energies
abbrev pub demand_relative : Float
demand_relative = of_bits binary64 0x3E112E0BE826D695

-- 1e-6 kJ: an energy of at most this magnitude leaves a zone
abbrev pub negligible_energy : Float
negligible_energy = of_bits binary64 0x3EB0C6F7A0B5ED8D

-- 16 °C: DEFAULT_AMBIENT_TEMPERATURE
abbrev pub ambient : Float
ambient = of_bits binary64 0x4030000000000000

-- 16 °C: document 02, Six, 'a floor of 16 °C for standing losses'; a number of its own, though document 01's ambient is 16 too
abbrev pub room_temperature : Float
room_temperature = of_bits binary64 0x4030000000000000

-- 20 °C: the surroundings of the rated losses
abbrev pub rated_ambient : Float
rated_ambient = of_bits binary64 0x4034000000000000

-- 60: seconds in a minute
abbrev pub minute : Float
minute = of_bits binary64 0x404E000000000000

-- 1,000: watts in a kilowatt, millimetres in a metre
abbrev pub thousand : Float
thousand = of_bits binary64 0x408F400000000000

-- 3,600: seconds in an hour, kilojoules in a kilowatt-hour
abbrev pub hour : Float
hour = of_bits binary64 0x40AC200000000000

-- the logarithm's 1.4142135623730951 (√2) and 0.6931471805599453 (ln 2), and 1,023, the exponent's field of 1
abbrev pub root_two : Float
root_two = of_bits binary64 0x3FF6A09E667F3BCD

abbrev pub ln_two : Float
ln_two = of_bits binary64 0x3FE62E42FEFA39EF

abbrev pub bias : Float
bias = of_bits binary64 0x408FF80000000000

-- 2^-1022 and (2^53 - 1) × 2^971: the ends of the normal numbers above 0
abbrev pub smallest_normal : Float
smallest_normal = of_bits binary64 0x0010000000000000

abbrev pub largest_finite : Float
largest_finite = of_bits binary64 0x7FEFFFFFFFFFFFFF

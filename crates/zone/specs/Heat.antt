-- Document 01, module 1: 'Heat is in kilojoules within a substep and in kilowatt-hours in every answer; 3,600 links them'.
use Rattle.std.specs.Prelude.{Float}
use Rattle.floats.specs.F64.{◌⊗◌, ◌⊘◌}
use Rattle.floats.specs.Constants.{hour}
use Rattle.zone.specs.declared.Kilojoules.{Kilojoules}
use Rattle.zone.specs.declared.KilowattHours.{KilowattHours}

abbrev pub kj : Float → Kilojoules
kj x = record { 0 = x }

abbrev pub kwh : Float → KilowattHours
kwh x = record { 0 = x }

-- the two conversions
unfoldable pub kilowatt_hours : Kilojoules → KilowattHours
kilowatt_hours energy = kwh (energy.0 ⊘ hour)

unfoldable pub kilojoules : KilowattHours → Kilojoules
kilojoules energy = kj (energy.0 ⊗ hour)

-- What the loop over the zones has done so far.
use Rattle.std.specs.Prelude.{List, Float}
use Rattle.zone.specs.declared.Kilojoules.{Kilojoules}
use Rattle.zone.specs.declared.KilowattHours.{KilowattHours}

pub record Progress : Type 0 where
  pub zones : List Float
  -- kJ that each zone gave to the water or lost
  pub energies : List Float
  -- °C of the water after the last zone
  pub outlet : Float
  -- the charger's heat left
  pub left : Kilojoules
  pub charged : KilowattHours

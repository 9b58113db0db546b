-- Document 01, 'Card': 'Layer capacities are totals divided by layers; the rest as `HeatBatteryPcm::new`'.
use Rattle.std.specs.Prelude.{replicate, pos, Float}
use Rattle.std.specs.Float.{binary64}
use Rattle.std.specs.Float.Ieee.{of_int}
use Rattle.floats.specs.F64.{◌⊖◌, ◌⊗◌, ◌⊘◌}
use Rattle.floats.specs.Constants.{rated_ambient, thousand}
use Rattle.zone.specs.Heat.{kj}
use Rattle.zone.specs.Layer.{layer_energy_stored, Salts, One, Each, stored_energy}
use Rattle.zone.specs.declared.Kilojoules.{Kilojoules}
use Rattle.zone.specs.declared.Salt.{Salt}
use Rattle.card.specs.declared.Card.{Card}
use Rattle.card.specs.declared.HeatBatteryPcm.{HeatBatteryPcm}

abbrev pub layers_of : Card → Float
layers_of card = of_int binary64 (pos card.layers)

unfoldable pub salt_of : Card → Salt
salt_of card =
    record { lower = card.lower; upper = card.upper; below = card.below ⊘ layers_of card; during = card.during ⊘ layers_of card; above = card.above ⊘ layers_of card }

-- the zones' salts: one for all
unfoldable pub salts_of : Card → Salts
salts_of card = One (salt_of card)

-- the energy of the whole battery at one temperature: of one salt a layer's times the layers, of a salt for each zone the plain sum
unfoldable pub energy_at : Salts → Card → Float → Kilojoules
energy_at (One s) card t = kj ((layer_energy_stored t card.reference s).0 ⊗ layers_of card)
energy_at (Each s) card t = stored_energy s card.reference (replicate 64 t) card.layers

abbrev pub stored_maximum : Salts → Card → Kilojoules
stored_maximum salts card = energy_at salts card card.max

-- the temperature difference of the rated losses, the diameter in metres
unfoldable pub derived : Card → HeatBatteryPcm
derived card = record { rated = card.max ⊖ rated_ambient; diameter = card.diameter ⊘ thousand }

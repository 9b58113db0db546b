-- Document 01, module 3: `process_zone_simultaneous_charging`, 'as its branches stand'. Heat is positive where a zone gives it up,
-- so the charger's heat left, q, is negative; k is the energy charged so far, in kilowatt-hours.
use Rattle.std.specs.Prelude.{cond, Float}
use Rattle.std.specs.Float.Ieee.{lt, le, neg}
use Rattle.floats.specs.F64.{◌⊕◌, ◌⊖◌}
use Rattle.floats.specs.Constants.{zero}
use Rattle.zone.specs.Heat.{kj, kwh, kilowatt_hours}
use Rattle.zone.specs.Layer.{zone_energy_required}
use Rattle.zone.specs.declared.Kilojoules.{Kilojoules}
use Rattle.zone.specs.declared.KilowattHours.{KilowattHours}
use Rattle.zone.specs.declared.Salt.{Salt}
use Rattle.zone_charging.specs.declared.Charged.{Charged}

-- the charger's heat left, the energy charged, the zone's heat
abbrev pub charged : Kilojoules → KilowattHours → Kilojoules → Charged
charged left already energy = record { left = left; charged = already; heat = energy }

-- k and the heat q, counted in kilowatt-hours
unfoldable pub counted : KilowattHours → Kilojoules → KilowattHours
counted already energy = kwh (already.0 ⊕ (kilowatt_hours energy).0)

-- a zone below its target, where the water takes e ≥ 0 from it; n is what the zone needs, n ≤ 0
unfoldable pub charging_withdrawn : Kilojoules → Kilojoules → Kilojoules → KilowattHours → Charged
charging_withdrawn required left energy already =
    cond (le energy.0 (neg left.0))
    (cond (lt required.0 (left.0 ⊕ energy.0))
    (charged (kj zero) (counted (counted already energy) (kj (neg (left.0 ⊕ energy.0)))) (kj (zero ⊕ (left.0 ⊕ energy.0))))
    (charged (kj (left.0 ⊕ energy.0 ⊖ required.0)) (counted (counted already energy) (kj (neg required.0))) (kj (zero ⊕ required.0))))
    (charged (kj zero) (counted already (kj (neg left.0))) (kj (energy.0 ⊕ left.0)))

-- a zone below its target, where the water adds heat, e < 0
unfoldable pub charging_added : Kilojoules → Kilojoules → Kilojoules → KilowattHours → Charged
charging_added required left energy already =
    cond (lt required.0 (left.0 ⊕ energy.0))
    (charged (kj zero) (counted already (kj (neg left.0))) (kj (left.0 ⊕ energy.0)))
    (cond (le required.0 energy.0)
    (charged (kj (left.0 ⊖ (required.0 ⊖ energy.0))) (counted already (kj (neg (required.0 ⊖ energy.0)))) required)
    (charged left already energy))

-- a zone at its target or above
unfoldable pub charging_full : Kilojoules → Kilojoules → KilowattHours → Charged
charging_full left energy already =
    cond (le zero energy.0)
    (cond (lt energy.0 (neg left.0))
    (charged (kj (left.0 ⊕ energy.0)) (counted already energy) (kj zero))
    (charged (kj zero) (counted already (kj (neg left.0))) (kj (energy.0 ⊕ left.0))))
    (charged left already energy)

unfoldable pub zone_simultaneous_charging : Salt → Float → Float → Kilojoules → Kilojoules → KilowattHours → Charged
zone_simultaneous_charging salt t target left energy already =
    cond (lt t target)
    (cond (le zero energy.0)
    (charging_withdrawn (zone_energy_required salt t target) left energy already)
    (charging_added (zone_energy_required salt t target) left energy already))
    (charging_full left energy already)

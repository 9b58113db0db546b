-- Document 01, module 2: `calculate_new_zone_temperature`; document 02, Six: 'The zone update is then given a lowest temperature'.
use Rattle.std.specs.Prelude.{cond, Float, Option, Some, None}
use Rattle.std.specs.Float.Ieee.{lt, le, neg}
use Rattle.floats.specs.F64.{◌⊕◌, ◌⊖◌, ◌⊗◌, ◌⊘◌}
use Rattle.floats.specs.Constants.{zero, negligible_energy, max_relative}
use Rattle.floats.specs.Standins.{nearly_equal, min}
use Rattle.zone.specs.Heat.{kj}
use Rattle.zone.specs.Layer.{layer_energy_stored}
use Rattle.zone.specs.declared.Kilojoules.{Kilojoules}
use Rattle.zone.specs.declared.Salt.{Salt}
use Rattle.zone_update.specs.declared.Deltas.{Deltas}
use Rattle.zone_update.specs.declared.ZoneUpdate.{ZoneUpdate}

-- falls of temperature above, within and below the melting range
abbrev pub deltas : Float → Float → Float → Deltas
deltas a d b = record { above = a; during = d; below = b }

-- a zone at t, upper or warmer, gives up e > 0
unfoldable pub delivering_from_above : Salt → Float → Kilojoules → Deltas
delivering_from_above salt t energy =
    let range1 = (t ⊖ salt.upper) ⊗ salt.above in
    let range2 = (salt.upper ⊖ salt.lower) ⊗ salt.during in
    cond (le energy.0 range1)
    (deltas (energy.0 ⊘ salt.above) zero zero)
    (cond (le (energy.0 ⊖ range1) range2)
    (deltas (t ⊖ salt.upper) ((energy.0 ⊖ range1) ⊘ salt.during) zero)
    (deltas (t ⊖ salt.upper) (salt.upper ⊖ salt.lower) ((energy.0 ⊖ range1 ⊖ range2) ⊘ salt.below)))

-- a zone at t gives up e > 0
unfoldable pub delivering : Salt → Float → Kilojoules → Deltas
delivering salt t energy =
    let range2 = (t ⊖ salt.lower) ⊗ salt.during in
    cond (le salt.upper t)
    (delivering_from_above salt t energy)
    (cond (le salt.lower t)
    (cond (le energy.0 range2)
    (deltas zero (energy.0 ⊘ salt.during) zero)
    (deltas zero (t ⊖ salt.lower) ((energy.0 ⊖ range2) ⊘ salt.below)))
    (deltas zero zero (energy.0 ⊘ salt.below)))

-- a zone at t, lower or cooler, takes up -e, e < 0
unfoldable pub retrieving_from_below : Salt → Float → Kilojoules → Deltas
retrieving_from_below salt t energy =
    let range3 = (t ⊖ salt.lower) ⊗ salt.below in
    let range2 = (salt.lower ⊖ salt.upper) ⊗ salt.during in
    cond (le range3 energy.0)
    (deltas zero zero (energy.0 ⊘ salt.below))
    (cond (le range2 (energy.0 ⊖ range3))
    (deltas zero ((energy.0 ⊖ range3) ⊘ salt.during) (t ⊖ salt.lower))
    (deltas ((energy.0 ⊖ range3 ⊖ range2) ⊘ salt.above) (salt.lower ⊖ salt.upper) (t ⊖ salt.lower)))

-- a zone at t takes up -e, e < 0
unfoldable pub retrieving : Salt → Float → Kilojoules → Deltas
retrieving salt t energy =
    let range2 = (t ⊖ salt.upper) ⊗ salt.during in
    cond (le t salt.lower)
    (retrieving_from_below salt t energy)
    (cond (le t salt.upper)
    (cond (le range2 energy.0)
    (deltas zero (energy.0 ⊘ salt.during) zero)
    (deltas ((energy.0 ⊖ range2) ⊘ salt.above) (t ⊖ salt.upper) zero))
    (deltas (energy.0 ⊘ salt.above) zero zero))

-- the zone at t after its falls
abbrev pub lowered : Float → Deltas → Float
lowered t deltas = t ⊖ (deltas.above ⊕ deltas.during ⊕ deltas.below)

-- 'NaN energy, or magnitude at most 1e-6, leaves the zone. A positive one never raises it, a negative one never lowers it.'
unfoldable pub new_zone_temperature : Salt → Float → Kilojoules → Float
new_zone_temperature salt t energy =
    cond (nearly_equal energy.0 zero negligible_energy max_relative)
    t
    (cond (lt zero energy.0)
    (lowered t (delivering salt t energy))
    (cond (lt energy.0 zero)
    (lowered t (retrieving salt t energy))
    t))

-- its falls by two comparisons, none where the zone stays: what the code lowers it by
unfoldable pub zone_falls : Salt → Float → Kilojoules → Deltas
zone_falls salt t energy =
    cond (lt negligible_energy energy.0)
    (delivering salt t energy)
    (cond (lt energy.0 (neg negligible_energy))
    (retrieving salt t energy)
    (deltas zero zero zero))

-- the update took the energy whole, and the zone ends at t
abbrev pub took_all : Float → Kilojoules → ZoneUpdate
took_all t energy = record { temperature = t; taken = energy; rest = kj zero }

-- 'A zone already at or under the floor stays, and takes 0'
abbrev pub took_none : Float → Kilojoules → ZoneUpdate
took_none t energy = record { temperature = t; taken = kj zero; rest = energy }

-- it took so much, and 'the rest is the energy minus that'
abbrev pub took_part : Float → Float → Kilojoules → ZoneUpdate
took_part t taken energy = record { temperature = t; taken = kj taken; rest = kj (energy.0 ⊖ taken) }

-- a zone of the salt at t that u would be after document 01's update, with a floor: 'Where the update of document 01 would end under the floor, the zone becomes 16, what was
-- taken is the smaller of the energy and the layer energy of the old temperature with 16 as ref'
unfoldable pub floored : Float → Salt → Float → Kilojoules → Float → ZoneUpdate
floored lowest salt t energy u =
    cond (le t lowest)
    (took_none t energy)
    (cond (lt u lowest)
    (took_part lowest (min energy.0 (layer_energy_stored t lowest salt).0) energy)
    (took_all u energy))

-- 'hands back, beside the new temperature, the heat it couldn't take'; without a floor it takes all
unfoldable pub zone_update : Option Float → Salt → Float → Kilojoules → ZoneUpdate
zone_update None salt t energy = took_all (new_zone_temperature salt t energy) energy
zone_update (Some lowest) salt t energy = floored lowest salt t energy (new_zone_temperature salt t energy)

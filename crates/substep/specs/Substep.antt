-- Document 01, module 5: `process_heat_battery_zones`, 'charging alone goes from the last zone to the first, the others upward'.
use Rattle.std.specs.Prelude.{ℕ, zero, suc, ◌-◌, Bool, cond, ◌&&◌, ◌≡◌, List, get_or, set, replicate, Float, Option, Some, None}
use Rattle.std.specs.Float.{nan}
use Rattle.std.specs.Float.Ieee.{lt, neg}
use Rattle.floats.specs.F64.{◌⊕◌, ◌⊗◌, ◌⊘◌}
use Rattle.floats.specs.Constants as Constants
use Rattle.floats.specs.Constants.{hour}
use Rattle.floats.specs.Standins.{finite64}
use Rattle.floats.specs.Sum2.{sum2}
use Rattle.zone.specs.Heat.{kj, kwh, kilojoules}
use Rattle.zone.specs.Layer.{soc_to_temp}
use Rattle.zone_update.specs.Update.{zone_update}
use Rattle.zone_charging.specs.Charging.{charged, zone_simultaneous_charging}
use Rattle.zone_water.specs.Water.{mass_flow, heat_transfer, zone_properties}
use Rattle.zone.specs.declared.Kilojoules.{Kilojoules}
use Rattle.zone.specs.declared.KilowattHours.{KilowattHours}
use Rattle.zone.specs.declared.Salt.{Salt}
use Rattle.zone_charging.specs.declared.Charged.{Charged}
use Rattle.zone_water.specs.declared.Transfer.{Transfer}
use Rattle.zone_water.specs.declared.Mode.{Mode}
use Rattle.zone_water.specs.declared.Mode.TheVariants.{OnlyCharging, Losses, Normal}
use Rattle.card.specs.Derived.{layers_of}
use Rattle.card.specs.declared.Card.{Card}
use Rattle.card.specs.declared.HeatBatteryPcm.{HeatBatteryPcm}
use Rattle.battery.specs.Battery.{zones_finite}
use Rattle.substep.specs.declared.SubstepInput.{SubstepInput}
use Rattle.substep.specs.declared.Common.{Common}
use Rattle.substep.specs.declared.ZoneStep.{ZoneStep}
use Rattle.substep.specs.Progress.{Progress}
use Rattle.substep.specs.declared.Substep.{Substep}
use Rattle.substep.specs.declared.Outcome.{Outcome}
use Rattle.substep.specs.declared.Fault.{Fault}
use Rattle.substep.specs.declared.Fault.TheVariants.{Logarithm, NotFinite}

-- the k-th of n zones in the mode's order
unfoldable pub zone_index : Mode → ℕ → ℕ → ℕ
zone_index OnlyCharging n k = n - k - 1
zone_index (Losses lowest) n k = k
zone_index Normal n k = k

-- a zone's charge, where there is heat of the charger left
unfoldable pub zone_charge : Salt → Float → Float → Kilojoules → Kilojoules → KilowattHours → Charged
zone_charge salt t target left energy already = cond (lt left.0 Constants.zero) (zone_simultaneous_charging salt t target left energy already) (charged left already energy)

-- the temperature of the charge level, by a zone's salt
abbrev pub target_at : Common → Salt → Float
target_at common salt = soc_to_temp salt common.reference common.max common.level

-- the lowest temperature that the mode leaves a zone at: losses alone may have one
unfoldable pub lowest_of : Mode → Option Float
lowest_of OnlyCharging = None
lowest_of (Losses lowest) = lowest
lowest_of Normal = None

-- of the energy that a zone gives to the water or is to lose, what is counted: document 02, Six, 'the loss counts only what was taken'
unfoldable pub counted_energy : Mode → Kilojoules → Kilojoules → Kilojoules
counted_energy OnlyCharging energy taken = energy
counted_energy (Losses lowest) energy taken = taken
counted_energy Normal energy taken = energy

-- one zone of the salt s at t: its inlet, the charger's heat left and the energy charged so far
unfoldable pub zone_step : Common → Salt → Float → Float → Kilojoules → KilowattHours → ZoneStep
zone_step common salt t inlet left already =
    let p = zone_properties common.mode common.shared t inlet left in
    let c = zone_charge salt t (target_at common salt) left p.energy already in
    let u = zone_update (lowest_of common.mode) salt t c.heat in
    record {
      temperature = u.temperature;
      energy = counted_energy common.mode p.energy u.taken;
      outlet = p.outlet;
      left = c.left;
      charged = c.charged;
      logarithms = p.logarithms;
    }

-- the zone at j, of the salt s j
unfoldable pub zone_at : Common → (ℕ → Salt) → ℕ → Progress → Progress
zone_at common s j progress =
    let z = zone_step common (s j) (get_or progress.zones j nan) progress.outlet progress.left progress.charged in
    record {
      zones = set progress.zones j z.temperature;
      energies = set progress.energies j (get_or progress.energies j nan ⊕ z.energy.0);
      outlet = z.outlet;
      left = z.left;
      charged = z.charged;
    }

-- the first k of n zones
unfoldable pub zones_after : Common → (ℕ → Salt) → ℕ → ℕ → Progress → Progress
zones_after common s n zero progress = progress
zones_after common s n (suc k) progress = zone_at common s (zone_index common.mode n k) (zones_after common s n k progress)

-- a zone's share of the heat transfer. 'Only demand and hydronic substeps take a logarithm'
unfoldable pub per_layer : Card → Option Float → Option Float
per_layer card (Some u) = Some (u ⊘ layers_of card)
per_layer card None = None

unfoldable pub zone_transfer : Mode → Card → SubstepInput → Option Float
zone_transfer OnlyCharging card input = Some Constants.zero
zone_transfer (Losses lowest) card input = Some Constants.zero
zone_transfer Normal card input = per_layer card (heat_transfer input.a input.b input.flow input.reynold)

-- document 02, Two: the logarithms of a substep, '1 where it takes any, else 0', all of them taken for that share
unfoldable pub logarithms_of : Mode → ℕ
logarithms_of OnlyCharging = 0
logarithms_of (Losses lowest) = 0
logarithms_of Normal = 1

unfoldable pub shared_transfer : Mode → Card → SubstepInput → Transfer
shared_transfer mode card input = record { value = zone_transfer mode card input; logarithms = logarithms_of mode }

-- the temperature of a charge level, by a zone's salt
abbrev pub target_of : Card → Salt → Float → Float
target_of card salt level = soc_to_temp salt card.reference card.max level

-- what all zones share
unfoldable pub common_of : Card → HeatBatteryPcm → SubstepInput → Float → Common
common_of card pcm input transfer =
    record {
      mode = input.mode;
      shared = record { layers = card.layers; inlet = input.inlet; rated = pcm.rated; transfer = transfer; mass = mass_flow input.flow; seconds = input.seconds };
      reference = card.reference;
      max = card.max;
      level = input.target;
    }

-- the charger's heat over the substep, at first: kilowatts times hours
unfoldable pub charger_heat : SubstepInput → Kilojoules
charger_heat input = kilojoules (kwh (neg input.power ⊗ input.seconds ⊘ hour))

unfoldable pub progress_from : SubstepInput → List Float → Progress
progress_from input zones =
    record { zones = zones; energies = replicate 64 Constants.zero; outlet = input.inlet; left = charger_heat input; charged = kwh Constants.zero }

-- what a substep hands out with its arrays, and without
unfoldable pub substep_with : Outcome → List Float → List Float → Substep
substep_with outcome zones energies =
    record { zones = zones; energies = energies; outlet = outcome.outlet; delivered = outcome.delivered; charged = outcome.charged; fault = outcome.fault; logarithms = outcome.logarithms }

unfoldable pub outcome_of : Substep → Outcome
outcome_of substep = record { outlet = substep.outlet; delivered = substep.delivered; charged = substep.charged; fault = substep.fault; logarithms = substep.logarithms }

-- what a function that works on lent zones hands out, and the zones that it leaves, are those of a substep
abbrev pub InPlace : Substep → Outcome → List Float → Type 0
InPlace substep outcome zones = (zones ≡ substep.zones) × (outcome ≡ outcome_of substep)

-- '24 the logarithm's argument is not positive, normal and finite'
unfoldable pub without_logarithm : List Float → Substep
without_logarithm zones =
    record { zones = zones; energies = replicate 64 Constants.zero; outlet = Constants.zero; delivered = kj Constants.zero; charged = kwh Constants.zero; fault = Some Logarithm; logarithms = 0 }

-- '23 after a substep a zone, outlet, delivered sum or charged energy is not finite'
unfoldable pub progress_finite : Card → Progress → Kilojoules → Bool
progress_finite card progress sum =
    zones_finite progress.zones card.layers && (finite64 progress.outlet && (finite64 sum.0 && finite64 progress.charged.0))

unfoldable pub progress_fault : Card → Progress → Kilojoules → Option Fault
progress_fault card progress sum = cond (progress_finite card progress sum) None (Some NotFinite)

unfoldable pub substep_from : Card → ℕ → Progress → Substep
substep_from card logarithms progress =
    let sum = kj (sum2 progress.energies card.layers) in
    record { zones = progress.zones; energies = progress.energies; outlet = progress.outlet; delivered = sum; charged = progress.charged; fault = progress_fault card progress sum; logarithms = logarithms }

unfoldable pub with_transfer : Card → HeatBatteryPcm → (ℕ → Salt) → SubstepInput → List Float → Option Float → Substep
with_transfer card pcm s input zones None = without_logarithm zones
with_transfer card pcm s input zones (Some u) =
    substep_from card (logarithms_of input.mode) (zones_after (common_of card pcm input u) s card.layers card.layers (progress_from input zones))

unfoldable pub process_heat_battery_zones : Card → HeatBatteryPcm → (ℕ → Salt) → SubstepInput → List Float → Substep
process_heat_battery_zones card pcm s input zones = with_transfer card pcm s input zones (zone_transfer input.mode card input)

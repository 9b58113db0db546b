-- What each zone of a substep finds.
use Rattle.std.specs.Prelude.{ℕ, ◌<◌, ◌≡◌, false, pos, Float, Option}
use Rattle.std.specs.Float.{binary64}
use Rattle.std.specs.Float.Ieee.{of_int, lt}
use Rattle.floats.specs.Constants as Constants
use Rattle.floats.specs.F64.{◌⊘◌}
use Rattle.zone.specs.declared.Kilojoules.{Kilojoules}
use Rattle.zone.specs.declared.Salt.{Salt}
use Rattle.zone_water.specs.declared.Mode.TheVariants.{Losses}
use Rattle.substep.specs.Substep.{zone_index, zones_after}
use Rattle.substep.specs.declared.Common.{Common}
use Rattle.substep.specs.Progress.{Progress}

-- a fact of each zone's salt and of the charger's heat that the zone finds left
abbrev pub AtEachZone : (Salt → Kilojoules → Type 0) → Common → (ℕ → Salt) → ℕ → Progress → Type 0
AtEachZone fact common s n progress = (k : ℕ) → k < n → fact (s (zone_index common.mode n k)) (zones_after common s n k progress).left

-- in losses with this lowest temperature there is no heat of a charger, and this share of the heat at the rated difference for each layer
abbrev pub Lost : Common → Kilojoules → Option Float → Kilojoules → Type 0
Lost common share lowest left =
    (common.mode ≡ Losses lowest) × ((lt left.0 Constants.zero ≡ false) × (share.0 ≡ left.0 ⊘ of_int binary64 (pos common.shared.layers)))

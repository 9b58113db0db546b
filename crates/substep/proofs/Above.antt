-- A substep leaves the places above the count, and the number of places.
use Rattle.std.specs.Prelude.{None, Option, Some}
use mathlib.Core.Path.{◌≡◌, refl}
use mathlib.Core.List.{List}
use Prim.Native.Nat.{ℕ}
use native.Mathlib.Omega.{arith}
use lib.ListN.{length}
use lib.Ieee.{Float}
use Rattle.zone.specs.declared.Salt.{Salt}
use Rattle.card.specs.declared.Card.{Card}
use Rattle.card.specs.declared.HeatBatteryPcm.{HeatBatteryPcm}
use Rattle.battery.specs.Places.{SameAbove}
use Rattle.battery.proofs.Zones.{same_above}
use Rattle.substep.specs.Substep.{zone_at, zones_after, zone_transfer, common_of, progress_from, without_logarithm, substep_from, with_transfer, process_heat_battery_zones}
use Rattle.substep.specs.declared.Common.{Common}
use Rattle.substep.specs.declared.SubstepInput.{SubstepInput}
use Rattle.substep.specs.Progress.{Progress}
use Rattle.substep.proofs.SubstepLaws.{untouched}
use Rattle.substep.proofs.Stores.{stored_places}

pub progress_places : (x : Common) (s : ℕ → Salt) (n k : ℕ) (p : Progress) → length (zones_after x s n k p).zones ≡ length p.zones
unfolding zones_after zone_at
progress_places x s n k p = stored_places x.mode n (λ i. (zones_after x s n i p).zones) _ (λ i. refl) k

pub progress_above : (x : Common) (s : ℕ → Salt) (n : ℕ) (p : Progress) → SameAbove n p.zones (zones_after x s n n p).zones
progress_above x s n p = record { places = progress_places x s n n p; above = λ j h. untouched x s n n p j (omega arith) h }

module _ (c : Card) (pcm : HeatBatteryPcm) (s : ℕ → Salt) (d : SubstepInput) (zones : List Float) where
  transferred : (l : Option Float) → SameAbove c.layers zones (with_transfer c pcm s d zones l).zones
  unfolding with_transfer without_logarithm substep_from progress_from
  transferred None = same_above c.layers zones
  transferred (Some u) = progress_above (common_of c pcm d u) s c.layers (progress_from d zones)

  pub substep_above : SameAbove c.layers zones (process_heat_battery_zones c pcm s d zones).zones
  unfolding process_heat_battery_zones
  substep_above = transferred (zone_transfer d.mode c d)

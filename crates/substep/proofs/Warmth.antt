-- A substep of losses warms no zone and one of charging alone cools none: every zone, over rounding. Losses with a floor leave no zone under it that wasn't there.
use Rattle.std.specs.Prelude.{Option, Some}
use mathlib.Core.Path.{◌≡◌, refl}
use mathlib.Core.Bool.{true, false}
use mathlib.Core.List.{List}
use Prim.Native.Nat.{ℕ, ◌≤◌, ◌<◌}
use lib.Dec.{T}
use lib.ListN.{length, get_or}
use lib.Ieee.{Float, nan, of_bits, lt, le}
use Rattle.floats.specs.Constants.{zero}
use Rattle.floats.specs.Standins.{finite64}
use Rattle.logic.proofs.Branch.{by_test}
use Rattle.floats.proofs.Compare.{le_of_lt}
use Rattle.floats.proofs.Order.{le_refl, finite_number}
use Rattle.floats.proofs.Parts.{number}
use Rattle.floats.proofs.Standins.{finite64_finite}
use Rattle.zone.specs.Good.{GoodSalt}
use Rattle.zone.specs.Heat.{kj}
use Rattle.zone_update.specs.Update.{new_zone_temperature, zone_update}
use Rattle.zone_water.specs.Water.{zone_properties}
use Rattle.zone_charging.specs.declared.Charged.{Charged}
use Rattle.zone.specs.declared.Kilojoules.{Kilojoules}
use Rattle.zone.specs.declared.KilowattHours.{KilowattHours}
use Rattle.zone.specs.declared.Salt.{Salt}
use Rattle.zone_water.specs.declared.Mode.TheVariants.{OnlyCharging, Losses}
use Rattle.zone_update.proofs.Directions.{negative_never_lowers}
use Rattle.zone_update.proofs.Floors.{GoodFloor, not_under_the_floor}
use Rattle.zone_water.proofs.Exchanged.{loss_never_warms}
use Rattle.zone_charging.proofs.Charges.{charge_never_cools, charging_left_nonpositive}
use Rattle.card.specs.declared.Card.{Card}
use Rattle.card.specs.declared.HeatBatteryPcm.{HeatBatteryPcm}
use Rattle.substep.specs.Substep.{target_at, zone_charge, lowest_of, zone_step, zones_after, zone_transfer, common_of, progress_from, substep_from, with_transfer, process_heat_battery_zones}
use Rattle.substep.specs.declared.Common.{Common}
use Rattle.substep.specs.declared.SubstepInput.{SubstepInput}
use Rattle.substep.proofs.EachZone.{each_zone}
use Rattle.substep.proofs.SubstepLaws.{without_logarithm_loss, without_logarithm_charge}
use Rattle.substep.proofs.Charger.{charger_nonpositive, charger_not_negative}

not_warmer : (t : Float) → T (finite64 t) → T (le t t)
not_warmer t F = le_refl t (finite_number t (finite64_finite t F))

module _ (x : Common) (s : Salt) (g : GoodSalt s) (t inlet : Float) (q : Kilojoules) (k : KilowattHours) (F : T (finite64 t)) where
  -- where the charger's heat is not negative, a zone takes the loss as it is
  module _ (f : Option Float) (G : GoodFloor f) (m : x.mode ≡ Losses f) (h : lt q.0 zero ≡ false) where
    loss_step : T (le (zone_step x s t inlet q k).temperature t)
    unfolding zone_step zone_charge lowest_of
    loss_step = rw (h, m) (loss_never_warms f G s g t F x.shared inlet q)

    loss_left : lt (zone_step x s t inlet q k).left.0 zero ≡ false
    unfolding zone_step zone_charge
    loss_left = rw h h

  -- a zone that ends under the floor of a loss is as before
  loss_stops : (lowest : Float) → x.mode ≡ Losses (Some lowest) → lt (zone_step x s t inlet q k).temperature lowest ≡ true → (zone_step x s t inlet q k).temperature ≡ t
  unfolding zone_step lowest_of
  loss_stops lowest m =
      rw m (λ h. (not_under_the_floor lowest s t (zone_charge s t (target_at x s) q (zone_properties (Losses (Some lowest)) x.shared t inlet q).energy k).heat h).1)

  -- the charger's heat is at most 0, or a NaN
  module _ (m : x.mode ≡ OnlyCharging) (h : T (number q.0) → T (le q.0 zero)) where
    charge_step : T (le t (zone_step x s t inlet q k).temperature)
    unfolding zone_step zone_charge zone_properties lowest_of zone_update of_bits
    charge_step =
        rw m
        (by_test (λ (c : Charged). T (le t (new_zone_temperature s t c.heat))) (lt q.0 zero) _ _
        (λ l. charge_never_cools s g t F (target_at x s) q (le_of_lt q.0 zero l) k)
        (λ l. negative_never_lowers s g t F (kj zero) (le_refl zero tt)))

    charge_left : T (number (zone_step x s t inlet q k).left.0) → T (le (zone_step x s t inlet q k).left.0 zero)
    unfolding zone_step zone_charge zone_properties
    charge_left =
        rw m
        (by_test (λ (c : Charged). T (number c.left.0) → T (le c.left.0 zero)) (lt q.0 zero) _ _
        (λ l. charging_left_nonpositive s g t F (target_at x s) q (le_of_lt q.0 zero l) k)
        (λ l. h))

module _ (c : Card) (pcm : HeatBatteryPcm) (s : ℕ → Salt) (d : SubstepInput) (zones : List Float) (g : (j : ℕ) → j < c.layers → GoodSalt (s j)) (S : T (le zero d.seconds))
    (places : c.layers ≤ length zones) (finite : (i : ℕ) → i < c.layers → T (finite64 (get_or zones i nan))) where
  zones_after_lem : zone_transfer d.mode c d ≡ Some zero → (process_heat_battery_zones c pcm s d zones).zones ≡ (zones_after (common_of c pcm d zero) s c.layers c.layers (progress_from d zones)).zones
  unfolding process_heat_battery_zones with_transfer substep_from
  zones_after_lem e = rw e

  pub losses_warm_none : (f : Option Float) → GoodFloor f → d.mode ≡ Losses f → T (le d.power zero) → (i : ℕ) → i < c.layers → T (le (get_or (process_heat_battery_zones c pcm s d zones).zones i nan) (get_or zones i nan))
  unfolding common_of progress_from
  losses_warm_none f G m P i l =
      let x = common_of c pcm d zero in
      rw (zones_after_lem (without_logarithm_loss c d f m))
      (each_zone x s c.layers (λ q. lt q.0 zero ≡ false) (λ t u. T (le u t)) not_warmer
      (λ j l t inlet q k h F. loss_step x (s j) (g j l) t inlet q k F f G m h) (λ j l t inlet q k h F. loss_left x (s j) (g j l) t inlet q k F f G m h)
      (progress_from d zones) (charger_not_negative d P S) finite places i l)

  pub losses_stop : (lowest : Float) → d.mode ≡ Losses (Some lowest) → (i : ℕ) → i < c.layers
      → lt (get_or (process_heat_battery_zones c pcm s d zones).zones i nan) lowest ≡ true → get_or (process_heat_battery_zones c pcm s d zones).zones i nan ≡ get_or zones i nan
  unfolding common_of progress_from
  losses_stop lowest m i l =
      let x = common_of c pcm d zero in
      rw (zones_after_lem (without_logarithm_loss c d (Some lowest) m))
      (each_zone x s c.layers (λ q. Unit) (λ t u. lt u lowest ≡ true → u ≡ t) (λ t F h. refl)
      (λ j l t inlet q k h F. loss_stops x (s j) (g j l) t inlet q k F lowest m) (λ j l t inlet q k h F. tt)
      (progress_from d zones) tt finite places i l)

  pub charging_cools_none : d.mode ≡ OnlyCharging → T (le zero d.power) → (i : ℕ) → i < c.layers → T (le (get_or zones i nan) (get_or (process_heat_battery_zones c pcm s d zones).zones i nan))
  unfolding common_of progress_from
  charging_cools_none m P i l =
      let x = common_of c pcm d zero in
      rw (zones_after_lem (without_logarithm_charge c d m))
      (each_zone x s c.layers (λ q. T (number q.0) → T (le q.0 zero)) (λ t u. T (le t u)) not_warmer
      (λ j l t inlet q k h F. charge_step x (s j) (g j l) t inlet q k F m h) (λ j l t inlet q k h F. charge_left x (s j) (g j l) t inlet q k F m h)
      (progress_from d zones) (charger_nonpositive d P S) finite places i l)

-- A substep with water that works ran for a finite time: seconds that aren't finite show in the heat of its last zone, and so in the delivered sum.
use Rattle.std.specs.Prelude.{None, Option, Some}
use mathlib.Core.Path.{◌≡◌, refl, subst}
use mathlib.Core.Bool.{Bool, true, false, cond, ◌&&◌}
use mathlib.Core.List.{List}
use Prim.Native.Nat.{ℕ, suc, ◌≤◌, ◌<◌}
use native.Mathlib.Omega.{arith}
use lib.Dec.{T}
use lib.ListN.{length, get_or}
use lib.Seq.{get_or-set_same}
use lib.Ieee.{Float, nan, binary64}
use lib.Ieee.Scale.{finite}
use Rattle.logic.proofs.Tests.{no_both, and_true, holds}
use Rattle.floats.specs.F64.{◌⊕◌}
use Rattle.floats.specs.Standins.{finite64}
use Rattle.floats.specs.Sum2.{sum2}
use Rattle.floats.proofs.Operands.{sum_operands, product_operands, last_operand}
use Rattle.floats.proofs.Standins.{finite64_finite}
use Rattle.zone.specs.Heat.{kj}
use Rattle.zone.specs.declared.Kilojoules.{Kilojoules}
use Rattle.zone.specs.declared.KilowattHours.{KilowattHours}
use Rattle.zone.specs.declared.Salt.{Salt}
use Rattle.zone_water.specs.Water.{zone_properties}
use Rattle.zone_water.specs.declared.Mode.{Mode}
use Rattle.zone_water.specs.declared.Mode.TheVariants.{Normal}
use Rattle.zone_water.specs.declared.Shared.{Shared}
use Rattle.card.specs.declared.Card.{Card}
use Rattle.card.specs.declared.HeatBatteryPcm.{HeatBatteryPcm}
use Rattle.battery.specs.Battery.{zones_finite}
use Rattle.substep.specs.Substep.{zone_index, counted_energy, zone_step, zone_at, zones_after, zone_transfer, common_of, progress_from, progress_finite, progress_fault, without_logarithm, substep_from, with_transfer, process_heat_battery_zones}
use Rattle.substep.specs.declared.Common.{Common}
use Rattle.substep.specs.declared.SubstepInput.{SubstepInput}
use Rattle.substep.specs.declared.Fault.TheVariants.{NotFinite}
use Rattle.substep.specs.Progress.{Progress}
use Rattle.substep.proofs.Stores.{stored_places}

-- a zone's heat in the mode with water is a product with the seconds
water_seconds : (shared : Shared) (t inlet : Float) (left : Kilojoules) → T (finite (zone_properties Normal shared t inlet left).energy.0) → T (finite shared.seconds)
unfolding zone_properties
water_seconds shared t inlet left p = (product_operands _ _ _ p).1

module _ (x : Common) (normal : x.mode ≡ Normal) (s : ℕ → Salt) (n : ℕ) (p : Progress) (places : n < length p.energies) where
  abbrev q : Progress
  q = zones_after x s (suc n) n p

  same_places : length q.energies ≡ length p.energies
  unfolding zones_after zone_at
  same_places = stored_places x.mode (suc n) (λ i. (zones_after x s (suc n) i p).energies) _ (λ i. refl) n

  last_index : zone_index x.mode (suc n) n ≡ n
  unfolding zone_index
  last_index = rw normal

  last_energy : get_or (zones_after x s (suc n) (suc n) p).energies n nan ≡ get_or q.energies n nan ⊕ (zone_step x (s n) (get_or q.zones n nan) q.outlet q.left q.charged).energy.0
  unfolding zones_after zone_at
  last_energy = rw last_index (get_or-set_same q.energies n _ nan (omega (arith, same_places, places)))

  -- what is counted there is the water's heat
  water_counted : (k : KilowattHours) → (zone_step x (s n) (get_or q.zones n nan) q.outlet q.left k).energy ≡ (zone_properties x.mode x.shared (get_or q.zones n nan) q.outlet q.left).energy
  unfolding zone_step counted_energy
  water_counted k = rw normal

  last_seconds : T (finite (sum2 (zones_after x s (suc n) (suc n) p).energies (suc n))) → T (finite x.shared.seconds)
  last_seconds h =
      let a = (sum_operands binary64 _ _ (subst (λ (y : Float). T (finite y)) last_energy (last_operand (zones_after x s (suc n) (suc n) p).energies n h))).1 in
      let e = subst (λ (y : Kilojoules). T (finite y.0)) (water_counted q.charged) a in
      water_seconds x.shared (get_or q.zones n nan) q.outlet q.left
      (subst (λ (m : Mode). T (finite (zone_properties m x.shared (get_or q.zones n nan) q.outlet q.left).energy.0)) normal e)

module _ (card : Card) (pcm : HeatBatteryPcm) (s : ℕ → Salt) (input : SubstepInput) (zones : List Float) (normal : input.mode ≡ Normal) (n : ℕ) (layers : card.layers ≡ suc n) (few : card.layers ≤ 64) where
  -- no fault: the delivered sum is finite
  sum_finite : (p : Progress) (sum : Kilojoules) → progress_fault card p sum ≡ None → T (finite64 sum.0)
  unfolding progress_fault progress_finite
  sum_finite p sum h = on (progress_finite card p sum) refl h
    where
      on : (t : Bool) → progress_finite card p sum ≡ t → cond t None (Some NotFinite) ≡ None → T (finite64 sum.0)
      on true e g =
          let rest = finite64 sum.0 && finite64 p.charged.0 in
          let a = and_true (zones_finite p.zones card.layers) (finite64 p.outlet && rest) e in
          let b = and_true (finite64 p.outlet) rest a.1 in
          holds (and_true (finite64 sum.0) (finite64 p.charged.0) b.1).0
      on false e g = no_both (cc)

  by_transfer : (l : Option Float) → (with_transfer card pcm s input zones l).fault ≡ None → T (finite input.seconds)
  unfolding with_transfer without_logarithm substep_from progress_from common_of
  by_transfer None h = no_both (cc)
  by_transfer (Some u) h =
      let p = zones_after (common_of card pcm input u) s card.layers card.layers (progress_from input zones) in
      let f = finite64_finite (sum2 p.energies card.layers) (sum_finite p (kj (sum2 p.energies card.layers)) h) in
      last_seconds (common_of card pcm input u) normal s n (progress_from input zones) (omega arith)
      (subst (λ (k : ℕ). T (finite (sum2 (zones_after (common_of card pcm input u) s k k (progress_from input zones)).energies k))) layers f)

  pub seconds_finite : (process_heat_battery_zones card pcm s input zones).fault ≡ None → T (finite input.seconds)
  unfolding process_heat_battery_zones
  seconds_finite h = by_transfer (zone_transfer input.mode card input) h

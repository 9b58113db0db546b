-- A zone's step in charging alone and in losses.
use Rattle.std.specs.Prelude.{IfSome, Option, None}
use Rattle.std.specs.Bool.{then_some}
use mathlib.Core.Path.{◌≡◌, refl, ◌∙◌}
use mathlib.Core.Bool.{Bool, true, false}
use mathlib.Core.List.{List}
use Prim.Native.Nat.{ℕ, zero, suc}
use lib.IntN.{pos}
use lib.Ieee.{Float, of_bits, binary64, of_int, eq, lt}
use Rattle.floats.specs.F64.{◌⊖◌, ◌⊗◌, ◌⊘◌}
use Rattle.floats.specs.Constants as Constants
use Rattle.floats.specs.Standins.{max_zero, nearly_equal}
use Rattle.zone.specs.Heat.{kj}
use Rattle.zone_update.specs.Update.{new_zone_temperature, zone_update}
use Rattle.zone_charging.specs.Charging.{zone_simultaneous_charging}
use Rattle.zone_water.specs.Water.{zone_properties}
use Rattle.zone.specs.declared.Kilojoules.{Kilojoules}
use Rattle.zone.specs.declared.KilowattHours.{KilowattHours}
use Rattle.zone.specs.declared.Salt.{Salt}
use Rattle.zone_update.specs.declared.ZoneUpdate.{ZoneUpdate}
use Rattle.zone_charging.specs.declared.Charged.{Charged}
use Rattle.zone_water.specs.declared.Mode.TheVariants.{OnlyCharging, Losses}
use Rattle.substep.specs.Substep.{target_at, lowest_of, counted_energy, zone_charge, zone_step, zone_at, zones_after, charger_heat, progress_from}
use Rattle.substep.specs.declared.Common.{Common}
use Rattle.substep.specs.declared.SubstepInput.{SubstepInput}
use Rattle.substep.specs.Progress.{Progress}
use Rattle.substep.proofs.OneLoop.{zone_step_of}

module _ (x : Common) (s : Salt) (t inlet : Float) (q : Kilojoules) (k : KilowattHours) where
  module _ (m : x.mode ≡ OnlyCharging) where
    -- with heat of the charger left
    pub charging_on :
        (c : Charged) (u : ZoneUpdate) →
        lt q.0 Constants.zero ≡ true →
        c ≡ zone_simultaneous_charging s t (target_at x s) q (kj Constants.zero) k →
        u ≡ zone_update None s t c.heat →
        zone_step_of u.temperature (kj Constants.zero) c.left c.charged ≡ zone_step x s t inlet q k
    unfolding zone_step zone_charge zone_properties lowest_of counted_energy
    charging_on c u h g e = rw (e, g, m, h)

    -- with none
    pub charging_off : lt q.0 Constants.zero ≡ false → zone_step_of t (kj Constants.zero) q k ≡ zone_step x s t inlet q k
    unfolding zone_step zone_charge zone_properties lowest_of counted_energy zone_update new_zone_temperature nearly_equal eq of_bits
    charging_off h = rw (m, h)

  module _ (h : lt q.0 Constants.zero ≡ false) where
    pub loss_of :
        (lowest : Option Float) →
        x.mode ≡ Losses lowest →
        (share e : Float) (u : ZoneUpdate) →
        share ≡ q.0 ⊘ of_int binary64 (pos x.shared.layers) →
        e ≡ max_zero (share ⊗ (t ⊖ x.shared.inlet) ⊘ x.shared.rated) →
        u ≡ zone_update lowest s t (kj e) →
        zone_step_of u.temperature u.taken q k ≡ zone_step x s t inlet q k
    unfolding zone_step zone_charge zone_properties lowest_of counted_energy
    loss_of lowest m share e u d g f = rw (f, g, d, m, h)

    uncharged : (zone_step x s t inlet q k).left ≡ q
    unfolding zone_step zone_charge
    uncharged = rw h

stays : (x : Common) (s : ℕ → Salt) (n k : ℕ) (p : Progress) → lt p.left.0 Constants.zero ≡ false → (zones_after x s n k p).left ≡ p.left
unfolding zones_after zone_at
stays x s n zero p h = refl
stays x s n (suc k) p h =
    let e = stays x s n k p h in
    uncharged x _ _ _ _ _ (rw e h) ∙ e

-- where the charger has no heat, each zone finds what there was at first
pub heat_stays :
    (x : Common) (s : ℕ → Salt) (n k : ℕ) (d : SubstepInput) (zones : List Float) →
    lt (charger_heat d).0 Constants.zero ≡ false →
    (zones_after x s n k (progress_from d zones)).left ≡ charger_heat d
unfolding progress_from
heat_stays x s n k d zones h = stays x s n k (progress_from d zones) h

pub IfSome-then_some : {A : Type 0} (b : Bool) (v : A) (P : A → Type 0) → (b ≡ true → P v) → IfSome (then_some b v) P
IfSome-then_some true v P h = h refl
IfSome-then_some false v P h = tt

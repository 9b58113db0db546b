-- A pass over the zones, zone by zone; the places from n on are never written.
use Rattle.std.specs.Prelude.{None, Option, Some}
use mathlib.Core.Path.{◌≡◌, refl, ◌∙◌, ap}
use Prim.Native.Nat.{ℕ, zero, suc, ◌≤◌, ◌<◌}
use native.Mathlib.Omega.{arith}
use mathlib.Core.Bool.{Bool, true, false}
use mathlib.Core.List.{List}
use lib.ListN.{get_or}
use lib.Seq.{get_or-set_other}
use lib.Ieee.{Float, nan, of_bits, lt, le}
use lib.Ieee.Bits.{is_true}
use Rattle.floats.specs.Constants as Constants
use Rattle.zone.specs.Layer.{soc_to_temp}
use Rattle.zone.specs.declared.Kilojoules.{Kilojoules}
use Rattle.zone.specs.declared.KilowattHours.{KilowattHours}
use Rattle.zone_charging.specs.declared.Charged.{Charged}
use Rattle.logic.proofs.Branch.{by_test}
use Rattle.card.specs.declared.Card.{Card}
use Rattle.card.specs.declared.HeatBatteryPcm.{HeatBatteryPcm}
use Rattle.zone_water.specs.declared.Transfer.{Transfer}
use Rattle.zone_water.specs.declared.Mode.{Mode}
use Rattle.zone_water.specs.declared.Mode.TheVariants.{OnlyCharging, Losses, Normal}
use Rattle.zone.specs.declared.Salt.{Salt}
use Rattle.substep.specs.Substep.{zone_index, target_at, target_of, zone_charge, zone_step, zone_at, zones_after, substep_with, outcome_of, zone_transfer, logarithms_of, shared_transfer, common_of, progress_from, without_logarithm, with_transfer, process_heat_battery_zones, substep_from}
use Rattle.substep.specs.declared.SubstepInput.{SubstepInput}
use Rattle.substep.specs.declared.Substep.{Substep}
use Rattle.substep.specs.declared.Outcome.{Outcome}
use Rattle.substep.specs.declared.Common.{Common}
use Rattle.substep.specs.Progress.{Progress}

-- what a pass over the zones of a card leaves
pub passed :
    (c : Card) (pcm : HeatBatteryPcm) (s : ℕ → Salt) (d : SubstepInput) (zones : List Float) (l : Option Float) (u : Float) (x : Common) (taken : ℕ) →
    l ≡ zone_transfer d.mode c d →
    l ≡ Some u →
    x ≡ common_of c pcm d u →
    taken ≡ logarithms_of d.mode →
    process_heat_battery_zones c pcm s d zones ≡ substep_from c taken (zones_after x s c.layers c.layers (progress_from d zones))
unfolding process_heat_battery_zones with_transfer
passed c pcm s d zones l u x taken h g e f = rw (← h, g, ← e, f)

pub refused_here :
    (c : Card) (pcm : HeatBatteryPcm) (s : ℕ → Salt) (d : SubstepInput) (zones : List Float) (l : Option Float) →
    l ≡ zone_transfer d.mode c d →
    l ≡ None →
    process_heat_battery_zones c pcm s d zones ≡ without_logarithm zones
unfolding process_heat_battery_zones with_transfer
refused_here c pcm s d zones l h g = rw (← h, g)

-- a substep from its parts
pub whole :
    (o : Outcome) (zs es : List Float) (u : Substep) →
    (zs ≡ u.zones) × (o ≡ outcome_of u) →
    es ≡ u.energies →
    substep_with o zs es ≡ u
unfolding substep_with outcome_of
whole o zs es u h e = rw (h.0, h.1, e)

pub index_below : (m : Mode) (n k : ℕ) → k < n → zone_index m n k < n
unfolding zone_index
index_below OnlyCharging n k h = omega arith
index_below (Losses f) n k h = h
index_below Normal n k h = h

pub untouched : (x : Common) (s : ℕ → Salt) (n k : ℕ) (p : Progress) (j : ℕ) → k ≤ n → n ≤ j → get_or (zones_after x s n k p).zones j nan ≡ get_or p.zones j nan
unfolding zones_after zone_at
untouched x s n zero p j h g = refl
untouched x s n (suc k) p j h g =
    let b : zone_index x.mode n k < n = index_below x.mode n k (omega arith) in
    get_or-set_other (zones_after x s n k p).zones (zone_index x.mode n k) j _ nan (λ e. omega arith) ∙ untouched x s n k p j (omega arith) g

-- neither mode takes a logarithm
pub without_logarithm_loss : (c : Card) (d : SubstepInput) (f : Option Float) → d.mode ≡ Losses f → zone_transfer d.mode c d ≡ Some Constants.zero
unfolding zone_transfer
without_logarithm_loss c d f m = rw m

-- the two parts of a heat transfer that is worked out once
pub transfer_value : (m : Mode) (c : Card) (d : SubstepInput) (t : Transfer) → t ≡ shared_transfer m c d → t.value ≡ zone_transfer m c d
unfolding shared_transfer
transfer_value m c d t e = ap (λ (y : Transfer). y.value) e

pub transfer_count : (m : Mode) (c : Card) (d : SubstepInput) (t : Transfer) → t ≡ shared_transfer m c d → t.logarithms ≡ logarithms_of m
unfolding shared_transfer
transfer_count m c d t e = ap (λ (y : Transfer). y.logarithms) e

-- without water there is no logarithm to count
pub none_in_a_charge : (d : SubstepInput) → d.mode ≡ OnlyCharging → 0 ≡ logarithms_of d.mode
unfolding logarithms_of
none_in_a_charge d m = rw m

pub none_in_a_loss : (d : SubstepInput) (f : Option Float) → d.mode ≡ Losses f → 0 ≡ logarithms_of d.mode
unfolding logarithms_of
none_in_a_loss d f m = rw m

pub without_logarithm_charge : (c : Card) (d : SubstepInput) → d.mode ≡ OnlyCharging → zone_transfer d.mode c d ≡ Some Constants.zero
unfolding zone_transfer
without_logarithm_charge c d m = rw m

pub common_level :
    (c : Card) (pcm : HeatBatteryPcm) (d : SubstepInput) (u : Float) (x : Common) (s : Salt) → x ≡ common_of c pcm d u → target_at x s ≡ target_of c s d.target
unfolding common_of
common_level c pcm d u x s e = rw e

-- a step leaves heat of the charger only where there was some
step_left : (x : Common) (s : Salt) (t inlet : Float) (q : Kilojoules) (k : KilowattHours) → lt (zone_step x s t inlet q k).left.0 Constants.zero ≡ true → lt q.0 Constants.zero ≡ true
unfolding zone_step zone_charge
step_left x s t inlet q k =
    by_test (λ (c : Charged). lt c.left.0 Constants.zero ≡ true → lt q.0 Constants.zero ≡ true) (lt q.0 Constants.zero) _ _ (λ l h. is_true (lt q.0 Constants.zero) l) (λ l h. h)

pub left_at_first : (x : Common) (s : ℕ → Salt) (n k : ℕ) (p : Progress) → lt (zones_after x s n k p).left.0 Constants.zero ≡ true → lt p.left.0 Constants.zero ≡ true
unfolding zones_after zone_at
left_at_first x s n zero p h = h
left_at_first x s n (suc k) p h = left_at_first x s n k p (step_left x _ _ _ _ _ h)

-- zones that are not alike in their target
pub not_alike : {A : Type 0} → ◌≡◌ {A = Bool} false true → A
not_alike e = absurd (let z : ◌≡◌ {A = ℕ} 0 1 = cc in omega arith)

-- level 0 is the reference temperature, by any salt
pub level_none : (s : Salt) (ref max : Float) → soc_to_temp s ref max Constants.zero ≡ ref
unfolding soc_to_temp le of_bits
level_none s ref max = refl

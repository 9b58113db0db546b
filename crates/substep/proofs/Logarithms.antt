-- Document 02, Two: the logarithms of a substep.
use Rattle.std.specs.Prelude.{None, Option, Some}
use Prim.Native.Nat.{ℕ}
use mathlib.Core.Path.{◌≡◌, refl, ◌∙◌, ap}
use mathlib.Core.List.{List}
use lib.Ieee.{Float}
use Rattle.zone.specs.declared.Salt.{Salt}
use Rattle.zone_water.specs.declared.Mode.TheVariants.{OnlyCharging, Losses, Normal}
use Rattle.card.specs.declared.Card.{Card}
use Rattle.card.specs.declared.HeatBatteryPcm.{HeatBatteryPcm}
use Rattle.substep.specs.Substep.{logarithms_of, zone_transfer, without_logarithm, substep_from, with_transfer, process_heat_battery_zones}
use Rattle.substep.specs.declared.SubstepInput.{SubstepInput}
use Rattle.substep.specs.declared.Fault.TheVariants.{Logarithm}

module _ (card : Card) (pcm : HeatBatteryPcm) (s : ℕ → Salt) (input : SubstepInput) (zones : List Float) where
  counted : (l : Option Float) → ((with_transfer card pcm s input zones l).fault ≡ Some Logarithm → ⊥) → (with_transfer card pcm s input zones l).logarithms ≡ logarithms_of input.mode
  unfolding with_transfer without_logarithm substep_from
  counted (Some u) h = refl
  counted None h = absurd (h refl)

  module _ (h : (process_heat_battery_zones card pcm s input zones).fault ≡ Some Logarithm → ⊥) where
    -- 'Each substep not stopped by 24 hands out the logarithms it took': those of its mode
    pub logarithms_taken : (process_heat_battery_zones card pcm s input zones).logarithms ≡ logarithms_of input.mode
    unfolding process_heat_battery_zones
    logarithms_taken = counted (zone_transfer input.mode card input) h

    -- '1 where it takes any, else 0'
    pub one_with_water : input.mode ≡ Normal → (process_heat_battery_zones card pcm s input zones).logarithms ≡ 1
    unfolding logarithms_of
    one_with_water m = logarithms_taken ∙ ap logarithms_of m

    pub none_in_charging_alone : input.mode ≡ OnlyCharging → (process_heat_battery_zones card pcm s input zones).logarithms ≡ 0
    unfolding logarithms_of
    none_in_charging_alone m = logarithms_taken ∙ ap logarithms_of m

    pub none_in_losses : (floor : Option Float) → input.mode ≡ Losses floor → (process_heat_battery_zones card pcm s input zones).logarithms ≡ 0
    unfolding logarithms_of
    none_in_losses floor m = logarithms_taken ∙ ap logarithms_of m

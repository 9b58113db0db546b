-- Document 01, module 3, in charging alone, where the exchanged energy is 0: what simultaneous charging has a zone give up, and what it leaves of
-- the charger's heat, is never positive. So no zone is cooled. The charger's heat may be infinite, and the target any number.
use lib.Dec.{T}
use lib.Ieee.{Float, of_bits, neg, lt, le}
use Rattle.floats.specs.F64.{◌⊕◌}
use Rattle.floats.specs.Constants.{zero}
use Rattle.floats.specs.Standins.{finite64}
use Rattle.floats.proofs.Cases.{by_le, by_lt}
use Rattle.logic.proofs.Branch.{by_test}
use Rattle.floats.proofs.Order.{lt_irrefl}
use Rattle.floats.proofs.Parts.{number}
use Rattle.zone_charging.specs.Charging.{charging_withdrawn, charging_full, zone_simultaneous_charging}
use Rattle.zone.specs.Good.{GoodSalt}
use Rattle.zone.specs.Heat.{kj}
use Rattle.zone.specs.Layer.{zone_energy_required}
use Rattle.zone_update.specs.Update.{new_zone_temperature}
use Rattle.zone_charging.specs.declared.Charged.{Charged}
use Rattle.zone.specs.declared.Kilojoules.{Kilojoules}
use Rattle.zone.specs.declared.KilowattHours.{KilowattHours}
use Rattle.zone.specs.declared.Salt.{Salt}
use Rattle.zone_update.proofs.Directions.{negative_never_lowers}
use Rattle.zone_update.proofs.Falls.{zones}

abbrev Nonpos : Kilojoules → Type 0
Nonpos e = T (le e.0 zero)

-- what is left is a number but for -inf - -inf
pub record Charges (c : Charged) : Type 0 where
  pub heat : T (le c.heat.0 zero)
  pub left : T (number c.left.0) → T (le c.left.0 zero)

-- a zone below its target needs heat
module _ (s : Salt) (g : GoodSalt s) (t : Float) (F : T (finite64 t)) (target : Float) where
  pub required_nonpositive : T (lt t target) → T (le (zone_energy_required s t target).0 zero)
  unfolding zone_energy_required of_bits
  required_nonpositive h =
      by_le Nonpos s.upper t (search zones) (search zones)
      (λ a. search zones)
      (λ a. by_le Nonpos s.lower t (search zones) (search zones)
      (λ b. by_lt Nonpos s.upper target (search zones) (search zones)
      (λ c. search zones)
      (λ c. search zones))
      (λ b. by_lt Nonpos s.upper target (search zones) (search zones)
      (λ c. search zones)
      (λ c. by_lt Nonpos s.lower target (search zones) (search zones)
      (λ d. search zones)
      (λ d. search zones))))

module _ (q : Kilojoules) (Q : T (le q.0 zero)) (k : KilowattHours) where
  withdrawn : (n : Kilojoules) → T (le n.0 zero) → Charges (charging_withdrawn n q (kj zero) k)
  unfolding charging_withdrawn of_bits
  withdrawn n N =
      let rest : T (le (q.0 ⊕ zero) zero) = search zones in
      by_test Charges (le zero (neg q.0)) _ _
      (λ a. by_lt Charges n.0 (q.0 ⊕ zero) (search zones) (search zones)
      (λ b. search zones)
      (λ b. search zones))
      (λ a. search zones)

  full : Charges (charging_full q (kj zero) k)
  unfolding charging_full of_bits
  full =
      by_test Charges (le zero zero) _ _
      (λ a. by_test Charges (lt zero (neg q.0)) _ _
      (λ b. search zones)
      (λ b. search zones))
      (λ a. search zones)

module _ (s : Salt) (g : GoodSalt s) (t : Float) (F : T (finite64 t)) (target : Float) (q : Kilojoules) (Q : T (le q.0 zero)) (k : KilowattHours) where
  charges : Charges (zone_simultaneous_charging s t target q (kj zero) k)
  unfolding zone_simultaneous_charging of_bits
  charges =
      by_test Charges (lt t target) _ _
      (λ a. by_le Charges zero zero tt tt
      (λ b. withdrawn q Q k (zone_energy_required s t target) (required_nonpositive s g t F target a))
      (λ b. absurd (lt_irrefl zero b)))
      (λ a. full q Q k)

  pub charging_heat_nonpositive : T (le (zone_simultaneous_charging s t target q (kj zero) k).heat.0 zero)
  charging_heat_nonpositive = charges.heat

  pub charging_left_nonpositive :
      T (number (zone_simultaneous_charging s t target q (kj zero) k).left.0) → T (le (zone_simultaneous_charging s t target q (kj zero) k).left.0 zero)
  charging_left_nonpositive = charges.left

  pub charge_never_cools : T (le t (new_zone_temperature s t (zone_simultaneous_charging s t target q (kj zero) k).heat))
  charge_never_cools = negative_never_lowers s g t F _ charging_heat_nonpositive

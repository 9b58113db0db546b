-- The falls of a zone's temperature: none is negative where the zone gives up e ≥ 0, none is positive where it takes up e ≤ 0.
-- Over rounding, for every finite zone, infinite energies included.
use lib.Dec.{T}
use lib.Ieee.{Float, of_bits, le}
use Rattle.floats.specs.F64.{◌⊖◌, ◌⊗◌}
use Rattle.floats.specs.Constants.{zero}
use Rattle.floats.specs.Standins.{finite64}
use Rattle.floats.proofs.Cases.{by_le}
use Rattle.floats.proofs.Rulesets.{signs, numbers, tests, apart, finites}
use Rattle.zone.specs.Good.{GoodSalt}
use Rattle.zone_update.specs.Update.{delivering_from_above, delivering, retrieving_from_below, retrieving}
use Rattle.zone.specs.declared.Kilojoules.{Kilojoules}
use Rattle.zone.specs.declared.Salt.{Salt}
use Rattle.zone_update.specs.declared.Deltas.{Deltas}

-- the laws of floats that a zone's proofs search
pub ruleset zones = (signs, numbers, tests, apart, finites)

-- no fall is negative
pub record Down (d : Deltas) : Type 0 where
  pub above : T (le zero d.above)
  pub during : T (le zero d.during)
  pub below : T (le zero d.below)

-- no fall is positive
pub record Up (d : Deltas) : Type 0 where
  pub above : T (le d.above zero)
  pub during : T (le d.during zero)
  pub below : T (le d.below zero)

module _ (s : Salt) (g : GoodSalt s) (t : Float) (e : Kilojoules) (F : T (finite64 t)) where
  module _ (h : T (le zero e.0)) where
    from_above : T (le s.upper t) → Down (delivering_from_above s t e)
    unfolding delivering_from_above of_bits
    from_above k =
        by_le Down e.0 ((t ⊖ s.upper) ⊗ s.above) (search zones) (search zones)
        (λ a. search zones)
        (λ a. by_le Down (e.0 ⊖ (t ⊖ s.upper) ⊗ s.above) ((s.upper ⊖ s.lower) ⊗ s.during) (search zones) (search zones)
        (λ b. search zones)
        (λ b. search zones))

    pub delivering_falls : Down (delivering s t e)
    unfolding delivering of_bits
    delivering_falls =
        by_le Down s.upper t (search zones) (search zones)
        from_above
        (λ a. by_le Down s.lower t (search zones) (search zones)
        (λ b. by_le Down e.0 ((t ⊖ s.lower) ⊗ s.during) (search zones) (search zones)
        (λ c. search zones)
        (λ c. search zones))
        (λ b. search zones))

  module _ (h : T (le e.0 zero)) where
    from_below : T (le t s.lower) → Up (retrieving_from_below s t e)
    unfolding retrieving_from_below of_bits
    from_below k =
        by_le Up ((t ⊖ s.lower) ⊗ s.below) e.0 (search zones) (search zones)
        (λ a. search zones)
        (λ a. by_le Up ((s.lower ⊖ s.upper) ⊗ s.during) (e.0 ⊖ (t ⊖ s.lower) ⊗ s.below) (search zones) (search zones)
        (λ b. search zones)
        (λ b. search zones))

    pub retrieving_rises : Up (retrieving s t e)
    unfolding retrieving of_bits
    retrieving_rises =
        by_le Up t s.lower (search zones) (search zones)
        from_below
        (λ a. by_le Up t s.upper (search zones) (search zones)
        (λ b. by_le Up ((t ⊖ s.upper) ⊗ s.during) e.0 (search zones) (search zones)
        (λ c. search zones)
        (λ c. search zones))
        (λ b. search zones))

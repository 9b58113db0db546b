-- Document 01, module 2: 'A positive one never raises it, a negative one never lowers it', over rounding, for every finite zone and every salt of
-- an accepted card, infinite energies included: the zone may become an infinity and never a NaN. A NaN leaves it.
use mathlib.Core.Path.{◌≡◌, refl}
use lib.Dec.{T}
use lib.Ieee.{Float, nan, fits, of_bits, eq, lt, le}
use Rattle.floats.specs.Constants.{zero, negligible_energy, max_relative}
use Rattle.floats.specs.Standins.{finite64, nearly_equal}
use Rattle.logic.proofs.Branch.{by_test}
use Rattle.floats.proofs.Order.{lt→not_le}
use Rattle.floats.proofs.Rulesets.{directions, signs, numbers, tests, finites}
use Rattle.zone.specs.Good.{GoodSalt}
use Rattle.zone.specs.Heat.{kj}
use Rattle.zone_update.specs.Update.{new_zone_temperature}
use Rattle.zone.specs.declared.Kilojoules.{Kilojoules}
use Rattle.zone.specs.declared.Salt.{Salt}
use Rattle.zone_update.proofs.Falls.{delivering_falls, retrieving_rises}

-- a NaN leaves the zone
pub nan_leaves_zone : (s : Salt) (t : Float) → new_zone_temperature s t (kj nan) ≡ t
unfolding new_zone_temperature nearly_equal finite64 fits eq lt of_bits
nan_leaves_zone s t = refl

module _ (s : Salt) (g : GoodSalt s) (t : Float) (F : T (finite64 t)) (e : Kilojoules) where
  -- the zone is not warmer, not cooler
  abbrev Lowered : Float → Type 0
  Lowered u = T (le u t)

  abbrev Raised : Float → Type 0
  Raised u = T (le t u)

  pub positive_never_raises : T (le zero e.0) → T (le (new_zone_temperature s t e) t)
  unfolding new_zone_temperature of_bits
  positive_never_raises h =
      let falls = delivering_falls s g t e F h in
      by_test Lowered (nearly_equal e.0 zero negligible_energy max_relative) _ _
      (λ a. search (tests, numbers, finites))
      (λ a. by_test Lowered (lt zero e.0) _ _
      (λ b. search (directions, signs, numbers, finites))
      (λ b. by_test Lowered (lt e.0 zero) _ _
      (λ c. absurd (lt→not_le e.0 zero c h))
      (λ c. search (tests, numbers, finites))))

  pub negative_never_lowers : T (le e.0 zero) → T (le t (new_zone_temperature s t e))
  unfolding new_zone_temperature of_bits
  negative_never_lowers h =
      let rises = retrieving_rises s g t e F h in
      by_test Raised (nearly_equal e.0 zero negligible_energy max_relative) _ _
      (λ a. search (tests, numbers, finites))
      (λ a. by_test Raised (lt zero e.0) _ _
      (λ b. absurd (lt→not_le zero e.0 b h))
      (λ b. by_test Raised (lt e.0 zero) _ _
      (λ c. search (directions, signs, numbers, finites))
      (λ c. search (tests, numbers, finites))))

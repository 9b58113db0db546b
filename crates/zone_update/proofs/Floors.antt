-- Document 02, Six: the update with a lowest temperature. Directions hold with it, no zone ends under it unless it was there, and what was taken and the rest make up the
-- energy. Two laws that one would expect are false: what was taken may be more than the zone held above the floor, and the energy less the rest is not what was taken.
use mathlib.Core.Path.{◌≡◌, refl, sym, ◌∙◌}
use mathlib.Core.Bool.{Bool, true, false, cond}
use mathlib.Core.Logic.{◌⊎◌, inl, inr}
use lib.Dec.{T}
use lib.Ieee.{Float, of_bits, lt, le}
use Rattle.floats.specs.F64.{◌⊖◌}
use Rattle.floats.specs.Constants.{zero}
use Rattle.floats.specs.Standins.{finite64, min}
use Rattle.logic.proofs.Branch.{by_test}
use Rattle.logic.proofs.Tests.{holds, no_both}
use Rattle.floats.proofs.Parts.{number}
use Rattle.floats.proofs.Order.{le_refl, le_trans, lt→not_le, lt_irrefl, finite_number}
use Rattle.floats.proofs.Compare.{le_of_lt, le_number_r}
use Rattle.floats.proofs.Cases.{by_le, by_lt}
use Rattle.floats.proofs.Standins.{finite64_finite}
use Rattle.zone.specs.Good.{GoodSalt}
use Rattle.zone.specs.Heat.{kj}
use Rattle.zone.specs.Layer.{layer_energy_stored}
use Rattle.zone.specs.declared.Kilojoules.{Kilojoules}
use Rattle.zone.specs.declared.Salt.{Salt}
use Rattle.zone_update.specs.Update.{new_zone_temperature, took_all, took_none, took_part, floored, zone_update}
use Rattle.std.specs.Prelude.{Option, Some, None}
use Rattle.zone_update.specs.declared.ZoneUpdate.{ZoneUpdate}
use Rattle.zone_update.proofs.Directions.{positive_never_raises, negative_never_lowers}
use Rattle.zone_update.proofs.Falls.{zones}

-- 'A zone already at or under the floor stays, and takes 0'
pub stays_at_the_floor : (lowest : Float) (s : Salt) (t : Float) (e : Kilojoules) → le t lowest ≡ true → zone_update (Some lowest) s t e ≡ took_none t e
unfolding zone_update floored
stays_at_the_floor lowest s t e h = rw h

-- 'Where the update of document 01 would end under the floor, the zone becomes 16'
pub stops_at_the_floor :
    (lowest : Float) (s : Salt) (t : Float) (e : Kilojoules) → le t lowest ≡ false → lt (new_zone_temperature s t e) lowest ≡ true
    → zone_update (Some lowest) s t e ≡ took_part lowest (min e.0 (layer_energy_stored t lowest s).0) e
unfolding zone_update floored
stops_at_the_floor lowest s t e h k = rw (h, k)

-- else it is document 01's
pub as_without_a_floor :
    (lowest : Float) (s : Salt) (t : Float) (e : Kilojoules) → le t lowest ≡ false → lt (new_zone_temperature s t e) lowest ≡ false
    → zone_update (Some lowest) s t e ≡ zone_update None s t e
unfolding zone_update floored
as_without_a_floor lowest s t e h k = rw (h, k)

-- no zone ends under the floor unless it was there, and then it stays
not_under : (a b : Bool) (lowest t u : Float) (x : Kilojoules) (y : Float) → lt u lowest ≡ b
    → lt (cond a (took_none t x) (cond b (took_part lowest y x) (took_all u x))).temperature lowest ≡ true
    → (lt t lowest ≡ true) × ((cond a (took_none t x) (cond b (took_part lowest y x) (took_all u x))).temperature ≡ t)
not_under true b lowest t u x y e h = (h, refl)
not_under false true lowest t u x y e h = absurd (lt_irrefl lowest (holds h))
not_under false false lowest t u x y e h = no_both (sym h ∙ e)

pub not_under_the_floor :
    (lowest : Float) (s : Salt) (t : Float) (e : Kilojoules) → lt (zone_update (Some lowest) s t e).temperature lowest ≡ true
    → (lt t lowest ≡ true) × ((zone_update (Some lowest) s t e).temperature ≡ t)
unfolding zone_update floored
not_under_the_floor lowest s t e h =
    not_under (le t lowest) (lt (new_zone_temperature s t e) lowest) lowest t (new_zone_temperature s t e) e (min e.0 (layer_energy_stored t lowest s).0) refl h

-- ---- directions, over rounding, for every finite zone, infinite energies included

abbrev pub GoodFloor : Option Float → Type 0
GoodFloor None = Unit
GoodFloor (Some lowest) = T (number lowest)

module _ (s : Salt) (g : GoodSalt s) (t : Float) (F : T (finite64 t)) (e : Kilojoules) where
  N : T (number t)
  N = finite_number t (finite64_finite t F)

  abbrev Lowered : ZoneUpdate → Type 0
  Lowered u = T (le u.temperature t)

  abbrev Raised : ZoneUpdate → Type 0
  Raised u = T (le t u.temperature)

  pub loss_never_warms : (floor : Option Float) → GoodFloor floor → T (le zero e.0) → T (le (zone_update floor s t e).temperature t)
  unfolding zone_update floored
  loss_never_warms None n h = positive_never_raises s g t F e h
  loss_never_warms (Some lowest) n h =
      by_le Lowered t lowest N n
      (λ a. le_refl t N)
      (λ a. by_test Lowered (lt (new_zone_temperature s t e) lowest) _ _
      (λ b. le_of_lt lowest t a)
      (λ b. positive_never_raises s g t F e h))

  pub gain_never_cools : (floor : Option Float) → GoodFloor floor → T (le e.0 zero) → T (le t (zone_update floor s t e).temperature)
  unfolding zone_update floored
  gain_never_cools None n h = negative_never_lowers s g t F e h
  gain_never_cools (Some lowest) n h =
      let rises = negative_never_lowers s g t F e h in
      by_le Raised t lowest N n
      (λ a. le_refl t N)
      (λ a. by_lt Raised (new_zone_temperature s t e) lowest (le_number_r t (new_zone_temperature s t e) rises) n
      (λ b. absurd (lt→not_le (new_zone_temperature s t e) lowest b (le_trans lowest t (new_zone_temperature s t e) (le_of_lt lowest t a) rises)))
      (λ b. rises))

-- ---- what was taken, and the rest

-- a layer holds at least 0 above any temperature
module _ (s : Salt) (g : GoodSalt s) (t ref : Float) (F : T (finite64 t)) (R : T (finite64 ref)) where
  abbrev Held : Kilojoules → Type 0
  Held e = T (le zero e.0)

  pub holds_at_least_zero : T (le zero (layer_energy_stored t ref s).0)
  unfolding layer_energy_stored of_bits
  holds_at_least_zero =
      by_le Held t ref (search zones) (search zones)
      (λ a. search zones)
      (λ a. by_le Held t s.lower (search zones) (search zones)
      (λ b. search zones)
      (λ b. by_le Held s.upper ref (search zones) (search zones)
      (λ c. search zones)
      (λ c. by_le Held s.lower ref (search zones) (search zones)
      (λ d. by_le Held t s.upper (search zones) (search zones)
      (λ e. search zones)
      (λ e. search zones))
      (λ d. by_le Held t s.upper (search zones) (search zones)
      (λ e. search zones)
      (λ e. search zones)))))

  module _ (e : Kilojoules) (h : T (le zero e.0)) where
    abbrev Between : ZoneUpdate → Type 0
    Between u = T (le zero u.taken.0) × T (le u.taken.0 e.0)

    abbrev Smaller : Float → Type 0
    Smaller x = T (le zero x) × T (le x e.0)

    -- the smaller of the energy and what is held lies between 0 and the energy
    smaller : Smaller (min e.0 (layer_energy_stored t ref s).0)
    unfolding min
    smaller =
        let N = le_number_r zero e.0 h in
        by_le Smaller e.0 (layer_energy_stored t ref s).0 N (le_number_r zero (layer_energy_stored t ref s).0 holds_at_least_zero)
        (λ a. (h, le_refl e.0 N))
        (λ a. (holds_at_least_zero, le_of_lt (layer_energy_stored t ref s).0 e.0 a))

    whole : Smaller e.0
    whole = (h, le_refl e.0 (le_number_r zero e.0 h))

    -- no more is taken than was asked for, and never less than 0
    pub taken_between : T (le zero (zone_update (Some ref) s t e).taken.0) × T (le (zone_update (Some ref) s t e).taken.0 e.0)
    unfolding zone_update floored of_bits
    taken_between =
        by_test Between (le t ref) _ _
        (λ a. (search zones, h))
        (λ a. by_test Between (lt (new_zone_temperature s t e) ref) _ _
        (λ b. smaller)
        (λ b. whole))

-- 'the rest is the energy minus that' at the floor; elsewhere all or nothing is taken, and nothing or all is left
abbrev pub Accounted : Kilojoules → ZoneUpdate → Type 0
Accounted e u = (u.rest ≡ kj (e.0 ⊖ u.taken.0)) ⊎ (((u.taken ≡ e) × (u.rest ≡ kj zero)) ⊎ ((u.taken ≡ kj zero) × (u.rest ≡ e)))

pub rest_is_left : (floor : Option Float) (s : Salt) (t : Float) (e : Kilojoules) → Accounted e (zone_update floor s t e)
unfolding zone_update floored
rest_is_left None s t e = inr (inl (refl, refl))
rest_is_left (Some lowest) s t e =
    by_test (Accounted e) (le t lowest) _ _ (λ a. inr (inr (refl, refl))) (λ a. by_test (Accounted e) (lt (new_zone_temperature s t e) lowest) _ _ (λ b. inl refl) (λ b. inr (inl (refl, refl))))

-- A zone that is lowered by its falls, by none where it stays, is the definition's: taking away 0 changes nothing.
use mathlib.Core.Path.{◌≡◌, refl, ap, ◌∙◌}
use mathlib.Core.Bool.{Bool, true, false, cond}
use lib.Dec.{T}
use lib.Ieee.{Float, binary64, lt, neg, fits}
use Rattle.floats.specs.F64.{◌⊕◌, ◌⊖◌}
use Rattle.floats.specs.Constants.{zero, negligible_energy}
use Rattle.floats.proofs.Negligible.{negligible_compared}
use Rattle.floats.proofs.Sum2Laws.{no_more}
use Rattle.floats.proofs.Unchanged.{less_zero}
use Rattle.zone.specs.declared.Kilojoules.{Kilojoules}
use Rattle.zone.specs.declared.Salt.{Salt}
use Rattle.zone_update.specs.Update.{deltas, delivering, retrieving, lowered, zone_falls, new_zone_temperature}
use Rattle.zone_update.specs.declared.Deltas.{Deltas}

no_falls : zero ⊕ zero ⊕ zero ≡ zero
no_falls = ap (λ (x : Float). x ⊕ zero) no_more ∙ no_more

module _ (t : Float) (F : T (fits binary64 t)) where
  by_choice : (a b : Bool) (d r : Deltas) → lowered t (cond a d (cond b r (deltas zero zero zero))) ≡ cond a (lowered t d) (cond b (lowered t r) t)
  by_choice true b d r = refl
  by_choice false true d r = refl
  by_choice false false d r = ap (λ (x : Float). t ⊖ x) no_falls ∙ less_zero t F

  pub lowered_by_falls : (s : Salt) (e : Kilojoules) → fits binary64 e.0 ≡ true → lowered t (zone_falls s t e) ≡ new_zone_temperature s t e
  unfolding zone_falls new_zone_temperature
  lowered_by_falls s e G =
      by_choice (lt negligible_energy e.0) (lt e.0 (neg negligible_energy)) (delivering s t e) (retrieving s t e) ∙
      negligible_compared _ _ _ e.0 G

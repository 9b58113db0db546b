-- A list that is stored to at the places of a mode's order, one after the other.
use mathlib.Core.Path.{◌≡◌, refl, sym, ◌∙◌}
use mathlib.Core.List.{List}
use Prim.Native.Nat.{ℕ, zero, suc, ◌<◌}
use native.Mathlib.Omega.{arith}
use lib.ListN.{length, get_or, set, length-set}
use lib.Seq.{get_or-set_other}
use lib.Ieee.{Float, nan}
use Rattle.zone_water.specs.declared.Mode.{Mode}
use Rattle.substep.specs.Substep.{zone_index}

module _ (m : Mode) (n : ℕ) (l : ℕ → List Float) (v : ℕ → Float) (stores : (k : ℕ) → l (suc k) ≡ set (l k) (zone_index m n k) (v k)) where
  pub stored_places : (k : ℕ) → length (l k) ≡ length (l zero)
  stored_places zero = refl
  stored_places (suc k) = rw (stores k) (length-set (l k) (zone_index m n k) (v k) ∙ stored_places k)

  -- a place that none of the first k stores came to is as before
  pub stored_elsewhere : (k i : ℕ) → ((j : ℕ) → j < k → zone_index m n j ≡ i → ⊥) → get_or (l k) i nan ≡ get_or (l zero) i nan
  stored_elsewhere zero i h = refl
  stored_elsewhere (suc k) i h =
      rw (stores k) (get_or-set_other (l k) (zone_index m n k) i (v k) nan (λ e. h k (omega arith) (sym e)) ∙ stored_elsewhere k i (λ j g. h j (omega arith)))

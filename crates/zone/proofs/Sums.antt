-- The stored energy, zone by zone.
use mathlib.Core.Path.{◌≡◌, refl, ap}
use mathlib.Core.List.{List}
use Prim.Native.Nat.{ℕ, ◌≤◌, ◌+◌}
use native.Mathlib.Omega.{arith}
use native.Mathlib.Numerals.{add-one}
use lib.ListN.{length, take, get_or}
use lib.Ieee.{Float, nan}
use Rattle.floats.specs.F64.{◌⊕◌, ◌⊘◌}
use Rattle.floats.proofs.Front.{front_of}
use Rattle.zone.specs.Heat.{kj}
use Rattle.zone.specs.Layer.{layer_energy_stored, stored_energy, level_of, state_of_charge}
use Rattle.zone.specs.declared.Kilojoules.{Kilojoules}
use Rattle.zone.specs.declared.Salt.{Salt}

module _ (s : ℕ → Salt) (ref : Float) (zones : List Float) (k : ℕ) (e : Kilojoules) where
  pub stored_more :
      (z : Salt) (l : Kilojoules) → e ≡ stored_energy s ref zones k → z ≡ s k → l ≡ layer_energy_stored (get_or zones k nan) ref z →
      kj (e.0 ⊕ l.0) ≡ stored_energy s ref zones (k + 1)
  unfolding stored_energy
  stored_more z l h p q = rw (add-one, ← h, ← p, ← q)

  pub stored_end : (n : ℕ) → k ≤ n → n ≤ k → e ≡ stored_energy s ref zones k → e ≡ stored_energy s ref zones n
  stored_end n p q h = let d : k ≡ n = omega arith in rw (h, d)

-- of the front of a list
module _ (s : ℕ → Salt) (ref : Float) where
  pub stored_front : (zones : List Float) (n : ℕ) → n ≤ length zones → stored_energy s ref (take n zones) (length (take n zones)) ≡ stored_energy s ref zones n
  unfolding stored_energy
  stored_front =
      front_of (stored_energy s ref) (λ e k x. kj (e.0 ⊕ (layer_energy_stored x ref (s k)).0)) (λ xs ys. refl) (λ xs k. refl)

  pub level_front : (most : Kilojoules) (zones : List Float) (n : ℕ) → n ≤ length zones → state_of_charge s ref most (take n zones) (length (take n zones)) ≡ state_of_charge s ref most zones n
  unfolding state_of_charge
  level_front most zones n h = ap (λ (e : Kilojoules). level_of (e.0 ⊘ most.0)) (stored_front zones n h)

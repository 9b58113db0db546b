-- Document 01, module 1: what a layer holds above ref, the temperature of a level, the state of charge, and what a zone needs to its target.
use Rattle.std.specs.Prelude.{cond, List, ℕ, zero, suc, get_or, Float, Option, Some, None}
use Rattle.std.specs.Float.{nan}
use Rattle.std.specs.Float.Ieee.{lt, le}
use Rattle.floats.specs.F64.{◌⊕◌, ◌⊖◌, ◌⊗◌, ◌⊘◌}
use Rattle.floats.specs.Constants as Constants
use Rattle.floats.specs.Constants.{one, tolerance}
use Rattle.floats.specs.Standins.{min}
use Rattle.zone.specs.Heat.{kj}
use Rattle.zone.specs.declared.Kilojoules.{Kilojoules}
use Rattle.zone.specs.declared.Salt.{Salt}

-- `calculate_layer_energy_stored`: the energy of a layer at t above ref
unfoldable pub layer_energy_stored : Float → Float → Salt → Kilojoules
layer_energy_stored t ref salt =
    cond (le t ref)
    (kj Constants.zero)
    (cond (le t salt.lower)
    (kj ((t ⊖ ref) ⊗ salt.below))
    (cond (le salt.upper ref)
    (kj ((t ⊖ ref) ⊗ salt.above))
    (cond (le salt.lower ref)
    (cond (le t salt.upper)
    (kj ((t ⊖ ref) ⊗ salt.during))
    (kj ((salt.upper ⊖ ref) ⊗ salt.during ⊕ (t ⊖ salt.upper) ⊗ salt.above)))
    (cond (le t salt.upper)
    (kj ((salt.lower ⊖ ref) ⊗ salt.below ⊕ (t ⊖ salt.lower) ⊗ salt.during))
    (kj ((salt.lower ⊖ ref) ⊗ salt.below ⊕ (salt.upper ⊖ salt.lower) ⊗ salt.during ⊕ (t ⊖ salt.upper) ⊗ salt.above))))))

-- the temperature at which a layer holds e, from its energies at lower and at upper
unfoldable pub temp_at : Salt → Float → Kilojoules → Kilojoules → Kilojoules → Float
temp_at salt ref energy atLower atUpper =
    cond (le energy.0 atLower.0)
    (ref ⊕ energy.0 ⊘ salt.below)
    (cond (le energy.0 atUpper.0)
    (salt.lower ⊕ (energy.0 ⊖ atLower.0) ⊘ salt.during)
    (salt.upper ⊕ (energy.0 ⊖ atUpper.0) ⊘ salt.above))

-- `soc_to_temp`: ref at level 0, max at level 1
unfoldable pub soc_to_temp : Salt → Float → Float → Float → Float
soc_to_temp salt ref max soc =
    cond (le soc Constants.zero)
    ref
    (cond (le one soc)
    max
    (temp_at salt ref (kj (soc ⊗ (layer_energy_stored max ref salt).0)) (layer_energy_stored salt.lower ref salt) (layer_energy_stored salt.upper ref salt)))

-- a battery's salts: one for all its zones, or one for each
pub data Salts : Type 0 where
  One : Salt → Salts
  Each : (ℕ → Salt) → Salts

-- the salt of zone j
abbrev pub salt_at : Salts → ℕ → Salt
salt_at (One s) j = s
salt_at (Each s) j = s j

-- the stored energy of the first k zones: the plain sum in zone order
unfoldable pub stored_energy : (ℕ → Salt) → Float → List Float → ℕ → Kilojoules
stored_energy s ref zones zero = kj Constants.zero
stored_energy s ref zones (suc k) =
    kj ((stored_energy s ref zones k).0 ⊕ (layer_energy_stored (get_or zones k nan) ref (s k)).0)

-- 'state of charge above 1.0 + 1e-10' is refused; up to there it is at most 1
unfoldable pub level_of : Float → Option Float
level_of soc = cond (lt (one ⊕ tolerance) soc) None (Some (min soc one))

-- `calc_state_of_charge` of n zones, from the stored maximum
unfoldable pub state_of_charge : (ℕ → Salt) → Float → Kilojoules → List Float → ℕ → Option Float
state_of_charge s ref most zones n = level_of ((stored_energy s ref zones n).0 ⊘ most.0)

-- `calculate_zone_energy_required`: what a zone at t gives up on the way to its target, so below 0 where it takes heat
unfoldable pub zone_energy_required : Salt → Float → Float → Kilojoules
zone_energy_required salt t target =
    cond (le salt.upper t)
    (kj (salt.above ⊗ (t ⊖ target)))
    (cond (le salt.lower t)
    (cond (lt salt.upper target)
    (kj (salt.above ⊗ (salt.upper ⊖ target) ⊕ salt.during ⊗ (t ⊖ salt.upper)))
    (kj (salt.during ⊗ (t ⊖ target))))
    (cond (lt salt.upper target)
    (kj (salt.above ⊗ (salt.upper ⊖ target) ⊕ salt.during ⊗ (salt.lower ⊖ salt.upper) ⊕ salt.below ⊗ (t ⊖ salt.lower)))
    (cond (lt salt.lower target)
    (kj (salt.during ⊗ (salt.lower ⊖ target) ⊕ salt.below ⊗ (t ⊖ salt.lower)))
    (kj (salt.below ⊗ (t ⊖ target))))))

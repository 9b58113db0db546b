-- How the code is lent salts: figures, five numbers for each, and a step from zone to zone.
use Rattle.std.specs.Prelude.{cond, List, ℕ, ◌+◌, ◌*◌, ◌≤◌, ◌<◌, length, get_or, eqb, Float}
use Rattle.std.specs.Float.{nan}
use Rattle.zone.specs.Layer.{Salts, One, Each}
use Rattle.zone.specs.declared.Salt.{Salt}

-- the salt of zone j among the figures: five numbers from j × step on. One salt serves all zones where the step is 0, each has its own where it is 5
unfoldable pub zone_salt : List Float → ℕ → ℕ → Salt
zone_salt figures step j =
    record {
      lower = get_or figures (j * step) nan;
      upper = get_or figures (j * step + 1) nan;
      below = get_or figures (j * step + 2) nan;
      during = get_or figures (j * step + 3) nan;
      above = get_or figures (j * step + 4) nan;
    }

-- the step from one salt to the next: 0 where `apart` is, else the one that is given
unfoldable pub step_by : ℕ → ℕ → ℕ
step_by apart step = cond (eqb apart 0) 0 step

-- the salts among the figures
unfoldable pub salts_in : List Float → ℕ → Salts
salts_in figures step = cond (eqb step 0) (One (zone_salt figures step 0)) (Each (zone_salt figures step))

-- the figures have a first salt, and one for each of n zones
abbrev pub Salted : List Float → ℕ → ℕ → Type 0
Salted figures step n = (5 ≤ length figures) × ((j : ℕ) → j < n → j * step + 5 ≤ length figures)

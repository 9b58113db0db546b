-- Zones before and after a function that writes the first n places at most.
use Rattle.std.specs.Prelude.{◌≡◌, List, ℕ, ◌≤◌, length, get_or, Float}
use Rattle.std.specs.Float.{nan}

-- as many places, and the same in all from n on
pub record SameAbove (n : ℕ) (before after : List Float) : Type 0 where
  pub places : length after ≡ length before
  pub above : (j : ℕ) → n ≤ j → get_or after j nan ≡ get_or before j nan

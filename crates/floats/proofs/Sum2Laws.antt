-- The compensated sum, item by item, and sums of nothing.
use mathlib.Core.Path.{◌≡◌, refl}
use mathlib.Core.List.{List}
use Prim.Native.Nat.{ℕ, ◌≤◌, ◌+◌}
use native.Mathlib.Omega.{arith}
use native.Mathlib.Numerals.{add-one}
use lib.ListN.{get_or}
use lib.Ieee.{Float, nan, of_bits, add, sub}
use Rattle.floats.specs.F64.{◌⊕◌}
use Rattle.floats.specs.Constants as Constants
use Rattle.floats.specs.Sum2.{sum2_step, sum2_after, sum2}
use Rattle.floats.specs.declared.Sum2.{Sum2}

module _ (xs : List Float) (k : ℕ) (a : Sum2) where
  pub sum2_more : (b : Sum2) → a ≡ sum2_after xs k → b ≡ sum2_step a (get_or xs k nan) → b ≡ sum2_after xs (k + 1)
  unfolding sum2_after
  sum2_more b e h = rw (add-one, ← e, h)

  pub sum2_end : (n : ℕ) → k ≤ n → n ≤ k → a ≡ sum2_after xs k → a.s ⊕ a.c ≡ sum2 xs n
  unfolding sum2
  sum2_end n p q e = let d : k ≡ n = omega arith in rw (e, d)

pub no_more : Constants.zero ⊕ Constants.zero ≡ Constants.zero
unfolding of_bits add
no_more = refl

abbrev pub no_sum : Sum2
no_sum = record { s = Constants.zero; c = Constants.zero }

pub no_sum_more : sum2_step no_sum Constants.zero ≡ no_sum
unfolding sum2_step of_bits add sub
no_sum_more = refl

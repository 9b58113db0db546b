use mathlib.Core.Path.{◌≡◌}
use Rattle.floats.specs.Sum2.{sum2_after}
use Rattle.floats.proofs.sum_with_accumulator.Given as goal

abbrev pub invariant-loop-x : goal.invariant-loop-x
invariant-loop-x l = l.a ≡ sum2_after l.xs l.x-index

use mathlib.Core.Path.{◌≡◌}
use Rattle.floats.specs.Ln.{series}
use Rattle.floats.proofs.bits.series.Given as goal

abbrev pub invariant-loop-j : goal.invariant-loop-j
invariant-loop-j l = l.p ≡ series l.w l.j

use lib.ListN.{replicate}
use Rattle.floats.specs.Constants.{zero}
use Rattle.zone.specs.LentSalts.{lent_salt}
use Rattle.substep.specs.Substep.{zones_after, progress_from}
use Rattle.substep.proofs.OneLoop.{Underway}
use mathlib.Core.Path.{◌≡◌}
use Prim.Native.Nat.{◌≤◌, ◌-◌}
use Rattle.substep_loops.proofs.over_zones.Given as goal

abbrev pub invariant-loop-k : goal.invariant-loop-k
invariant-loop-k g l =
    let common = g.S.ZoneStepping.common l.stepping in
    let salts = lent_salt l.salts in
    let start = progress_from l.fn.input l.initial.zones in
    (l.k ≤ l.n) × ((l.logarithms ≡ l.initial.logarithms) × (Underway common salts l.n l.k start l.zones l.outlet l.left l.charged l.sum l.spread × (g.E.Energies.are l.initial.energies (replicate 64 zero) → g.E.Energies.are l.energies (zones_after common salts l.n l.k start).energies)))

abbrev pub decreases-loop-k : goal.decreases-loop-k
decreases-loop-k g l = l.n - l.k

use mathlib.Core.Path.{◌≡◌}
use Rattle.battery.specs.Battery.{zones_finite}
use Rattle.battery.proofs.zones_finite.Given as goal

abbrev pub invariant-loop-zone : goal.invariant-loop-zone
invariant-loop-zone l = l.ok ≡ zones_finite l.zones l.zone-index

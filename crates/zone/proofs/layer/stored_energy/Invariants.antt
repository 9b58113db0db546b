use Rattle.zone.specs.Layer.{stored_energy}
use Rattle.zone.specs.LentSalts.{lent_salt}
use mathlib.Core.Path.{◌≡◌}
use Rattle.zone.proofs.layer.stored_energy.Given as goal

abbrev pub invariant-loop-k : goal.invariant-loop-k
invariant-loop-k g l = l.sum ≡ stored_energy (lent_salt l.salts) l.reference l.zones l.k

use Rattle.std.proofs.Common.{◌≡◌, ◌≤◌, drop}
use Rattle.card.specs.Services.{listed_class}
use Rattle.card.proofs.services.listed_class.Given as goal

abbrev pub invariant-loop-k : goal.invariant-loop-k
invariant-loop-k g l = let all = (g.E.Extended.extension l.extended).services in (l.k ≤ l.k-end) × (listed_class (drop l.k all) l.number ≡ listed_class all l.number)

use Rattle.std.proofs.Common.{◌≡◌, ◌≤◌, drop}
use Rattle.card.specs.Services.{rising_from}
use Rattle.card.proofs.services.services_rise.Given as goal

abbrev pub invariant-loop-k : goal.invariant-loop-k
invariant-loop-k g l = let all = (g.E.Extended.extension l.extended).services in (l.k ≤ l.k-end) × (rising_from l.least (drop l.k all) ≡ rising_from 4 all)

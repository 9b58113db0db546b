use mathlib.Core.Path.{◌≡◌}
use lib.ListN.{length}
use Rattle.sheet_lines.specs.Answers.{same_number, same_zones}
use Rattle.sheet_lines.proofs.answers.same_zones.Given as goal

abbrev pub invariant-loop-a : goal.invariant-loop-a
invariant-loop-a l = l.ok ≡ same_zones same_number l.x l.y (length l.yielded)

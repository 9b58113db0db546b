-- A verdict's index, which K × 256 + R wants small.
use Rattle.std.specs.Prelude.{ℕ, ◌≤◌}
use Rattle.auditor.specs.Verdicts.{Verdict, Accepted, Refused}

abbrev pub IndexAtMost : ℕ → Verdict → Type 0
IndexAtMost most (Accepted n) = n ≤ most
IndexAtMost most (Refused r k) = k ≤ most

-- A verdict in the papers' numbers: how many lines agree, or the refusal's number and the line's index. Of the numbers, 70 is given by an audit whose rules
-- don't take a card, and by none that the code has.
use Rattle.std.specs.Prelude.{ℕ, Result, Ok, Err}
use Rattle.refusals.specs.Number.{number}
use Rattle.auditor.specs.declared.Refused.{Refused as RefusedLine}

pub data Verdict : Type 0 where
  Accepted : ℕ → Verdict
  Refused : ℕ → ℕ → Verdict

-- what the code gives, in numbers
abbrev pub numbered : Result ℕ RefusedLine → Verdict
numbered (Ok n) = Accepted n
numbered (Err refused) = Refused (number refused.refusal) refused.line

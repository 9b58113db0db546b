-- A verdict in numbers tells the verdict: no two refusals have one number.
use mathlib.Core.Path.{◌≡◌, refl, sym, ap, ◌∙◌}
use mathlib.Core.Bool.{cond}
use Prim.Native.Nat.{ℕ}
use native.Mathlib.Omega.{arith}
use lib.Dec.{eqb}
use Rattle.std.specs.Prelude.{Result, Ok, Err}
use Rattle.refusals.specs.Number.{number}
use Rattle.refusals.specs.declared.Refusal.{Refusal}
use Rattle.refusals.specs.declared.Refusal.TheVariants.{CardOutOfRange, LowerAboveUpper, MaxTooLow, NothingToStore, BadServices, BadCall, NoRoom, NoReturn, NoService, OverBudget, NotFinite, NoLogarithm, OverFull, NoVersion, BadCard, BadLine, Disagrees, TooLong}
use Rattle.auditor.specs.declared.Refused.{Refused as RefusedLine}
use Rattle.auditor.specs.Verdicts.{numbered}

-- the refusal with a number, which is TooLong for a number of none
named : ℕ → Refusal
named n =
    cond (eqb n 1) CardOutOfRange (
    cond (eqb n 2) LowerAboveUpper (
    cond (eqb n 3) MaxTooLow (
    cond (eqb n 4) NothingToStore (
    cond (eqb n 61) BadServices (
    cond (eqb n 10) BadCall (
    cond (eqb n 11) NoRoom (
    cond (eqb n 20) NoReturn (
    cond (eqb n 21) NoService (
    cond (eqb n 22) OverBudget (
    cond (eqb n 23) NotFinite (
    cond (eqb n 24) NoLogarithm (
    cond (eqb n 25) OverFull (
    cond (eqb n 40) NoVersion (
    cond (eqb n 41) BadCard (
    cond (eqb n 42) BadLine (
    cond (eqb n 43) Disagrees (
    TooLong)))))))))))))))))

named_number : (r : Refusal) → named (number r) ≡ r
unfolding named
named_number CardOutOfRange = refl
named_number LowerAboveUpper = refl
named_number MaxTooLow = refl
named_number NothingToStore = refl
named_number BadServices = refl
named_number BadCall = refl
named_number NoRoom = refl
named_number NoReturn = refl
named_number NoService = refl
named_number OverBudget = refl
named_number NotFinite = refl
named_number NoLogarithm = refl
named_number OverFull = refl
named_number NoVersion = refl
named_number BadCard = refl
named_number BadLine = refl
named_number Disagrees = refl
named_number TooLong = refl

pub one_number : (r s : Refusal) → number r ≡ number s → r ≡ s
one_number r s e = sym (named_number r) ∙ ap named e ∙ named_number s

-- so what `numbered` says of a function's result leaves one result only
pub one_verdict : (v w : Result ℕ RefusedLine) → numbered v ≡ numbered w → v ≡ w
one_verdict (Ok m) (Ok n) e = cc
one_verdict (Ok m) (Err s) e = let z : ◌≡◌ {A = ℕ} 0 1 = cc in absurd (omega arith)
one_verdict (Err r) (Ok n) e = let z : ◌≡◌ {A = ℕ} 0 1 = cc in absurd (omega arith)
one_verdict (Err r) (Err s) e =
    let n : number r.refusal ≡ number s.refusal = cc in
    let l : r.line ≡ s.line = cc in
    ap (λ (x : Refusal). Err (record { refusal = x; line = r.line })) (one_number r.refusal s.refusal n) ∙ ap (λ (x : ℕ). Err (record { refusal = s.refusal; line = x })) l

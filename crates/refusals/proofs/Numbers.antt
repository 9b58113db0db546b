-- A refusal's number is not 0.
use mathlib.Core.Path.{◌≡◌, refl}
use mathlib.Core.Bool.{false}
use lib.Dec.{eqb}
use Rattle.refusals.specs.Number.{number}
use Rattle.refusals.specs.declared.Refusal.{Refusal}
use Rattle.refusals.specs.declared.Refusal.TheVariants.{CardOutOfRange, LowerAboveUpper, MaxTooLow, NothingToStore, BadServices, BadCall, NoRoom, NoReturn, NoService, OverBudget, NotFinite, NoLogarithm, OverFull, NoVersion, BadCard, BadLine, Disagrees, TooLong}

pub number_not_0 : (r : Refusal) → eqb (number r) 0 ≡ false
number_not_0 CardOutOfRange = refl
number_not_0 LowerAboveUpper = refl
number_not_0 MaxTooLow = refl
number_not_0 NothingToStore = refl
number_not_0 BadServices = refl
number_not_0 BadCall = refl
number_not_0 NoRoom = refl
number_not_0 NoReturn = refl
number_not_0 NoService = refl
number_not_0 OverBudget = refl
number_not_0 NotFinite = refl
number_not_0 NoLogarithm = refl
number_not_0 OverFull = refl
number_not_0 NoVersion = refl
number_not_0 BadCard = refl
number_not_0 BadLine = refl
number_not_0 Disagrees = refl
number_not_0 TooLong = refl

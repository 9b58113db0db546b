-- Each refusal's number, and what an outcome without a value is in numbers: 0 where nothing is refused.
use Rattle.std.specs.Prelude.{ℕ, Result, Ok, Err}
use Rattle.refusals.specs.declared.Refusal.{Refusal}
use Rattle.refusals.specs.declared.Refusal.TheVariants.{CardOutOfRange, LowerAboveUpper, MaxTooLow, NothingToStore, BadServices, BadCall, NoRoom, NoReturn, NoService, OverBudget, NotFinite, NoLogarithm, OverFull, NoVersion, BadCard, BadLine, Disagrees, TooLong}
use Rattle.refusals.specs.Refusals.{answered, card_out_of_range, lower_above_upper, max_too_low, nothing_to_store, bad_services, bad_call, no_room, no_return, no_service, over_budget, not_finite, no_logarithm, over_full, no_version, bad_card, bad_line, disagrees, too_long}

abbrev pub number : Refusal → ℕ
number CardOutOfRange = card_out_of_range
number LowerAboveUpper = lower_above_upper
number MaxTooLow = max_too_low
number NothingToStore = nothing_to_store
number BadServices = bad_services
number BadCall = bad_call
number NoRoom = no_room
number NoReturn = no_return
number NoService = no_service
number OverBudget = over_budget
number NotFinite = not_finite
number NoLogarithm = no_logarithm
number OverFull = over_full
number NoVersion = no_version
number BadCard = bad_card
number BadLine = bad_line
number Disagrees = disagrees
number TooLong = too_long

-- of what may be refused
abbrev pub refused_number : {A : Type 0} → Result A Refusal → ℕ
refused_number (Ok x) = answered
refused_number (Err r) = number r

use borrow.Author.Rules.{rules}
use Rattle.sheet_calls.proofs.Unknown.{none_of_7}
use Rattle.sheet_calls.proofs.kind.KindTryFromU8.try_from.Goals as goal

pub returns-in_default : goal.returns-in_default
returns-in_default c = search (rules, none_of_7)

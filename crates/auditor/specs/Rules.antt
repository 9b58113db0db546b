-- What an audit goes by: its comparison of two numbers, and the accepted cards that it takes.
use Rattle.std.specs.Prelude.{ℕ, ◌≡◌, Bool, true, Float}
use Rattle.card.specs.declared.Card.{Card}
use Rattle.sheet_lines.specs.Answers.{same_number}

pub record Rules : Type 0 where
  pub same : Float → Float → Bool
  pub test : ℕ → Card → Bool

-- every accepted card
abbrev pub any_card : ℕ → Card → Bool
any_card version card = true

-- document 01's audit
abbrev pub plain : Rules
plain = record { same = same_number; test = any_card }

-- one whose comparison accepts no more than document 01's
abbrev pub NoLooser : Rules → Type 0
NoLooser rules = (x y : Float) → rules.same x y ≡ true → same_number x y ≡ true

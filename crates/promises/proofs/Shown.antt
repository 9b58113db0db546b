-- What an accepted sheet's lines show against the steps' own numbers: equal as f64, line after line.
use mathlib.Core.Path.{◌≡◌}
use mathlib.Core.Bool.{true}
use Prim.Native.Nat.{ℕ, ◌<◌}
use lib.Dec.{T}
use lib.ListN.{get_or}
use lib.Ieee.{Float, nan, eq}
use Rattle.floats.specs.Standins.{finite64}
use Rattle.floats.proofs.Standins.{finite64_finite}
use Rattle.floats.proofs.Parts.{number}
use Rattle.floats.proofs.Order.{finite_number}
use Rattle.card.specs.declared.Card.{Card}
use Rattle.logic.proofs.Tests.{holds}
use Rattle.battery.specs.Battery.{GoodBattery}
use Rattle.battery.specs.declared.Battery.{Battery}
use Rattle.battery.specs.declared.Call.{Call}
use Rattle.battery.specs.declared.Answer.{Answer}
use Rattle.battery.proofs.AnswerLaws.{finite_answer, finite_totals}
use Rattle.engine.specs.Steps.{step_of}
use Rattle.engine.proofs.StepKeeps.{answer_finite_lem}
use Rattle.sheet_records.specs.Records.{state_at}
use Rattle.sheet_lines.specs.Answers.{answer_at, same_number, agrees}
use Rattle.sheet_lines.proofs.Agreement.{Agreed, agreed}
use Rattle.auditor.specs.Sheet.{Line}
use Rattle.promises.specs.Claims.{shown, zones_in}

-- a number's finiteness, and that it equals itself
pub number_of : (x : Float) → finite64 x ≡ true → T (number x)
number_of x h = finite_number x (finite64_finite x (holds h))

pub same_number_lem : (x y : Float) → same_number x y ≡ true → T (eq x y)
unfolding same_number
same_number_lem x y h = holds h

-- zones that are equal as f64
abbrev pub SameZones : Card → (ℕ → Float) → Battery → Type 0
SameZones c zones b = (i : ℕ) → i < c.layers → T (eq (zones i) (get_or b.zones i nan))

module _ (version : ℕ) (c : Card) (l : Line) (own : Answer) (a : agrees same_number (shown version c l) own ≡ true) where
  parts : Agreed same_number (shown version c l) own
  parts = agreed same_number (shown version c l) own a

  pub shown_refusal : (shown version c l).refusal ≡ own.refusal
  shown_refusal = parts.refusal

  pub shown_energy : T (eq (shown version c l).energy own.energy)
  shown_energy = same_number_lem (shown version c l).energy own.energy parts.energy

  pub shown_charged : T (eq (shown version c l).battery.charged own.battery.charged)
  shown_charged = same_number_lem (shown version c l).battery.charged own.battery.charged parts.charged

  pub shown_zones : SameZones c (zones_in version c l) own.battery
  unfolding answer_at state_at
  shown_zones i k = same_number_lem (zones_in version c l i) (get_or own.battery.zones i nan) (parts.zones i k)

-- the steps' charged total is a number
pub charged_number : (version : ℕ) (b : Battery) (call : Call) → GoodBattery version b → T (number (step_of version b call).battery.charged)
charged_number version b call g =
    let own = step_of version b call in
    number_of own.battery.charged (finite_totals own.battery (finite_answer own (answer_finite_lem version b call g)).totals).charged

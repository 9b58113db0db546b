-- A call is refused with 20 to 25 and the battery as before, or answered with finite numbers and what every answer keeps.
use mathlib.Core.Path.{◌≡◌, refl, sym}
use mathlib.Core.Bool.{Bool, true, false, cond}
use mathlib.Core.Logic.{◌⊎◌, inl}
use Prim.Native.Nat.{ℕ, ◌≤◌}
use native.Mathlib.Omega.{arith}
use borrow.Author.Tests.{eqb-false}
use lib.Dec.{eqb}
use lib.Ieee.{Float}
use lib.Ieee.Bits.{is_true}
use Rattle.floats.specs.F64.{◌⊕◌}
use Rattle.floats.specs.Constants.{zero}
use Rattle.logic.proofs.Branch.{by_test}
use Rattle.logic.proofs.Tests.{no_both}
use Rattle.battery.specs.Answer.{refused_with, plain_answer, answer_finite}
use Rattle.battery.specs.declared.Battery.{Battery}
use Rattle.battery.specs.declared.Answer.{Answer}
use Rattle.battery.specs.Places.{SameAbove}
use Rattle.battery.proofs.Zones.{same_above}
use Rattle.runs.specs.Runs.{end_refusal}
use Rattle.engine_replies.specs.Replies.{checked, unless_refused, run_answer, charged_battery, cooled_battery, closed_battery, charged_answer, cooled_answer}
use Rattle.runs.specs.declared.End.{End}
use Rattle.runs.specs.declared.End.TheVariants.{Done, Negative, Met, NoStep, Level, Limit, Time, OverBudget, NoLogarithm, NotFiniteRun}
use Rattle.runs.specs.declared.Stopped.{Stopped}
use Rattle.runs.specs.Zoned.{Zoned}

-- the battery c after b: its card, its count and the places above the count
pub record StateKept (b c : Battery) : Type 0 where
  pub card : c.card ≡ b.card
  pub count : c.count ≡ b.count
  pub above : SameAbove b.card.layers b.zones c.zones

pub state_kept : (b : Battery) → StateKept b b
state_kept b = record { card = refl; count = refl; above = same_above b.card.layers b.zones }

-- an answer to a call that charges or not, that only asks or not
pub record Kept (b : Battery) (charges asks : Bool) (a : Answer) : Type 0 where
  pub refusal : a.refusal ≡ 0
  pub mark : ((a.mark ≡ 0) × (a.outlet ≡ zero)) ⊎ (a.mark ≡ 1)
  pub state : StateKept b a.battery
  pub charged : a.battery.charged ≡ cond charges (b.charged ⊕ a.energy) b.charged
  pub substeps : 1 ≤ b.card.budget → a.substeps ≤ b.card.budget
  pub same : asks ≡ true → a.battery ≡ b

pub data Outcome (b : Battery) (charges asks : Bool) (a : Answer) : Type 0 where
  refused : (r : ℕ) → 20 ≤ r → r ≤ 25 → a ≡ refused_with r b → Outcome b charges asks a
  answered : answer_finite a ≡ true → Kept b charges asks a → Outcome b charges asks a

pub refused_outcome : (b : Battery) (charges asks : Bool) (r : ℕ) → 20 ≤ r → r ≤ 25 → Outcome b charges asks (refused_with r b)
refused_outcome b charges asks r low high = refused r low high refl

pub end_refusals : (e : End) → (end_refusal e ≡ 0 → ⊥) → (22 ≤ end_refusal e) × (end_refusal e ≤ 24)
unfolding end_refusal
end_refusals Done h = absurd (h refl)
end_refusals Negative h = absurd (h refl)
end_refusals Met h = absurd (h refl)
end_refusals NoStep h = absurd (h refl)
end_refusals Level h = absurd (h refl)
end_refusals Limit h = absurd (h refl)
end_refusals Time h = absurd (h refl)
end_refusals OverBudget h = (omega arith, omega arith)
end_refusals NoLogarithm h = (omega arith, omega arith)
end_refusals NotFiniteRun h = (omega arith, omega arith)

-- 22 is the budget's
pub end_over_budget : (e : End) → end_refusal e ≡ 22 → e ≡ OverBudget
unfolding end_refusal
end_over_budget Done h = absurd (omega arith)
end_over_budget Negative h = absurd (omega arith)
end_over_budget Met h = absurd (omega arith)
end_over_budget NoStep h = absurd (omega arith)
end_over_budget Level h = absurd (omega arith)
end_over_budget Limit h = absurd (omega arith)
end_over_budget Time h = absurd (omega arith)
end_over_budget OverBudget h = refl
end_over_budget NoLogarithm h = absurd (omega arith)
end_over_budget NotFiniteRun h = absurd (omega arith)

module _ (b : Battery) (charges asks : Bool) (a : Answer) (k : Kept b charges asks a) where
  pub checked_outcome : Outcome b charges asks (checked b a)
  unfolding checked
  checked_outcome =
      by_test (Outcome b charges asks) (answer_finite a) a (refused_with 23 b)
      (λ h. answered (is_true (answer_finite a) h) k)
      (λ h. refused_outcome b charges asks 23 (omega arith) (omega arith))

  pub run_outcome : (end : End) → Outcome b charges asks (unless_refused b end a)
  unfolding unless_refused
  run_outcome end =
      by_test (Outcome b charges asks) (eqb (end_refusal end) 0) (checked b a) (refused_with (end_refusal end) b)
      (λ h. checked_outcome)
      (λ h. let w = end_refusals end (eqb-false (end_refusal end) 0 h) in refused_outcome b charges asks (end_refusal end) (omega arith) (omega arith))

-- the answers' batteries
pub plain_kept : (b : Battery) (asks : Bool) (energy : Float) → Kept b false asks (plain_answer energy b)
unfolding plain_answer
plain_kept b asks energy =
    record { refusal = refl; mark = inl (refl, refl); state = state_kept b; charged = refl; substeps = λ h. omega arith; same = λ h. refl }

pub closed_kept : (b : Battery) → Kept b false false (plain_answer zero (closed_battery b))
unfolding plain_answer closed_battery
closed_kept b =
    record {
      refusal = refl;
      mark = inl (refl, refl);
      state = record { card = refl; count = refl; above = same_above b.card.layers b.zones };
      charged = refl;
      substeps = λ h. omega arith;
      same = λ h. no_both (sym h);
    }

module _ (b : Battery) (r : Zoned Stopped) (h : SameAbove b.card.layers b.zones r.zones) (n : 1 ≤ b.card.budget → r.part.substeps ≤ b.card.budget) where
  pub charged_kept : (version : ℕ) → Kept b true false (charged_answer version b r)
  unfolding run_answer charged_battery
  charged_kept version =
      record {
        refusal = refl;
        mark = inl (refl, refl);
        state = record { card = refl; count = refl; above = h };
        charged = refl;
        substeps = n;
        same = λ e. no_both (sym e);
      }

  pub cooled_kept : Kept b false false (cooled_answer b r)
  unfolding run_answer cooled_battery
  cooled_kept =
      record {
        refusal = refl;
        mark = inl (refl, refl);
        state = record { card = refl; count = refl; above = h };
        charged = refl;
        substeps = n;
        same = λ e. no_both (sym e);
      }

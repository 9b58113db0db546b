-- What an outcome promises: a good battery stays good, a refusal keeps the state, the numbers are finite, the charged total is a sum.
use mathlib.Core.Path.{◌≡◌, refl, ◌∙◌, ap}
use mathlib.Core.Bool.{Bool, true, false, cond}
use mathlib.Core.Logic.{◌⊎◌, inl, inr}
use Prim.Native.Nat.{ℕ, ◌≤◌}
use native.Mathlib.Omega.{arith}
use Rattle.floats.specs.F64.{◌⊕◌}
use Rattle.floats.specs.Constants.{zero}
use Rattle.battery.specs.Battery.{GoodBattery}
use Rattle.battery.specs.Answer.{refused_with, answer_finite}
use Rattle.battery.specs.Shape.{RefusalLine}
use Rattle.battery.specs.Places.{SameAbove}
use Rattle.battery.specs.declared.Battery.{Battery}
use Rattle.battery.specs.declared.Answer.{Answer}
use Rattle.battery.proofs.Accepted.{accepted_battery, stays_good}
use Rattle.battery.proofs.AnswerLaws.{finite_answer, refused_finite}
use Rattle.battery.proofs.Zones.{same_above}
use Rattle.engine.proofs.Outcomes.{Outcome, refused, answered}

pub refusal_line : (r : ℕ) (b : Battery) (a : Answer) → a ≡ refused_with r b → RefusalLine b a
unfolding refused_with
refusal_line r b a e =
    record {
      energy = ap (λ (x : Answer). x.energy) e;
      mark = ap (λ (x : Answer). x.mark) e;
      outlet = ap (λ (x : Answer). x.outlet) e;
      time = ap (λ (x : Answer). x.time) e;
      substeps = ap (λ (x : Answer). x.substeps) e;
      battery = ap (λ (x : Answer). x.battery) e;
    }

pub refused_number : (r : ℕ) (b : Battery) → (refused_with r b).refusal ≡ r
unfolding refused_with
refused_number r b = refl

number : (r : ℕ) (b : Battery) (a : Answer) → a ≡ refused_with r b → a.refusal ≡ r
number r b a e = ap (λ (x : Answer). x.refusal) e ∙ refused_number r b

module _ (b : Battery) (charges asks : Bool) (a : Answer) where
  pub outcome_refusals : Outcome b charges asks a → (a.refusal ≡ 0) ⊎ ((20 ≤ a.refusal) × (a.refusal ≤ 25))
  outcome_refusals (refused r low high e) = let n = number r b a e in inr (omega arith, omega arith)
  outcome_refusals (answered f k) = inl k.refusal

  pub outcome_refused : Outcome b charges asks a → (a.refusal ≡ 0 → ⊥) → RefusalLine b a
  outcome_refused (refused r low high e) h = refusal_line r b a e
  outcome_refused (answered f k) h = absurd (h k.refusal)

  pub outcome_finite : Outcome b charges asks a → a.refusal ≡ 0 → answer_finite a ≡ true
  outcome_finite (refused r low high e) h = let n = number r b a e in absurd (omega arith)
  outcome_finite (answered f k) h = f

  pub outcome_operation : Outcome b charges asks a → asks ≡ true → a.battery ≡ b
  outcome_operation (refused r low high e) h = (refusal_line r b a e).battery
  outcome_operation (answered f k) h = k.same h

  pub outcome_charged : Outcome b charges asks a → charges ≡ true → a.refusal ≡ 0 → a.battery.charged ≡ b.charged ⊕ a.energy
  outcome_charged (refused r low high e) h z = let n = number r b a e in absurd (omega arith)
  outcome_charged (answered f k) h z = k.charged ∙ rw h

  pub outcome_uncharged : Outcome b charges asks a → (charges ≡ true → a.refusal ≡ 0 → ⊥) → a.battery.charged ≡ b.charged
  outcome_uncharged (refused r low high e) h = ap (λ (x : Battery). x.charged) (refusal_line r b a e).battery
  outcome_uncharged (answered f k) h = k.charged ∙ by charges (λ c. h c k.refusal)
    where
      by : (t : Bool) → (t ≡ true → ⊥) → cond t (b.charged ⊕ a.energy) b.charged ≡ b.charged
      by true n = absurd (n refl)
      by false n = refl

  pub outcome_card : Outcome b charges asks a → a.battery.card ≡ b.card
  outcome_card (refused r low high e) = ap (λ (x : Battery). x.card) (refusal_line r b a e).battery
  outcome_card (answered f k) = k.state.card

  -- whatever stands above the count stays there
  pub outcome_above : Outcome b charges asks a → SameAbove b.card.layers b.zones a.battery.zones
  outcome_above (refused r low high e) = rw (refusal_line r b a e).battery (same_above b.card.layers b.zones)
  outcome_above (answered f k) = k.state.above

  pub outcome_mark : Outcome b charges asks a → ((a.mark ≡ 0) × (a.outlet ≡ zero)) ⊎ (a.mark ≡ 1)
  outcome_mark (refused r low high e) = let l = refusal_line r b a e in inl (l.mark, l.outlet)
  outcome_mark (answered f k) = k.mark

  pub outcome_count : Outcome b charges asks a → 1 ≤ b.card.budget → a.substeps ≤ b.card.budget
  outcome_count (refused r low high e) h = let n = (refusal_line r b a e).substeps in omega arith
  outcome_count (answered f k) h = k.substeps h

  module _ (version : ℕ) (g : GoodBattery version b) where
    pub outcome_good : Outcome b charges asks a → GoodBattery version a.battery
    outcome_good (refused r low high e) = rw (refusal_line r b a e).battery g
    outcome_good (answered f k) =
        let n = finite_answer a f in
        stays_good version b a.battery g k.state.card k.state.count k.state.above n.zones n.totals

    pub outcome_all_finite : Outcome b charges asks a → answer_finite a ≡ true
    outcome_all_finite (refused r low high e) = rw e (refused_finite version r b (accepted_battery version b g.accepted))
    outcome_all_finite (answered f k) = f

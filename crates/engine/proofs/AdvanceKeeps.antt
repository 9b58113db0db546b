-- The same laws of `advance`, which is the step, or refusal 10.
use mathlib.Core.Path.{◌≡◌, refl, sym, ◌∙◌, ap}
use mathlib.Core.Bool.{true, false, ◌&&◌}
use mathlib.Core.Logic.{◌⊎◌, inl, inr}
use Prim.Native.Nat.{ℕ, ◌≤◌, ◌<◌}
use native.Mathlib.Omega.{arith}
use lib.Ieee.Bits.{is_true}
use Rattle.floats.specs.F64.{◌⊕◌}
use Rattle.floats.specs.Constants.{zero}
use Rattle.logic.proofs.Branch.{by_test}
use Rattle.logic.proofs.Tests.{and_true, true_and}
use Rattle.battery.specs.Answer.{refused_with, answer_finite}
use Rattle.battery.specs.Battery.{battery_accepted, GoodBattery}
use Rattle.battery.specs.Call.{call_in_range}
use Rattle.battery.specs.Kinds.{is_charge, only_asks}
use Rattle.battery.specs.Places.{SameAbove}
use Rattle.battery.specs.Shape.{RefusalLine}
use Rattle.battery.specs.declared.Battery.{Battery}
use Rattle.battery.specs.declared.Answer.{Answer}
use Rattle.battery.specs.declared.Call.{Call}
use Rattle.battery.proofs.Accepted.{accepted_battery}
use Rattle.battery.proofs.GoodParts.{shape_fits}
use Rattle.battery.proofs.AnswerLaws.{refused_finite}
use Rattle.battery.proofs.Zones.{same_above}
use Rattle.engine.specs.Steps.{step_of, advance_of}
use Rattle.engine.proofs.Promises.{refusal_line, refused_number}
use Rattle.engine.proofs.StepKeeps.{step_refusals, step_mark, answer_shape, step_keeps_card, step_keeps_above, refused_line_lem, asking_keeps_state, answered_finite, charge_adds_energy, charged_stays, step_keeps_good, answer_finite_lem, count_within_budget}

module _ (version : ℕ) (b : Battery) (call : Call) where
  -- the step, where 10 accepts the battery and the call
  pub advance_is_step : battery_accepted version b ≡ true → call_in_range version b.card call ≡ true → advance_of version b call ≡ step_of version b call
  unfolding advance_of
  advance_is_step h k = rw (true_and h k)

  -- 10, where the battery is not accepted, or a field of the call is out of its range
  pub not_accepted_ten : battery_accepted version b ≡ false → advance_of version b call ≡ refused_with 10 b
  unfolding advance_of
  not_accepted_ten h = rw h

  pub out_of_range_ten : battery_accepted version b ≡ true → call_in_range version b.card call ≡ false → advance_of version b call ≡ refused_with 10 b
  unfolding advance_of
  out_of_range_ten h k = rw (h, k)

  pub advance_is : (advance_of version b call ≡ step_of version b call) ⊎ (advance_of version b call ≡ refused_with 10 b)
  unfolding advance_of
  advance_is =
      by_test (λ (a : Answer). (a ≡ step_of version b call) ⊎ (a ≡ refused_with 10 b)) (battery_accepted version b && call_in_range version b.card call) _ _
      (λ h. inl refl) (λ h. inr refl)

  -- so a law of the steps that a refusal line has too is a law of `advance`
  pub by_step : (P : Answer → Type 0) → P (step_of version b call) → P (refused_with 10 b) → P (advance_of version b call)
  by_step P s r = on advance_is
    where
      on : (advance_of version b call ≡ step_of version b call) ⊎ (advance_of version b call ≡ refused_with 10 b) → P (advance_of version b call)
      on (inl e) = rw e s
      on (inr e) = rw e r

  line : RefusalLine b (refused_with 10 b)
  line = refusal_line 10 b (refused_with 10 b) refl

  pub advance_refusals :
      ((advance_of version b call).refusal ≡ 0) ⊎ (((advance_of version b call).refusal ≡ 10) ⊎ ((20 ≤ (advance_of version b call).refusal) × ((advance_of version b call).refusal ≤ 25)))
  unfolding refused_with
  advance_refusals =
      by_step (λ (a : Answer). (a.refusal ≡ 0) ⊎ ((a.refusal ≡ 10) ⊎ ((20 ≤ a.refusal) × (a.refusal ≤ 25)))) (on (step_refusals version b call)) (inr (inl refl))
    where
      on :
          ((step_of version b call).refusal ≡ 0) ⊎ ((20 ≤ (step_of version b call).refusal) × ((step_of version b call).refusal ≤ 25)) →
          ((step_of version b call).refusal ≡ 0) ⊎ (((step_of version b call).refusal ≡ 10) ⊎ ((20 ≤ (step_of version b call).refusal) × ((step_of version b call).refusal ≤ 25)))
      on (inl e) = inl e
      on (inr e) = inr (inr e)

  pub advance_mark : (((advance_of version b call).mark ≡ 0) × ((advance_of version b call).outlet ≡ zero)) ⊎ ((advance_of version b call).mark ≡ 1)
  advance_mark =
      by_step (λ (a : Answer). ((a.mark ≡ 0) × (a.outlet ≡ zero)) ⊎ (a.mark ≡ 1)) (step_mark version b call) (inl (line.mark, line.outlet))

  pub advance_keeps_card : (advance_of version b call).battery.card ≡ b.card
  advance_keeps_card =
      by_step (λ (a : Answer). a.battery.card ≡ b.card) (step_keeps_card version b call) (ap (λ (c : Battery). c.card) line.battery)

  pub advance_keeps_above : SameAbove b.card.layers b.zones (advance_of version b call).battery.zones
  advance_keeps_above =
      by_step (λ (a : Answer). SameAbove b.card.layers b.zones a.battery.zones) (step_keeps_above version b call)
      (rw line.battery (same_above b.card.layers b.zones))

  pub advance_refused_line : ((advance_of version b call).refusal ≡ 0 → ⊥) → RefusalLine b (advance_of version b call)
  advance_refused_line = by_step (λ (a : Answer). (a.refusal ≡ 0 → ⊥) → RefusalLine b a) (refused_line_lem version b call) (λ h. line)

  pub advance_refused_keeps_state : ((advance_of version b call).refusal ≡ 0 → ⊥) → (advance_of version b call).battery ≡ b
  advance_refused_keeps_state h = (advance_refused_line h).battery

  pub advance_asking_keeps_state : only_asks call ≡ true → (advance_of version b call).battery ≡ b
  advance_asking_keeps_state = by_step (λ (a : Answer). only_asks call ≡ true → a.battery ≡ b) (asking_keeps_state version b call) (λ h. line.battery)

  -- an answered `advance` is the step
  pub advance_answered : (advance_of version b call).refusal ≡ 0 → advance_of version b call ≡ step_of version b call
  advance_answered = on advance_is
    where
      ten : advance_of version b call ≡ refused_with 10 b → (advance_of version b call).refusal ≡ 10
      ten e = ap (λ (a : Answer). a.refusal) e ∙ (unfold refused_with in refl)

      on :
          (advance_of version b call ≡ step_of version b call) ⊎ (advance_of version b call ≡ refused_with 10 b) → (advance_of version b call).refusal ≡ 0 →
          advance_of version b call ≡ step_of version b call
      on (inl e) h = e
      on (inr e) h = let n = ten e in absurd (omega arith)

  -- of a battery that 10 accepts
  pub advance_answered_accepted : (advance_of version b call).refusal ≡ 0 → battery_accepted version b ≡ true
  unfolding advance_of refused_with
  advance_answered_accepted =
      by_test (λ (a : Answer). a.refusal ≡ 0 → battery_accepted version b ≡ true) (battery_accepted version b && call_in_range version b.card call) _ _
      (λ h e. (and_true (battery_accepted version b) _ (is_true _ h)).0) (λ h e. absurd (omega arith))

  pub advance_answered_finite : (advance_of version b call).refusal ≡ 0 → answer_finite (advance_of version b call) ≡ true
  advance_answered_finite h =
      let e = advance_answered h in
      ap answer_finite e ∙ answered_finite version b call (sym (ap (λ (a : Answer). a.refusal) e) ∙ h)

  pub advance_charge_adds_energy :
      is_charge call ≡ true → (advance_of version b call).refusal ≡ 0 → (advance_of version b call).battery.charged ≡ b.charged ⊕ (advance_of version b call).energy
  advance_charge_adds_energy c h =
      let e = advance_answered h in
      rw e (charge_adds_energy version b call c (sym (ap (λ (a : Answer). a.refusal) e) ∙ h))

  pub advance_charged_stays : (is_charge call ≡ true → (advance_of version b call).refusal ≡ 0 → ⊥) → (advance_of version b call).battery.charged ≡ b.charged
  advance_charged_stays =
      by_step (λ (a : Answer). (is_charge call ≡ true → a.refusal ≡ 0 → ⊥) → a.battery.charged ≡ b.charged) (charged_stays version b call)
      (λ h. ap (λ (c : Battery). c.charged) line.battery)

  module _ (g : GoodBattery version b) where
    pub advance_keeps_good : GoodBattery version (advance_of version b call).battery
    advance_keeps_good = by_step (λ (a : Answer). GoodBattery version a.battery) (step_keeps_good version b call g) (rw line.battery g)

    pub advance_finite : answer_finite (advance_of version b call) ≡ true
    advance_finite =
        by_step (λ (a : Answer). answer_finite a ≡ true) (answer_finite_lem version b call g) (refused_finite version 10 b (accepted_battery version b g.accepted))

    pub advance_count_within_budget : (advance_of version b call).substeps ≤ b.card.budget
    advance_count_within_budget =
        let n = line.substeps in
        by_step (λ (a : Answer). a.substeps ≤ b.card.budget) (count_within_budget version b call g) (omega arith)

    -- the whole numbers fit a line
    pub advance_fits : ((advance_of version b call).refusal < 256) × ((advance_of version b call).mark ≤ 1) × ((advance_of version b call).substeps < 65536)
    advance_fits =
        let n = line.substeps in
        let m = line.mark in
        let r = refused_number 10 b in
        by_step (λ (a : Answer). (a.refusal < 256) × (a.mark ≤ 1) × (a.substeps < 65536)) (shape_fits version b (step_of version b call) (answer_shape version b call g))
        (omega arith, omega arith, omega arith)

-- The laws of the steps, by name, for every version, battery and call.
use Rattle.std.specs.Prelude.{Option}
use mathlib.Core.Path.{◌≡◌, refl}
use mathlib.Core.Bool.{true, false}
use mathlib.Core.Logic.{◌⊎◌}
use Prim.Native.Nat.{ℕ, ◌≤◌}
use lib.Ieee.{Float}
use Rattle.floats.specs.F64.{◌⊕◌}
use Rattle.floats.specs.Constants.{zero}
use Rattle.card.proofs.Accepted.{accepted_budget}
use Rattle.battery.specs.Answer.{answer_finite}
use Rattle.battery.specs.Battery.{GoodBattery}
use Rattle.battery.specs.Kinds.{is_charge, only_asks}
use Rattle.battery.specs.Places.{SameAbove}
use Rattle.battery.specs.Shape.{RefusalLine, AnswerShape}
use Rattle.battery.specs.declared.Battery.{Battery}
use Rattle.battery.specs.declared.Call.{Call}
use Rattle.battery.specs.declared.Call.TheVariants.{DemandEnergy, ReadStateOfCharge, ChargeEnergyDemand}
use Rattle.battery.specs.declared.Demand.{Demand}
use Rattle.battery.proofs.Accepted.{accepted_battery}
use Rattle.battery.proofs.AnswerLaws.{finite_answer}
use Rattle.engine.specs.Steps.{step_of}
use Rattle.engine.proofs.Outcomes.{Outcome}
use Rattle.engine.proofs.StepOutcomes.{step_outcome}
use Rattle.engine.proofs.Promises.{outcome_refusals, outcome_refused, outcome_finite, outcome_operation, outcome_charged, outcome_uncharged, outcome_card, outcome_above, outcome_mark, outcome_count, outcome_good, outcome_all_finite}

module _ (version : ℕ) (b : Battery) (call : Call) where
  outcome : Outcome b (is_charge call) (only_asks call) (step_of version b call)
  outcome = step_outcome version b call

  -- a step refuses with 20 to 25
  pub step_refusals : ((step_of version b call).refusal ≡ 0) ⊎ ((20 ≤ (step_of version b call).refusal) × ((step_of version b call).refusal ≤ 25))
  step_refusals = outcome_refusals b (is_charge call) (only_asks call) (step_of version b call) outcome

  pub step_keeps_card : (step_of version b call).battery.card ≡ b.card
  step_keeps_card = outcome_card b (is_charge call) (only_asks call) (step_of version b call) outcome

  -- the places above the count stay as they are, whatever they hold
  pub step_keeps_above : SameAbove b.card.layers b.zones (step_of version b call).battery.zones
  step_keeps_above = outcome_above b (is_charge call) (only_asks call) (step_of version b call) outcome

  -- an absent outlet shows +0
  pub step_mark : (((step_of version b call).mark ≡ 0) × ((step_of version b call).outlet ≡ zero)) ⊎ ((step_of version b call).mark ≡ 1)
  step_mark = outcome_mark b (is_charge call) (only_asks call) (step_of version b call) outcome

  -- a refusal keeps the state, and shows nothing
  pub refused_line_lem : ((step_of version b call).refusal ≡ 0 → ⊥) → RefusalLine b (step_of version b call)
  refused_line_lem = outcome_refused b (is_charge call) (only_asks call) (step_of version b call) outcome

  pub refused_keeps_state : ((step_of version b call).refusal ≡ 0 → ⊥) → (step_of version b call).battery ≡ b
  refused_keeps_state h = (refused_line_lem h).battery

  -- a trial, kind 6 and kind 7 keep the state
  pub asking_keeps_state : only_asks call ≡ true → (step_of version b call).battery ≡ b
  asking_keeps_state = outcome_operation b (is_charge call) (only_asks call) (step_of version b call) outcome

  pub answered_finite : (step_of version b call).refusal ≡ 0 → answer_finite (step_of version b call) ≡ true
  answered_finite = outcome_finite b (is_charge call) (only_asks call) (step_of version b call) outcome

  -- 'An answered charge line adds its energy, as written, to the charged total in one f64 addition', and nothing else changes it
  pub charge_adds_energy :
      is_charge call ≡ true → (step_of version b call).refusal ≡ 0 → (step_of version b call).battery.charged ≡ b.charged ⊕ (step_of version b call).energy
  charge_adds_energy = outcome_charged b (is_charge call) (only_asks call) (step_of version b call) outcome

  pub charged_stays : (is_charge call ≡ true → (step_of version b call).refusal ≡ 0 → ⊥) → (step_of version b call).battery.charged ≡ b.charged
  charged_stays = outcome_uncharged b (is_charge call) (only_asks call) (step_of version b call) outcome

  module _ (g : GoodBattery version b) where
    pub step_keeps_good : GoodBattery version (step_of version b call).battery
    step_keeps_good = outcome_good b (is_charge call) (only_asks call) (step_of version b call) version g outcome

    -- refused or not
    pub answer_finite_lem : answer_finite (step_of version b call) ≡ true
    answer_finite_lem = outcome_all_finite b (is_charge call) (only_asks call) (step_of version b call) version g outcome

    pub count_within_budget : (step_of version b call).substeps ≤ b.card.budget
    count_within_budget =
        outcome_count b (is_charge call) (only_asks call) (step_of version b call) outcome
        (accepted_budget version b.card (accepted_battery version b g.accepted).card).0

    pub answer_shape : AnswerShape version b (step_of version b call)
    answer_shape =
        let f = finite_answer (step_of version b call) answer_finite_lem in
        record {
          refusal = step_refusals;
          energy = f.energy;
          mark = step_mark;
          outlet = f.outlet;
          time = f.time;
          substeps = count_within_budget;
          card = step_keeps_card;
          good = step_keeps_good;
        }

module _ (version : ℕ) (b : Battery) where
  -- 'A trial .. changes nothing'
  pub trial_keeps_state : (d : Demand) → d.commit ≡ false → (step_of version b (DemandEnergy d)).battery ≡ b
  unfolding only_asks
  trial_keeps_state d h = asking_keeps_state version b (DemandEnergy d) (rw h)

  pub state_of_charge_keeps_state : (step_of version b ReadStateOfCharge).battery ≡ b
  unfolding only_asks
  state_of_charge_keeps_state = asking_keeps_state version b ReadStateOfCharge refl

  pub charge_energy_demand_keeps_state : (most : Option Float) (target : Float) → (step_of version b (ChargeEnergyDemand most target)).battery ≡ b
  unfolding only_asks
  charge_energy_demand_keeps_state most target = asking_keeps_state version b (ChargeEnergyDemand most target) refl

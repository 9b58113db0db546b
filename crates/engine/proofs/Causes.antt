-- What `Refused` tells of a call refused with 22 to 25 refuses it: the run's end, an answer that is not finite, or the level.
use Rattle.std.specs.Prelude.{Option, Some}
use mathlib.Core.Path.{◌≡◌, refl, sym, ◌∙◌, ap}
use mathlib.Core.Bool.{Bool, true, false, ◌&&◌}
use mathlib.Core.Logic.{◌⊎◌, inl, inr}
use Prim.Native.Nat.{ℕ, ◌≤◌}
use native.Mathlib.Omega.{arith}
use borrow.Author.Tests.{eq-eqb, ne_eqb}
use lib.Ieee.{Float, le}
use Rattle.floats.specs.Constants.{zero, tolerance}
use Rattle.zone.specs.Layer.{salt_at}
use Rattle.card.specs.Derived.{salts_of, derived}
use Rattle.logic.proofs.Tests.{and_true}
use Rattle.battery.specs.Answer.{plain_answer, answer_finite}
use Rattle.battery.specs.Ledger.{ledger_of}
use Rattle.battery.specs.declared.Battery.{Battery}
use Rattle.battery.specs.declared.Demand.{Demand}
use Rattle.battery.specs.declared.Hydronic.{Hydronic}
use Rattle.battery.specs.declared.Answer.{Answer}
use Rattle.battery.specs.declared.Call.{Call}
use Rattle.battery.specs.declared.Call.TheVariants.{DemandEnergy, ChargeElectric, ChargeHydronic, HeatLoss, CloseTimestep, ReadStateOfCharge, ChargeEnergyDemand}
use Rattle.battery.specs.Call.{demand_in_range, call_in_range}
use Rattle.substep.specs.Substep.{outcome_of, process_heat_battery_zones}
use Rattle.substep.specs.declared.Fault.{Fault}
use Rattle.substep.specs.declared.Fault.TheVariants.{Logarithm, NotFinite}
use Rattle.runs.specs.Runs.{fault_end, end_refusal}
use Rattle.runs.specs.Hydronic.{hydronic_ended}
use Rattle.runs.specs.Charge.{electric_input, electric_ended, charge_electric, charge_hydronic, charge_battery, loss_floor, loss_input, loss_ended, battery_heat_loss, charge_energy_demand}
use Rattle.runs.specs.declared.End.{End}
use Rattle.runs.specs.declared.End.TheVariants.{OverBudget}
use Rattle.runs.specs.declared.Source.{Source}
use Rattle.runs.specs.declared.Source.TheVariants.{Electric}
use Rattle.run_demand.specs.Demand.{demand_ended}
use Rattle.engine_replies.specs.Classes.{service_class, unserved}
use Rattle.engine_replies.specs.Replies.{checked, unless_refused, demand_answer, charged_answer, cooled_answer, closed_battery}
use Rattle.engine.specs.Steps.{demand_run_of, demand_ran, demand_from, demand_given, demand_energy, charge, heat_loss, level, read_level, demand_to_level, wet_source, step_of}
use Rattle.engine.specs.Budget.{hydronic_run_of, BudgetUsed}
use Rattle.engine.specs.Faults.{DemandFaulted, AnswerNotFinite, NoDemandNotFinite, NotFiniteFound, NoLogarithmTaken, OverFull}
use Rattle.engine.specs.Cases.{Runs}
use Rattle.engine.proofs.Promises.{refused_number}
use Rattle.engine.proofs.Refused.{RunWhy, DemandWhy, LevelWhy, ChargeWhy, Why}
use Rattle.engine.proofs.DemandCases.{required_above, class_zero}

-- ---- from the cause to the number

module _ (n : ℕ) (l : 22 ≤ n) (b : Battery) where
  checked_refuses : (a : Answer) → n ≡ 23 → answer_finite a ≡ false → (checked b a).refusal ≡ n
  unfolding checked
  checked_refuses a e h = rw h (refused_number 23 b ∙ sym e)

  run_refuses : (end : End) (a : Answer) → RunWhy n end a → (unless_refused b end a).refusal ≡ n
  unfolding unless_refused
  run_refuses end a (inl h) =
      rw (ne_eqb (end_refusal end) 0 (λ z. omega arith)) (refused_number (end_refusal end) b ∙ h)
  run_refuses end a (inr w) = rw (eq-eqb (end_refusal end) 0 w.1.ended) (checked_refuses a w.0 w.1.found)

  module _ (d : Demand) (in_range : demand_in_range b.card d ≡ true) (runs : Runs b (DemandEnergy d)) where
    -- a demand with a return temperature that 21 doesn't refuse is served
    is_served : le d.required tolerance ≡ false → (feed : Float) → d.feed ≡ Some feed → (d.commit && unserved (service_class b.card d.service)) ≡ false
    is_served asked feed e = on (d.commit && unserved (service_class b.card d.service)) refl
      where
        on : (t : Bool) → (d.commit && unserved (service_class b.card d.service)) ≡ t → t ≡ false
        on true h =
            let p = and_true d.commit _ h in
            absurd (runs.1
            (record {
              above = required_above b.card d in_range asked;
              temperature = feed;
              given = e;
              committed = rw p.0;
              combi = rw (class_zero b.card d in_range p.1);
            }))
        on false h = refl

    from_refuses : (w : DemandWhy n b d) → (demand_from b d w.feed).refusal ≡ n
    unfolding demand_from
    from_refuses w =
        let r = demand_ran b d w.feed in
        rw (is_served w.asked w.feed w.given) (run_refuses r.part.end (demand_answer b d r) w.why)

    demand_refuses : ((n ≡ 23) × NoDemandNotFinite b d) ⊎ DemandWhy n b d → (demand_energy b d).refusal ≡ n
    unfolding demand_energy demand_given
    demand_refuses (inl w) = rw w.1.asked (checked_refuses (plain_answer zero b) w.0 w.1.found)
    demand_refuses (inr w) = rw w.asked (ap (λ (g : Option Float). (demand_given b d g).refusal) w.given ∙ from_refuses w)

  level_refuses : LevelWhy n b (λ soc. soc) → (read_level b (level b)).refusal ≡ n
  unfolding read_level
  level_refuses (inl w) = rw w.1 (refused_number 25 b ∙ sym w.0)
  level_refuses (inr w) = rw w.1.read (checked_refuses (plain_answer w.1.soc b) w.0 w.1.found)

  to_level_refuses :
      (most : Option Float) (target : Float) → LevelWhy n b (λ soc. (charge_energy_demand b.card most target soc).0) → (demand_to_level b most target (level b)).refusal ≡ n
  unfolding demand_to_level
  to_level_refuses most target (inl w) = rw w.1 (refused_number 25 b ∙ sym w.0)
  to_level_refuses most target (inr w) =
      rw w.1.read (checked_refuses (plain_answer (charge_energy_demand b.card most target w.1.soc).0 b) w.0 w.1.found)

  charge_refuses : (version : ℕ) (source : Source) (target : Float) → ChargeWhy n version b source target → (charge version b source target).refusal ≡ n
  unfolding charge
  charge_refuses version source target w =
      let r = charge_battery b source target in
      run_refuses r.part.end (charged_answer version b r) w

  loss_refuses : (floor : Bool) → RunWhy n (battery_heat_loss b floor).part.end (cooled_answer b (battery_heat_loss b floor)) → (heat_loss b floor).refusal ≡ n
  unfolding heat_loss
  loss_refuses floor w =
      let r = battery_heat_loss b floor in
      run_refuses r.part.end (cooled_answer b r) w

pub why_refuses : (n : ℕ) → 22 ≤ n → (version : ℕ) (b : Battery) (call : Call) → call_in_range version b.card call ≡ true → Runs b call → Why n version b call → (step_of version b call).refusal ≡ n
unfolding step_of call_in_range
why_refuses n l version b (DemandEnergy d) i runs w = demand_refuses n l b d i runs w
why_refuses n l version b (ChargeElectric power target) i runs w = charge_refuses n l b version (Electric power) target w
why_refuses n l version b (ChargeHydronic h) i runs w = charge_refuses n l b version (wet_source h) h.target w
why_refuses n l version b (HeatLoss floor) i runs w = loss_refuses n l b floor w
why_refuses n l version b CloseTimestep i runs w = checked_refuses n l b (plain_answer zero (closed_battery b)) w.0 w.1
why_refuses n l version b ReadStateOfCharge i runs w = level_refuses n l b w
why_refuses n l version b (ChargeEnergyDemand most target) i runs w = to_level_refuses n l b most target w

-- ---- from the case to the cause

-- an end by its number
over_22 : (e : End) → e ≡ OverBudget → end_refusal e ≡ 22
unfolding end_refusal
over_22 e h = rw h

logarithm_24 : (e : End) → e ≡ fault_end (Some Logarithm) → end_refusal e ≡ 24
unfolding end_refusal fault_end
logarithm_24 e h = rw h

not_finite_23 : (e : End) → e ≡ fault_end (Some NotFinite) → end_refusal e ≡ 23
unfolding end_refusal fault_end
not_finite_23 e h = rw h

module _ (version : ℕ) (b : Battery) where
  -- the ends of the runs are those that the calls hand out
  demand_end_lem : (d : Demand) (feed : Float) → (demand_ran b d feed).part.end ≡ (demand_run_of b d feed).part.end
  unfolding demand_ended
  demand_end_lem d feed = refl

  hydronic_end_lem : (h : Hydronic) → (charge_battery b (wet_source h) h.target).part.end ≡ (hydronic_run_of b h).part.end
  unfolding charge_battery wet_source charge_hydronic hydronic_ended
  hydronic_end_lem h = refl

  electric_end : (power target : Float) → (charge_battery b (Electric power) target).part.end ≡ fault_end (process_heat_battery_zones b.card (derived b.card) (salt_at (salts_of b.card)) (electric_input (ledger_of b) power target) b.zones).fault
  unfolding charge_battery charge_electric electric_ended outcome_of
  electric_end power target = refl

  loss_end : (floor : Bool) → (battery_heat_loss b floor).part.end ≡ fault_end (process_heat_battery_zones b.card (derived b.card) (salt_at (salts_of b.card)) (loss_input b.card (loss_floor floor)) b.zones).fault
  unfolding battery_heat_loss loss_ended outcome_of
  loss_end floor = refl

  demand_ended_lem : (n : ℕ) (f : Option Fault) → ((e : End) → e ≡ fault_end f → end_refusal e ≡ n) → (d : Demand) → DemandFaulted f b d → DemandWhy n b d
  demand_ended_lem n f number d w =
      record { asked = w.asked; feed = w.feed; given = w.given; why = inl (number _ (demand_end_lem d w.feed ∙ w.ended)) }

  pub budget_why : (call : Call) → BudgetUsed b call → Why 22 version b call
  budget_why (DemandEnergy d) w =
      inr (record { asked = w.asked; feed = w.feed; given = w.given; why = inl (over_22 _ (demand_end_lem d w.feed ∙ w.over.ended)) })
  budget_why (ChargeElectric power target) w = absurd w
  budget_why (ChargeHydronic h) w = inl (over_22 _ (hydronic_end_lem h ∙ w.over.ended))
  budget_why (HeatLoss floor) w = absurd w
  budget_why CloseTimestep w = absurd w
  budget_why ReadStateOfCharge w = absurd w
  budget_why (ChargeEnergyDemand most target) w = absurd w

  pub logarithm_why : (call : Call) → NoLogarithmTaken b call → Why 24 version b call
  logarithm_why (DemandEnergy d) w = inr (demand_ended_lem 24 (Some Logarithm) logarithm_24 d w)
  logarithm_why (ChargeElectric power target) w = absurd w
  logarithm_why (ChargeHydronic h) w = inl (logarithm_24 _ (hydronic_end_lem h ∙ w.ended))
  logarithm_why (HeatLoss floor) w = absurd w
  logarithm_why CloseTimestep w = absurd w
  logarithm_why ReadStateOfCharge w = absurd w
  logarithm_why (ChargeEnergyDemand most target) w = absurd w

  -- a run's own substep, or its answer
  run_23 : {A : Type 0} (end : End) (a : Answer) → (A → end ≡ fault_end (Some NotFinite)) → A ⊎ AnswerNotFinite end a → RunWhy 23 end a
  run_23 end a f (inl w) = inl (not_finite_23 end (f w))
  run_23 end a f (inr w) = inr (refl, w)

  pub not_finite_why : (call : Call) → NotFiniteFound version b call → Why 23 version b call
  not_finite_why (DemandEnergy d) (inl w) = inr (demand_ended_lem 23 (Some NotFinite) not_finite_23 d w)
  not_finite_why (DemandEnergy d) (inr (inl w)) = inr (record { asked = w.asked; feed = w.feed; given = w.given; why = inr (refl, w.answer) })
  not_finite_why (DemandEnergy d) (inr (inr w)) = inl (refl, w)
  not_finite_why (ChargeElectric power target) w = run_23 _ _ (λ s. electric_end power target ∙ ap fault_end s.fault) w
  not_finite_why (ChargeHydronic h) w = run_23 _ _ (λ s. hydronic_end_lem h ∙ s.ended) w
  not_finite_why (HeatLoss floor) w = run_23 _ _ (λ s. loss_end floor ∙ ap fault_end s.fault) w
  not_finite_why CloseTimestep w = (refl, w)
  not_finite_why ReadStateOfCharge w = inr (refl, w)
  not_finite_why (ChargeEnergyDemand most target) w = inr (refl, w)

  pub full_why : (call : Call) → OverFull b call → Why 25 version b call
  full_why (DemandEnergy d) w = absurd w
  full_why (ChargeElectric power target) w = absurd w
  full_why (ChargeHydronic h) w = absurd w
  full_why (HeatLoss floor) w = absurd w
  full_why CloseTimestep w = absurd w
  full_why ReadStateOfCharge w = inl (refl, w.above)
  full_why (ChargeEnergyDemand most target) w = inl (refl, w.above)

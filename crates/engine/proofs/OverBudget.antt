-- 22 only where the count equals the budget and another substep is due.
use Rattle.std.specs.Prelude.{None, Option, Some}
use mathlib.Core.Path.{◌≡◌, refl, sym, ◌∙◌}
use mathlib.Core.Bool.{Bool, false, ◌&&◌}
use Prim.Native.Nat.{ℕ}
use native.Mathlib.Omega.{arith}
use native.Mathlib.Nat.{zero-add}
use lib.Dec.{eqb}
use lib.Ieee.{Float, le}
use Rattle.floats.specs.Constants as Constants
use Rattle.floats.specs.Constants.{tolerance}
use Rattle.logic.proofs.Branch.{by_test}
use Rattle.zone.specs.Layer.{salt_at}
use Rattle.card.specs.Derived.{salts_of}
use Rattle.substep.specs.declared.Fault.{Fault}
use Rattle.substep.specs.declared.Fault.TheVariants.{Logarithm, NotFinite}
use Rattle.battery.specs.Answer.{refused_with, plain_answer, answer_finite}
use Rattle.battery.specs.Ledger.{ledger_of}
use Rattle.battery.specs.declared.Battery.{Battery}
use Rattle.battery.specs.declared.Demand.{Demand}
use Rattle.battery.specs.declared.Hydronic.{Hydronic}
use Rattle.battery.specs.declared.Answer.{Answer}
use Rattle.battery.specs.declared.Call.{Call}
use Rattle.battery.specs.declared.Call.TheVariants.{DemandEnergy, ChargeElectric, ChargeHydronic, HeatLoss, CloseTimestep, ReadStateOfCharge, ChargeEnergyDemand}
use Rattle.battery.proofs.AnswerLaws.{plain_answers}
use Rattle.runs.specs.declared.End.{End}
use Rattle.runs.specs.Runs.{fault_end, end_refusal}
use Rattle.run_demand.specs.Demand.{demand_ended}
use Rattle.runs.specs.Hydronic.{hydronic_ended, whole_substeps}
use Rattle.runs.specs.Charge.{electric_ended, charge_electric, hydronic_task, hydronic_start, charge_hydronic, charge_battery, loss_ended, battery_heat_loss, charge_energy_demand, wet_of}
use Rattle.engine_replies.specs.Classes.{service_class, unserved}
use Rattle.engine_replies.specs.Replies.{checked, unless_refused, demand_start, demand_answer, charged_battery, cooled_battery, closed_battery, charged_answer, cooled_answer}
use Rattle.engine_replies.proofs.Settled.{run_answers, demand_answers}
use Rattle.engine.specs.Steps.{demand_ran, demand_task, demand_from, demand_given, demand_energy, charge, heat_loss, level, read_level, demand_to_level, wet_source, step_of}
use Rattle.runs.specs.declared.Source.TheVariants.{Electric}
use Rattle.runs.specs.declared.End.TheVariants.{OverBudget}
use Rattle.runs.specs.Zoned.{zoned}
use Rattle.engine.specs.Budget.{DemandUsed, HydronicUsed, BudgetUsed}
use Rattle.engine.proofs.Outcomes.{end_over_budget}
use Rattle.engine.proofs.Promises.{refused_number}
use Rattle.engine.proofs.Ends.{demand_run_over, hydronic_run_over}

-- a checked answer is refused with 23 or not at all
checked_not_over : (b : Battery) (a : Answer) → a.refusal ≡ 0 → (checked b a).refusal ≡ 22 → ⊥
unfolding checked
checked_not_over b a z =
    let n = refused_number 23 b in
    by_test (λ (c : Answer). c.refusal ≡ 22 → ⊥) (answer_finite a) a (refused_with 23 b) (λ t h. omega arith) (λ t h. omega arith)

run_over : (b : Battery) (end : End) (a : Answer) → a.refusal ≡ 0 → (unless_refused b end a).refusal ≡ 22 → end ≡ OverBudget
unfolding unless_refused
run_over b end a z =
    by_test (λ (c : Answer). c.refusal ≡ 22 → end ≡ OverBudget) (eqb (end_refusal end) 0) (checked b a) (refused_with (end_refusal end) b)
    (λ t h. absurd (checked_not_over b a z h))
    (λ t h. end_over_budget end (sym (refused_number (end_refusal end) b) ∙ h))

-- one substep never uses a budget up
fault_not_over : (f : Option Fault) → fault_end f ≡ OverBudget → ⊥
unfolding fault_end
fault_not_over None h = let z : ◌≡◌ {A = ℕ} 0 1 = cc in omega arith
fault_not_over (Some Logarithm) h = let z : ◌≡◌ {A = ℕ} 0 1 = cc in omega arith
fault_not_over (Some NotFinite) h = let z : ◌≡◌ {A = ℕ} 0 1 = cc in omega arith

module _ (b : Battery) (d : Demand) (asked : le d.required tolerance ≡ false) where
  ran : (feed : Float) → d.feed ≡ Some feed → (demand_ran b d feed).part.end ≡ OverBudget → DemandUsed b d
  unfolding demand_ended
  ran feed e h =
      let o = demand_run_over (demand_task (ledger_of b) d feed) (salt_at (salts_of b.card)) b.card.budget 0 (zoned (demand_start (ledger_of b)) b.zones) h in
      record { asked = asked; feed = feed; given = e; over = record { ended = o.ended; used = o.used ∙ zero-add b.card.budget; due = o.due } }

  demand_from_lem : (feed : Float) → d.feed ≡ Some feed → (demand_from b d feed).refusal ≡ 22 → DemandUsed b d
  unfolding demand_from
  demand_from_lem feed e =
      let r = demand_ran b d feed in
      let n = refused_number 21 b in
      by_test (λ (c : Answer). c.refusal ≡ 22 → DemandUsed b d) (d.commit && unserved (service_class b.card d.service)) (refused_with 21 b) (unless_refused b r.part.end (demand_answer b d r))
      (λ t h. absurd (omega arith))
      (λ t h. ran feed e (run_over b r.part.end (demand_answer b d r) (demand_answers b d r) h))

  demand_given_lem : (g : Option Float) → d.feed ≡ g → (demand_given b d g).refusal ≡ 22 → DemandUsed b d
  unfolding demand_given
  demand_given_lem None e h = let n = refused_number 20 b in absurd (omega arith)
  demand_given_lem (Some feed) e h = demand_from_lem feed e h

module _ (b : Battery) where
  demand_over : (d : Demand) → (demand_energy b d).refusal ≡ 22 → DemandUsed b d
  unfolding demand_energy
  demand_over d =
      by_test (λ (c : Answer). c.refusal ≡ 22 → DemandUsed b d) (le d.required tolerance) (checked b (plain_answer Constants.zero b)) (demand_given b d d.feed)
      (λ t h. absurd (checked_not_over b (plain_answer Constants.zero b) (plain_answers Constants.zero b) h))
      (λ t h. demand_given_lem b d t d.feed refl h)

  electric_over : (version : ℕ) (power target : Float) → (charge version b (Electric power) target).refusal ≡ 22 → ⊥
  unfolding charge charge_battery charge_electric electric_ended
  electric_over version power target h =
      let r = charge_battery b (Electric power) target in
      fault_not_over _ (run_over b r.part.end (charged_answer version b r) (run_answers _ r.part (charged_battery b r)) h)

  hydronic_over : (version : ℕ) (w : Hydronic) → (charge version b (wet_source w) w.target).refusal ≡ 22 → HydronicUsed b w
  unfolding charge charge_battery wet_source charge_hydronic hydronic_ended
  hydronic_over version w h =
      let r = charge_battery b (wet_source w) w.target in
      let x = hydronic_task b.card (wet_of w) w.target in
      let e = run_over b r.part.end (charged_answer version b r) (run_answers _ r.part (charged_battery b r)) h in
      record { over = rw zero-add at (hydronic_run_over x (salt_at (salts_of b.card)) (whole_substeps x) 0 (zoned (hydronic_start b.card (wet_of w)) b.zones) e) }

  loss_over : (floor : Bool) → (heat_loss b floor).refusal ≡ 22 → ⊥
  unfolding heat_loss battery_heat_loss loss_ended
  loss_over floor h =
      let r = battery_heat_loss b floor in
      fault_not_over _ (run_over b r.part.end (cooled_answer b r) (run_answers _ r.part (cooled_battery b r)) h)

  level_over : (s : Option Float) → (read_level b s).refusal ≡ 22 → ⊥
  unfolding read_level
  level_over None h = let n = refused_number 25 b in omega arith
  level_over (Some soc) h = checked_not_over b (plain_answer soc b) (plain_answers soc b) h

  to_level_over : (most : Option Float) (target : Float) (s : Option Float) → (demand_to_level b most target s).refusal ≡ 22 → ⊥
  unfolding demand_to_level
  to_level_over most target None h = let n = refused_number 25 b in omega arith
  to_level_over most target (Some soc) h =
      let e = (charge_energy_demand b.card most target soc).0 in
      checked_not_over b (plain_answer e b) (plain_answers e b) h

pub over_budget_only : (version : ℕ) (b : Battery) (call : Call) → (step_of version b call).refusal ≡ 22 → BudgetUsed b call
unfolding step_of
over_budget_only version b (DemandEnergy d) h = demand_over b d h
over_budget_only version b (ChargeElectric power target) h = electric_over b version power target h
over_budget_only version b (ChargeHydronic w) h = hydronic_over b version w h
over_budget_only version b (HeatLoss floor) h = loss_over b floor h
over_budget_only version b CloseTimestep h =
    checked_not_over b (plain_answer Constants.zero (closed_battery b)) (plain_answers Constants.zero (closed_battery b)) h
over_budget_only version b ReadStateOfCharge h = level_over b (level b) h
over_budget_only version b (ChargeEnergyDemand most target) h = to_level_over b most target (level b) h

-- The steps give each of 20 to 25 exactly in its case, for a call in range.
use mathlib.Core.Path.{◌≡◌, sym, ◌∙◌}
use mathlib.Core.Bool.{true}
use mathlib.Core.Logic.{◌↔◌}
use Prim.Native.Nat.{ℕ}
use native.Mathlib.Omega.{arith}
use Rattle.battery.specs.declared.Battery.{Battery}
use Rattle.battery.specs.declared.Demand.{Demand}
use Rattle.battery.specs.declared.Call.{Call}
use Rattle.battery.specs.declared.Call.TheVariants.{DemandEnergy, ChargeElectric, ChargeHydronic, HeatLoss, CloseTimestep, ReadStateOfCharge, ChargeEnergyDemand}
use Rattle.battery.specs.Call.{demand_in_range, call_in_range}
use Rattle.floats.specs.Constants.{zero}
use Rattle.runs.specs.declared.Source.TheVariants.{Electric}
use Rattle.engine_replies.specs.Replies.{closed_battery}
use Rattle.engine.specs.Steps.{demand_energy, level, wet_source, step_of}
use Rattle.engine.specs.Cases.{NoReturn, NoService, Case20, Case21, Runs, Case22, Case23, Case24, Case25}
use Rattle.engine.proofs.DemandCases.{Late, DemandWay, late, twenty, twenty_one, demand_way, demand_20, demand_21, late_not, charge_late, loss_late, plain_late, level_late, to_level_late, required_above, above_required, class_zero, zero_class}
use Rattle.engine.proofs.OverBudget.{over_budget_only}
use Rattle.engine.proofs.NotFinite.{not_finite_only}
use Rattle.engine.proofs.NoLogarithm.{no_logarithm_only}
use Rattle.engine.proofs.OverFull.{over_full_only}
use Rattle.engine.proofs.Causes.{why_refuses, budget_why, not_finite_why, logarithm_why, full_why}

-- a demand
module _ (b : Battery) (d : Demand) (r : demand_in_range b.card d ≡ true) where
  demand_is_20 : ((demand_energy b d).refusal ≡ 20) ↔ NoReturn d
  demand_is_20 = (on (demand_way b d), λ w. demand_20 b d (above_required b.card d r w.above) w.absent)
    where
      on : DemandWay b d (demand_energy b d).refusal → (demand_energy b d).refusal ≡ 20 → NoReturn d
      on (late l) h = absurd ((late_not (demand_energy b d).refusal l).0 h)
      on (twenty a f e) h = record { above = required_above b.card d r a; absent = f }
      on (twenty_one a t f m s e) h = absurd (omega arith)

  demand_is_21 : ((demand_energy b d).refusal ≡ 21) ↔ NoService d
  demand_is_21 =
      (on (demand_way b d), λ w. demand_21 b d (above_required b.card d r w.above) w.temperature w.given w.committed (zero_class b.card d r w.combi))
    where
      on : DemandWay b d (demand_energy b d).refusal → (demand_energy b d).refusal ≡ 21 → NoService d
      on (late l) h = absurd ((late_not (demand_energy b d).refusal l).1 h)
      on (twenty a f e) h = absurd (omega arith)
      on (twenty_one a t f m s e) h =
          record { above = required_above b.card d r a; temperature = t; given = f; committed = rw m; combi = rw (class_zero b.card d r s) }

-- every other kind gives neither
no_20 : (n : ℕ) → Late n → (n ≡ 20) ↔ ⊥
no_20 n l = ((late_not n l).0, λ z. absurd z)

no_21 : (n : ℕ) → Late n → (n ≡ 21) ↔ ⊥
no_21 n l = ((late_not n l).1, λ z. absurd z)

pub step_20 : (version : ℕ) (b : Battery) (call : Call) → call_in_range version b.card call ≡ true → ((step_of version b call).refusal ≡ 20) ↔ Case20 b call
unfolding step_of call_in_range
step_20 version b (DemandEnergy d) r = demand_is_20 b d r
step_20 version b (ChargeElectric power target) r = no_20 _ (charge_late b version (Electric power) target)
step_20 version b (ChargeHydronic h) r = no_20 _ (charge_late b version (wet_source h) h.target)
step_20 version b (HeatLoss floor) r = no_20 _ (loss_late b floor)
step_20 version b CloseTimestep r = no_20 _ (plain_late b (closed_battery b) zero)
step_20 version b ReadStateOfCharge r = no_20 _ (level_late b (level b))
step_20 version b (ChargeEnergyDemand most target) r = no_20 _ (to_level_late b most target (level b))

pub step_21 : (version : ℕ) (b : Battery) (call : Call) → call_in_range version b.card call ≡ true → ((step_of version b call).refusal ≡ 21) ↔ Case21 b call
unfolding step_of call_in_range
step_21 version b (DemandEnergy d) r = demand_is_21 b d r
step_21 version b (ChargeElectric power target) r = no_21 _ (charge_late b version (Electric power) target)
step_21 version b (ChargeHydronic h) r = no_21 _ (charge_late b version (wet_source h) h.target)
step_21 version b (HeatLoss floor) r = no_21 _ (loss_late b floor)
step_21 version b CloseTimestep r = no_21 _ (plain_late b (closed_battery b) zero)
step_21 version b ReadStateOfCharge r = no_21 _ (level_late b (level b))
step_21 version b (ChargeEnergyDemand most target) r = no_21 _ (to_level_late b most target (level b))

module _ (version : ℕ) (b : Battery) (call : Call) (r : call_in_range version b.card call ≡ true) where
  -- another number: neither 20 nor 21 applied
  ran : (n : ℕ) → (n ≡ 20 → ⊥) → (n ≡ 21 → ⊥) → (step_of version b call).refusal ≡ n → Runs b call
  ran n p q h = (λ w. p (sym h ∙ (step_20 version b call r).1 w), λ w. q (sym h ∙ (step_21 version b call r).1 w))

  pub step_22 : ((step_of version b call).refusal ≡ 22) ↔ Case22 b call
  step_22 = (
    λ h. (ran 22 (λ z. omega arith) (λ z. omega arith) h, over_budget_only version b call h),
    λ w. why_refuses 22 (omega arith) version b call r w.0 (budget_why version b call w.1),
  )

  pub step_23 : ((step_of version b call).refusal ≡ 23) ↔ Case23 version b call
  step_23 = (
    λ h. (ran 23 (λ z. omega arith) (λ z. omega arith) h, not_finite_only version b call h),
    λ w. why_refuses 23 (omega arith) version b call r w.0 (not_finite_why version b call w.1),
  )

  pub step_24 : ((step_of version b call).refusal ≡ 24) ↔ Case24 b call
  step_24 = (
    λ h. (ran 24 (λ z. omega arith) (λ z. omega arith) h, no_logarithm_only version b call h),
    λ w. why_refuses 24 (omega arith) version b call r w.0 (logarithm_why version b call w.1),
  )

  pub step_25 : ((step_of version b call).refusal ≡ 25) ↔ Case25 b call
  step_25 = (
    λ h. (ran 25 (λ z. omega arith) (λ z. omega arith) h, over_full_only version b call h),
    λ w. why_refuses 25 (omega arith) version b call r w.0 (full_why version b call w.1),
  )

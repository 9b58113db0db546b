-- 23 only where a number after a substep, or a reported number or total, is not finite.
use Rattle.std.specs.Prelude.{None, Some}
use mathlib.Core.Bool.{Bool}
use mathlib.Core.Path.{◌≡◌, sym, ◌∙◌}
use mathlib.Core.Logic.{◌⊎◌, inl, inr}
use Prim.Native.Nat.{ℕ}
use native.Mathlib.Omega.{arith}
use lib.Ieee.{Float}
use Rattle.zone.specs.Layer.{salt_at}
use Rattle.card.specs.Derived.{salts_of, derived}
use Rattle.battery.specs.Ledger.{ledger_of}
use Rattle.battery.specs.declared.Battery.{Battery}
use Rattle.battery.specs.declared.Demand.{Demand}
use Rattle.battery.specs.declared.Answer.{Answer}
use Rattle.battery.specs.declared.Call.{Call}
use Rattle.battery.specs.declared.Call.TheVariants.{DemandEnergy, ChargeElectric, ChargeHydronic, HeatLoss, CloseTimestep, ReadStateOfCharge, ChargeEnergyDemand}
use Rattle.substep.specs.Substep.{outcome_of}
use Rattle.substep.specs.declared.Fault.TheVariants.{NotFinite}
use Rattle.runs.specs.declared.End.{End}
use Rattle.runs.specs.Charge.{electric_input, electric_ended, charge_electric, charge_battery, loss_floor, loss_input, loss_ended, battery_heat_loss}
use Rattle.runs.specs.declared.Source.TheVariants.{Electric}
use Rattle.engine_replies.specs.Replies.{demand_answer}
use Rattle.engine.specs.Steps.{demand_ran, step_of}
use Rattle.engine.specs.Faults.{SubstepFault, AnswerNotFinite, LevelNotFinite, NotFiniteFound}
use Rattle.engine.proofs.Turns.{never}
use Rattle.engine.proofs.Faulty.{substep_fault, end_fault}
use Rattle.engine.proofs.NoLogarithm.{end_fault_23, fault_of_end, demand_faults, hydronic_faults}
use Rattle.engine.proofs.Refused.{RunWhy, DemandWhy, LevelWhy, Why, refused_why}

some_not_finite : (Some NotFinite) ≡ None → ⊥
some_not_finite h = never (cc)

-- a run that ended for its substep's sake, or an answer
run_23 : {A : Type 0} (end : End) (a : Answer) → (end_fault end ≡ Some NotFinite → A) → RunWhy 23 end a → A ⊎ AnswerNotFinite end a
run_23 end a f (inl h) = inl (f (end_fault_23 end h))
run_23 end a f (inr w) = inr w.1

level_23 : (b : Battery) (energy : Float → Float) → LevelWhy 23 b energy → LevelNotFinite b energy
level_23 b energy (inl w) = let n = w.0 in absurd (omega arith)
level_23 b energy (inr w) = w.1

module _ (version : ℕ) (b : Battery) where
  module _ (d : Demand) (w : DemandWhy 23 b d) where
    demand_run_23 :
        RunWhy 23 (demand_ran b d w.feed).part.end (demand_answer b d (demand_ran b d w.feed)) → NotFiniteFound version b (DemandEnergy d)
    demand_run_23 (inl h) =
        let e = end_fault_23 (demand_ran b d w.feed).part.end h in
        inl (demand_faults (Some NotFinite) some_not_finite b d w.asked w.feed w.given e)
    demand_run_23 (inr v) = inr (inl (record { asked = w.asked; feed = w.feed; given = w.given; answer = v.1 }))

  demand_23 : (d : Demand) → Why 23 version b (DemandEnergy d) → NotFiniteFound version b (DemandEnergy d)
  demand_23 d (inl w) = inr (inr w.1)
  demand_23 d (inr w) = demand_run_23 d w w.why

  electric_23 :
      (power target : Float) → end_fault (charge_battery b (Electric power) target).part.end ≡ Some NotFinite →
      SubstepFault (Some NotFinite) b.card (derived b.card) (salt_at (salts_of b.card)) (electric_input (ledger_of b) power target) b.zones
  unfolding charge_battery charge_electric electric_ended outcome_of
  electric_23 power target h =
      substep_fault b.card (derived b.card) (salt_at (salts_of b.card)) (electric_input (ledger_of b) power target) b.zones (Some NotFinite) some_not_finite (sym (fault_of_end _) ∙ h)

  loss_23 : (floor : Bool) → end_fault (battery_heat_loss b floor).part.end ≡ Some NotFinite → SubstepFault (Some NotFinite) b.card (derived b.card) (salt_at (salts_of b.card)) (loss_input b.card (loss_floor floor)) b.zones
  unfolding battery_heat_loss loss_ended outcome_of
  loss_23 floor h = substep_fault b.card (derived b.card) (salt_at (salts_of b.card)) (loss_input b.card (loss_floor floor)) b.zones (Some NotFinite) some_not_finite (sym (fault_of_end _) ∙ h)

why_23 : (version : ℕ) (b : Battery) (call : Call) → Why 23 version b call → NotFiniteFound version b call
why_23 version b (DemandEnergy d) w = demand_23 version b d w
why_23 version b (ChargeElectric power target) w = run_23 _ _ (electric_23 version b power target) w
why_23 version b (ChargeHydronic h) w = run_23 _ _ (hydronic_faults (Some NotFinite) some_not_finite b h) w
why_23 version b (HeatLoss floor) w = run_23 _ _ (loss_23 version b floor) w
why_23 version b CloseTimestep w = w.1
why_23 version b ReadStateOfCharge w = level_23 b _ w
why_23 version b (ChargeEnergyDemand most target) w = level_23 b _ w

pub not_finite_only : (version : ℕ) (b : Battery) (call : Call) → (step_of version b call).refusal ≡ 23 → NotFiniteFound version b call
not_finite_only version b call h = why_23 version b call (refused_why 23 (omega arith) version b call h)

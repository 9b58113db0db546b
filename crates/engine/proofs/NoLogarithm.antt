-- 24 only where the logarithm of a demand's or hydronic substep refuses its argument.
use Rattle.std.specs.Prelude.{Some, Option, None}
use mathlib.Core.Path.{◌≡◌, refl, sym, ◌∙◌, ap}
use mathlib.Core.Bool.{Bool, false}
use mathlib.Core.Logic.{inl, inr}
use Prim.Native.Nat.{ℕ}
use native.Mathlib.Omega.{arith}
use lib.Ieee.{Float, le}
use Rattle.floats.specs.Constants.{tolerance}
use Rattle.zone_water.specs.declared.Mode.TheVariants.{OnlyCharging, Losses, Normal}
use Rattle.zone.specs.Layer.{salt_at}
use Rattle.card.specs.Derived.{salts_of, derived}
use Rattle.battery.specs.Ledger.{ledger_of}
use Rattle.battery.specs.declared.Battery.{Battery}
use Rattle.battery.specs.declared.Demand.{Demand}
use Rattle.battery.specs.declared.Hydronic.{Hydronic}
use Rattle.battery.specs.declared.Answer.{Answer}
use Rattle.battery.specs.declared.Call.{Call}
use Rattle.battery.specs.declared.Call.TheVariants.{DemandEnergy, ChargeElectric, ChargeHydronic, HeatLoss, CloseTimestep, ReadStateOfCharge, ChargeEnergyDemand}
use Rattle.substep.specs.Substep.{outcome_of}
use Rattle.substep.specs.declared.Fault.{Fault}
use Rattle.substep.specs.declared.Fault.TheVariants.{Logarithm, NotFinite}
use Rattle.runs.specs.Runs.{fault_end, end_refusal, end_state}
use Rattle.run_demand.specs.Demand.{demand_input, demand_ended}
use Rattle.runs.specs.Hydronic.{hydronic_ended, whole_substeps}
use Rattle.runs.specs.Charge.{electric_input, electric_ended, charge_electric, hydronic_start, charge_hydronic, charge_battery, loss_floor, loss_input, loss_ended, battery_heat_loss, wet_of}
use Rattle.runs.specs.declared.End.{End}
use Rattle.runs.specs.declared.End.TheVariants.{Done, Negative, Met, NoStep, Level, Limit, Time, OverBudget, NoLogarithm, NotFiniteRun}
use Rattle.runs.specs.declared.Source.TheVariants.{Electric}
use Rattle.engine_replies.specs.Replies.{demand_start}
use Rattle.runs.specs.Zoned.{zoned, on_part}
use Rattle.engine.specs.Steps.{demand_run_of, demand_ran, demand_task, wet_source, step_of}
use Rattle.engine.specs.Budget.{hydronic_task_of, hydronic_run_of}
use Rattle.engine.specs.Faults.{DemandFaulted, HydronicFaulted, NoLogarithmTaken}
use Rattle.engine.proofs.Turns.{never}
use Rattle.engine.proofs.Faulty.{logarithm_only, substep_fault, demand_from_run, end_fault, demand_run_faults, hydronic_run_faults}
use Rattle.engine.proofs.Refused.{RunWhy, LevelWhy, Why, refused_why}

-- the ends of the two faults, by their numbers
pub end_fault_24 : (e : End) → end_refusal e ≡ 24 → end_fault e ≡ Some Logarithm
unfolding end_refusal
end_fault_24 Done h = absurd (omega arith)
end_fault_24 Negative h = absurd (omega arith)
end_fault_24 Met h = absurd (omega arith)
end_fault_24 NoStep h = absurd (omega arith)
end_fault_24 Level h = absurd (omega arith)
end_fault_24 Limit h = absurd (omega arith)
end_fault_24 Time h = absurd (omega arith)
end_fault_24 OverBudget h = absurd (omega arith)
end_fault_24 NoLogarithm h = refl
end_fault_24 NotFiniteRun h = absurd (omega arith)

pub end_fault_23 : (e : End) → end_refusal e ≡ 23 → end_fault e ≡ Some NotFinite
unfolding end_refusal
end_fault_23 Done h = absurd (omega arith)
end_fault_23 Negative h = absurd (omega arith)
end_fault_23 Met h = absurd (omega arith)
end_fault_23 NoStep h = absurd (omega arith)
end_fault_23 Level h = absurd (omega arith)
end_fault_23 Limit h = absurd (omega arith)
end_fault_23 Time h = absurd (omega arith)
end_fault_23 OverBudget h = absurd (omega arith)
end_fault_23 NoLogarithm h = absurd (omega arith)
end_fault_23 NotFiniteRun h = refl

pub fault_of_end : (f : Option Fault) → end_fault (fault_end f) ≡ f
unfolding fault_end
fault_of_end None = refl
fault_of_end (Some Logarithm) = refl
fault_of_end (Some NotFinite) = refl

-- a run that ended for the fault f
module _ (f : Option Fault) (some : f ≡ None → ⊥) where
  end_of_fault : (e : End) → end_fault e ≡ f → e ≡ fault_end f
  unfolding fault_end
  end_of_fault Done h = absurd (some (sym h))
  end_of_fault Negative h = absurd (some (sym h))
  end_of_fault Met h = absurd (some (sym h))
  end_of_fault NoStep h = absurd (some (sym h))
  end_of_fault Level h = absurd (some (sym h))
  end_of_fault Limit h = absurd (some (sym h))
  end_of_fault Time h = absurd (some (sym h))
  end_of_fault OverBudget h = absurd (some (sym h))
  end_of_fault NoLogarithm h = ap fault_end h
  end_of_fault NotFiniteRun h = ap fault_end h

  demand_faulty :
      (b : Battery) (d : Demand) (feed : Float) → end_fault (demand_ran b d feed).part.end ≡ f →
      (demand_from_run (demand_task (ledger_of b) d feed) (salt_at (salts_of b.card)) (on_part end_state (demand_run_of b d feed))).fault ≡ f
  unfolding demand_ended
  demand_faulty b d feed h =
      demand_run_faults (demand_task (ledger_of b) d feed) (salt_at (salts_of b.card)) b.card.budget 0 (zoned (demand_start (ledger_of b)) b.zones) (λ z. some (sym h ∙ z)) ∙ h

  demand_ended_lem : (b : Battery) (d : Demand) (feed : Float) → end_fault (demand_ran b d feed).part.end ≡ f → (demand_run_of b d feed).part.end ≡ fault_end f
  unfolding demand_ended
  demand_ended_lem b d feed h = end_of_fault (demand_run_of b d feed).part.end h

  pub demand_faults :
      (b : Battery) (d : Demand) → le d.required tolerance ≡ false → (feed : Float) → d.feed ≡ Some feed →
      end_fault (demand_ran b d feed).part.end ≡ f → DemandFaulted f b d
  unfolding demand_task
  demand_faults b d asked feed given h =
      let e = demand_run_of b d feed in
      record {
        asked = asked;
        feed = feed;
        given = given;
        ended = demand_ended_lem b d feed h;
        fault = substep_fault b.card (derived b.card) (salt_at (salts_of b.card)) (demand_input (demand_task (ledger_of b) d feed) e.part.state) e.zones f some (demand_faulty b d feed h);
      }

  pub hydronic_faults : (b : Battery) (h : Hydronic) → end_fault (charge_battery b (wet_source h) h.target).part.end ≡ f → HydronicFaulted f b h
  unfolding charge_battery wet_source charge_hydronic hydronic_ended
  hydronic_faults b h e =
      let x = hydronic_task_of b h in
      record {
        ended = end_of_fault (hydronic_run_of b h).part.end e;
        fault = rw e at (hydronic_run_faults x (salt_at (salts_of b.card)) (whole_substeps x) 0 (zoned (hydronic_start b.card (wet_of h)) b.zones) (λ z. some (sym e ∙ z)));
      }

pub some_logarithm : (Some Logarithm) ≡ None → ⊥
some_logarithm h = never (cc)

-- kinds 2 and 4 take none
modes_apart : OnlyCharging ≡ Normal → ⊥
modes_apart h = never (cc)

losses_apart : (floor : Option Float) → Losses floor ≡ Normal → ⊥
losses_apart floor h = never (cc)

run_24 : (end : End) (a : Answer) → RunWhy 24 end a → end_fault end ≡ Some Logarithm
run_24 end a (inl h) = end_fault_24 end h
run_24 end a (inr w) = let n = w.0 in absurd (omega arith)

demand_24 : (version : ℕ) (b : Battery) (d : Demand) → Why 24 version b (DemandEnergy d) → DemandFaulted (Some Logarithm) b d
demand_24 version b d (inl w) = let n = w.0 in absurd (omega arith)
demand_24 version b d (inr w) =
    demand_faults (Some Logarithm) some_logarithm b d w.asked w.feed w.given (run_24 _ _ w.why)

level_24 : (b : Battery) (energy : Float → Float) → LevelWhy 24 b energy → ⊥
level_24 b energy (inl w) = let n = w.0 in omega arith
level_24 b energy (inr w) = let n = w.0 in omega arith

module _ (b : Battery) where
  electric_24 : (power target : Float) → end_fault (charge_battery b (Electric power) target).part.end ≡ Some Logarithm → ⊥
  unfolding charge_battery charge_electric electric_ended electric_input outcome_of
  electric_24 power target h =
      let m = (logarithm_only b.card (derived b.card) (salt_at (salts_of b.card)) (electric_input (ledger_of b) power target) b.zones (sym (fault_of_end _) ∙ h)).normal in
      modes_apart m

  loss_24 : (floor : Bool) → end_fault (battery_heat_loss b floor).part.end ≡ Some Logarithm → ⊥
  unfolding battery_heat_loss loss_ended loss_input outcome_of
  loss_24 floor h =
      let m = (logarithm_only b.card (derived b.card) (salt_at (salts_of b.card)) (loss_input b.card (loss_floor floor)) b.zones (sym (fault_of_end _) ∙ h)).normal in
      losses_apart (loss_floor floor) m

why_24 : (version : ℕ) (b : Battery) (call : Call) → Why 24 version b call → NoLogarithmTaken b call
why_24 version b (DemandEnergy d) w = demand_24 version b d w
why_24 version b (ChargeElectric power target) w = electric_24 b power target (run_24 _ _ w)
why_24 version b (ChargeHydronic h) w = hydronic_faults (Some Logarithm) some_logarithm b h (run_24 _ _ w)
why_24 version b (HeatLoss floor) w = loss_24 b floor (run_24 _ _ w)
why_24 version b CloseTimestep w = let n = w.0 in omega arith
why_24 version b ReadStateOfCharge w = level_24 b _ w
why_24 version b (ChargeEnergyDemand most target) w = level_24 b _ w

pub no_logarithm_only : (version : ℕ) (b : Battery) (call : Call) → (step_of version b call).refusal ≡ 24 → NoLogarithmTaken b call
no_logarithm_only version b call h = why_24 version b call (refused_why 24 (omega arith) version b call h)

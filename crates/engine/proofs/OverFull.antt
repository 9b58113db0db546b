-- 25 only at a state of charge above 1.0 + 1e-10, and only from kinds 6 and 7.
use Rattle.std.specs.Prelude.{None, Option, Some}
use mathlib.Core.Path.{◌≡◌}
use mathlib.Core.Bool.{true}
use mathlib.Core.Logic.{inl, inr}
use Prim.Native.Nat.{ℕ}
use native.Mathlib.Omega.{arith}
use lib.Ieee.{Float, lt}
use lib.Ieee.Bits.{is_true}
use Rattle.floats.specs.F64.{◌⊕◌, ◌⊘◌}
use Rattle.floats.specs.Constants.{one, tolerance}
use Rattle.floats.specs.Standins.{min}
use Rattle.logic.proofs.Branch.{by_test}
use Rattle.zone.specs.Layer.{salt_at, stored_energy, level_of, state_of_charge}
use Rattle.card.specs.Derived.{salts_of, stored_maximum}
use Rattle.battery.specs.declared.Battery.{Battery}
use Rattle.battery.specs.declared.Demand.{Demand}
use Rattle.battery.specs.declared.Answer.{Answer}
use Rattle.battery.specs.declared.Call.{Call}
use Rattle.battery.specs.declared.Call.TheVariants.{DemandEnergy, ChargeElectric, ChargeHydronic, HeatLoss, CloseTimestep, ReadStateOfCharge, ChargeEnergyDemand}
use Rattle.runs.specs.Runs.{end_refusal}
use Rattle.runs.specs.declared.End.{End}
use Rattle.runs.specs.declared.End.TheVariants.{Done, Negative, Met, NoStep, Level as LevelEnd, Limit, Time, OverBudget, NoLogarithm, NotFiniteRun}
use Rattle.engine.specs.Steps.{level, step_of}
use Rattle.engine.specs.Faults.{AboveFull, OverFull}
use Rattle.engine.proofs.Turns.{never}
use Rattle.engine.proofs.Refused.{RunWhy, LevelWhy, Why, refused_why}

level_above : (soc : Float) → level_of soc ≡ None → lt (one ⊕ tolerance) soc ≡ true
unfolding level_of
level_above soc =
    by_test (λ (s : Option Float). s ≡ None → lt (one ⊕ tolerance) soc ≡ true) (lt (one ⊕ tolerance) soc) None (Some (min soc one))
    (λ t h. is_true (lt (one ⊕ tolerance) soc) t)
    (λ t h. never (cc))

above_full : (b : Battery) → level b ≡ None → AboveFull b
unfolding level state_of_charge
above_full b h =
    record { above = h; passed = level_above ((stored_energy (salt_at (salts_of b.card)) b.card.reference b.zones b.card.layers).0 ⊘ (stored_maximum (salts_of b.card) b.card).0) h }

-- no run ends so
end_not_full : (e : End) → end_refusal e ≡ 25 → ⊥
unfolding end_refusal
end_not_full Done h = omega arith
end_not_full Negative h = omega arith
end_not_full Met h = omega arith
end_not_full NoStep h = omega arith
end_not_full LevelEnd h = omega arith
end_not_full Limit h = omega arith
end_not_full Time h = omega arith
end_not_full OverBudget h = omega arith
end_not_full NoLogarithm h = omega arith
end_not_full NotFiniteRun h = omega arith

run_not_full : (end : End) (a : Answer) → RunWhy 25 end a → ⊥
run_not_full end a (inl h) = end_not_full end h
run_not_full end a (inr w) = let n = w.0 in omega arith

demand_not_full : (version : ℕ) (b : Battery) (d : Demand) → Why 25 version b (DemandEnergy d) → ⊥
demand_not_full version b d (inl w) = let n = w.0 in omega arith
demand_not_full version b d (inr w) = run_not_full _ _ w.why

level_full : (b : Battery) (energy : Float → Float) → LevelWhy 25 b energy → AboveFull b
level_full b energy (inl w) = above_full b w.1
level_full b energy (inr w) = let n = w.0 in absurd (omega arith)

why_full : (version : ℕ) (b : Battery) (call : Call) → Why 25 version b call → OverFull b call
why_full version b (DemandEnergy d) w = demand_not_full version b d w
why_full version b (ChargeElectric power target) w = run_not_full _ _ w
why_full version b (ChargeHydronic h) w = run_not_full _ _ w
why_full version b (HeatLoss floor) w = run_not_full _ _ w
why_full version b CloseTimestep w = let n = w.0 in omega arith
why_full version b ReadStateOfCharge w = level_full b _ w
why_full version b (ChargeEnergyDemand most target) w = level_full b _ w

pub over_full_only : (version : ℕ) (b : Battery) (call : Call) → (step_of version b call).refusal ≡ 25 → OverFull b call
over_full_only version b call h = why_full version b call (refused_why 25 (omega arith) version b call h)

-- The steps' answers are what a line can show, so that every reader of a line gives them back.
use Prim.Native.Nat.{ℕ}
use native.Mathlib.Omega.{arith}
use Rattle.battery.specs.declared.Battery.{Battery}
use Rattle.battery.specs.declared.Call.{Call}
use Rattle.battery.specs.Battery.{GoodBattery}
use Rattle.battery.proofs.GoodParts.{shape_fits}
use Rattle.engine.specs.Steps.{step_of}
use Rattle.engine.proofs.StepKeeps.{answer_shape}
use Rattle.sheet_lines.specs.Answers.{GoodAnswer}

pub answer_good : (version : ℕ) (b : Battery) (c : Call) → GoodBattery version b → GoodAnswer version (step_of version b c)
answer_good version b c g =
    let s = answer_shape version b c g in
    let f = shape_fits version b (step_of version b c) s in
    record {
      refusal_fits = f.0;
      substeps_fit = let n = f.2 in omega arith;
      energy_finite = s.energy;
      outlet_finite = s.outlet;
      time_finite = s.time;
      marked = s.mark;
      battery_good = s.good;
    }

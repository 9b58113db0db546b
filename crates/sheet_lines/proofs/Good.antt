-- A finite number is held by its format, a mark by a byte; answers that are good where their battery is.
use mathlib.Core.Path.{◌≡◌, refl}
use mathlib.Core.Bool.{true}
use mathlib.Core.Logic.{◌⊎◌, inl, inr}
use Prim.Native.Nat.{ℕ, ◌<◌}
use native.Mathlib.Omega.{arith}
use lib.Dec.{T}
use lib.Ieee.{Float, binary64, fits, of_bits}
use Rattle.floats.specs.Constants as Constants
use Rattle.floats.specs.Standins.{finite64}
use Rattle.floats.proofs.Standins.{finite64_fits}
use Rattle.battery.specs.declared.Battery.{Battery}
use Rattle.sheet_lines.specs.Answers.{GoodAnswer}
use Rattle.battery.specs.Answer.{refused_with, plain_answer}
use Rattle.battery.specs.Battery.{GoodBattery}

-- a finite number of binary64 is held by its format
pub held : (x : Float) → finite64 x ≡ true → T (fits binary64 x)
held x h = finite64_fits x (rw h tt)

pub mark_small : (m : ℕ) (o : Float) → ((m ≡ 0) × (o ≡ Constants.zero)) ⊎ (m ≡ 1) → m < 256
mark_small m o (inl h) = omega arith
mark_small m o (inr h) = omega arith

-- a refusal line, and a line that ran no substep, are good where their battery is
pub refused_good : (version refusal : ℕ) (b : Battery) → refusal < 256 → GoodBattery version b → GoodAnswer version (refused_with refusal b)
unfolding refused_with finite64 of_bits fits
refused_good version refusal b h g =
    record {
      refusal_fits = h;
      substeps_fit = omega arith;
      energy_finite = refl;
      outlet_finite = refl;
      time_finite = refl;
      marked = inl (refl, refl);
      battery_good = g;
    }

pub plain_good : (version : ℕ) (energy : Float) (b : Battery) → finite64 energy ≡ true → GoodBattery version b → GoodAnswer version (plain_answer energy b)
unfolding plain_answer finite64 of_bits fits
plain_good version energy b h g =
    record {
      refusal_fits = omega arith;
      substeps_fit = omega arith;
      energy_finite = h;
      outlet_finite = refl;
      time_finite = refl;
      marked = inl (refl, refl);
      battery_good = g;
    }

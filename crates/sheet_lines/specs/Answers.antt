-- Document 01, 'Call line': what follows the call's own bytes, and when two answers agree.
use Rattle.std.specs.Prelude.{ℕ, zero, suc, ◌+◌, ◌<◌, ◌≡◌, List, ◌++◌, Bool, true, ◌&&◌, ◌⊎◌, eqb, get_or, Float}
use Rattle.std.specs.Float.{nan}
use Rattle.std.specs.Float.Ieee.{eq}
use Rattle.floats.specs.Constants as Constants
use Rattle.floats.specs.Standins.{finite64}
use Rattle.codec.specs.Bytes.{be_at, f64_at, be_bytes, f64_bytes}
use Rattle.card.specs.declared.Card.{Card}
use Rattle.battery.specs.declared.Battery.{Battery}
use Rattle.battery.specs.declared.Answer.{Answer}
use Rattle.battery.specs.Battery.{GoodBattery}
use Rattle.sheet_records.specs.Records.{state_length, state_at, state_bytes}
use Rattle.sheet_calls.specs.Calls.{mark_ok}

-- 'refusal (u8, 0 none), energy kWh, outlet mark (u8) and f64, time run s, substeps (u32)'
unfoldable pub head_length : ℕ → ℕ
head_length version = 30

-- the place of the outlet's mark
abbrev pub mark_place : ℕ
mark_place = 9

-- the head, then zones and totals
unfoldable pub answer_length : ℕ → Card → ℕ
answer_length version card = head_length version + state_length version card

unfoldable pub answer_at : ℕ → Card → List ℕ → Answer
answer_at version card bs =
    record {
      refusal = get_or bs 0 0;
      energy = f64_at bs 1;
      mark = get_or bs mark_place 0;
      outlet = f64_at bs (mark_place + 1);
      time = f64_at bs 18;
      substeps = be_at bs 26 4;
      battery = state_at version card bs (head_length version);
    }

unfoldable pub head_bytes : Answer → List ℕ
head_bytes answer =
    be_bytes 1 answer.refusal ++ f64_bytes answer.energy ++ be_bytes 1 answer.mark ++ f64_bytes answer.outlet ++ f64_bytes answer.time ++ be_bytes 4 answer.substeps

unfoldable pub answer_bytes : ℕ → Answer → List ℕ
answer_bytes version answer = head_bytes answer ++ state_bytes version answer.battery

-- refusal 42's test: 'a flag or mark, the outlet's too, other than 0 or 1, nonzero bytes under an absent mark'
unfoldable pub marks_ok : ℕ → List ℕ → Bool
marks_ok version bs = mark_ok bs mark_place

-- document 01's comparison: 'Numbers agree when f64 equality holds'
unfoldable pub same_number : Float → Float → Bool
same_number x y = eq x y

-- a comparison that accepts every finite number beside itself
abbrev pub AcceptsItself : (Float → Float → Bool) → Type 0
AcceptsItself same = (x : Float) → finite64 x ≡ true → same x x ≡ true

-- the first n zones agree
unfoldable pub same_zones : (Float → Float → Bool) → List Float → List Float → ℕ → Bool
same_zones same xs ys zero = true
same_zones same xs ys (suc n) = same_zones same xs ys n && same (get_or xs n nan) (get_or ys n nan)

unfoldable pub same_totals : (Float → Float → Bool) → Battery → Battery → Bool
same_totals same shown own =
    same shown.total own.total && (same shown.pump own.pump && (same shown.direct own.direct && (same shown.charged own.charged && same shown.electric own.electric)))

-- 'A call line agrees when its refusal, mark, substeps and f64 agree with those of the steps', its f64 by a comparison
unfoldable pub agrees : (Float → Float → Bool) → Answer → Answer → Bool
agrees same shown own =
    eqb shown.refusal own.refusal && (same shown.energy own.energy && (eqb shown.mark own.mark && (same shown.outlet own.outlet
    && (same shown.time own.time && (eqb shown.substeps own.substeps
    && (same_zones same shown.battery.zones own.battery.zones shown.battery.card.layers && same_totals same shown.battery own.battery))))))

-- What a line can show: numbers that fit their fields, an absent outlet with zero bytes, a good battery.
pub record GoodAnswer (version : ℕ) (answer : Answer) : Type 0 where
  pub refusal_fits : answer.refusal < 256
  pub substeps_fit : answer.substeps < 4294967296
  pub energy_finite : finite64 answer.energy ≡ true
  pub outlet_finite : finite64 answer.outlet ≡ true
  pub time_finite : finite64 answer.time ≡ true
  pub marked : ((answer.mark ≡ 0) × (answer.outlet ≡ Constants.zero)) ⊎ (answer.mark ≡ 1)
  pub battery_good : GoodBattery version answer.battery

-- What every answer is like: a refusal line, and what a line has to hold of an answer on a good battery.
use Rattle.std.specs.Prelude.{ℕ, ◌≤◌, ◌≡◌, true, ◌⊎◌}
use Rattle.floats.specs.Constants.{zero}
use Rattle.floats.specs.Standins.{finite64}
use Rattle.battery.specs.Battery.{GoodBattery}
use Rattle.battery.specs.declared.Battery.{Battery}
use Rattle.battery.specs.declared.Answer.{Answer}

-- 'A refusal line shows energy 0, outlet absent, time 0, substeps 0, and zones and totals as before'
pub record RefusalLine (was : Battery) (answer : Answer) : Type 0 where
  pub energy : answer.energy ≡ zero
  pub mark : answer.mark ≡ 0
  pub outlet : answer.outlet ≡ zero
  pub time : answer.time ≡ zero
  pub substeps : answer.substeps ≡ 0
  pub battery : answer.battery ≡ was

-- the answer a of a step from b, refused or not
pub record AnswerShape (version : ℕ) (battery : Battery) (answer : Answer) : Type 0 where
  pub refusal : (answer.refusal ≡ 0) ⊎ ((20 ≤ answer.refusal) × (answer.refusal ≤ 25))
  pub energy : finite64 answer.energy ≡ true
  pub mark : ((answer.mark ≡ 0) × (answer.outlet ≡ zero)) ⊎ (answer.mark ≡ 1)
  pub outlet : finite64 answer.outlet ≡ true
  pub time : finite64 answer.time ≡ true
  pub substeps : answer.substeps ≤ battery.card.budget
  pub card : answer.battery.card ≡ battery.card
  pub good : GoodBattery version answer.battery

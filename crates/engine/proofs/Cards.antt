-- No step changes the card.
use mathlib.Core.Path.{◌≡◌, refl}
use mathlib.Core.Bool.{Bool, true, false, cond}
use Rattle.battery.specs.declared.Battery.{Battery}
use Rattle.battery.specs.declared.Demand.{Demand}
use Rattle.runs.specs.declared.Stopped.{Stopped}
use Rattle.engine_replies.specs.Classes.{service_class}
use Rattle.engine_replies.specs.Replies.{served, demand_kept, demand_answer}
use Rattle.runs.specs.Zoned.{Zoned}

pub kept_card : (b : Battery) (d : Demand) (r : Zoned Stopped) → (demand_kept b d r).card ≡ b.card
unfolding demand_kept served
kept_card b d r = by d.commit
  where
    by : (t : Bool) → (cond t (served b (service_class b.card d.service) r) b).card ≡ b.card
    by true = refl
    by false = refl

pub answer_card : (b : Battery) (d : Demand) (r : Zoned Stopped) → (demand_answer b d r).battery.card ≡ b.card
unfolding demand_answer
answer_card b d r = kept_card b d r

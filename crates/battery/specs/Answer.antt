-- What a call answers, and the refusal line. A reply is an answer that is no refusal and whose zones lie apart, without the card and the count.
use Rattle.std.specs.Prelude.{ℕ, Bool, ◌&&◌, List, Float, Option, Some, None, Result, Ok, Err}
use Rattle.refusals.specs.Refusals.{answered}
use Rattle.refusals.specs.Number.{number}
use Rattle.refusals.specs.declared.Refusal.{Refusal}
use Rattle.floats.specs.Constants.{zero}
use Rattle.floats.specs.Standins.{finite64}
use Rattle.battery.specs.declared.Battery.{Battery}
use Rattle.battery.specs.declared.Totals.{Totals}
use Rattle.battery.specs.declared.Ledger.{Ledger}
use Rattle.battery.specs.declared.Answer.{Answer}
use Rattle.battery.specs.declared.Reply.{Reply}
use Rattle.battery.specs.Ledger.{totals_of, whole, renewed_battery, totals_finite}
use Rattle.battery.specs.Battery.{zones_finite}

-- an outlet as a line shows it: its mark and its value
abbrev pub outlet_mark : Option Float → ℕ
outlet_mark None = 0
outlet_mark (Some outlet) = 1

abbrev pub outlet_value : Option Float → Float
outlet_value None = zero
outlet_value (Some outlet) = outlet

-- the reply's numbers, with this battery
abbrev pub answer_of : Reply → Battery → Answer
answer_of reply battery =
    record {
      refusal = answered;
      energy = reply.energy;
      mark = outlet_mark reply.outlet;
      outlet = outlet_value reply.outlet;
      time = reply.time;
      substeps = reply.substeps;
      battery = battery;
    }

-- the answer with these zones
abbrev pub answer_with : Ledger → Reply → List Float → Answer
answer_with ledger reply zones = answer_of reply (renewed_battery ledger reply.totals zones)

-- 'A refusal line shows energy 0, outlet absent, time 0, substeps 0, and zones and totals as before'
unfoldable pub refused_with : ℕ → Battery → Answer
refused_with n battery = record { refusal = n; energy = zero; mark = 0; outlet = zero; time = zero; substeps = 0; battery = battery }

-- an answer that ran no substep and has no outlet
abbrev pub plain_reply : Float → Totals → Reply
plain_reply energy totals =
    record { energy = energy; outlet = None; time = zero; substeps = 0; totals = totals }

unfoldable pub plain_answer : Float → Battery → Answer
plain_answer energy battery = answer_of (plain_reply energy (totals_of battery)) battery

-- every reported number and total is finite, but for the zones
unfoldable pub numbers_finite : Reply → Bool
numbers_finite reply =
    finite64 reply.energy && (finite64 (outlet_value reply.outlet) && (finite64 reply.time && totals_finite reply.totals))

-- every reported number and total is finite
unfoldable pub answer_finite : Answer → Bool
answer_finite answer =
    (finite64 answer.energy && (finite64 answer.outlet && (finite64 answer.time && totals_finite (totals_of answer.battery))))
    && zones_finite answer.battery.zones answer.battery.card.layers

-- the answer to a call on zones that lie apart, as they were and as they are: a refusal shows the battery as it was
unfoldable pub settled : Ledger → List Float → Result Reply Refusal → List Float → Answer
settled ledger before (Ok reply) after = answer_with ledger reply after
settled ledger before (Err refusal) after = refused_with (number refusal) (whole ledger before)

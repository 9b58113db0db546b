-- Document 01, module 9: 'One more entry takes the caller's own battery record and advances it by a call.' There is no sheet, so no 11.
use Rattle.std.specs.Prelude.{ℕ, zero, suc, cond, List, [], get_or, set, Float, Option, Some, None, Result, Ok, Err}
use Rattle.std.specs.Float.{nan}
use Rattle.refusals.specs.Refusals.{answered, bad_call, no_version}
use Rattle.refusals.specs.Number.{number}
use Rattle.refusals.specs.declared.Refusal.{Refusal}
use Rattle.card.specs.Version.{known_version, lists_services, sets_floor}
use Rattle.card.specs.Services.{Service, listed}
use Rattle.card.specs.Extension.{Extension, extension_ok}
use Rattle.floats.specs.Constants as Constants
use Rattle.battery.specs.Answer.{outlet_mark, outlet_value, refused_with}
use Rattle.battery.specs.Ledger.{whole, renewed_battery}
use Rattle.battery.specs.declared.Battery.{Battery}
use Rattle.battery.specs.declared.Call.{Call}
use Rattle.battery.specs.declared.Answer.{Answer}
use Rattle.battery.specs.declared.Reply.{Reply}
use Rattle.battery.specs.declared.Ledger.{Ledger}
use Rattle.engine.specs.Steps.{advance_of}
use Rattle.sheet_calls.specs.Calls.{call_of}
use Rattle.own_record.specs.declared.Shown.{Shown}
use Rattle.own_record.specs.declared.OwnRecord.{OwnRecord}
use Rattle.own_record.specs.declared.OwnExtension.{OwnExtension}

-- a battery after a call, and what the call answers
pub record Advanced : Type 0 where
  pub battery : Battery
  pub shown : Shown

-- an answer without its battery, as a line shows it; the same of a reply, and of a refusal
unfoldable pub shown_of : Answer → Shown
shown_of answer =
    record { refusal = answer.refusal; mark = answer.mark; substeps = answer.substeps; energy = answer.energy; outlet = answer.outlet; time = answer.time }

abbrev pub reply_shown : Reply → Shown
reply_shown reply =
    record {
      refusal = answered;
      mark = outlet_mark reply.outlet;
      substeps = reply.substeps;
      energy = reply.energy;
      outlet = outlet_value reply.outlet;
      time = reply.time;
    }

abbrev pub refused_shown : ℕ → Shown
refused_shown n = record { refusal = n; mark = 0; substeps = 0; energy = Constants.zero; outlet = Constants.zero; time = Constants.zero }

-- a battery whose zones lie apart after a call, with these zones, and what is shown: its totals are renewed where the call is answered
abbrev pub answered_with : Ledger → Result Reply Refusal → List Float → Advanced
answered_with ledger (Ok reply) zones = record { battery = renewed_battery ledger reply.totals zones; shown = reply_shown reply }
answered_with ledger (Err refusal) zones = record { battery = whole ledger zones; shown = refused_shown (number refusal) }

-- zones of which the first n are those of another list
unfoldable pub renewed_zones : List Float → List Float → ℕ → List Float
renewed_zones zones own zero = zones
renewed_zones zones own (suc n) = set (renewed_zones zones own n) n (get_or own n nan)

-- the record afterwards, and what the call answers
unfoldable pub advanced_by : Answer → Advanced
advanced_by answer = record { battery = answer.battery; shown = shown_of answer }

-- 10 for a call that can't be read
unfoldable pub advance_read : ℕ → Battery → Option Call → Answer
advance_read version battery None = refused_with bad_call battery
advance_read version battery (Some call) = advance_of version battery call

-- document 02, Four: '61 .. counted with 1 to 4 everywhere', so 10 for services that are refused, as for a flag that is
unfoldable pub advance_extended : ℕ → Extension → Battery → List ℕ → Answer
advance_extended version extension battery call = cond (extension_ok extension) (advance_read version battery (call_of version extension call)) (refused_with bad_call battery)

-- document 02, Three: 'an unknown one is 40 there, before all'
unfoldable pub answer_own : ℕ → Extension → Battery → List ℕ → Answer
answer_own version extension battery call = cond (known_version version) (advance_extended version extension battery call) (refused_with no_version battery)

unfoldable pub advanced_of : ℕ → Extension → Battery → List ℕ → Advanced
advanced_of version extension battery call = advanced_by (answer_own version extension battery call)

-- ---- the struct that the caller keeps

-- its services, from version 3 on
unfoldable pub own_service : List ℕ → List ℕ → ℕ → Service
own_service numbers classes i = record { number = get_or numbers i 0; class = get_or classes i 0 }

unfoldable pub own_services : ℕ → ℕ → List ℕ → List ℕ → List Service
own_services version count numbers classes = cond (lists_services version) (listed (own_service numbers classes) 0 count) []

-- its flag, from version 4 on
unfoldable pub own_floor : ℕ → ℕ → ℕ
own_floor version floor = cond (sets_floor version) floor 0

-- both, where they are lent
abbrev pub lent_extension : OwnExtension → Extension
lent_extension lent = record { services = own_services lent.version lent.count lent.numbers.now lent.classes.now; floor = own_floor lent.version lent.floor }

abbrev pub extension_of : ℕ → OwnRecord → Extension
extension_of version own = record { services = own_services version own.services own.numbers own.classes; floor = own_floor version own.floor }

-- the struct afterwards, and what the call answers: its services and its flag stay
pub record OwnAdvanced : Type 0 where
  pub own : OwnRecord
  pub shown : Shown

abbrev pub with_battery : OwnRecord → Battery → OwnRecord
with_battery own battery = record { battery = battery; services = own.services; numbers = own.numbers; classes = own.classes; floor = own.floor }

unfoldable pub own_advanced : ℕ → OwnRecord → List ℕ → OwnAdvanced
own_advanced version own call =
    let a = advanced_of version (extension_of version own) own.battery call in
    record { own = with_battery own a.battery; shown = a.shown }

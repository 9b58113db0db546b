-- Document 01: what the steps answer after a run, and the battery that it leaves.
use Rattle.std.specs.Prelude.{ℕ, cond, eqb, pos, Float, Some, None}
use Rattle.std.specs.Float.{binary64}
use Rattle.std.specs.Float.Ieee.{of_int}
use Rattle.refusals.specs.Refusals.{not_finite}
use Rattle.floats.specs.F64.{◌⊗◌}
use Rattle.floats.specs.Constants.{zero, one}
use Rattle.zone.specs.Heat.{kwh}
use Rattle.card.specs.Derived.{derived}
use Rattle.card.specs.Version.{shows_hydronic_time}
use Rattle.card.specs.declared.Card.{Card}
use Rattle.battery.specs.Answer.{answer_of, refused_with, answer_finite}
use Rattle.battery.specs.Ledger.{totals_of, ledger_of, renewed_battery}
use Rattle.battery.specs.declared.Battery.{Battery}
use Rattle.battery.specs.declared.Totals.{Totals}
use Rattle.battery.specs.declared.Ledger.{Ledger}
use Rattle.battery.specs.declared.Demand.{Demand}
use Rattle.battery.specs.declared.Answer.{Answer}
use Rattle.battery.specs.declared.Reply.{Reply}
use Rattle.engine_replies.specs.declared.totals.ServiceClass.{ServiceClass}
use Rattle.engine_replies.specs.Classes.{service_class}
use Rattle.engine_replies.specs.Totals.{served_totals, charged_totals, closed_totals}
use Rattle.run_demand.specs.declared.DemandState.{DemandState}
use Rattle.runs.specs.declared.End.{End}
use Rattle.runs.specs.declared.Stopped.{Stopped}
use Rattle.runs.specs.Zoned.{Zoned}
use Rattle.runs.specs.Runs.{end_refusal, reynold_between}

-- '23 .. or a reported number or total isn't' finite: the refusal line with the battery b as before
unfoldable pub checked : Battery → Answer → Answer
checked battery answer = cond (answer_finite answer) answer (refused_with not_finite battery)

-- an answer of a run, unless it ended in 22, 23 or 24
unfoldable pub unless_refused : Battery → End → Answer → Answer
unless_refused battery end answer = cond (eqb (end_refusal end) 0) (checked battery answer) (refused_with (end_refusal end) battery)

abbrev pub units_of : Card → Float
units_of card = of_int binary64 (pos card.units)

-- 'the first substep is 1 s, even with no time left'
unfoldable pub demand_start : Ledger → DemandState
demand_start ledger =
    record {
      step = one;
      running = zero;
      delivered = kwh zero;
      electric = kwh ledger.totals.electric;
      outlet = zero;
      reynold = reynold_between ledger.card.inlet ledger.card.outlet ledger.card.velocity (derived ledger.card).diameter;
    }

-- a committed demand's battery: zones, running hours by class, charged electric
unfoldable pub served : Battery → ServiceClass → Zoned Stopped → Battery
served battery class ended = renewed_battery (ledger_of battery) (served_totals (ledger_of battery) class ended.part) ended.zones

-- 'A trial .. changes nothing'
unfoldable pub demand_kept : Battery → Demand → Zoned Stopped → Battery
demand_kept battery demand ended = cond demand.commit (served battery (service_class battery.card demand.service) ended) battery

abbrev pub demand_reply : Ledger → Stopped → Totals → Reply
demand_reply ledger ended totals =
    record { energy = ended.energy.0 ⊗ units_of ledger.card; outlet = Some ended.outlet; time = ended.time; substeps = ended.substeps; totals = totals }

unfoldable pub demand_answer : Battery → Demand → Zoned Stopped → Answer
demand_answer battery demand ended = let kept = demand_kept battery demand ended in answer_of (demand_reply (ledger_of battery) ended.part (totals_of kept)) kept

-- 'An answered charge line adds its energy, as written, to the charged total in one f64 addition'
unfoldable pub charged_battery : Battery → Zoned Stopped → Battery
charged_battery battery ended = renewed_battery (ledger_of battery) (charged_totals (ledger_of battery) ended.part) ended.zones

unfoldable pub cooled_battery : Battery → Zoned Stopped → Battery
cooled_battery battery ended = renewed_battery (ledger_of battery) (totals_of battery) ended.zones

-- a charge's time: 'Version 1 sheets are audited with 0 there'; an electric charge has none in any version
unfoldable pub charged_time : ℕ → Stopped → Float
charged_time version ended = cond (shows_hydronic_time version) ended.time zero

-- a line of kinds 2 to 4, with its time: no outlet
abbrev pub run_reply : Float → Stopped → Totals → Reply
run_reply time ended totals =
    record { energy = ended.energy.0; outlet = None; time = time; substeps = ended.substeps; totals = totals }

unfoldable pub run_answer : Float → Stopped → Battery → Answer
run_answer time ended battery = answer_of (run_reply time ended (totals_of battery)) battery

abbrev pub charged_answer : ℕ → Battery → Zoned Stopped → Answer
charged_answer version battery ended = run_answer (charged_time version ended.part) ended.part (charged_battery battery ended)

abbrev pub cooled_answer : Battery → Zoned Stopped → Answer
cooled_answer battery ended = run_answer zero ended.part (cooled_battery battery ended)

-- kind 5: 'the three running times become 0'
unfoldable pub closed_battery : Battery → Battery
closed_battery battery = renewed_battery (ledger_of battery) (closed_totals (ledger_of battery)) battery.zones

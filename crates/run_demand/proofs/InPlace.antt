-- A demand's turn and run on zones that are lent are the definition's.
use Rattle.std.specs.Prelude.{Option, Some}
use mathlib.Core.Path.{◌≡◌, refl, sym, ◌∙◌, ap}
use mathlib.Core.List.{List}
use Prim.Native.Nat.{ℕ}
use lib.Ieee.{Float}
use Rattle.zone.specs.declared.Salt.{Salt}
use Rattle.substep.specs.Substep.{InPlace}
use Rattle.substep.specs.Substep.{process_heat_battery_zones}
use Rattle.substep.specs.declared.SubstepInput.{SubstepInput}
use Rattle.substep.specs.declared.Fault.{Fault}
use Rattle.substep.specs.declared.Fault.TheVariants.{Logarithm, NotFinite}
use Rattle.runs.specs.declared.End.{End}
use Rattle.substep.specs.declared.Outcome.{Outcome}
use Rattle.runs.specs.Runs.{fault_end, end_refusal, next_refusal}
use Rattle.runs.proofs.InPlace.{holds_as_defined, as_defined_on, log_refused, finite_refused}
use Rattle.runs.specs.declared.Stopped.{Stopped}
use Rattle.runs.specs.Zoned.{Zoned, zoned, AsDefined, on_part}
use Rattle.run_demand.specs.declared.DemandTask.{DemandTask}
use Rattle.run_demand.specs.declared.DemandState.{DemandState}
use Rattle.run_demand.specs.declared.DemandTurn.{DemandTurn}
use Rattle.runs.specs.declared.Ended.{Ended}
use Rattle.run_demand.specs.Demand.{demand_ended, demand_input, demand_turn, demand_by, demand_substep}

pub demand_turn_lem :
    (x : DemandTask) (salts : ℕ → Salt) (s : DemandState) (before zones : List Float) (d : SubstepInput) (o : Outcome) (t : DemandTurn) (f : Option Fault) →
    d ≡ demand_input x s → InPlace (process_heat_battery_zones x.card x.pcm salts d before) o zones →
    o.fault ≡ f → AsDefined (next_refusal t.next) t zones (demand_by x (zoned s before) (zoned o zones) f) → AsDefined (next_refusal t.next) t zones (demand_substep x salts (zoned s before))
unfolding demand_substep
demand_turn_lem x salts s before zones d o t f h g e l =
    rw (← h) (holds_as_defined (λ (u : Zoned Outcome) (v : Option Fault). AsDefined (next_refusal t.next) t zones (demand_by x (zoned s before) u v)) _ o zones f g e l)

-- a fault ends the run with its end
pub demand_faulted :
    (x : DemandTask) (s : Zoned DemandState) (u : Zoned Outcome) (zones : List Float) (f : Fault) (e : End) → e ≡ fault_end (Some f) →
    AsDefined (end_refusal e) (demand_turn s.part (Some e)) zones (demand_by x s u (Some f))
unfolding demand_by fault_end
demand_faulted x s u zones Logarithm e h = rw h (refl, λ z. absurd (log_refused z))
demand_faulted x s u zones NotFinite e h = rw h (refl, λ z. absurd (finite_refused z))

-- what the run hands out
pub demand_ended_lem :
    (e : Ended DemandState) (zones : List Float) (d : Zoned (Ended DemandState)) (r : Stopped) → AsDefined (end_refusal e.end) e zones d → r ≡ demand_ended e → AsDefined (end_refusal r.end) r zones (on_part demand_ended d)
unfolding demand_ended
demand_ended_lem e zones d r l h = as_defined_on _ _ demand_ended e r zones d l h (λ z. sym (ap (λ (x : Stopped). end_refusal x.end) h) ∙ z)

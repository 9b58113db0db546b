-- The turns of a hydronic charge: each way that a turn's tests lead to.
use Rattle.std.specs.Prelude.{None, Option, Some}
use mathlib.Core.Path.{◌≡◌, refl, sym, ◌∙◌, ap}
use mathlib.Core.Bool.{Bool, true, false}
use mathlib.Core.List.{List}
use Prim.Native.Nat.{ℕ, ◌+◌}
use borrow.Author.Tests.{ne_eqb}
use lib.Ieee.{Float, lt, neg}
use Rattle.floats.specs.F64.{◌⊕◌}
use Rattle.floats.specs.Constants as Constants
use Rattle.logic.proofs.Branch.{via_true, via_false}
use Rattle.zone.specs.Heat.{kj}
use Rattle.zone.specs.declared.Kilojoules.{Kilojoules}
use Rattle.zone.specs.declared.KilowattHours.{KilowattHours}
use Rattle.zone.specs.declared.Salt.{Salt}
use Rattle.substep.specs.Substep.{InPlace}
use Rattle.substep.specs.Substep.{process_heat_battery_zones}
use Rattle.substep.specs.declared.SubstepInput.{SubstepInput}
use Rattle.substep.specs.declared.Fault.{Fault}
use Rattle.substep.specs.declared.Fault.TheVariants.{Logarithm, NotFinite}
use Rattle.substep.specs.declared.Outcome.{Outcome}
use Rattle.runs.specs.Runs.{fault_end, end_refusal, next_refusal, reynold_between}
use Rattle.runs.specs.declared.End.TheVariants.{Limit, Level}
use Rattle.runs.specs.declared.HydronicTask.{HydronicTask}
use Rattle.runs.specs.declared.HydronicState.{HydronicState}
use Rattle.runs.specs.declared.HydronicTurn.{HydronicTurn}
use Rattle.runs.specs.declared.Ended.{Ended}
use Rattle.runs.specs.declared.Stopped.{Stopped}
use Rattle.runs.specs.Zoned.{Zoned, zoned, AsDefined, on_part}
use Rattle.runs.specs.Hydronic.{wet_input, hydronic_turn, clearly_below, limit_reached, hydronic_ended, replay_by, replayed, fraction_seconds, hydronic_whole, hydronic_by, hydronic_step}
use Rattle.runs.proofs.InPlace.{holds_as_defined, as_defined_on, log_refused, finite_refused}
use Rattle.runs.specs.declared.End.{End}

-- after the whole substep, whose tests come as they are found

abbrev turn_to : Kilojoules → Float → Float → Option End → ℕ → List Float → Zoned HydronicTurn
turn_to absorbed reynold time next n zones = zoned (record { state = record { absorbed = absorbed; reynold = reynold; time = time }; next = next; substeps = n }) zones

abbrev taken : Outcome → Kilojoules
taken o = kj (neg o.delivered.0)

abbrev sum_with : HydronicState → Outcome → Kilojoules
sum_with s o = kj (s.absorbed.0 ⊕ (taken o).0)

module _ (x : HydronicTask) (salts : ℕ → Salt) (n : ℕ) (s : Zoned HydronicState) (u : Zoned Outcome) (reynold : Float) (below : Bool)
    (r : reynold ≡ reynold_between x.wet.inlet u.part.outlet x.wet.velocity x.wet.diameter) (b : below ≡ clearly_below u.part.outlet x.wet.inlet) where
  pub whole_level : below ≡ false → turn_to s.part.absorbed reynold (s.part.time ⊕ x.card.substep) (Some Level) n u.zones ≡ hydronic_whole x salts n s u
  unfolding hydronic_whole
  whole_level f = rw (← r, ← b) (via_false _ _ f refl)

  module _ (t : below ≡ true) (reached : Bool) (l : reached ≡ limit_reached (sum_with s.part u.part) x.limit) where
    pub whole_on : reached ≡ false → turn_to (sum_with s.part u.part) reynold (s.part.time ⊕ x.card.substep) None n u.zones ≡ hydronic_whole x salts n s u
    unfolding hydronic_whole
    whole_on f = rw (← r, ← b, ← l) (via_true _ _ t (via_false _ _ f refl))

    module _ (v : reached ≡ true) where
      pub whole_limit :
          lt Constants.zero (taken u.part).0 ≡ false →
          turn_to (sum_with s.part u.part) reynold (s.part.time ⊕ x.card.substep) (Some Limit) n u.zones ≡ hydronic_whole x salts n s u
      unfolding hydronic_whole
      whole_limit f = rw (← r, ← b, ← l) (via_true _ _ t (via_true _ _ v (via_false _ _ f refl)))

      pub whole_replayed :
          (seconds : Float) → lt Constants.zero (taken u.part).0 ≡ true → seconds ≡ fraction_seconds x (sum_with s.part u.part) (taken u.part) →
          replayed x salts n s seconds reynold ≡ hydronic_whole x salts n s u
      unfolding hydronic_whole
      whole_replayed seconds f h = rw (← r, ← b, ← l, ← h) (via_true _ _ t (via_true _ _ v (via_true _ _ f refl)))

-- the fractional substep, where the budget allows it, and the whole one

module _ (x : HydronicTask) (salts : ℕ → Salt) (n : ℕ) (s : HydronicState) (before zones : List Float) (d : SubstepInput) (o : Outcome) (t : HydronicTurn) (f : Option Fault)
    (g : InPlace (process_heat_battery_zones x.card x.pcm salts d before) o zones) (e : o.fault ≡ f) where
  pub replayed_turn :
      (seconds reynold : Float) → (n ≡ x.card.budget → ⊥) → d ≡ wet_input x seconds reynold →
      AsDefined (next_refusal t.next) t zones (replay_by x (n + 1) (zoned s before) seconds reynold (zoned o zones) f) →
      AsDefined (next_refusal t.next) t zones (replayed x salts n (zoned s before) seconds reynold)
  unfolding replayed
  replayed_turn seconds reynold q h l =
      rw (← h, ne_eqb _ _ q)
      (holds_as_defined (λ (u : Zoned Outcome) (v : Option Fault). AsDefined (next_refusal t.next) t zones (replay_by x (n + 1) (zoned s before) seconds reynold u v)) _ o zones f g e l)

  pub hydronic_turn_lem :
      (after : List Float) → d ≡ wet_input x x.card.substep s.reynold →
      AsDefined (next_refusal t.next) t after (hydronic_by x salts (n + 1) (zoned s before) (zoned o zones) f) →
      AsDefined (next_refusal t.next) t after (hydronic_step x salts n (zoned s before))
  unfolding hydronic_step
  hydronic_turn_lem after h l =
      rw (← h) (holds_as_defined (λ (u : Zoned Outcome) (v : Option Fault). AsDefined (next_refusal t.next) t after (hydronic_by x salts (n + 1) (zoned s before) u v)) _ o zones f g e l)

-- a fault ends the run with its end
pub hydronic_faulted :
    (x : HydronicTask) (salts : ℕ → Salt) (n : ℕ) (s : Zoned HydronicState) (u : Zoned Outcome) (zones : List Float) (f : Fault) (e : End) → e ≡ fault_end (Some f) →
    AsDefined (end_refusal e) (hydronic_turn s (Some e) n).part zones (hydronic_by x salts n s u (Some f))
unfolding hydronic_by fault_end
hydronic_faulted x salts n s u zones Logarithm e h = rw h (refl, λ z. absurd (log_refused z))
hydronic_faulted x salts n s u zones NotFinite e h = rw h (refl, λ z. absurd (finite_refused z))

-- what the run hands out
pub wet_ended :
    (electric : KilowattHours) (e : Ended HydronicState) (zones : List Float) (d : Zoned (Ended HydronicState)) (r : Stopped) →
    AsDefined (end_refusal e.end) e zones d → r ≡ hydronic_ended electric e → AsDefined (end_refusal r.end) r zones (on_part (hydronic_ended electric) d)
unfolding hydronic_ended
wet_ended electric e zones d r l h = as_defined_on _ _ (hydronic_ended electric) e r zones d l h (λ z. sym (ap (λ (x : Stopped). end_refusal x.end) h) ∙ z)

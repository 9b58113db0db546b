-- The zones that a run leaves are finite where it started from finite ones and answers: each of its substeps tested its own.
use Rattle.std.specs.Prelude.{None, Option, Some}
use mathlib.Core.Path.{◌≡◌, refl, ◌∙◌, ap}
use mathlib.Core.Bool.{Bool, true}
use mathlib.Core.List.{List}
use Prim.Native.Nat.{ℕ, ◌+◌}
use native.Mathlib.Omega.{arith}
use lib.Dec.{eqb}
use lib.Ieee.{Float, lt, neg}
use lib.Ieee.Bits.{is_true}
use Rattle.floats.specs.F64.{◌⊕◌}
use Rattle.floats.specs.Constants as Constants
use Rattle.logic.proofs.Branch.{by_test}
use Rattle.zone.specs.declared.Salt.{Salt}
use Rattle.zone.specs.Heat.{kj}
use Rattle.zone.specs.declared.Kilojoules.{Kilojoules}
use Rattle.zone.specs.Layer.{salt_at}
use Rattle.card.specs.Derived.{salts_of, derived}
use Rattle.card.specs.declared.Card.{Card}
use Rattle.card.specs.declared.HeatBatteryPcm.{HeatBatteryPcm}
use Rattle.logic.proofs.Tests.{and_true}
use Rattle.battery.specs.Battery.{zones_finite}
use Rattle.battery.specs.Ledger.{ledger_of}
use Rattle.battery.specs.declared.Battery.{Battery}
use Rattle.battery.specs.declared.Demand.{Demand}
use Rattle.substep.specs.Substep.{outcome_of, zone_transfer, progress_finite, progress_fault, without_logarithm, substep_from, with_transfer, process_heat_battery_zones}
use Rattle.substep.specs.declared.SubstepInput.{SubstepInput}
use Rattle.substep.specs.Progress.{Progress}
use Rattle.substep.specs.declared.Substep.{Substep}
use Rattle.substep.specs.declared.Fault.{Fault}
use Rattle.substep.specs.declared.Fault.TheVariants.{Logarithm, NotFinite}
use Rattle.run_demand.specs.declared.DemandTask.{DemandTask}
use Rattle.run_demand.specs.declared.DemandTurn.{DemandTurn}
use Rattle.run_demand.specs.declared.DemandState.{DemandState}
use Rattle.run_demand.specs.Demand.{demand_input, demand_by, demand_substep, demand_run, demand_ended}
use Rattle.runs.specs.declared.Stopped.{Stopped}
use Rattle.runs.specs.declared.Exchanger.{Exchanger}
use Rattle.runs.specs.declared.Source.{Source}
use Rattle.runs.specs.declared.Source.TheVariants.{Electric, Wet}
use Rattle.runs.specs.declared.HydronicTask.{HydronicTask}
use Rattle.runs.specs.declared.HydronicState.{HydronicState}
use Rattle.runs.specs.declared.HydronicTurn.{HydronicTurn}
use Rattle.runs.specs.Runs.{outcome, fault_end, end_refusal, reynold_between}
use Rattle.runs.specs.Hydronic.{wet_input, clearly_below, limit_reached, replay_by, replayed, fraction_seconds, hydronic_whole, hydronic_by, hydronic_step, hydronic_run, hydronic_ended, whole_substeps}
use Rattle.runs.specs.Charge.{electric_input, electric_ended, charge_electric, hydronic_task, hydronic_start, charge_hydronic, charge_battery, loss_floor, loss_input, loss_ended, battery_heat_loss}
use Rattle.engine_replies.specs.Replies.{demand_start}
use Rattle.engine_replies.proofs.Settled.{run_end}
use Rattle.runs.specs.Zoned.{Zoned, zoned, AsDefined}
use Rattle.engine.specs.Steps.{demand_task, demand_ran}
use Rattle.engine.specs.Budget.{whole_from}
use Rattle.engine.proofs.Inductions.{demand_induction, hydronic_induction}
use Rattle.engine.proofs.Turns.{never}
use Rattle.engine.proofs.Faulty.{demand_from_run}

-- the zones of this many layers are finite
abbrev Finite : ℕ → List Float → Type 0
Finite n zones = zones_finite zones n ≡ true

-- one substep without a fault

progress_tested : (c : Card) (p : Progress) (sum : Kilojoules) → progress_fault c p sum ≡ None → Finite c.layers p.zones
unfolding progress_fault progress_finite
progress_tested c p sum =
    by_test (λ (f : Option Fault). f ≡ None → Finite c.layers p.zones) (progress_finite c p sum) None (Some NotFinite)
    (λ t h. (and_true (zones_finite p.zones c.layers) _ (is_true (progress_finite c p sum) t)).0)
    (λ t h. never (cc))

module _ (c : Card) (pcm : HeatBatteryPcm) (salts : ℕ → Salt) (d : SubstepInput) (zones : List Float) where
  transfer_tested : (l : Option Float) → (with_transfer c pcm salts d zones l).fault ≡ None → Finite c.layers (with_transfer c pcm salts d zones l).zones
  unfolding with_transfer without_logarithm substep_from
  transfer_tested None h = never (cc)
  transfer_tested (Some u) h = progress_tested c _ _ h

  pub substep_finite : (process_heat_battery_zones c pcm salts d zones).fault ≡ None → Finite c.layers (process_heat_battery_zones c pcm salts d zones).zones
  unfolding process_heat_battery_zones
  substep_finite h = transfer_tested (zone_transfer d.mode c d) h

-- an end that a substep's fault makes answers only where there is none
answers_faultless : (f : Option Fault) → end_refusal (fault_end f) ≡ 0 → f ≡ None
unfolding end_refusal fault_end
answers_faultless None h = refl
answers_faultless (Some Logarithm) h = absurd (omega arith)
answers_faultless (Some NotFinite) h = absurd (omega arith)

-- one turn of a demand: its zones are the substep's, or those before it

module _ (x : DemandTask) (salts : ℕ → Salt) (s : Zoned DemandState) (h : Finite x.card.layers s.zones) where
  abbrev DemandFinite : Zoned DemandTurn → Type 0
  DemandFinite t = Finite x.card.layers t.zones

  demand_by_finite : (u : Substep) → (u.fault ≡ None → Finite x.card.layers u.zones) → (f : Option Fault) → u.fault ≡ f → DemandFinite (demand_by x s (outcome u) f)
  unfolding demand_by
  demand_by_finite u g None e = g e
  demand_by_finite u g (Some Logarithm) e = h
  demand_by_finite u g (Some NotFinite) e = h

  demand_turn_finite : DemandFinite (demand_substep x salts s)
  unfolding demand_substep outcome_of
  demand_turn_finite =
      demand_by_finite (demand_from_run x salts s) (substep_finite x.card x.pcm salts (demand_input x s.part) s.zones) (demand_from_run x salts s).fault refl

pub demand_run_finite : (x : DemandTask) (salts : ℕ → Salt) (k n : ℕ) (s : Zoned DemandState) → Finite x.card.layers s.zones → Finite x.card.layers (demand_run x salts k n s).zones
demand_run_finite x salts =
    demand_induction x salts (λ k n s d. Finite x.card.layers s.zones → Finite x.card.layers d.zones)
    (λ k n s h. h)
    (λ n s p h. h)
    (λ k n s e p h. demand_turn_finite x salts s h)
    (λ k n s d p r h. r (demand_turn_finite x salts s h))

-- one turn of a hydronic charge: its zones are the whole substep's, the fractional one's, or those before them

module _ (x : HydronicTask) (salts : ℕ → Salt) (n : ℕ) (s : Zoned HydronicState) (h : Finite x.card.layers s.zones) where
  abbrev WetFinite : Zoned HydronicTurn → Type 0
  WetFinite t = Finite x.card.layers t.zones

  replay_by_finite :
      (m : ℕ) (seconds reynold : Float) (u : Substep) → (u.fault ≡ None → Finite x.card.layers u.zones) → (f : Option Fault) → u.fault ≡ f →
      WetFinite (replay_by x m s seconds reynold (outcome u) f)
  unfolding replay_by
  replay_by_finite m seconds reynold u g None e = g e
  replay_by_finite m seconds reynold u g (Some Logarithm) e = h
  replay_by_finite m seconds reynold u g (Some NotFinite) e = h

  replay_finite : (seconds reynold : Float) → WetFinite (replayed x salts n s seconds reynold)
  unfolding replayed outcome_of
  replay_finite seconds reynold =
      let u = process_heat_battery_zones x.card x.pcm salts (wet_input x seconds reynold) s.zones in
      by_test WetFinite (eqb n x.card.budget) _ _
      (λ b. h)
      (λ b. replay_by_finite (n + 1) seconds reynold u (substep_finite x.card x.pcm salts (wet_input x seconds reynold) s.zones) u.fault refl)

  whole_finite : (u : Substep) → Finite x.card.layers u.zones → WetFinite (hydronic_whole x salts n s (outcome u))
  unfolding hydronic_whole outcome_of
  whole_finite u g =
      let reynold = reynold_between x.wet.inlet u.outlet x.wet.velocity x.wet.diameter in
      let this = kj (neg u.delivered.0) in
      let absorbed = kj (s.part.absorbed.0 ⊕ this.0) in
      by_test WetFinite (clearly_below u.outlet x.wet.inlet) _ _
      (λ a. by_test WetFinite (limit_reached absorbed x.limit) _ _
      (λ b. by_test WetFinite (lt Constants.zero this.0) _ _ (λ c. replay_finite (fraction_seconds x absorbed this) reynold) (λ c. g))
      (λ b. g))
      (λ a. g)

  hydronic_by_finite : (u : Substep) → (u.fault ≡ None → Finite x.card.layers u.zones) → (f : Option Fault) → u.fault ≡ f → WetFinite (hydronic_by x salts n s (outcome u) f)
  unfolding hydronic_by
  hydronic_by_finite u g None e = whole_finite u (g e)
  hydronic_by_finite u g (Some Logarithm) e = h
  hydronic_by_finite u g (Some NotFinite) e = h

hydronic_turn_finite :
    (x : HydronicTask) (salts : ℕ → Salt) (n : ℕ) (s : Zoned HydronicState) → Finite x.card.layers s.zones → Finite x.card.layers (hydronic_step x salts n s).zones
unfolding hydronic_step outcome_of
hydronic_turn_finite x salts n s h =
    hydronic_by_finite x salts (n + 1) s h (whole_from x salts s)
    (substep_finite x.card x.pcm salts (wet_input x x.card.substep s.part.reynold) s.zones) (whole_from x salts s).fault refl

pub hydronic_run_finite :
    (x : HydronicTask) (salts : ℕ → Salt) (k n : ℕ) (s : Zoned HydronicState) → Finite x.card.layers s.zones → Finite x.card.layers (hydronic_run x salts k n s).zones
hydronic_run_finite x salts =
    hydronic_induction x salts (λ k n s d. Finite x.card.layers s.zones → Finite x.card.layers d.zones)
    (λ n s h. h)
    (λ k n s p h. h)
    (λ k n s e q p h. hydronic_turn_finite x salts n s h)
    (λ k n s d q p r h. r (hydronic_turn_finite x salts n s h))

-- the calls' runs

module _ (b : Battery) where
  electric_finite : (power target : Float) → end_refusal (charge_electric b power target).part.end ≡ 0 → Finite b.card.layers (charge_electric b power target).zones
  unfolding charge_electric electric_ended outcome_of
  electric_finite power target e = substep_finite b.card (derived b.card) (salt_at (salts_of b.card)) (electric_input (ledger_of b) power target) b.zones (answers_faultless _ e)

  pub loss_leaves_finite : (floor : Bool) → end_refusal (battery_heat_loss b floor).part.end ≡ 0 → zones_finite (battery_heat_loss b floor).zones b.card.layers ≡ true
  unfolding battery_heat_loss loss_ended outcome_of
  loss_leaves_finite floor e = substep_finite b.card (derived b.card) (salt_at (salts_of b.card)) (loss_input b.card (loss_floor floor)) b.zones (answers_faultless _ e)

  module _ (h : zones_finite b.zones b.card.layers ≡ true) where
    hydronic_finite : (wet : Exchanger) (target : Float) → Finite b.card.layers (charge_hydronic b wet target).zones
    unfolding charge_hydronic hydronic_ended hydronic_task hydronic_start
    hydronic_finite wet target =
        let x = hydronic_task b.card wet target in
        hydronic_run_finite x (salt_at (salts_of b.card)) (whole_substeps x) 0 (zoned (hydronic_start b.card wet) b.zones) h

    pub charge_leaves_finite :
        (source : Source) (target : Float) → end_refusal (charge_battery b source target).part.end ≡ 0 →
        zones_finite (charge_battery b source target).zones b.card.layers ≡ true
    unfolding charge_battery
    charge_leaves_finite (Electric power) target e = electric_finite power target e
    charge_leaves_finite (Wet wet) target e = hydronic_finite wet target

    -- however it ended
    pub demand_leaves_finite : (d : Demand) (feed : Float) → zones_finite (demand_ran b d feed).zones b.card.layers ≡ true
    unfolding demand_ended demand_task demand_start
    demand_leaves_finite d feed = demand_run_finite (demand_task (ledger_of b) d feed) (salt_at (salts_of b.card)) b.card.budget 0 (zoned (demand_start (ledger_of b)) b.zones) h

-- where the run's zones lie apart, those that it left
pub left_finite :
    (n : ℕ) (zones : List Float) (s : Stopped) (e : Zoned Stopped) → AsDefined (end_refusal s.end) s zones e → (end_refusal e.part.end ≡ 0 → zones_finite e.zones n ≡ true) →
    end_refusal s.end ≡ 0 → zones_finite zones n ≡ true
left_finite n zones s e same f h = rw (same.1 h) (f (ap end_refusal (run_end zones s e same) ∙ h))

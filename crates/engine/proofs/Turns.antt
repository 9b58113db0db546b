-- One turn of a run: the places above the count, the substeps within the budget, and no end for the budget's sake before it is used.
use Rattle.std.specs.Prelude.{Some, Option, None}
use mathlib.Core.Path.{◌≡◌, refl}
use Prim.Native.Nat.{ℕ, ◌≤◌, ◌+◌}
use native.Mathlib.Omega.{arith}
use borrow.Author.Tests.{eqb-false}
use lib.Dec.{eqb, eqb→eq}
use lib.Ieee.{Float, lt, neg}
use Rattle.floats.specs.F64.{◌⊕◌}
use Rattle.floats.specs.Constants as Constants
use Rattle.logic.proofs.Branch.{by_test}
use Rattle.zone.specs.declared.Salt.{Salt}
use Rattle.zone.specs.Heat.{kj, kwh, kilowatt_hours}
use Rattle.battery.specs.Places.{SameAbove}
use Rattle.battery.proofs.Zones.{same_above}
use Rattle.substep.specs.Substep.{outcome_of, process_heat_battery_zones}
use Rattle.substep.specs.declared.Outcome.{Outcome}
use Rattle.substep.specs.declared.Substep.{Substep}
use Rattle.substep.specs.declared.Fault.{Fault}
use Rattle.substep.specs.declared.Fault.TheVariants.{Logarithm, NotFinite}
use Rattle.substep.proofs.Above.{substep_above}
use Rattle.runs.specs.Runs.{outcome, reynold_between}
use Rattle.engine.specs.Budget.{whole_from, FractionDue}
use Rattle.run_demand.specs.declared.DemandTask.{DemandTask}
use Rattle.run_demand.specs.declared.DemandTurn.{DemandTurn}
use Rattle.run_demand.specs.declared.DemandState.{DemandState}
use Rattle.runs.specs.declared.HydronicTask.{HydronicTask}
use Rattle.runs.specs.declared.HydronicState.{HydronicState}
use Rattle.runs.specs.declared.HydronicTurn.{HydronicTurn}
use Rattle.runs.specs.declared.End.TheVariants.{OverBudget}
use Rattle.run_demand.specs.Demand.{demand_input, demand_met, demand_delivered, demand_by, demand_substep}
use Rattle.runs.specs.Hydronic.{wet_input, clearly_below, limit_reached, replay_by, replayed, fraction_seconds, hydronic_whole, hydronic_by, hydronic_step, hydronic_state}
use Rattle.runs.specs.Zoned.{Zoned, on_part}

-- two constructors are apart: `never (cc)`
pub never : {A : Type 0} → ◌≡◌ {A = ℕ} 0 1 → A
never h = absurd (omega arith)

-- the turn after s
pub record DemandKeeps (x : DemandTask) (s : Zoned DemandState) (t : Zoned DemandTurn) : Type 0 where
  pub above : SameAbove x.card.layers s.zones t.zones
  pub within : t.part.next ≡ Some OverBudget → ⊥

demand_delivered_lem : (x : DemandTask) (s : DemandState) (o : Outcome) → (demand_delivered x s o).next ≡ Some OverBudget → ⊥
unfolding demand_delivered
demand_delivered_lem x s o =
    let Within : DemandTurn → Type 0 = λ (t : DemandTurn). t.next ≡ Some OverBudget → ⊥ in
    by_test Within (lt o.delivered.0 Constants.zero) _ _
    (λ a e. never (cc))
    (λ a. by_test Within (demand_met x (kwh (s.delivered.0 ⊕ (kilowatt_hours o.delivered).0))) _ _ (λ b e. never (cc)) (λ b e. never (cc)))

demand_by_lem :
    (x : DemandTask) (s : Zoned DemandState) (u : Zoned Outcome) → SameAbove x.card.layers s.zones u.zones → (f : Option Fault) → DemandKeeps x s (demand_by x s u f)
unfolding demand_by
demand_by_lem x s u h None = record { above = h; within = demand_delivered_lem x s.part u.part }
demand_by_lem x s u h (Some Logarithm) = record { above = same_above x.card.layers s.zones; within = λ e. never (cc) }
demand_by_lem x s u h (Some NotFinite) = record { above = same_above x.card.layers s.zones; within = λ e. never (cc) }

pub demand_keeps : (x : DemandTask) (salts : ℕ → Salt) (s : Zoned DemandState) → DemandKeeps x s (demand_substep x salts s)
unfolding demand_substep
demand_keeps x salts s = demand_by_lem x s _ (substep_above x.card x.pcm salts (demand_input x s.part) s.zones) _

-- the turn t after s: n substeps are done, u the last of them
pub record HydronicKeeps (x : HydronicTask) (n : ℕ) (s : Zoned HydronicState) (u : Substep) (t : Zoned HydronicTurn) : Type 0 where
  pub above : SameAbove x.card.layers s.zones t.zones
  pub count : n ≤ x.card.budget → t.part.substeps ≤ x.card.budget
  pub used : t.part.next ≡ Some OverBudget → t.part.substeps ≡ x.card.budget
  pub same : t.part.next ≡ Some OverBudget → on_part hydronic_state t ≡ s
  pub due : t.part.next ≡ Some OverBudget → FractionDue x s.part u

module _ (x : HydronicTask) (salts : ℕ → Salt) (n : ℕ) (s : Zoned HydronicState) where
  -- the fractional substep, where it is due
  module _ (u : Substep) (f : FractionDue x s.part u) (seconds reynold : Float) where
    replay_by_lem :
        (v : Substep) → SameAbove x.card.layers s.zones v.zones → (n ≡ x.card.budget → ⊥) → (e : Option Fault) →
        HydronicKeeps x n s u (replay_by x (n + 1) s seconds reynold (outcome v) e)
    unfolding replay_by
    replay_by_lem v h q None = record { above = h; count = λ b. omega arith; used = λ e. never (cc); same = λ e. never (cc); due = λ e. f }
    replay_by_lem v h q (Some Logarithm) =
        record { above = same_above x.card.layers s.zones; count = λ b. omega arith; used = λ e. never (cc); same = λ e. refl; due = λ e. f }
    replay_by_lem v h q (Some NotFinite) =
        record { above = same_above x.card.layers s.zones; count = λ b. omega arith; used = λ e. never (cc); same = λ e. refl; due = λ e. f }

    replay_keeps : HydronicKeeps x n s u (replayed x salts n s seconds reynold)
    unfolding replayed outcome_of
    replay_keeps =
        let v = process_heat_battery_zones x.card x.pcm salts (wet_input x seconds reynold) s.zones in
        by_test (HydronicKeeps x n s u) (eqb n x.card.budget) _ _
        (λ h. record { above = same_above x.card.layers s.zones; count = λ b. b; used = λ e. eqb→eq n x.card.budget h; same = λ e. refl; due = λ e. f })
        (λ h. replay_by_lem v (substep_above x.card x.pcm salts (wet_input x seconds reynold) s.zones) (eqb-false n x.card.budget h) v.fault)

  module _ (u : Substep) where
    -- a turn of n substeps that does not end for the budget's sake
    n_substeps :
        (t : Zoned HydronicTurn) → SameAbove x.card.layers s.zones t.zones → t.part.substeps ≡ n → (t.part.next ≡ Some OverBudget → ⊥) → HydronicKeeps x n s u t
    n_substeps t h m q = record { above = h; count = λ b. omega arith; used = λ e. absurd (q e); same = λ e. absurd (q e); due = λ e. absurd (q e) }

    hydronic_whole_lem : SameAbove x.card.layers s.zones u.zones → u.fault ≡ None → HydronicKeeps x n s u (hydronic_whole x salts n s (outcome u))
    unfolding hydronic_whole outcome_of
    hydronic_whole_lem h w =
        let reynold = reynold_between x.wet.inlet u.outlet x.wet.velocity x.wet.diameter in
        let this = kj (neg u.delivered.0) in
        let absorbed = kj (s.part.absorbed.0 ⊕ this.0) in
        by_test (HydronicKeeps x n s u) (clearly_below u.outlet x.wet.inlet) _ _
        (λ a. by_test (HydronicKeeps x n s u) (limit_reached absorbed x.limit) _ _
        (λ b. by_test (HydronicKeeps x n s u) (lt Constants.zero this.0) _ _
        (λ c. replay_keeps u (record { worked = w; below = a; passed = b; heat = c }) (fraction_seconds x absorbed this) reynold)
        (λ c. n_substeps _ h refl (λ e. never (cc))))
        (λ b. n_substeps _ h refl (λ e. never (cc))))
        (λ a. n_substeps _ h refl (λ e. never (cc)))

    hydronic_by_lem : SameAbove x.card.layers s.zones u.zones → (f : Option Fault) → u.fault ≡ f → HydronicKeeps x n s u (hydronic_by x salts n s (outcome u) f)
    unfolding hydronic_by
    hydronic_by_lem h None w = hydronic_whole_lem h w
    hydronic_by_lem h (Some Logarithm) w = n_substeps _ (same_above x.card.layers s.zones) refl (λ e. never (cc))
    hydronic_by_lem h (Some NotFinite) w = n_substeps _ (same_above x.card.layers s.zones) refl (λ e. never (cc))

pub hydronic_keeps : (x : HydronicTask) (salts : ℕ → Salt) (n : ℕ) (s : Zoned HydronicState) → HydronicKeeps x (n + 1) s (whole_from x salts s) (hydronic_step x salts n s)
unfolding hydronic_step outcome_of
hydronic_keeps x salts n s =
    hydronic_by_lem x salts (n + 1) s (whole_from x salts s) (substep_above x.card x.pcm salts (wet_input x x.card.substep s.part.reynold) s.zones) (whole_from x salts s).fault refl

-- The runs of substeps, turn by turn: each way out of a run, and one turn on.
use Rattle.std.specs.Prelude.{None, Option, Some}
use mathlib.Core.Path.{◌≡◌, refl, sym, ◌∙◌, ap}
use mathlib.Core.Bool.{Bool, true, false, cond}
use mathlib.Core.List.{List}
use Prim.Native.Nat.{ℕ, suc, ◌≤◌, ◌+◌, ◌-◌}
use native.Mathlib.Omega.{arith}
use borrow.Author.Tests.{eq-eqb, ne_eqb}
use lib.Dec.{eqb}
use lib.Ieee.{Float, lt, neg}
use Rattle.floats.specs.F64.{◌⊕◌}
use Rattle.floats.specs.Constants as Constants
use Rattle.logic.proofs.Branch.{via_true}
use Rattle.zone.specs.Heat.{kj}
use Rattle.zone.specs.declared.Salt.{Salt}
use Rattle.substep.specs.Substep.{process_heat_battery_zones}
use Rattle.substep.specs.declared.Outcome.{Outcome}
use Rattle.substep.specs.declared.Fault.{Fault}
use Rattle.substep.specs.declared.Fault.TheVariants.{Logarithm, NotFinite}
use Rattle.runs.specs.Zoned.{Zoned, zoned, AsDefined}
use Rattle.runs.specs.Runs.{end_refusal, outcome, next_refusal, reynold_between, run_end}
use Rattle.runs.specs.declared.HydronicTask.{HydronicTask}
use Rattle.runs.specs.declared.HydronicState.{HydronicState}
use Rattle.runs.specs.declared.HydronicTurn.{HydronicTurn}
use Rattle.runs.specs.declared.Ended.{Ended}
use Rattle.runs.specs.declared.End.{End}
use Rattle.runs.specs.declared.End.TheVariants.{OverBudget, Time, Limit, Level}
use Rattle.runs.specs.Hydronic.{wet_input, clearly_below, limit_reached, hydronic_turn, replay_by, replayed, fraction_seconds, hydronic_whole, hydronic_by, hydronic_then, hydronic_run, hydronic_step}

-- a turn that goes on took one substep

no_stop : {A : Type 0} {k : End} → ◌≡◌ {A = Option End} (Some k) None → A
no_stop h = let z : ◌≡◌ {A = ℕ} 0 1 = cc in absurd (omega arith)

fault_stops : (x : HydronicTask) (n : ℕ) (s : Zoned HydronicState) (seconds reynold : Float) (u : Zoned Outcome) (f : Option Fault) → (replay_by x n s seconds reynold u f).part.next ≡ None → ⊥
unfolding replay_by
fault_stops x n s seconds reynold u None h = no_stop h
fault_stops x n s seconds reynold u (Some Logarithm) h = no_stop h
fault_stops x n s seconds reynold u (Some NotFinite) h = no_stop h

replay_stops : (x : HydronicTask) (salts : ℕ → Salt) (n : ℕ) (s : Zoned HydronicState) (seconds reynold : Float) → (replayed x salts n s seconds reynold).part.next ≡ None → ⊥
unfolding replayed
replay_stops x salts n s seconds reynold h = at (eqb n x.card.budget) h
  where
    u : Zoned Outcome
    u = outcome (process_heat_battery_zones x.card x.pcm salts (wet_input x seconds reynold) s.zones)

    by : (f : Option Fault) → (replay_by x (n + 1) s seconds reynold u f).part.next ≡ None → ⊥
    by f = fault_stops x (n + 1) s seconds reynold u f

    at : (t : Bool) → (cond t (hydronic_turn s (Some OverBudget) n) (replay_by x (n + 1) s seconds reynold u u.part.fault)).part.next ≡ None → ⊥
    at true h = no_stop h
    at false h = by u.part.fault h

-- three tests, of which one way stops
one_of_four :
    (a b c : Bool) (stops limit on level : Zoned HydronicTurn) (n : ℕ) → (stops.part.next ≡ None → ⊥) → limit.part.substeps ≡ n → on.part.substeps ≡ n → level.part.substeps ≡ n →
    (cond a (cond b (cond c stops limit) on) level).part.next ≡ None → (cond a (cond b (cond c stops limit) on) level).part.substeps ≡ n
one_of_four true true true stops limit on level n w p q r h = absurd (w h)
one_of_four true true false stops limit on level n w p q r h = p
one_of_four true false c stops limit on level n w p q r h = q
one_of_four false b c stops limit on level n w p q r h = r

whole_counts : (x : HydronicTask) (salts : ℕ → Salt) (n : ℕ) (s : Zoned HydronicState) (u : Zoned Outcome) → (hydronic_whole x salts n s u).part.next ≡ None → (hydronic_whole x salts n s u).part.substeps ≡ n
unfolding hydronic_whole
whole_counts x salts n s u =
    let reynold = reynold_between x.wet.inlet u.part.outlet x.wet.velocity x.wet.diameter in
    let this = kj (neg u.part.delivered.0) in
    let absorbed = kj (s.part.absorbed.0 ⊕ this.0) in
    let time = s.part.time ⊕ x.card.substep in
    one_of_four (clearly_below u.part.outlet x.wet.inlet) (limit_reached absorbed x.limit) (lt Constants.zero this.0)
    (replayed x salts n s (fraction_seconds x absorbed this) reynold)
    (hydronic_turn (zoned (record { absorbed = absorbed; reynold = reynold; time = time }) u.zones) (Some Limit) n)
    (hydronic_turn (zoned (record { absorbed = absorbed; reynold = reynold; time = time }) u.zones) None n)
    (hydronic_turn (zoned (record { absorbed = s.part.absorbed; reynold = reynold; time = time }) u.zones) (Some Level) n) n
    (replay_stops x salts n s (fraction_seconds x absorbed this) reynold) refl refl refl

by_counts : (x : HydronicTask) (salts : ℕ → Salt) (n : ℕ) (s : Zoned HydronicState) (u : Zoned Outcome) (f : Option Fault) → (hydronic_by x salts n s u f).part.next ≡ None → (hydronic_by x salts n s u f).part.substeps ≡ n
unfolding hydronic_by
by_counts x salts n s u None h = whole_counts x salts n s u h
by_counts x salts n s u (Some Logarithm) h = refl
by_counts x salts n s u (Some NotFinite) h = refl

pub on_counts : (x : HydronicTask) (salts : ℕ → Salt) (n : ℕ) (s : Zoned HydronicState) → (hydronic_step x salts n s).part.next ≡ None → (hydronic_step x salts n s).part.substeps ≡ n + 1
unfolding hydronic_step
on_counts x salts n s h =
    let u = outcome (process_heat_battery_zones x.card x.pcm salts (wet_input x x.card.substep s.part.reynold) s.zones) in
    by_counts x salts (n + 1) s u u.part.fault h

module _ (x : HydronicTask) (salts : ℕ → Salt) (steps n : ℕ) (s : Zoned HydronicState) where
  pub hydronic_time : n ≡ steps → run_end s Time n ≡ hydronic_run x salts (steps - n) n s
  unfolding hydronic_run
  hydronic_time e = let z : steps - n ≡ 0 = omega arith in rw z

  module _ (p : n ≤ steps) (q : n ≡ steps → ⊥) where
    left : steps - n ≡ suc (steps - (n + 1))
    left = omega arith

    pub hydronic_over_budget : n ≡ x.card.budget → run_end s OverBudget n ≡ hydronic_run x salts (steps - n) n s
    unfolding hydronic_run
    hydronic_over_budget e = rw left (via_true _ _ (eq-eqb _ _ e) refl)

    -- a turn after s, and the zones that it leaves
    module _ (t : HydronicTurn) (after : List Float) (h : n ≡ x.card.budget → ⊥) (l : AsDefined (next_refusal t.next) t after (hydronic_step x salts n s)) where
      hydronic_unfolds : hydronic_run x salts (steps - n) n s ≡ hydronic_then (hydronic_run x salts (steps - (n + 1))) (zoned t.state (hydronic_step x salts n s).zones) t.next t.substeps
      unfolding hydronic_run
      hydronic_unfolds = rw (left, ne_eqb _ _ h, l.0)

      pub wet_took : t.next ≡ None → t.substeps ≡ n + 1
      wet_took d = rw l.0 (on_counts x salts n s (sym (ap (λ (u : HydronicTurn). u.next) l.0) ∙ d))

      pub wet_on : t.next ≡ None → hydronic_run x salts (steps - t.substeps) t.substeps (zoned t.state after) ≡ hydronic_run x salts (steps - n) n s
      wet_on d = rw (l.1 (ap next_refusal d)) (sym (hydronic_unfolds ∙ rw d (ap (λ (k : ℕ). hydronic_run x salts (steps - k) t.substeps (zoned t.state (hydronic_step x salts n s).zones)) (sym (wet_took d)))))

      pub wet_stop :
          (k : End) (e : Zoned (Ended HydronicState)) → t.next ≡ Some k → hydronic_run x salts (steps - n) n s ≡ e →
          AsDefined (end_refusal k) (record { state = t.state; end = k; substeps = t.substeps }) after e
      wet_stop k e d r =
          let w : run_end (zoned t.state (hydronic_step x salts n s).zones) k t.substeps ≡ e = sym (hydronic_unfolds ∙ rw d) ∙ r in
          (ap (λ (v : Zoned (Ended HydronicState)). v.part) w, λ q. l.1 (ap next_refusal d ∙ q) ∙ ap (λ (v : Zoned (Ended HydronicState)). v.zones) w)

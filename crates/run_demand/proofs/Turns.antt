-- A demand's run, turn by turn: each way out of it, and one turn on.
use Rattle.std.specs.Prelude.{None, Some}
use mathlib.Core.Path.{◌≡◌, refl, sym, ◌∙◌, ap}
use mathlib.Core.Bool.{true, false, not}
use mathlib.Core.List.{List}
use Prim.Native.Nat.{ℕ, zero, suc, ◌≤◌, ◌+◌, ◌-◌}
use native.Mathlib.Omega.{arith}
use borrow.Author.Tests.{not-true, not-false}
use lib.Ieee.{Float, lt}
use Rattle.floats.specs.Constants as Constants
use Rattle.logic.proofs.Branch.{via_true, via_false}
use Rattle.zone.specs.declared.Salt.{Salt}
use Rattle.run_demand.specs.declared.DemandTask.{DemandTask}
use Rattle.run_demand.specs.declared.DemandState.{DemandState}
use Rattle.run_demand.specs.declared.DemandTurn.{DemandTurn}
use Rattle.runs.specs.declared.Ended.{Ended}
use Rattle.runs.specs.declared.End.{End}
use Rattle.runs.specs.declared.End.TheVariants.{NoStep, OverBudget}
use Rattle.runs.specs.Runs.{end_refusal, next_refusal, run_end}
use Rattle.runs.specs.Zoned.{Zoned, zoned, AsDefined}
use Rattle.run_demand.specs.Demand.{demand_then, demand_run, demand_substep}

no_step_at : (x : DemandTask) (salts : ℕ → Salt) (k n : ℕ) (s : Zoned DemandState) → lt Constants.zero s.part.step ≡ false → run_end s NoStep n ≡ demand_run x salts k n s
unfolding demand_run
no_step_at x salts zero n s h = via_false _ _ h refl
no_step_at x salts (suc k) n s h = via_false _ _ h refl

module _ (x : DemandTask) (salts : ℕ → Salt) (b n : ℕ) (s : Zoned DemandState) where
  pub demand_no_step : not (lt Constants.zero s.part.step) ≡ true → run_end s NoStep n ≡ demand_run x salts (b - n) n s
  demand_no_step h = no_step_at x salts (b - n) n s (not-true (lt Constants.zero s.part.step) h)

  pub demand_over_budget : n ≡ b → not (lt Constants.zero s.part.step) ≡ false → run_end s OverBudget n ≡ demand_run x salts (b - n) n s
  unfolding demand_run
  demand_over_budget e h =
      let z : b - n ≡ 0 = omega arith in
      rw z (via_true _ _ (not-false (lt Constants.zero s.part.step) h) refl)

  -- a turn after s, and the zones that it leaves
  module _ (t : DemandTurn) (after : List Float) (p : n ≤ b) (q : n ≡ b → ⊥) (h : not (lt Constants.zero s.part.step) ≡ false)
      (l : AsDefined (next_refusal t.next) t after (demand_substep x salts s)) where
    demand_unfolds : demand_run x salts (b - n) n s ≡ demand_then (demand_run x salts (b - (n + 1)) (n + 1)) (n + 1) (zoned t.state (demand_substep x salts s).zones) t.next
    unfolding demand_run
    demand_unfolds =
        let z : b - n ≡ suc (b - (n + 1)) = omega arith in
        rw (z, not-false (lt Constants.zero s.part.step) h, l.0)

    pub run_on : t.next ≡ None → demand_run x salts (b - (n + 1)) (n + 1) (zoned t.state after) ≡ demand_run x salts (b - n) n s
    run_on g = rw (l.1 (ap next_refusal g)) (sym (demand_unfolds ∙ rw g))

    pub run_stops :
        (k : End) (e : Zoned (Ended DemandState)) → t.next ≡ Some k → demand_run x salts (b - n) n s ≡ e → AsDefined (end_refusal k) (record { state = t.state; end = k; substeps = n + 1 }) after e
    run_stops k e g d =
        let w : run_end (zoned t.state (demand_substep x salts s).zones) k (n + 1) ≡ e = sym (demand_unfolds ∙ rw g) ∙ d in
        (ap (λ (v : Zoned (Ended DemandState)). v.part) w, λ r. l.1 (ap next_refusal g ∙ r) ∙ ap (λ (v : Zoned (Ended DemandState)). v.zones) w)

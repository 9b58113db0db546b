-- What holds of each way out of a run, and is carried back over a turn, holds of the run.
use Rattle.std.specs.Prelude.{None, Option, Some}
use mathlib.Core.Path.{◌≡◌, refl}
use Prim.Native.Nat.{ℕ, zero, suc, ◌+◌}
use borrow.Author.Tests.{eqb-false}
use lib.Dec.{T, eqb, eqb→eq}
use lib.Ieee.{lt}
use Rattle.floats.specs.Constants as Constants
use Rattle.logic.proofs.Branch.{by_test}
use Rattle.zone.specs.declared.Salt.{Salt}
use Rattle.run_demand.specs.declared.DemandTask.{DemandTask}
use Rattle.runs.specs.Runs.{run_end}
use Rattle.runs.specs.declared.Ended.{Ended}
use Rattle.run_demand.specs.declared.DemandState.{DemandState}
use Rattle.runs.specs.declared.HydronicTask.{HydronicTask}
use Rattle.runs.specs.declared.HydronicState.{HydronicState}
use Rattle.runs.specs.declared.End.{End}
use Rattle.runs.specs.declared.End.TheVariants.{NoStep, OverBudget, Time}
use Rattle.run_demand.specs.Demand.{turn_state, demand_then, demand_run, demand_substep}
use Rattle.runs.specs.Hydronic.{hydronic_state, hydronic_then, hydronic_run, hydronic_step}
use Rattle.runs.specs.Zoned.{Zoned, on_part}

-- of the substeps left, those done, the run and its end
module _
    (x : DemandTask) (salts : ℕ → Salt) (P : ℕ → ℕ → Zoned DemandState → Zoned (Ended DemandState) → Type 0)
    (no_step : (k n : ℕ) (s : Zoned DemandState) → P k n s (run_end s NoStep n))
    (over : (n : ℕ) (s : Zoned DemandState) → T (lt Constants.zero s.part.step) → P zero n s (run_end s OverBudget n))
    (stop : (k n : ℕ) (s : Zoned DemandState) (e : End) → (demand_substep x salts s).part.next ≡ Some e → P (suc k) n s (run_end (on_part turn_state (demand_substep x salts s)) e (n + 1)))
    (on : (k n : ℕ) (s : Zoned DemandState) (d : Zoned (Ended DemandState)) → (demand_substep x salts s).part.next ≡ None → P k (n + 1) (on_part turn_state (demand_substep x salts s)) d → P (suc k) n s d) where
  demand_turned :
      (k n : ℕ) (s : Zoned DemandState) → P k (n + 1) (on_part turn_state (demand_substep x salts s)) (demand_run x salts k (n + 1) (on_part turn_state (demand_substep x salts s))) →
      (e : Option End) → (demand_substep x salts s).part.next ≡ e → P (suc k) n s (demand_then (demand_run x salts k (n + 1)) (n + 1) (on_part turn_state (demand_substep x salts s)) e)
  demand_turned k n s r None h = on k n s _ h r
  demand_turned k n s r (Some e) h = stop k n s e h

  pub demand_induction : (k n : ℕ) (s : Zoned DemandState) → P k n s (demand_run x salts k n s)
  unfolding demand_run
  demand_induction zero n s = by_test (P zero n s) (lt Constants.zero s.part.step) _ _ (over n s) (λ h. no_step zero n s)
  demand_induction (suc k) n s =
      by_test (P (suc k) n s) (lt Constants.zero s.part.step) _ _
      (λ h. demand_turned k n s (demand_induction k (n + 1) (on_part turn_state (demand_substep x salts s))) (demand_substep x salts s).part.next refl)
      (λ h. no_step (suc k) n s)

-- of the whole substeps left, the substeps done, the run and its end
module _
    (x : HydronicTask) (salts : ℕ → Salt) (P : ℕ → ℕ → Zoned HydronicState → Zoned (Ended HydronicState) → Type 0)
    (time : (n : ℕ) (s : Zoned HydronicState) → P zero n s (run_end s Time n))
    (over : (k n : ℕ) (s : Zoned HydronicState) → n ≡ x.card.budget → P (suc k) n s (run_end s OverBudget n))
    (stop : (k n : ℕ) (s : Zoned HydronicState) (e : End) → (n ≡ x.card.budget → ⊥) → (hydronic_step x salts n s).part.next ≡ Some e →
    P (suc k) n s (run_end (on_part hydronic_state (hydronic_step x salts n s)) e (hydronic_step x salts n s).part.substeps))
    (on : (k n : ℕ) (s : Zoned HydronicState) (d : Zoned (Ended HydronicState)) → (n ≡ x.card.budget → ⊥) → (hydronic_step x salts n s).part.next ≡ None →
    P k (hydronic_step x salts n s).part.substeps (on_part hydronic_state (hydronic_step x salts n s)) d → P (suc k) n s d) where
  hydronic_turned :
      (k n : ℕ) (s : Zoned HydronicState) → (n ≡ x.card.budget → ⊥) →
      P k (hydronic_step x salts n s).part.substeps (on_part hydronic_state (hydronic_step x salts n s)) (hydronic_run x salts k (hydronic_step x salts n s).part.substeps (on_part hydronic_state (hydronic_step x salts n s))) →
      (e : Option End) → (hydronic_step x salts n s).part.next ≡ e → P (suc k) n s (hydronic_then (hydronic_run x salts k) (on_part hydronic_state (hydronic_step x salts n s)) e (hydronic_step x salts n s).part.substeps)
  hydronic_turned k n s q r None h = on k n s _ q h r
  hydronic_turned k n s q r (Some e) h = stop k n s e q h

  pub hydronic_induction : (k n : ℕ) (s : Zoned HydronicState) → P k n s (hydronic_run x salts k n s)
  unfolding hydronic_run
  hydronic_induction zero n s = time n s
  hydronic_induction (suc k) n s =
      by_test (P (suc k) n s) (eqb n x.card.budget) _ _
      (λ h. over k n s (eqb→eq n x.card.budget h))
      (λ h. hydronic_turned k n s (eqb-false n x.card.budget h)
      (hydronic_induction k (hydronic_step x salts n s).part.substeps (on_part hydronic_state (hydronic_step x salts n s))) (hydronic_step x salts n s).part.next refl)

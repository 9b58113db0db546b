-- The runs to their ends: the places above the count stay, the substeps are within the budget, and a run ends for the budget's sake
-- only with the budget used and another substep due.
use Rattle.std.specs.Prelude.{Some}
use mathlib.Core.Path.{◌≡◌, refl, sym, ◌∙◌, ap, subst}
use mathlib.Core.Logic.{inl, inr}
use Prim.Native.Nat.{ℕ, suc, ◌≤◌, ◌+◌}
use native.Mathlib.Omega.{arith}
use Rattle.zone.specs.declared.Salt.{Salt}
use Rattle.battery.specs.Places.{SameAbove}
use Rattle.battery.proofs.Zones.{same_above, then_above}
use Rattle.engine.specs.Budget.{whole_from, FractionDue, DemandOver, HydronicOver}
use Rattle.run_demand.specs.declared.DemandTask.{DemandTask}
use Rattle.run_demand.specs.declared.DemandState.{DemandState}
use Rattle.runs.specs.Runs.{run_end}
use Rattle.runs.specs.declared.HydronicTask.{HydronicTask}
use Rattle.runs.specs.declared.HydronicState.{HydronicState}
use Rattle.runs.specs.declared.End.{End}
use Rattle.runs.specs.declared.End.TheVariants.{OverBudget}
use Rattle.run_demand.specs.Demand.{demand_run}
use Rattle.runs.specs.Hydronic.{hydronic_state, hydronic_run, hydronic_step}
use Rattle.runs.proofs.Runs.{on_counts}
use Rattle.runs.specs.Zoned.{Zoned, on_part}
use Rattle.engine.proofs.Inductions.{demand_induction, hydronic_induction}
use Rattle.engine.proofs.Turns.{never, demand_keeps, hydronic_keeps}

module _ (x : DemandTask) (salts : ℕ → Salt) where
  pub demand_run_above : (k n : ℕ) (s : Zoned DemandState) → SameAbove x.card.layers s.zones (demand_run x salts k n s).zones
  demand_run_above =
      demand_induction x salts (λ k n s d. SameAbove x.card.layers s.zones d.zones)
      (λ k n s. same_above x.card.layers s.zones)
      (λ n s h. same_above x.card.layers s.zones)
      (λ k n s e h. (demand_keeps x salts s).above)
      (λ k n s d h r. then_above (demand_keeps x salts s).above r)

  pub demand_run_count : (k n : ℕ) (s : Zoned DemandState) → (demand_run x salts k n s).part.substeps ≤ n + k
  demand_run_count =
      demand_induction x salts (λ k n s d. d.part.substeps ≤ n + k)
      (λ k n s. omega arith)
      (λ n s h. omega arith)
      (λ k n s e h. omega arith)
      (λ k n s d h r. omega arith)

  pub demand_run_over : (k n : ℕ) (s : Zoned DemandState) → (demand_run x salts k n s).part.end ≡ OverBudget → DemandOver (n + k) (demand_run x salts k n s).part
  demand_run_over =
      demand_induction x salts (λ k n s d. d.part.end ≡ OverBudget → DemandOver (n + k) d.part)
      (λ k n s h. never (cc))
      (λ n s p h. record { ended = refl; used = omega arith; due = p })
      (λ k n s e p h. absurd ((demand_keeps x salts s).within (p ∙ ap Some h)))
      (λ k n s d p r h. let q = r h in let u = q.used in record { ended = h; used = omega arith; due = q.due })

module _ (x : HydronicTask) (salts : ℕ → Salt) where
  pub hydronic_run_above : (k n : ℕ) (s : Zoned HydronicState) → SameAbove x.card.layers s.zones (hydronic_run x salts k n s).zones
  hydronic_run_above =
      hydronic_induction x salts (λ k n s d. SameAbove x.card.layers s.zones d.zones)
      (λ n s. same_above x.card.layers s.zones)
      (λ k n s h. same_above x.card.layers s.zones)
      (λ k n s e q h. (hydronic_keeps x salts n s).above)
      (λ k n s d q h r. then_above (hydronic_keeps x salts n s).above r)

  pub hydronic_run_count : (k n : ℕ) (s : Zoned HydronicState) → n ≤ x.card.budget → (hydronic_run x salts k n s).part.substeps ≤ x.card.budget
  hydronic_run_count =
      hydronic_induction x salts (λ k n s d. n ≤ x.card.budget → d.part.substeps ≤ x.card.budget)
      (λ n s l. l)
      (λ k n s h l. l)
      (λ k n s e q h l. (hydronic_keeps x salts n s).count (omega arith))
      (λ k n s d q h r l. r ((hydronic_keeps x salts n s).count (omega arith)))

  last_turn :
      (steps n : ℕ) (s : Zoned HydronicState) (e : End) → (hydronic_step x salts n s).part.next ≡ Some OverBudget → e ≡ OverBudget →
      HydronicOver x salts steps (run_end (on_part hydronic_state (hydronic_step x salts n s)) e (hydronic_step x salts n s).part.substeps)
  last_turn steps n s e p h =
      let k = hydronic_keeps x salts n s in
      record { ended = h; used = k.used p; due = inr (subst (λ (v : Zoned HydronicState). FractionDue x v.part (whole_from x salts v)) (sym (k.same p)) (k.due p)) }

  pub hydronic_run_over : (k n : ℕ) (s : Zoned HydronicState) → (hydronic_run x salts k n s).part.end ≡ OverBudget → HydronicOver x salts (n + k) (hydronic_run x salts k n s)
  hydronic_run_over =
      hydronic_induction x salts (λ k n s d. d.part.end ≡ OverBudget → HydronicOver x salts (n + k) d)
      (λ n s h. never (cc))
      (λ k n s p h. record { ended = refl; used = p; due = inl (omega arith) })
      (λ k n s e q p h. last_turn (n + suc k) n s e (p ∙ ap Some h) h)
      (λ k n s d q p r h.
      let m = on_counts x salts n s p in
      let t : (hydronic_step x salts n s).part.substeps + k ≡ n + suc k = omega arith in
      rw t at (r h))

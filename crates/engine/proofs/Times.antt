-- The time of a hydronic run is the sum of the substeps that it ran, and what an answered hydronic charge shows of it.
use Rattle.std.specs.Prelude.{None, Some, Option}
use mathlib.Core.Path.{◌≡◌, refl, sym, ◌∙◌, ap, subst}
use mathlib.Core.Logic.{inl, inr}
use mathlib.Core.Bool.{Bool, false, cond}
use Prim.Native.Nat.{ℕ, suc, ◌+◌}
use native.Mathlib.Omega.{arith}
use borrow.Author.Tests.{eqb-false}
use lib.Dec.{T, eqb, eqb→eq}
use lib.Ieee.{Float, lt, neg}
use Rattle.floats.specs.F64.{◌⊕◌}
use Rattle.floats.specs.Constants as Constants
use Rattle.logic.proofs.Branch.{by_test}
use Rattle.zone.specs.declared.Salt.{Salt}
use Rattle.zone.specs.Layer.{salt_at}
use Rattle.zone.specs.Heat.{kj}
use Rattle.card.specs.Derived.{salts_of}
use Rattle.card.specs.Version.{shows_hydronic_time}
use Rattle.battery.specs.Answer.{refused_with, answer_finite}
use Rattle.battery.specs.declared.Answer.{Answer}
use Rattle.battery.specs.declared.Battery.{Battery}
use Rattle.battery.specs.declared.Hydronic.{Hydronic}
use Rattle.battery.specs.declared.Call.TheVariants.{ChargeHydronic}
use Rattle.substep.specs.Substep.{outcome_of, process_heat_battery_zones}
use Rattle.substep.specs.declared.Substep.{Substep}
use Rattle.substep.specs.declared.Fault.{Fault}
use Rattle.substep.specs.declared.Fault.TheVariants.{Logarithm, NotFinite}
use Rattle.runs.specs.Runs.{outcome, reynold_between, end_refusal}
use Rattle.runs.specs.declared.HydronicTask.{HydronicTask}
use Rattle.runs.specs.declared.HydronicState.{HydronicState}
use Rattle.runs.specs.declared.HydronicTurn.{HydronicTurn}
use Rattle.runs.specs.declared.Stopped.{Stopped}
use Rattle.runs.specs.declared.End.{End}
use Rattle.runs.specs.declared.End.TheVariants.{Limit, OverBudget, NoLogarithm, NotFiniteRun}
use Rattle.runs.specs.Hydronic.{clearly_below, limit_reached, replay_by, replayed, fraction_seconds, hydronic_whole, hydronic_by, hydronic_state, hydronic_step, hydronic_run, hydronic_ended, whole_substeps}
use Rattle.runs.specs.Charge.{hydronic_start, charge_hydronic, charge_battery, wet_of}
use Rattle.runs.specs.Zoned.{Zoned, zoned, on_part}
use Rattle.engine_replies.specs.Replies.{checked, unless_refused, charged_battery, charged_time, run_answer, charged_answer}
use Rattle.engine.specs.Steps.{charge, wet_source, step_of}
use Rattle.engine.specs.Budget.{whole_from, FractionDue, hydronic_task_of, hydronic_run_of}
use Rattle.engine.specs.Faults.{heat_of, absorbed_with, fraction_input}
use Rattle.engine.specs.Times.{added_up, after_turns, whole_after, DueAfter, fraction_after, TimeRun}
use Rattle.engine.proofs.Inductions.{hydronic_induction}
use Rattle.engine.proofs.Promises.{refused_number}
use Rattle.engine.proofs.Turns.{never}
use Rattle.engine.proofs.Warmth.{by_refusal}

-- an end that refuses
refuses_22 : end_refusal OverBudget ≡ 0 → ⊥
unfolding end_refusal
refuses_22 h = omega arith

refuses_23 : end_refusal NotFiniteRun ≡ 0 → ⊥
unfolding end_refusal
refuses_23 h = omega arith

refuses_24 : end_refusal NoLogarithm ≡ 0 → ⊥
unfolding end_refusal
refuses_24 h = omega arith

-- the fractional substep after the whole one u from s
abbrev fraction_from : HydronicTask → (ℕ → Salt) → Zoned HydronicState → Substep → Substep
fraction_from x salts s u = process_heat_battery_zones x.card x.pcm salts (fraction_input x s.part u) s.zones

-- what a turn from s adds to the time: n substeps are done, u the last of them
data TurnTime (x : HydronicTask) (salts : ℕ → Salt) (n : ℕ) (s : Zoned HydronicState) (u : Substep) (t : HydronicTurn) : Type 0 where
  went_on : t.next ≡ None → t.substeps ≡ n → t.state.time ≡ s.part.time ⊕ x.card.substep → TurnTime x salts n s u t
  whole : (e : End) → t.next ≡ Some e → t.substeps ≡ n → t.state.time ≡ s.part.time ⊕ x.card.substep → (e ≡ Limit → FractionDue x s.part u → ⊥) → TurnTime x salts n s u t
  replaced : t.next ≡ Some Limit → t.substeps ≡ n + 1 → t.state.time ≡ s.part.time ⊕ fraction_seconds x (absorbed_with s.part u) (heat_of u) → FractionDue x s.part u → (fraction_from x salts s u).fault ≡ None
      → TurnTime x salts n s u t
  refused : (e : End) → t.next ≡ Some e → (end_refusal e ≡ 0 → ⊥) → TurnTime x salts n s u t

module _ (x : HydronicTask) (salts : ℕ → Salt) (n : ℕ) (s : Zoned HydronicState) (u : Substep) where
  abbrev Turned : Zoned HydronicTurn → Type 0
  Turned t = TurnTime x salts n s u t.part

  module _ (f : FractionDue x s.part u) where
    abbrev seconds : Float
    seconds = fraction_seconds x (absorbed_with s.part u) (heat_of u)

    abbrev reynold : Float
    reynold = reynold_between x.wet.inlet u.outlet x.wet.velocity x.wet.diameter

    replay_by_lem : (e : Option Fault) → (fraction_from x salts s u).fault ≡ e → Turned (replay_by x (n + 1) s seconds reynold (outcome (fraction_from x salts s u)) e)
    unfolding replay_by
    replay_by_lem None w = replaced refl refl refl f w
    replay_by_lem (Some Logarithm) w = refused NoLogarithm refl refuses_24
    replay_by_lem (Some NotFinite) w = refused NotFiniteRun refl refuses_23

    replay_time : Turned (replayed x salts n s seconds reynold)
    unfolding replayed outcome_of
    replay_time =
        by_test Turned (eqb n x.card.budget) _ _
        (λ h. refused OverBudget refl refuses_22)
        (λ h. replay_by_lem (fraction_from x salts s u).fault refl)

  whole_time : u.fault ≡ None → Turned (hydronic_whole x salts n s (outcome u))
  unfolding hydronic_whole outcome_of
  whole_time w =
      let this = kj (neg u.delivered.0) in
      let absorbed = kj (s.part.absorbed.0 ⊕ this.0) in
      by_test Turned (clearly_below u.outlet x.wet.inlet) _ _
      (λ a. by_test Turned (limit_reached absorbed x.limit) _ _
      (λ b. by_test Turned (lt Constants.zero this.0) _ _
      (λ c. replay_time (record { worked = w; below = a; passed = b; heat = c }))
      (λ c. whole Limit refl refl refl (λ e f. not_due c f.heat)))
      (λ b. went_on refl refl refl))
      (λ a. whole _ refl refl refl (λ e. never (cc)))
    where
      not_due : {t : Bool} → t ≡ false → T t → ⊥
      not_due {t} e h = rw e at h

  by_time : (f : Option Fault) → u.fault ≡ f → Turned (hydronic_by x salts n s (outcome u) f)
  unfolding hydronic_by
  by_time None w = whole_time w
  by_time (Some Logarithm) w = refused NoLogarithm refl refuses_24
  by_time (Some NotFinite) w = refused NotFiniteRun refl refuses_23

turn_time : (x : HydronicTask) (salts : ℕ → Salt) (n : ℕ) (s : Zoned HydronicState) → TurnTime x salts (n + 1) s (whole_from x salts s) (hydronic_step x salts n s).part
unfolding hydronic_step outcome_of
turn_time x salts n s = by_time x salts (n + 1) s (whole_from x salts s) (whole_from x salts s).fault refl

-- ---- the run

module _ (x : HydronicTask) (salts : ℕ → Salt) (start : Zoned HydronicState) where
  -- the state after the first n turns, with their time
  record Reached (n : ℕ) (s : Zoned HydronicState) : Type 0 where
    state : s ≡ after_turns x salts start n
    time : s.part.time ≡ added_up x.card.substep n

  module _ (n : ℕ) (s : Zoned HydronicState) (r : Reached n s) where
    abbrev t : HydronicTurn
    t = (hydronic_step x salts n s).part

    -- with one substep more
    longer : t.state.time ≡ s.part.time ⊕ x.card.substep → t.state.time ≡ added_up x.card.substep (suc n)
    unfolding added_up
    longer e = e ∙ ap (λ (f : Float). f ⊕ x.card.substep) r.time

    further : on_part hydronic_state (hydronic_step x salts n s) ≡ after_turns x salts start (suc n)
    unfolding after_turns
    further = ap (λ (v : Zoned HydronicState). on_part hydronic_state (hydronic_step x salts n v)) r.state

    next_reached : t.next ≡ None → Reached t.substeps (on_part hydronic_state (hydronic_step x salts n s))
    next_reached h = on (turn_time x salts n s)
      where
        on : TurnTime x salts (n + 1) s (whole_from x salts s) t → Reached t.substeps (on_part hydronic_state (hydronic_step x salts n s))
        on (went_on p c e) = let m : t.substeps ≡ suc n = omega (arith, c) in record { state = rw m further; time = rw m (longer e) }
        on (whole e p c k d) = never (cc)
        on (replaced p c k f w) = never (cc)
        on (refused e p q) = never (cc)

    is_due : FractionDue x s.part (whole_from x salts s) → DueAfter x salts start n
    is_due = subst (λ (v : Zoned HydronicState). FractionDue x v.part (whole_from x salts v)) r.state

    was_due : DueAfter x salts start n → FractionDue x s.part (whole_from x salts s)
    was_due = subst (λ (v : Zoned HydronicState). FractionDue x v.part (whole_from x salts v)) (sym r.state)

    fraction_worked : (fraction_from x salts s (whole_from x salts s)).fault ≡ None → (fraction_after x salts start n).fault ≡ None
    fraction_worked = subst (λ (v : Zoned HydronicState). (fraction_from x salts v (whole_from x salts v)).fault ≡ None) r.state

    -- the seconds of the fractional substep, from the state that the run reached
    same_seconds : s.part.time ⊕ fraction_seconds x (absorbed_with s.part (whole_from x salts s)) (heat_of (whole_from x salts s))
        ≡ added_up x.card.substep n ⊕ fraction_seconds x (absorbed_with (after_turns x salts start n).part (whole_after x salts start n)) (heat_of (whole_after x salts start n))
    same_seconds =
        ap (λ (f : Float). f ⊕ fraction_seconds x (absorbed_with s.part (whole_from x salts s)) (heat_of (whole_from x salts s))) r.time
        ∙ ap (λ (v : Zoned HydronicState). added_up x.card.substep n ⊕ fraction_seconds x (absorbed_with v.part (whole_from x salts v)) (heat_of (whole_from x salts v))) r.state

    stopped : (e : End) → t.next ≡ Some e → end_refusal e ≡ 0 → TimeRun x salts start (record { state = t.state; end = e; substeps = t.substeps })
    stopped e h z = on (turn_time x salts n s)
      where
        on : TurnTime x salts (n + 1) s (whole_from x salts s) t → TimeRun x salts start (record { state = t.state; end = e; substeps = t.substeps })
        on (went_on p c k) = never (cc)
        on (whole g p c k d) =
            let m : t.substeps ≡ suc n = omega (arith, c) in
            let same : e ≡ g = cc in
            inl (record { time = longer k ∙ ap (added_up x.card.substep) (sym m); limit = λ l. (n, c, λ f. d (sym same ∙ l) (was_due f)) })
        on (replaced p c k f w) =
            let same : e ≡ Limit = cc in
            inr (record { ended = same; earlier = n; due = is_due f; worked = fraction_worked w; count = omega (arith, c); time = k ∙ same_seconds })
        on (refused g p q) = let same : e ≡ g = cc in absurd (q (sym (ap end_refusal same) ∙ z))

  run_time : (k n : ℕ) (s : Zoned HydronicState) → Reached n s → end_refusal (hydronic_run x salts k n s).part.end ≡ 0 → TimeRun x salts start (hydronic_run x salts k n s).part
  run_time =
      hydronic_induction x salts (λ k n s d. Reached n s → end_refusal d.part.end ≡ 0 → TimeRun x salts start d.part)
      (λ n s r h. inl (record { time = r.time; limit = λ e. never (cc) }))
      (λ k n s e r h. absurd (refuses_22 h))
      (λ k n s e q p r h. stopped n s r e p h)
      (λ k n s d q p ih r h. ih (next_reached n s r p) h)

-- ---- an answered hydronic charge

-- a run that is answered ended without a refusal
answered_run : (b : Battery) (end : End) (a : Answer) → (unless_refused b end a).refusal ≡ 0 → (end_refusal end ≡ 0) × (unless_refused b end a ≡ a)
unfolding unless_refused checked
answered_run b end a =
    let Is : Answer → Type 0 = λ (c : Answer). c.refusal ≡ 0 → (end_refusal end ≡ 0) × (c ≡ a) in
    by_test Is (eqb (end_refusal end) 0) _ _
    (λ t. by_test Is (answer_finite a) _ _ (λ u h. (eqb→eq (end_refusal end) 0 t, refl)) (λ u h. let m = refused_number 23 b in absurd (omega arith)))
    (λ t h. absurd (eqb-false (end_refusal end) 0 t (sym (refused_number (end_refusal end) b) ∙ h)))

-- where the call's run starts
abbrev pub hydronic_from : Battery → Hydronic → Zoned HydronicState
hydronic_from b w = zoned (hydronic_start b.card (wet_of w)) b.zones

pub hydronic_run_time : (b : Battery) (w : Hydronic) → end_refusal (hydronic_run_of b w).part.end ≡ 0 → TimeRun (hydronic_task_of b w) (salt_at (salts_of b.card)) (hydronic_from b w) (hydronic_run_of b w).part
unfolding hydronic_start added_up after_turns
hydronic_run_time b w h =
    run_time (hydronic_task_of b w) (salt_at (salts_of b.card)) (hydronic_from b w) (whole_substeps (hydronic_task_of b w)) 0 (hydronic_from b w) (record { state = refl; time = refl }) h

module _ (version : ℕ) (b : Battery) (w : Hydronic) where
  abbrev r : Zoned Stopped
  r = charge_battery b (wet_source w) w.target

  pub hydronic_time : (step_of version b (ChargeHydronic w)).refusal ≡ 0
      → ((step_of version b (ChargeHydronic w)).time ≡ cond (shows_hydronic_time version) (hydronic_run_of b w).part.state.time Constants.zero)
      × TimeRun (hydronic_task_of b w) (salt_at (salts_of b.card)) (hydronic_from b w) (hydronic_run_of b w).part
  unfolding step_of charge charge_battery wet_source charge_hydronic hydronic_ended run_answer charged_time
  hydronic_time h =
      let e = answered_run b r.part.end (charged_answer version b r) h in
      (ap (λ (a : Answer). a.time) e.1, hydronic_run_time b w e.0)

  -- 'Running totals don't change'
  pub running_stays : ((step_of version b (ChargeHydronic w)).battery.total ≡ b.total) × ((step_of version b (ChargeHydronic w)).battery.pump ≡ b.pump)
      × ((step_of version b (ChargeHydronic w)).battery.direct ≡ b.direct)
  unfolding step_of charge run_answer charged_battery refused_with
  running_stays =
      by_refusal (λ (a : Answer). (a.battery.total ≡ b.total) × (a.battery.pump ≡ b.pump) × (a.battery.direct ≡ b.direct)) b r.part.end (charged_answer version b r)
      (refl, refl, refl)
      (λ n. (refl, refl, refl))

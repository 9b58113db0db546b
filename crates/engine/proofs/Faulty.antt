-- A substep's faults, each only at its test, and the runs that end for their sake: the run that is handed out is the one before that substep.
use Rattle.std.specs.Prelude.{None, Option, Some}
use mathlib.Core.Path.{◌≡◌, refl, sym, ◌∙◌, ap, subst}
use mathlib.Core.Bool.{false, cond}
use mathlib.Core.List.{List}
use mathlib.Core.Logic.{◌⊎◌, inl, inr}
use Prim.Native.Nat.{ℕ, ◌+◌}
use lib.Dec.{eqb}
use lib.Ieee.{Float, lt, le}
use Rattle.floats.specs.F64.{◌⊕◌, ◌⊗◌}
use Rattle.floats.specs.Constants as Constants
use Rattle.floats.specs.Constants.{smallest_normal, largest_finite}
use Rattle.floats.specs.Ln.{ln, ln_normal}
use Rattle.floats.specs.Sum2.{sum2}
use Rattle.logic.proofs.Branch.{by_test}
use Rattle.zone.specs.declared.Salt.{Salt}
use Rattle.zone.specs.Heat.{kj, kwh, kilowatt_hours}
use Rattle.zone.specs.declared.Kilojoules.{Kilojoules}
use Rattle.zone_water.specs.Water.{transfer_of, heat_transfer}
use Rattle.zone_water.specs.declared.Mode.{Mode}
use Rattle.zone_water.specs.declared.Mode.TheVariants.{OnlyCharging, Losses, Normal}
use Rattle.card.specs.declared.Card.{Card}
use Rattle.card.specs.declared.HeatBatteryPcm.{HeatBatteryPcm}
use Rattle.substep.specs.Substep.{outcome_of, per_layer, zone_transfer, without_logarithm, progress_finite, progress_fault, substep_from, with_transfer, process_heat_battery_zones}
use Rattle.substep.specs.declared.SubstepInput.{SubstepInput}
use Rattle.substep.specs.declared.Outcome.{Outcome}
use Rattle.substep.specs.Progress.{Progress}
use Rattle.substep.specs.declared.Substep.{Substep}
use Rattle.substep.specs.declared.Fault.{Fault}
use Rattle.substep.specs.declared.Fault.TheVariants.{Logarithm, NotFinite}
use Rattle.run_demand.specs.declared.DemandTask.{DemandTask}
use Rattle.run_demand.specs.declared.DemandTurn.{DemandTurn}
use Rattle.run_demand.specs.declared.DemandState.{DemandState}
use Rattle.runs.specs.declared.HydronicTask.{HydronicTask}
use Rattle.runs.specs.declared.HydronicState.{HydronicState}
use Rattle.runs.specs.declared.HydronicTurn.{HydronicTurn}
use Rattle.runs.specs.declared.End.{End}
use Rattle.runs.specs.declared.End.TheVariants.{Done, Negative, Met, NoStep, Level, Limit, Time, OverBudget, NoLogarithm, NotFiniteRun}
use Rattle.run_demand.specs.Demand.{turn_state, demand_input, demand_met, demand_delivered, demand_by, demand_substep, demand_run}
use Rattle.runs.specs.Hydronic.{wet_input, clearly_below, limit_reached, replay_by, replayed, fraction_seconds, hydronic_whole, hydronic_by, hydronic_step, hydronic_run, hydronic_state}
use Rattle.runs.specs.Runs.{outcome, reynold_between, end_state}
use Rattle.runs.specs.Zoned.{Zoned, on_part}
use Rattle.engine.specs.Budget.{whole_from, FractionDue}
use Rattle.engine.specs.Faults.{ArgumentRefused, progress_of, ProgressNotFinite, FaultTest, SubstepFault, heat_of, absorbed_with, fraction_input, HydronicFault}
use Rattle.engine.proofs.Inductions.{demand_induction, hydronic_induction}
use Rattle.engine.proofs.Turns.{never}

-- the logarithm's argument
abbrev BadArgument : Float → Type 0
BadArgument x = (le smallest_normal x ≡ false) ⊎ (le x largest_finite ≡ false)

ln_refuses : (x : Float) → ln x ≡ None → BadArgument x
unfolding ln
ln_refuses x =
    by_test (λ (l : Option Float). l ≡ None → BadArgument x) (le smallest_normal x) (cond (le x largest_finite) (Some (ln_normal x)) None) None
    (λ t. by_test (λ (l : Option Float). l ≡ None → BadArgument x) (le x largest_finite) (Some (ln_normal x)) None (λ u h. never (cc)) (λ u h. inr u))
    (λ t h. inl t)

transfer_refuses : (a b : Float) (l : Option Float) → transfer_of a b l ≡ None → l ≡ None
unfolding transfer_of
transfer_refuses a b (Some l) h = never (cc)
transfer_refuses a b None h = refl

layer_refuses : (c : Card) (l : Option Float) → per_layer c l ≡ None → l ≡ None
unfolding per_layer
layer_refuses c (Some u) h = never (cc)
layer_refuses c None h = refl

zone_refuses : (m : Mode) (c : Card) (d : SubstepInput) → zone_transfer m c d ≡ None → (m ≡ Normal) × BadArgument (d.reynold ⊗ d.flow)
unfolding zone_transfer heat_transfer
zone_refuses OnlyCharging c d h = never (cc)
zone_refuses (Losses floor) c d h = never (cc)
zone_refuses Normal c d h =
    (refl, ln_refuses (d.reynold ⊗ d.flow) (transfer_refuses d.a d.b (ln (d.reynold ⊗ d.flow)) (layer_refuses c (transfer_of d.a d.b (ln (d.reynold ⊗ d.flow))) h)))

no_logarithm_fault : (c : Card) (p : Progress) (sum : Kilojoules) → progress_fault c p sum ≡ Some Logarithm → ⊥
unfolding progress_fault
no_logarithm_fault c p sum =
    by_test (λ (f : Option Fault). f ≡ Some Logarithm → ⊥) (progress_finite c p sum) None (Some NotFinite) (λ t h. never (cc)) (λ t h. never (cc))

not_finite_fault : (c : Card) (p : Progress) (sum : Kilojoules) → progress_fault c p sum ≡ Some NotFinite → progress_finite c p sum ≡ false
unfolding progress_fault
not_finite_fault c p sum =
    by_test (λ (f : Option Fault). f ≡ Some NotFinite → progress_finite c p sum ≡ false) (progress_finite c p sum) None (Some NotFinite) (λ t h. never (cc)) (λ t h. t)

module _ (c : Card) (pcm : HeatBatteryPcm) (salts : ℕ → Salt) (d : SubstepInput) (zones : List Float) where
  with_refused : (l : Option Float) → (with_transfer c pcm salts d zones l).fault ≡ Some Logarithm → l ≡ None
  unfolding with_transfer substep_from
  with_refused None h = refl
  with_refused (Some u) h =
      let p = progress_of c pcm salts d zones u in
      absurd (no_logarithm_fault c p (kj (sum2 p.energies c.layers)) h)

  with_not_finite : (l : Option Float) → zone_transfer d.mode c d ≡ l → (with_transfer c pcm salts d zones l).fault ≡ Some NotFinite → ProgressNotFinite c pcm salts d zones
  unfolding with_transfer without_logarithm substep_from
  with_not_finite None e h = never (cc)
  with_not_finite (Some u) e h =
      let p = progress_of c pcm salts d zones u in
      record { transfer = u; taken = e; found = not_finite_fault c p (kj (sum2 p.energies c.layers)) h }

  -- 24 only where the logarithm refuses its argument, in a demand's or hydronic substep
  pub logarithm_only : (process_heat_battery_zones c pcm salts d zones).fault ≡ Some Logarithm → ArgumentRefused d
  unfolding process_heat_battery_zones
  logarithm_only h =
      let w = zone_refuses d.mode c d (with_refused (zone_transfer d.mode c d) h) in
      record { normal = w.0; argument = w.1 }

  -- 23 only where a number after the substep is not finite
  pub progress_not_finite_only : (process_heat_battery_zones c pcm salts d zones).fault ≡ Some NotFinite → ProgressNotFinite c pcm salts d zones
  unfolding process_heat_battery_zones
  progress_not_finite_only h = with_not_finite (zone_transfer d.mode c d) refl h

  tested : (f : Option Fault) → (f ≡ None → ⊥) → (process_heat_battery_zones c pcm salts d zones).fault ≡ f → FaultTest f c pcm salts d zones
  tested None q h = q refl
  tested (Some Logarithm) q h = logarithm_only h
  tested (Some NotFinite) q h = progress_not_finite_only h

  pub substep_fault : (f : Option Fault) → (f ≡ None → ⊥) → (process_heat_battery_zones c pcm salts d zones).fault ≡ f → SubstepFault f c pcm salts d zones
  substep_fault f q h = record { fault = h; test = tested f q h }

-- the substep from s
abbrev pub demand_from_run : DemandTask → (ℕ → Salt) → Zoned DemandState → Substep
demand_from_run x salts s = process_heat_battery_zones x.card x.pcm salts (demand_input x s.part) s.zones

-- the fractional substep after the whole substep u from s
abbrev fraction_from : HydronicTask → (ℕ → Salt) → Zoned HydronicState → Substep → Substep
fraction_from x salts s u = process_heat_battery_zones x.card x.pcm salts (fraction_input x s.part u) s.zones

record FractionTold (x : HydronicTask) (salts : ℕ → Salt) (s : Zoned HydronicState) (u : Substep) (f : Option Fault) : Type 0 where
  due : FractionDue x s.part u
  fault : (fraction_from x salts s u).fault ≡ f

-- the fault that an end tells of
abbrev pub end_fault : End → Option Fault
end_fault Done = None
end_fault Negative = None
end_fault Met = None
end_fault NoStep = None
end_fault Level = None
end_fault Limit = None
end_fault Time = None
end_fault OverBudget = None
end_fault NoLogarithm = Some Logarithm
end_fault NotFiniteRun = Some NotFinite

abbrev next_fault : Option End → Option Fault
next_fault None = None
next_fault (Some e) = end_fault e

-- the turn t after s with the substep u
record DemandTold (s : Zoned DemandState) (u : Substep) (t : Zoned DemandTurn) : Type 0 where
  same : (next_fault t.part.next ≡ None → ⊥) → on_part turn_state t ≡ s
  fault : (next_fault t.part.next ≡ None → ⊥) → u.fault ≡ next_fault t.part.next

no_fault : (x : DemandTask) (s : DemandState) (o : Outcome) → next_fault (demand_delivered x s o).next ≡ None
unfolding demand_delivered
no_fault x s o =
    let Quiet : DemandTurn → Type 0 = λ (t : DemandTurn). next_fault t.next ≡ None in
    by_test Quiet (lt o.delivered.0 Constants.zero) _ _
    (λ a. refl)
    (λ a. by_test Quiet (demand_met x (kwh (s.delivered.0 ⊕ (kilowatt_hours o.delivered).0))) _ _ (λ b. refl) (λ b. refl))

told_by : (x : DemandTask) (s : Zoned DemandState) (u : Substep) (f : Option Fault) → u.fault ≡ f → DemandTold s u (demand_by x s (outcome u) f)
unfolding demand_by
told_by x s u None w = let n = no_fault x s.part (outcome u).part in record { same = λ q. absurd (q n); fault = λ q. absurd (q n) }
told_by x s u (Some Logarithm) w = record { same = λ q. refl; fault = λ q. w }
told_by x s u (Some NotFinite) w = record { same = λ q. refl; fault = λ q. w }

demand_told : (x : DemandTask) (salts : ℕ → Salt) (s : Zoned DemandState) → DemandTold s (demand_from_run x salts s) (demand_substep x salts s)
unfolding demand_substep outcome_of
demand_told x salts s = told_by x s (demand_from_run x salts s) (demand_from_run x salts s).fault refl

module _ (x : DemandTask) (salts : ℕ → Salt) where
  demand_stops :
      (s : Zoned DemandState) (e : End) → (demand_substep x salts s).part.next ≡ Some e → (end_fault e ≡ None → ⊥) → (demand_from_run x salts (on_part turn_state (demand_substep x salts s))).fault ≡ end_fault e
  demand_stops s e h q =
      let k = demand_told x salts s in
      let r : next_fault (demand_substep x salts s).part.next ≡ None → ⊥ = λ z. q (sym (ap next_fault h) ∙ z) in
      subst (λ (v : Zoned DemandState). (demand_from_run x salts v).fault ≡ end_fault e) (sym (k.same r)) (k.fault r ∙ ap next_fault h)

  pub demand_run_faults : (k n : ℕ) (s : Zoned DemandState) → (end_fault (demand_run x salts k n s).part.end ≡ None → ⊥) → (demand_from_run x salts (on_part end_state (demand_run x salts k n s))).fault ≡ end_fault (demand_run x salts k n s).part.end
  demand_run_faults =
      demand_induction x salts (λ k n s d. (end_fault d.part.end ≡ None → ⊥) → (demand_from_run x salts (on_part end_state d)).fault ≡ end_fault d.part.end)
      (λ k n s q. absurd (q refl))
      (λ n s h q. absurd (q refl))
      (λ k n s e h q. demand_stops s e h q)
      (λ k n s d h r q. r q)

record HydronicTold (x : HydronicTask) (salts : ℕ → Salt) (s : Zoned HydronicState) (u : Substep) (t : Zoned HydronicTurn) : Type 0 where
  same : (next_fault t.part.next ≡ None → ⊥) → on_part hydronic_state t ≡ s
  fault : (next_fault t.part.next ≡ None → ⊥) → (u.fault ≡ next_fault t.part.next) ⊎ FractionTold x salts s u (next_fault t.part.next)

module _ (x : HydronicTask) (salts : ℕ → Salt) (n : ℕ) (s : Zoned HydronicState) (u : Substep) where
  abbrev Told : Zoned HydronicTurn → Type 0
  Told = HydronicTold x salts s u

  module _ (w : FractionDue x s.part u) (seconds reynold : Float) where
    told_replay : (f : Option Fault) → (fraction_from x salts s u).fault ≡ f → Told (replay_by x (n + 1) s seconds reynold (outcome (fraction_from x salts s u)) f)
    unfolding replay_by
    told_replay None h = record { same = λ q. absurd (q refl); fault = λ q. absurd (q refl) }
    told_replay (Some Logarithm) h = record { same = λ q. refl; fault = λ q. inr (record { due = w; fault = h }) }
    told_replay (Some NotFinite) h = record { same = λ q. refl; fault = λ q. inr (record { due = w; fault = h }) }

  told_replayed :
      FractionDue x s.part u →
      Told (replayed x salts n s (fraction_seconds x (absorbed_with s.part u) (heat_of u)) (reynold_between x.wet.inlet u.outlet x.wet.velocity x.wet.diameter))
  unfolding replayed outcome_of
  told_replayed w =
      by_test Told (eqb n x.card.budget) _ _
      (λ h. record { same = λ q. absurd (q refl); fault = λ q. absurd (q refl) })
      (λ h. told_replay w _ _ (fraction_from x salts s u).fault refl)

  told_whole : u.fault ≡ None → Told (hydronic_whole x salts n s (outcome u))
  unfolding hydronic_whole outcome_of
  told_whole w =
      by_test Told (clearly_below u.outlet x.wet.inlet) _ _
      (λ a. by_test Told (limit_reached (absorbed_with s.part u) x.limit) _ _
      (λ b. by_test Told (lt Constants.zero (heat_of u).0) _ _
      (λ c. told_replayed (record { worked = w; below = a; passed = b; heat = c }))
      (λ c. record { same = λ q. absurd (q refl); fault = λ q. absurd (q refl) }))
      (λ b. record { same = λ q. absurd (q refl); fault = λ q. absurd (q refl) }))
      (λ a. record { same = λ q. absurd (q refl); fault = λ q. absurd (q refl) })

  told_turn : (f : Option Fault) → u.fault ≡ f → Told (hydronic_by x salts n s (outcome u) f)
  unfolding hydronic_by
  told_turn None w = told_whole w
  told_turn (Some Logarithm) w = record { same = λ q. refl; fault = λ q. inl w }
  told_turn (Some NotFinite) w = record { same = λ q. refl; fault = λ q. inl w }

hydronic_told : (x : HydronicTask) (salts : ℕ → Salt) (n : ℕ) (s : Zoned HydronicState) → HydronicTold x salts s (whole_from x salts s) (hydronic_step x salts n s)
unfolding hydronic_step outcome_of
hydronic_told x salts n s = told_turn x salts (n + 1) s (whole_from x salts s) (whole_from x salts s).fault refl

module _ (x : HydronicTask) (salts : ℕ → Salt) where
  abbrev Ends : Zoned HydronicState → Option Fault → Type 0
  Ends s f = ((whole_from x salts s).fault ≡ f) ⊎ FractionTold x salts s (whole_from x salts s) f

  hydronic_stops : (n : ℕ) (s : Zoned HydronicState) (e : End) → (hydronic_step x salts n s).part.next ≡ Some e → (end_fault e ≡ None → ⊥) → Ends (on_part hydronic_state (hydronic_step x salts n s)) (end_fault e)
  hydronic_stops n s e h q =
      let k = hydronic_told x salts n s in
      let r : next_fault (hydronic_step x salts n s).part.next ≡ None → ⊥ = λ z. q (sym (ap next_fault h) ∙ z) in
      let w : Ends s (end_fault e) = rw (ap next_fault h) at (k.fault r) in
      subst (λ (v : Zoned HydronicState). Ends v (end_fault e)) (sym (k.same r)) w

  hydronic_ends : (k n : ℕ) (s : Zoned HydronicState) → (end_fault (hydronic_run x salts k n s).part.end ≡ None → ⊥) → Ends (on_part end_state (hydronic_run x salts k n s)) (end_fault (hydronic_run x salts k n s).part.end)
  hydronic_ends =
      hydronic_induction x salts (λ k n s d. (end_fault d.part.end ≡ None → ⊥) → Ends (on_part end_state d) (end_fault d.part.end))
      (λ n s q. absurd (q refl))
      (λ k n s h q. absurd (q refl))
      (λ k n s e b h q. hydronic_stops n s e h q)
      (λ k n s d b h r q. r q)

  at_test : (s : Zoned HydronicState) (f : Option Fault) → (f ≡ None → ⊥) → Ends s f → HydronicFault f x salts s
  at_test s f q (inl h) = inl (substep_fault x.card x.pcm salts (wet_input x x.card.substep s.part.reynold) s.zones f q h)
  at_test s f q (inr w) =
      inr (record { due = w.due; fault = substep_fault x.card x.pcm salts (fraction_input x s.part (whole_from x salts s)) s.zones f q w.fault })

  pub hydronic_run_faults :
      (k n : ℕ) (s : Zoned HydronicState) → (end_fault (hydronic_run x salts k n s).part.end ≡ None → ⊥) → HydronicFault (end_fault (hydronic_run x salts k n s).part.end) x salts (on_part end_state (hydronic_run x salts k n s))
  hydronic_run_faults k n s q = at_test (on_part end_state (hydronic_run x salts k n s)) (end_fault (hydronic_run x salts k n s).part.end) q (hydronic_ends k n s q)

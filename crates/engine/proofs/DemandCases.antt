-- 20 and 21 are given by a demand exactly in their cases; every other refusal of a step is from 22 on.
use Rattle.std.specs.Prelude.{None, Option, Some}
use mathlib.Core.Path.{◌≡◌, refl, sym, ◌∙◌}
use mathlib.Core.Logic.{◌⊎◌, inl, inr}
use mathlib.Core.Bool.{Bool, true, false, cond, ◌&&◌}
use Prim.Native.Nat.{ℕ, ◌≤◌}
use native.Mathlib.Decide.{ℕ_discrete}
use native.Mathlib.Omega.{arith}
use borrow.Author.Tests.{leb-true}
use lib.Dec.{T, leb, eqb}
use lib.Ieee.{Float, of_bits, neg, le, lt}
use Rattle.floats.specs.Constants.{zero, tolerance}
use Rattle.floats.proofs.Parts.{number}
use Rattle.floats.proofs.Compare.{le_number_r}
use Rattle.floats.proofs.Order.{le_is_not_lt, lt_is_not_le}
use Rattle.card.specs.Ranges.{within, million}
use Rattle.card.specs.declared.Card.{Card}
use Rattle.logic.proofs.Tests.{and_true, true_and}
use Rattle.battery.specs.Answer.{refused_with, plain_answer, answer_finite}
use Rattle.battery.specs.Call.{demand_in_range}
use Rattle.battery.specs.declared.Battery.{Battery}
use Rattle.battery.specs.declared.Answer.{Answer}
use Rattle.battery.specs.declared.Call.{Call}
use Rattle.battery.specs.declared.Call.TheVariants.{DemandEnergy, ChargeElectric, ChargeHydronic, HeatLoss, CloseTimestep, ReadStateOfCharge, ChargeEnergyDemand}
use Rattle.battery.specs.declared.Demand.{Demand}
use Rattle.runs.specs.Runs.{end_refusal}
use Rattle.runs.specs.Charge.{charge_battery, battery_heat_loss, charge_energy_demand}
use Rattle.engine_replies.specs.Classes.{service_class, unserved}
use Rattle.engine_replies.specs.Replies.{checked, unless_refused, demand_answer, closed_battery, run_answer, charged_answer, cooled_answer}
use Rattle.engine.specs.Steps.{demand_ran, demand_from, demand_given, demand_energy, charge, heat_loss, level, read_level, demand_to_level, wet_source, step_of}
use Rattle.runs.specs.declared.End.{End}
use Rattle.runs.specs.declared.End.TheVariants.{Done, Negative, Met, NoStep, Level, Limit, Time, OverBudget, NoLogarithm, NotFiniteRun}
use Rattle.runs.specs.Zoned.{Zoned}
use Rattle.runs.specs.declared.Stopped.{Stopped}
use Rattle.runs.specs.declared.Source.{Source}
use Rattle.runs.specs.declared.Source.TheVariants.{Electric}

-- ---- 0, or from 22 on

abbrev pub Late : ℕ → Type 0
Late r = (r ≡ 0) ⊎ (22 ≤ r)

end_late : (e : End) → Late (end_refusal e)
unfolding end_refusal
end_late Done = inl refl
end_late Negative = inl refl
end_late Met = inl refl
end_late NoStep = inl refl
end_late Level = inl refl
end_late Limit = inl refl
end_late Time = inl refl
end_late OverBudget = inr (omega arith)
end_late NoLogarithm = inr (omega arith)
end_late NotFiniteRun = inr (omega arith)

module _ (b : Battery) (a : Answer) (z : a.refusal ≡ 0) where
  checked_late : Late (checked b a).refusal
  unfolding checked refused_with
  checked_late = on (answer_finite a)
    where
      on : (t : Bool) → Late (cond t a (refused_with 23 b)).refusal
      on true = inl z
      on false = inr (omega arith)

  run_late : (end : End) → Late (unless_refused b end a).refusal
  unfolding unless_refused
  run_late end = on (eqb (end_refusal end) 0)
    where
      on : (t : Bool) → Late (cond t (checked b a) (refused_with (end_refusal end) b)).refusal
      on true = checked_late
      on false = unfold refused_with in end_late end

module _ (b : Battery) where
  pub charge_late : (version : ℕ) (source : Source) (target : Float) → Late (charge version b source target).refusal
  unfolding charge run_answer
  charge_late version source target = let r = charge_battery b source target in run_late b (charged_answer version b r) refl r.part.end

  pub loss_late : (floor : Bool) → Late (heat_loss b floor).refusal
  unfolding heat_loss run_answer
  loss_late floor = let r = battery_heat_loss b floor in run_late b (cooled_answer b r) refl r.part.end

  pub plain_late : (c : Battery) (energy : Float) → Late (checked b (plain_answer energy c)).refusal
  unfolding plain_answer
  plain_late c energy = checked_late b (plain_answer energy c) refl

  pub level_late : (s : Option Float) → Late (read_level b s).refusal
  unfolding read_level refused_with
  level_late None = inr (omega arith)
  level_late (Some soc) = plain_late b soc

  pub to_level_late : (most : Option Float) (target : Float) (s : Option Float) → Late (demand_to_level b most target s).refusal
  unfolding demand_to_level refused_with
  to_level_late most target None = inr (omega arith)
  to_level_late most target (Some soc) = plain_late b (charge_energy_demand b.card most target soc).0

-- ---- a demand

-- which way a demand goes
pub data DemandWay (b : Battery) (d : Demand) (r : ℕ) : Type 0 where
  late : Late r → DemandWay b d r
  twenty : le d.required tolerance ≡ false → d.feed ≡ None → r ≡ 20 → DemandWay b d r
  twenty_one : le d.required tolerance ≡ false → (feed : Float) → d.feed ≡ Some feed → d.commit ≡ true → unserved (service_class b.card d.service) ≡ true → r ≡ 21
      → DemandWay b d r

module _ (b : Battery) (d : Demand) where
  abbrev combi : Bool
  combi = unserved (service_class b.card d.service)

  from_way : le d.required tolerance ≡ false → (feed : Float) → d.feed ≡ Some feed → DemandWay b d (demand_from b d feed).refusal
  unfolding demand_from demand_answer
  from_way h feed e = on (d.commit && combi) refl
    where
      r : Zoned Stopped
      r = demand_ran b d feed

      on : (t : Bool) → (d.commit && combi) ≡ t → DemandWay b d (cond t (refused_with 21 b) (unless_refused b r.part.end (demand_answer b d r))).refusal
      on true k = let p = and_true d.commit combi k in unfold refused_with in twenty_one h feed e p.0 p.1 refl
      on false k = late (run_late b (demand_answer b d r) (unfold demand_answer in refl) r.part.end)

  given_way : le d.required tolerance ≡ false → (g : Option Float) → d.feed ≡ g → DemandWay b d (demand_given b d g).refusal
  unfolding demand_given refused_with
  given_way h None e = twenty h e refl
  given_way h (Some feed) e = from_way h feed e

  pub demand_way : DemandWay b d (demand_energy b d).refusal
  unfolding demand_energy
  demand_way = on (le d.required tolerance) refl
    where
      on : (t : Bool) → le d.required tolerance ≡ t → DemandWay b d (cond t (checked b (plain_answer zero b)) (demand_given b d d.feed)).refusal
      on true h = late (plain_late b b zero)
      on false h = given_way h d.feed refl

  pub demand_20 : le d.required tolerance ≡ false → d.feed ≡ None → (demand_energy b d).refusal ≡ 20
  unfolding demand_energy demand_given refused_with
  demand_20 h e = rw (h, e)

  pub demand_21 : le d.required tolerance ≡ false → (feed : Float) → d.feed ≡ Some feed → d.commit ≡ true → combi ≡ true → (demand_energy b d).refusal ≡ 21
  unfolding demand_energy demand_given demand_from refused_with
  demand_21 h feed e k s = rw (h, e, true_and k s)

-- a call is a demand, or its step gives neither 20 nor 21
pub demand_or_late : (version : ℕ) (b : Battery) (c : Call) → ((d : Demand) × (c ≡ DemandEnergy d)) ⊎ Late (step_of version b c).refusal
unfolding step_of
demand_or_late version b (DemandEnergy d) = inl (d, refl)
demand_or_late version b (ChargeElectric power target) = inr (charge_late b version (Electric power) target)
demand_or_late version b (ChargeHydronic h) = inr (charge_late b version (wet_source h) h.target)
demand_or_late version b (HeatLoss floor) = inr (loss_late b floor)
demand_or_late version b CloseTimestep = inr (plain_late b (closed_battery b) zero)
demand_or_late version b ReadStateOfCharge = inr (level_late b (level b))
demand_or_late version b (ChargeEnergyDemand most target) = inr (to_level_late b most target (level b))

pub late_not : (r : ℕ) → Late r → (r ≡ 20 → ⊥) × (r ≡ 21 → ⊥)
late_not r (inl z) = (λ h. omega arith, λ h. omega arith)
late_not r (inr z) = (λ h. omega arith, λ h. omega arith)

-- ---- in range, 'above' is 'not at most', and the class without a running time is type 0

module _ (c : Card) (d : Demand) (h : demand_in_range c d ≡ true) where
  service_small : d.service ≤ 3
  unfolding demand_in_range
  service_small = leb-true d.service 3 (and_true (leb d.service 3) _ h).0

  required_number : T (number d.required)
  unfolding demand_in_range within
  required_number =
      let p = and_true (leb d.service 3) _ h in
      let q = and_true (within (neg million) million d.required) _ p.1 in
      le_number_r (neg million) d.required (rw (and_true (le (neg million) d.required) (le d.required million) q.0).0 tt)

  tolerance_number : T (number tolerance)
  unfolding of_bits
  tolerance_number = tt

  pub required_above : le d.required tolerance ≡ false → lt tolerance d.required ≡ true
  required_above k = rw (lt_is_not_le tolerance d.required tolerance_number required_number, k)

  pub above_required : lt tolerance d.required ≡ true → le d.required tolerance ≡ false
  above_required k = rw (le_is_not_lt d.required tolerance required_number tolerance_number, k)

  pub class_zero : unserved (service_class c d.service) ≡ true → d.service ≡ 0
  unfolding unserved service_class
  class_zero k = on (ℕ_discrete d.service 1) (ℕ_discrete d.service 2) (ℕ_discrete d.service 3) k
    where
      no_class : {A : Type 0} → ◌≡◌ {A = Bool} false true → A
      no_class z = let q : ◌≡◌ {A = ℕ} 0 1 = cc in absurd (omega arith)

      on : Dec (d.service ≡ 1) → Dec (d.service ≡ 2) → Dec (d.service ≡ 3) → unserved (service_class c d.service) ≡ true → d.service ≡ 0
      on (yes e) y z k = no_class (sym (unfold unserved service_class in rw e) ∙ k)
      on (no x) (yes e) z k = no_class (sym (unfold unserved service_class in rw e) ∙ k)
      on (no x) (no y) (yes e) k = no_class (sym (unfold unserved service_class in rw e) ∙ k)
      on (no x) (no y) (no z) k = let s = service_small in omega arith

  pub zero_class : d.service ≡ 0 → unserved (service_class c d.service) ≡ true
  unfolding unserved service_class
  zero_class e = rw e

-- The steps in two versions: the same answers and refusals, but for the time of a hydronic charge.
use mathlib.Core.Path.{◌≡◌, refl, sym, ◌∙◌, ap}
use mathlib.Core.Bool.{Bool, true, false, cond, ◌&&◌}
use Prim.Native.Nat.{ℕ}
use borrow.Author.Tests.{eqb-true}
use lib.Dec.{eqb}
use lib.Ieee.{Float, fits, of_bits}
use Rattle.floats.specs.Constants.{zero}
use Rattle.floats.specs.Standins.{finite64}
use Rattle.card.specs.Card.{card_refusal}
use Rattle.card.specs.Version.{shows_hydronic_time}
use Rattle.battery.specs.Answer.{numbers_finite, answer_finite, refused_with}
use Rattle.battery.specs.Battery.{zones_finite}
use Rattle.battery.specs.Ledger.{totals_of, totals_finite}
use Rattle.battery.specs.declared.Answer.{Answer}
use Rattle.battery.specs.declared.Battery.{Battery}
use Rattle.battery.specs.declared.Hydronic.{Hydronic}
use Rattle.battery.specs.declared.Call.{Call}
use Rattle.battery.specs.declared.Call.TheVariants.{DemandEnergy, ChargeElectric, ChargeHydronic, HeatLoss, CloseTimestep, ReadStateOfCharge, ChargeEnergyDemand}
use Rattle.runs.specs.Runs.{end_refusal}
use Rattle.runs.specs.Hydronic.{hydronic_ended}
use Rattle.runs.specs.Charge.{electric_ended, charge_electric, charge_hydronic, charge_battery}
use Rattle.runs.specs.Zoned.{Zoned}
use Rattle.runs.specs.declared.End.{End}
use Rattle.runs.specs.declared.Source.TheVariants.{Electric}
use Rattle.runs.specs.declared.Stopped.{Stopped}
use Rattle.engine_replies.specs.Replies.{checked, unless_refused, charged_battery, charged_time, run_answer, charged_answer}
use Rattle.engine.specs.Steps.{charge, wet_source, step_of}
use Rattle.engine.specs.Times.{with_time}
use Rattle.engine.proofs.TimeFinite.{time_finite}

-- what a run's answer becomes, by its two tests
abbrev outcome : Battery → End → Bool → Bool → Answer → Answer
outcome b end answered finite a = cond answered (cond finite a (refused_with 23 b)) (refused_with (end_refusal end) b)

module _ (version other : ℕ) (b : Battery) (r : Zoned Stopped) where
  -- the time that a charge shows is finite where the run's is
  shown_finite : (v : ℕ) → finite64 r.part.time ≡ true → finite64 (charged_time v r.part) ≡ true
  unfolding charged_time finite64 fits of_bits
  shown_finite v h = on (shows_hydronic_time v)
    where
      on : (t : Bool) → finite64 (cond t r.part.time zero) ≡ true
      on true = h
      on false = refl

  -- the finite test of the answer, by that of its time
  abbrev tested : Bool → Bool
  tested t =
      (finite64 r.part.energy.0 && (finite64 zero && (t && totals_finite (totals_of (charged_battery b r)))))
      && zones_finite (charged_battery b r).zones (charged_battery b r).card.layers

  by_its_time : (v : ℕ) → answer_finite (charged_answer v b r) ≡ tested (finite64 (charged_time v r.part))
  unfolding answer_finite numbers_finite run_answer
  by_its_time v = refl

  same_test : finite64 r.part.time ≡ true → answer_finite (charged_answer version b r) ≡ answer_finite (charged_answer other b r)
  same_test h = by_its_time version ∙ ap tested (shown_finite version h ∙ sym (shown_finite other h)) ∙ sym (by_its_time other)

  alike : (end_refusal r.part.end ≡ 0 → finite64 r.part.time ≡ true)
      → unless_refused b r.part.end (charged_answer version b r) ≡ with_time (unless_refused b r.part.end (charged_answer version b r)).time (unless_refused b r.part.end (charged_answer other b r))
  unfolding unless_refused checked run_answer refused_with
  alike finite = on (eqb (end_refusal r.part.end) 0) (λ e. same_test (finite (eqb-true (end_refusal r.part.end) 0 e)))
    where
      a : Answer
      a = charged_answer version b r

      o : Answer
      o = charged_answer other b r

      both : (q : Bool) → cond q a (refused_with 23 b) ≡ with_time (cond q a (refused_with 23 b)).time (cond q o (refused_with 23 b))
      both true = unfold run_answer in refl
      both false = unfold refused_with in refl

      on : (p : Bool) → (p ≡ true → answer_finite a ≡ answer_finite o)
          → outcome b r.part.end p (answer_finite a) a ≡ with_time (outcome b r.part.end p (answer_finite a) a).time (outcome b r.part.end p (answer_finite o) o)
      on true same = rw (same refl) (both (answer_finite o))
      on false same = unfold refused_with in refl

  -- a charge without a time
  timeless : r.part.time ≡ zero → charged_answer version b r ≡ charged_answer other b r
  timeless h = ap (λ (t : Float). run_answer t r.part (charged_battery b r)) (none version ∙ sym (none other))
    where
      none : (v : ℕ) → charged_time v r.part ≡ zero
      none v = unfold charged_time in on (shows_hydronic_time v)
        where
          on : (t : Bool) → cond t r.part.time zero ≡ zero
          on true = h
          on false = refl

module _ (version other : ℕ) (b : Battery) where
  pub hydronic_alike : card_refusal version b.card ≡ 0 → (w : Hydronic)
      → step_of version b (ChargeHydronic w) ≡ with_time (step_of version b (ChargeHydronic w)).time (step_of other b (ChargeHydronic w))
  unfolding step_of charge charge_battery wet_source charge_hydronic hydronic_ended
  hydronic_alike good w = alike version other b (charge_battery b (wet_source w) w.target) (time_finite version b w good)

  -- every other kind
  pub others_equal : (call : Call) → ((w : Hydronic) → call ≡ ChargeHydronic w → ⊥) → step_of version b call ≡ step_of other b call
  unfolding step_of charge charge_battery charge_electric electric_ended
  others_equal (DemandEnergy d) h = refl
  others_equal (ChargeElectric power target) h =
      let r = charge_battery b (Electric power) target in
      ap (unless_refused b r.part.end) (timeless version other b r refl)
  others_equal (ChargeHydronic w) h = absurd (h w refl)
  others_equal (HeatLoss floor) h = refl
  others_equal CloseTimestep h = refl
  others_equal ReadStateOfCharge h = refl
  others_equal (ChargeEnergyDemand most target) h = refl

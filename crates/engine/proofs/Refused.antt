-- Why a call is refused with 22 to 25: the run's end, an answer that is not finite, or the level.
use Rattle.std.specs.Prelude.{None, Option, Some}
use mathlib.Core.Path.{◌≡◌, refl, sym, ◌∙◌}
use mathlib.Core.Bool.{Bool, false, ◌&&◌}
use mathlib.Core.Logic.{◌⊎◌, inl, inr}
use Prim.Native.Nat.{ℕ, ◌≤◌}
use native.Mathlib.Omega.{arith}
use lib.Dec.{eqb, eqb→eq}
use lib.Ieee.{Float, le}
use lib.Ieee.Bits.{is_true}
use Rattle.floats.specs.Constants.{zero, tolerance}
use Rattle.logic.proofs.Branch.{by_test}
use Rattle.battery.specs.Answer.{refused_with, plain_answer, answer_finite}
use Rattle.battery.specs.declared.Battery.{Battery}
use Rattle.battery.specs.declared.Demand.{Demand}
use Rattle.battery.specs.declared.Answer.{Answer}
use Rattle.battery.specs.declared.Call.{Call}
use Rattle.battery.specs.declared.Call.TheVariants.{DemandEnergy, ChargeElectric, ChargeHydronic, HeatLoss, CloseTimestep, ReadStateOfCharge, ChargeEnergyDemand}
use Rattle.battery.proofs.AnswerLaws.{plain_answers}
use Rattle.runs.specs.declared.End.{End}
use Rattle.runs.specs.Runs.{end_refusal}
use Rattle.runs.specs.Charge.{charge_battery, battery_heat_loss, charge_energy_demand}
use Rattle.runs.specs.declared.Source.{Source}
use Rattle.runs.specs.declared.Source.TheVariants.{Electric}
use Rattle.engine_replies.specs.Classes.{service_class, unserved}
use Rattle.engine_replies.specs.Replies.{checked, unless_refused, demand_answer, charged_battery, cooled_battery, closed_battery, charged_answer, cooled_answer}
use Rattle.engine_replies.proofs.Settled.{run_answers, demand_answers}
use Rattle.engine.specs.Steps.{demand_ran, demand_from, demand_given, demand_energy, charge, heat_loss, level, read_level, demand_to_level, wet_source, step_of}
use Rattle.engine.specs.Faults.{AnswerNotFinite, NoDemandNotFinite, LevelNotFinite}
use Rattle.engine.proofs.Promises.{refused_number}

-- by the refusal's number
abbrev pub RunWhy : ℕ → End → Answer → Type 0
RunWhy n end a = (end_refusal end ≡ n) ⊎ ((n ≡ 23) × AnswerNotFinite end a)

pub record DemandWhy (n : ℕ) (b : Battery) (d : Demand) : Type 0 where
  pub asked : le d.required tolerance ≡ false
  pub feed : Float
  pub given : d.feed ≡ Some feed
  pub why : RunWhy n (demand_ran b d feed).part.end (demand_answer b d (demand_ran b d feed))

abbrev pub LevelWhy : ℕ → Battery → (Float → Float) → Type 0
LevelWhy n b energy = ((n ≡ 25) × (level b ≡ None)) ⊎ ((n ≡ 23) × LevelNotFinite b energy)

abbrev pub ChargeWhy : ℕ → ℕ → Battery → Source → Float → Type 0
ChargeWhy n version b source target = RunWhy n (charge_battery b source target).part.end (charged_answer version b (charge_battery b source target))

abbrev pub Why : ℕ → ℕ → Battery → Call → Type 0
Why n version b (DemandEnergy d) = ((n ≡ 23) × NoDemandNotFinite b d) ⊎ DemandWhy n b d
Why n version b (ChargeElectric power target) = ChargeWhy n version b (Electric power) target
Why n version b (ChargeHydronic h) = ChargeWhy n version b (wet_source h) h.target
Why n version b (HeatLoss floor) = RunWhy n (battery_heat_loss b floor).part.end (cooled_answer b (battery_heat_loss b floor))
Why n version b CloseTimestep = (n ≡ 23) × (answer_finite (plain_answer zero (closed_battery b)) ≡ false)
Why n version b ReadStateOfCharge = LevelWhy n b (λ soc. soc)
Why n version b (ChargeEnergyDemand most target) = LevelWhy n b (λ soc. (charge_energy_demand b.card most target soc).0)

module _ (n : ℕ) (l : 22 ≤ n) (b : Battery) where
  checked_why : (a : Answer) → a.refusal ≡ 0 → (checked b a).refusal ≡ n → (n ≡ 23) × (answer_finite a ≡ false)
  unfolding checked
  checked_why a z =
      let m = refused_number 23 b in
      by_test (λ (c : Answer). c.refusal ≡ n → (n ≡ 23) × (answer_finite a ≡ false)) (answer_finite a) a (refused_with 23 b)
      (λ t h. absurd (omega arith))
      (λ t h. (sym h ∙ m, t))

  run_why : (end : End) (a : Answer) → a.refusal ≡ 0 → (unless_refused b end a).refusal ≡ n → RunWhy n end a
  unfolding unless_refused
  run_why end a z =
      by_test (λ (c : Answer). c.refusal ≡ n → RunWhy n end a) (eqb (end_refusal end) 0) (checked b a) (refused_with (end_refusal end) b)
      (λ t h. let w = checked_why a z h in inr (w.0, record { ended = eqb→eq (end_refusal end) 0 t; found = w.1 }))
      (λ t h. inl (sym (refused_number (end_refusal end) b) ∙ h))

  module _ (d : Demand) (asked : le d.required tolerance ≡ false) where
    demand_from_lem : (feed : Float) → d.feed ≡ Some feed → (demand_from b d feed).refusal ≡ n → DemandWhy n b d
    unfolding demand_from
    demand_from_lem feed e =
        let r = demand_ran b d feed in
        let m = refused_number 21 b in
        by_test (λ (c : Answer). c.refusal ≡ n → DemandWhy n b d) (d.commit && unserved (service_class b.card d.service)) (refused_with 21 b) (unless_refused b r.part.end (demand_answer b d r))
        (λ t h. absurd (omega arith))
        (λ t h. record { asked = asked; feed = feed; given = e; why = run_why r.part.end (demand_answer b d r) (demand_answers b d r) h })

    demand_given_lem : (g : Option Float) → d.feed ≡ g → (demand_given b d g).refusal ≡ n → DemandWhy n b d
    unfolding demand_given
    demand_given_lem None e h = let m = refused_number 20 b in absurd (omega arith)
    demand_given_lem (Some feed) e h = demand_from_lem feed e h

  demand_why : (d : Demand) → (demand_energy b d).refusal ≡ n → ((n ≡ 23) × NoDemandNotFinite b d) ⊎ DemandWhy n b d
  unfolding demand_energy
  demand_why d =
      by_test (λ (c : Answer). c.refusal ≡ n → ((n ≡ 23) × NoDemandNotFinite b d) ⊎ DemandWhy n b d) (le d.required tolerance) (checked b (plain_answer zero b)) (demand_given b d d.feed)
      (λ t h. let w = checked_why (plain_answer zero b) (plain_answers zero b) h in inl (w.0, record { asked = is_true (le d.required tolerance) t; found = w.1 }))
      (λ t h. inr (demand_given_lem d t d.feed refl h))

  charge_why : (version : ℕ) (source : Source) (target : Float) → (charge version b source target).refusal ≡ n → ChargeWhy n version b source target
  unfolding charge
  charge_why version source target h =
      let r = charge_battery b source target in
      run_why r.part.end (charged_answer version b r) (run_answers _ r.part (charged_battery b r)) h

  loss_why : (floor : Bool) → (heat_loss b floor).refusal ≡ n → RunWhy n (battery_heat_loss b floor).part.end (cooled_answer b (battery_heat_loss b floor))
  unfolding heat_loss
  loss_why floor h =
      let r = battery_heat_loss b floor in
      run_why r.part.end (cooled_answer b r) (run_answers _ r.part (cooled_battery b r)) h

  level_why : (s : Option Float) → level b ≡ s → (read_level b s).refusal ≡ n → LevelWhy n b (λ soc. soc)
  unfolding read_level
  level_why None e h = inl (sym h ∙ refused_number 25 b, e)
  level_why (Some soc) e h =
      let w = checked_why (plain_answer soc b) (plain_answers soc b) h in
      inr (w.0, record { soc = soc; read = e; found = w.1 })

  to_level_why :
      (most : Option Float) (target : Float) (s : Option Float) → level b ≡ s → (demand_to_level b most target s).refusal ≡ n →
      LevelWhy n b (λ soc. (charge_energy_demand b.card most target soc).0)
  unfolding demand_to_level
  to_level_why most target None e h = inl (sym h ∙ refused_number 25 b, e)
  to_level_why most target (Some soc) e h =
      let g = (charge_energy_demand b.card most target soc).0 in
      let w = checked_why (plain_answer g b) (plain_answers g b) h in
      inr (w.0, record { soc = soc; read = e; found = w.1 })

pub refused_why : (n : ℕ) → 22 ≤ n → (version : ℕ) (b : Battery) (call : Call) → (step_of version b call).refusal ≡ n → Why n version b call
unfolding step_of
refused_why n l version b (DemandEnergy d) h = demand_why n l b d h
refused_why n l version b (ChargeElectric power target) h = charge_why n l b version (Electric power) target h
refused_why n l version b (ChargeHydronic w) h = charge_why n l b version (wet_source w) w.target h
refused_why n l version b (HeatLoss floor) h = loss_why n l b floor h
refused_why n l version b CloseTimestep h = checked_why n l b (plain_answer zero (closed_battery b)) (plain_answers zero (closed_battery b)) h
refused_why n l version b ReadStateOfCharge h = level_why n l b (level b) refl h
refused_why n l version b (ChargeEnergyDemand most target) h = to_level_why n l b most target (level b) refl h

-- Answers whose zones lie apart: where a reply is an answer or a refusal, and what each kind's reply makes.
use mathlib.Core.Path.{◌≡◌, refl, sym, ◌∙◌, ap}
use mathlib.Core.Bool.{Bool, true, false, cond}
use mathlib.Core.List.{List}
use Prim.Native.Nat.{ℕ}
use borrow.Author.Tests.{eqb-true}
use lib.Dec.{eqb}
use lib.Ieee.{Float}
use Rattle.floats.specs.Constants.{zero}
use Rattle.battery.specs.declared.Battery.{Battery}
use Rattle.battery.specs.declared.Demand.{Demand}
use Rattle.battery.specs.declared.Totals.{Totals}
use Rattle.battery.specs.declared.Ledger.{Ledger}
use Rattle.battery.specs.declared.Answer.{Answer}
use Rattle.battery.specs.declared.Reply.{Reply}
use Rattle.battery.specs.Answer.{refused_with, plain_answer, answer_with, plain_reply, settled}
use Rattle.std.specs.Prelude.{Ok, Err}
use Rattle.refusals.specs.Number.{number}
use Rattle.refusals.specs.declared.Refusal.{Refusal}
use Rattle.battery.specs.Ledger.{whole, renewed_battery}
use Rattle.runs.specs.declared.End.{End}
use Rattle.runs.specs.declared.Stopped.{Stopped}
use Rattle.runs.specs.Runs.{end_refusal}
use Rattle.runs.specs.Zoned.{Zoned, AsDefined}
use Rattle.engine_replies.specs.declared.totals.ServiceClass.{ServiceClass}
use Rattle.engine_replies.specs.Totals.{served_totals, charged_totals, closed_totals}
use Rattle.engine_replies.specs.Classes.{service_class}
use Rattle.engine_replies.specs.Replies.{checked, unless_refused, served, demand_kept, demand_reply, demand_answer, charged_battery, cooled_battery, charged_time, run_reply, run_answer, charged_answer, cooled_answer, closed_battery}

-- where a call is refused, with the refusal's number
pub settled_refusal : (l : Ledger) (before zones : List Float) (r : Refusal) → settled l before (Err r) zones ≡ refused_with (number r) (whole l before)
unfolding settled
settled_refusal l before zones r = refl

module _ (l : Ledger) (before zones : List Float) (r : Reply) where
  pub settled_answer : settled l before (Ok r) zones ≡ answer_with l r zones
  unfolding settled
  settled_answer = refl

  -- a reply without a run
  pub plain_with :
      (energy : Float) (totals : Totals) → r ≡ plain_reply energy totals →
      answer_with l r zones ≡ plain_answer energy (renewed_battery l totals zones)
  unfolding plain_answer
  plain_with energy totals e = rw e

  pub closed_with :
      (energy : Float) (totals : Totals) → totals ≡ closed_totals l → r ≡ plain_reply energy totals →
      answer_with l r zones ≡ plain_answer energy (closed_battery (whole l zones))
  unfolding plain_answer closed_battery
  closed_with energy totals t e = rw (e, t)

-- an answer to a run is no refusal
pub run_answers : (time : Float) (s : Stopped) (b : Battery) → (run_answer time s b).refusal ≡ 0
unfolding run_answer
run_answers time s b = refl

pub demand_answers : (b : Battery) (d : Demand) (r : Zoned Stopped) → (demand_answer b d r).refusal ≡ 0
unfolding demand_answer
demand_answers b d r = refl

-- An answer to a run, where the run's zones lie apart: if the run is refused they are not shown.

pub run_end : (zones : List Float) (s : Stopped) (e : Zoned Stopped) → AsDefined (end_refusal s.end) s zones e → e.part.end ≡ s.end
run_end zones s e same = sym (ap (λ (x : Stopped). x.end) same.0)

module _ (l : Ledger) (before zones : List Float) (s : Stopped) (e : Zoned Stopped) (same : AsDefined (end_refusal s.end) s zones e) where
  by_definition : (a : Answer) → unless_refused (whole l before) s.end a ≡ unless_refused (whole l before) e.part.end a
  by_definition a = sym (ap (λ (end : End). unless_refused (whole l before) end a) (run_end zones s e same))

  answered : (a b : Answer) → (zones ≡ e.zones → a ≡ b) → unless_refused (whole l before) s.end a ≡ unless_refused (whole l before) e.part.end b
  unfolding unless_refused
  answered a b f = by_definition a ∙ by (eqb (end_refusal e.part.end) 0) (λ h. eqb-true (end_refusal e.part.end) 0 h)
    where
      by : (t : Bool) → (t ≡ true → end_refusal e.part.end ≡ 0) →
          cond t (checked (whole l before) a) (refused_with (end_refusal e.part.end) (whole l before)) ≡ cond t (checked (whole l before) b) (refused_with (end_refusal e.part.end) (whole l before))
      by true g = ap (checked (whole l before)) (f (same.1 (sym (ap end_refusal (run_end zones s e same)) ∙ g refl)))
      by false g = refl

  module _ (r : Reply) where
    pub charged_with :
        (version : ℕ) (time : Float) (totals : Totals) → time ≡ charged_time version s → totals ≡ charged_totals l s → r ≡ run_reply time s totals →
        unless_refused (whole l before) s.end (answer_with l r zones) ≡ unless_refused (whole l before) e.part.end (charged_answer version (whole l before) e)
    unfolding run_answer charged_battery
    charged_with version time totals shown t g = answered _ _ (λ z. rw (g, shown, t, z, same.0))

    pub cooled_with :
        r ≡ run_reply zero s l.totals →
        unless_refused (whole l before) s.end (answer_with l r zones) ≡ unless_refused (whole l before) e.part.end (cooled_answer (whole l before) e)
    unfolding run_answer cooled_battery
    cooled_with g = answered _ _ (λ z. rw (g, z, same.0))

    pub committed_with :
        (d : Demand) (class : ServiceClass) (totals : Totals) → d.commit ≡ true → class ≡ service_class l.card d.service →
        totals ≡ served_totals l class s → r ≡ demand_reply l s totals →
        unless_refused (whole l before) s.end (answer_with l r zones) ≡ unless_refused (whole l before) e.part.end (demand_answer (whole l before) d e)
    unfolding demand_answer demand_kept served
    committed_with d class totals h k t g = answered _ _ (λ z. rw (g, t, k, z, same.0, h))

    -- a trial's zones stay
    trial_answer : (d : Demand) → d.commit ≡ false → r ≡ demand_reply l s l.totals → answer_with l r before ≡ demand_answer (whole l before) d e
    unfolding demand_answer demand_kept
    trial_answer d h g = rw (g, same.0, h)

    pub trial_with :
        (d : Demand) → d.commit ≡ false → r ≡ demand_reply l s l.totals →
        unless_refused (whole l before) s.end (answer_with l r before) ≡ unless_refused (whole l before) e.part.end (demand_answer (whole l before) d e)
    trial_with d h g = by_definition _ ∙ ap (unless_refused (whole l before) e.part.end) (trial_answer d h g)

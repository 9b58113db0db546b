-- A call on a battery by value, through its ledger.
use mathlib.Core.Path.{◌≡◌, sym, ◌∙◌, subst}
use mathlib.Core.List.{List}
use Prim.Native.Nat.{ℕ}
use lib.Ieee.{Float}
use Rattle.std.specs.Prelude.{Result, Ok, Err}
use Rattle.refusals.specs.Number.{number}
use Rattle.refusals.specs.declared.Refusal.{Refusal}
use Rattle.battery.specs.declared.Battery.{Battery}
use Rattle.battery.specs.declared.Call.{Call}
use Rattle.battery.specs.declared.Ledger.{Ledger}
use Rattle.battery.specs.declared.Reply.{Reply}
use Rattle.battery.specs.Answer.{refused_with, answer_with, settled}
use Rattle.battery.specs.Ledger.{whole, ledger_of}
use Rattle.engine_replies.proofs.Settled.{settled_answer, settled_refusal}
use Rattle.engine.specs.Steps.{advance_of}

module _ (version : ℕ) (b : Battery) (call : Call) (l : Ledger) (zones : List Float) (r : Result Reply Refusal) (e : l ≡ ledger_of b)
    (h : settled l b.zones r zones ≡ advance_of version (whole l b.zones) call) where
  by_value : settled (ledger_of b) b.zones r zones ≡ advance_of version b call
  by_value = subst (λ (k : Ledger). settled k b.zones r zones ≡ advance_of version (whole k b.zones) call) e h

  pub by_value_answer : (reply : Reply) → r ≡ Ok reply → answer_with (ledger_of b) reply zones ≡ advance_of version b call
  by_value_answer reply q = sym (rw q (settled_answer (ledger_of b) b.zones zones reply)) ∙ by_value

  pub by_value_refused : (refusal : Refusal) → r ≡ Err refusal → refused_with (number refusal) b ≡ advance_of version b call
  by_value_refused refusal q = sym (rw q (settled_refusal (ledger_of b) b.zones zones refusal)) ∙ by_value

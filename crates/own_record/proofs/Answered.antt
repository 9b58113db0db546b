-- An answered step whose zones lie apart: its battery has at most 64 zones, and beyond them nothing changed.
use Rattle.std.specs.Prelude.{Ok, None, Option, Some}
use Prim.Native.Nat.{ℕ, ◌≤◌}
use mathlib.Core.Bool.{Bool, true, false, cond, ◌&&◌}
use mathlib.Core.Path.{◌≡◌, refl, sym, ◌∙◌, ap}
use mathlib.Core.List.{List}
use native.Mathlib.Omega.{arith}
use lib.Ieee.{Float}
use Rattle.logic.proofs.Branch.{by_test}
use Rattle.logic.proofs.Tests.{no_both}
use Rattle.card.specs.Version.{known_version}
use Rattle.card.specs.Extension.{Extension, extension_ok}
use Rattle.card.proofs.Accepted.{accepted_layers}
use Rattle.battery.specs.Answer.{refused_with, answer_with, settled}
use Rattle.battery.specs.Ledger.{whole}
use Rattle.battery.specs.declared.Answer.{Answer}
use Rattle.battery.specs.declared.Battery.{Battery}
use Rattle.battery.specs.declared.Ledger.{Ledger}
use Rattle.battery.specs.declared.Reply.{Reply}
use Rattle.battery.specs.Battery.{battery_accepted}
use Rattle.battery.specs.Places.{SameAbove}
use Rattle.battery.proofs.Accepted.{AcceptedBattery, accepted_battery}
use Rattle.battery.proofs.Zones.{same_above}
use Rattle.engine_replies.proofs.Settled.{settled_answer}
use Rattle.engine.proofs.Promises.{refused_number}
use Rattle.engine.proofs.AdvanceKeeps.{not_accepted_ten, advance_keeps_above, advance_answered_accepted}
use Rattle.sheet_calls.specs.Calls.{call_of}
use Rattle.own_record.specs.Record.{renewed_zones, advance_read, advance_extended, answer_own}
use Rattle.own_record.proofs.Zones.{renewed_whole}
use Rattle.battery.specs.declared.Call.{Call}

-- a call that is answered has been read, and its battery accepted
answered_accepted : (version : ℕ) (b : Battery) (read : Option Call) → (advance_read version b read).refusal ≡ 0 → battery_accepted version b ≡ true
unfolding advance_read refused_with
answered_accepted version b (Some call) h = advance_answered_accepted version b call h
answered_accepted version b None h = absurd (omega arith)

-- a battery that is not accepted is refused, whatever the call
pub not_accepted_read : (version : ℕ) (b : Battery) (read : Option Call) → battery_accepted version b ≡ false → advance_read version b read ≡ refused_with 10 b
unfolding advance_read
not_accepted_read version b None h = refl
not_accepted_read version b (Some call) h = not_accepted_ten version b call h

read_leaves_above : (version : ℕ) (b : Battery) (read : Option Call) → SameAbove b.card.layers b.zones (advance_read version b read).battery.zones
unfolding advance_read refused_with
read_leaves_above version b None = same_above b.card.layers b.zones
read_leaves_above version b (Some call) = advance_keeps_above version b call

-- nor is one whose extension is
pub not_accepted_extended : (version : ℕ) (extension : Extension) (b : Battery) (call : List ℕ) → (battery_accepted version b && extension_ok extension) ≡ false
    → advance_extended version extension b call ≡ refused_with 10 b
unfolding advance_extended
not_accepted_extended version extension b call = on (extension_ok extension) (battery_accepted version b) refl
  where
    on : (ok accepted : Bool) → battery_accepted version b ≡ accepted → (accepted && ok) ≡ false → cond ok (advance_read version b (call_of version extension call)) (refused_with 10 b) ≡ refused_with 10 b
    on true true e h = no_both h
    on true false e h = not_accepted_read version b (call_of version extension call) e
    on false accepted e h = refl

-- an accepted one leaves it to the call
pub accepted_extended : (version : ℕ) (extension : Extension) (b : Battery) (call : List ℕ) → extension_ok extension ≡ true
    → advance_extended version extension b call ≡ advance_read version b (call_of version extension call)
unfolding advance_extended
accepted_extended version extension b call h = rw h

extended_accepted : (version : ℕ) (extension : Extension) (b : Battery) (call : List ℕ) → (advance_extended version extension b call).refusal ≡ 0 → battery_accepted version b ≡ true
unfolding advance_extended
extended_accepted version extension b call =
    by_test (λ (a : Answer). a.refusal ≡ 0 → battery_accepted version b ≡ true) (extension_ok extension) _ _
    (λ t h. answered_accepted version b (call_of version extension call) h)
    (λ t h. let n = refused_number 10 b in absurd (omega arith))

extended_leaves_above : (version : ℕ) (extension : Extension) (b : Battery) (call : List ℕ) → SameAbove b.card.layers b.zones (advance_extended version extension b call).battery.zones
unfolding advance_extended
extended_leaves_above version extension b call =
    by_test (λ (a : Answer). SameAbove b.card.layers b.zones a.battery.zones) (extension_ok extension) _ _
    (λ t. read_leaves_above version b (call_of version extension call))
    (λ t. unfold refused_with in same_above b.card.layers b.zones)

-- the same in any version
own_accepted : (version : ℕ) (extension : Extension) (b : Battery) (call : List ℕ) → (answer_own version extension b call).refusal ≡ 0 → battery_accepted version b ≡ true
unfolding answer_own
own_accepted version extension b call =
    by_test (λ (a : Answer). a.refusal ≡ 0 → battery_accepted version b ≡ true) (known_version version) _ _
    (λ t h. extended_accepted version extension b call h)
    (λ t h. let n = refused_number 40 b in absurd (omega arith))

-- any call leaves what lies above the zones
pub own_leaves_above : (version : ℕ) (extension : Extension) (b : Battery) (call : List ℕ) → SameAbove b.card.layers b.zones (answer_own version extension b call).battery.zones
unfolding answer_own
own_leaves_above version extension b call =
    by_test (λ (a : Answer). SameAbove b.card.layers b.zones a.battery.zones) (known_version version) _ _
    (λ t. extended_leaves_above version extension b call)
    (λ t. unfold refused_with in same_above b.card.layers b.zones)

module _ (version : ℕ) (extension : Extension) (l : Ledger) (call : List ℕ) (before own : List Float) (r : Reply)
    (said : settled l before (Ok r) own ≡ answer_own version extension (whole l before) call) where
  pub answer_is : answer_with l r own ≡ answer_own version extension (whole l before) call
  answer_is = sym (settled_answer l before own r) ∙ said

  accepted : AcceptedBattery version (whole l before)
  accepted =
      accepted_battery version (whole l before)
      (own_accepted version extension (whole l before) call (sym (ap (λ (a : Answer). a.refusal) answer_is)))

  pub answered_few : l.count ≤ 64
  answered_few =
      let e = accepted.count in
      let h = (accepted_layers version l.card accepted.card).1 in
      omega arith

  -- so the first zones are all that is to be stored
  pub answered_zones : renewed_zones before own l.count ≡ own
  answered_zones =
      renewed_whole before own l.count
      (rw (accepted.count, ap (λ (a : Answer). a.battery.zones) answer_is) (own_leaves_above version extension (whole l before) call))

-- The caller's own record: a refused call leaves it as it was, and any call what lies above its zones.
use Rattle.std.specs.Prelude.{None, Option, Some}
use Prim.Native.Nat.{ℕ}
use mathlib.Core.Path.{◌≡◌, refl, ap}
use mathlib.Core.Bool.{true, false}
use mathlib.Core.List.{List}
use Rattle.logic.proofs.Branch.{by_test}
use Rattle.card.specs.Version.{known_version}
use Rattle.card.specs.Extension.{Extension, extension_ok}
use Rattle.battery.specs.Answer.{refused_with}
use Rattle.battery.specs.declared.Answer.{Answer}
use Rattle.battery.specs.declared.Battery.{Battery}
use Rattle.battery.specs.Places.{SameAbove}
use Rattle.engine.proofs.AdvanceKeeps.{advance_refused_keeps_state}
use Rattle.sheet_calls.specs.Calls.{call_of}
use Rattle.own_record.specs.Record.{shown_of, advanced_by, advance_read, advance_extended, answer_own, advanced_of, extension_of, with_battery, own_advanced}
use Rattle.own_record.specs.declared.OwnRecord.{OwnRecord}
use Rattle.own_record.proofs.Answered.{own_leaves_above}
use Rattle.battery.specs.declared.Call.{Call}

-- the version, before all
module _ (version : ℕ) (extension : Extension) (b : Battery) (call : List ℕ) where
  pub own_known : known_version version ≡ true → answer_own version extension b call ≡ advance_extended version extension b call
  unfolding answer_own
  own_known known = rw known

  pub own_unknown : known_version version ≡ false → answer_own version extension b call ≡ refused_with 40 b
  unfolding answer_own
  own_unknown unknown = rw unknown

read_stays : (version : ℕ) (b : Battery) (r : Option Call) → ((advance_read version b r).refusal ≡ 0 → ⊥) → (advance_read version b r).battery ≡ b
unfolding advance_read refused_with
read_stays version b None h = refl
read_stays version b (Some call) h = advance_refused_keeps_state version b call h

extended_stays : (version : ℕ) (extension : Extension) (b : Battery) (call : List ℕ) → ((advance_extended version extension b call).refusal ≡ 0 → ⊥)
    → (advance_extended version extension b call).battery ≡ b
unfolding advance_extended
extended_stays version extension b call =
    by_test (λ (a : Answer). (a.refusal ≡ 0 → ⊥) → a.battery ≡ b) (extension_ok extension) _ _
    (λ t h. read_stays version b (call_of version extension call) h)
    (λ t h. unfold refused_with in refl)

own_stays : (version : ℕ) (extension : Extension) (b : Battery) (call : List ℕ) → ((answer_own version extension b call).refusal ≡ 0 → ⊥) → (answer_own version extension b call).battery ≡ b
unfolding answer_own
own_stays version extension b call =
    by_test (λ (a : Answer). (a.refusal ≡ 0 → ⊥) → a.battery ≡ b) (known_version version) _ _
    (λ t h. extended_stays version extension b call h)
    (λ t h. unfold refused_with in refl)

pub refused_battery_stays : (version : ℕ) (extension : Extension) (b : Battery) (call : List ℕ) → ((advanced_of version extension b call).shown.refusal ≡ 0 → ⊥)
    → (advanced_of version extension b call).battery ≡ b
unfolding advanced_of advanced_by shown_of
refused_battery_stays version extension b call h = own_stays version extension b call h

-- the struct that the caller keeps
pub refused_record_stays : (version : ℕ) (own : OwnRecord) (call : List ℕ) → ((own_advanced version own call).shown.refusal ≡ 0 → ⊥) → (own_advanced version own call).own ≡ own
unfolding own_advanced
refused_record_stays version own call h = ap (with_battery own) (refused_battery_stays version (extension_of version own) own.battery call h)

pub places_above_stay : (version : ℕ) (own : OwnRecord) (call : List ℕ)
    → SameAbove own.battery.card.layers own.battery.zones (own_advanced version own call).own.battery.zones
unfolding own_advanced advanced_of advanced_by
places_above_stay version own call = own_leaves_above version (extension_of version own) own.battery call

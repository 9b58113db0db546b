-- The own record after a call, and what is shown, as the callees say.
use mathlib.Core.Path.{◌≡◌, ap, subst}
use Prim.Native.Nat.{ℕ}
use mathlib.Core.List.{List}
use lib.Ieee.{Float}
use Rattle.std.specs.Prelude.{Result}
use Rattle.refusals.specs.declared.Refusal.{Refusal}
use Rattle.battery.specs.Ledger.{whole as whole_of, ledger_of}
use Rattle.battery.specs.declared.Ledger.{Ledger}
use Rattle.battery.specs.declared.Reply.{Reply}
use Rattle.own_record.specs.Record.{Advanced, answered_with, advanced_of, extension_of, with_battery, own_advanced}
use Rattle.own_record.specs.declared.OwnRecord.{OwnRecord}

-- the record with its totals renewed, where the call is answered, and these zones
abbrev pub after : OwnRecord → Result Reply Refusal → List Float → OwnRecord
after h r zs = with_battery h (answered_with (ledger_of h.battery) r zs).battery

-- what `advance_apart` says of the lent zones and extension, of the record itself
module _ (version : ℕ) (h : OwnRecord) (l : Ledger) (r : Result Reply Refusal) (zs : List Float) (call : List ℕ) (e : l ≡ ledger_of h.battery)
    (said : answered_with l r zs ≡ advanced_of version (extension_of version h) (whole_of l h.battery.zones) call) where
  told : answered_with (ledger_of h.battery) r zs ≡ advanced_of version (extension_of version h) h.battery call
  told = subst (λ (m : Ledger). answered_with m r zs ≡ advanced_of version (extension_of version h) (whole_of m h.battery.zones) call) e said

  pub shown_told : (answered_with (ledger_of h.battery) r zs).shown ≡ (own_advanced version h call).shown
  unfolding own_advanced
  shown_told = ap (λ (x : Advanced). x.shown) told

  pub after_told : after h r zs ≡ (own_advanced version h call).own
  unfolding own_advanced
  after_told = ap (λ (x : Advanced). with_battery h x.battery) told

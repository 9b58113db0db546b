-- What a call leaves, way by way through its tests.
use Rattle.std.specs.Prelude.{None, Option, Some}
use mathlib.Core.Path.{◌≡◌, refl, ◌∙◌}
use mathlib.Core.List.{List}
use mathlib.Core.Bool.{true, false}
use Prim.Native.Nat.{ℕ}
use Rattle.battery.specs.declared.Call.{Call}
use Rattle.battery.specs.Answer.{refused_with}
use Rattle.battery.specs.Battery.{battery_accepted}
use Rattle.engine.specs.Steps.{advance_of}
use Rattle.engine.proofs.AdvanceKeeps.{not_accepted_ten}
use Rattle.sheet_records.specs.Cards.{extension_at}
use Rattle.sheet_records.specs.Records.{record_of}
use Rattle.sheet_calls.specs.Calls.{call_of}
use Rattle.card.specs.Version.{known_version}
use Rattle.entries.specs.Entry.{unchanged, line_after, record_laid}
use Rattle.entries.proofs.Entering.{line_ten}
use Rattle.entries.proofs.Opening.{version_known, version_unknown}
use Rattle.heat_battery.specs.Entries.{entry_read, entry_known, entry_of}

module _ (version : ℕ) (rec call free : List ℕ) where
  -- the version, before all
  pub entry_known_lem : known_version version ≡ true → entry_of version rec call free ≡ entry_known version rec call free
  unfolding entry_of
  entry_known_lem known = version_known version rec free (entry_known version rec call free) known

  pub entry_unknown : known_version version ≡ false → entry_of version rec call free ≡ unchanged 40 rec free
  unfolding entry_of
  entry_unknown unknown = version_unknown version rec free (entry_known version rec call free) unknown

  module _ (known : known_version version ≡ true) where
    pub entry_unlaid : record_laid version rec ≡ false → entry_of version rec call free ≡ unchanged 10 rec free
    unfolding entry_known
    entry_unlaid h = entry_known_lem known ∙ rw h

    module _ (l : record_laid version rec ≡ true) where
      pub entry_bad : call_of version (extension_at version rec) call ≡ None → entry_of version rec call free ≡ unchanged 10 rec free
      unfolding entry_known entry_read
      entry_bad h = entry_known_lem known ∙ rw (l, h)

      pub entry_read_lem : (c : Call) → call_of version (extension_at version rec) call ≡ Some c → entry_of version rec call free ≡ line_after version rec call free (advance_of version (record_of version rec) c)
      unfolding entry_known entry_read
      entry_read_lem c h = entry_known_lem known ∙ rw (l, h)

  -- 10 for a battery that is not accepted, whatever the call's bytes
  module _ (n : battery_accepted version (record_of version rec) ≡ false) where
    pub read_not_accepted : (r : Option Call) → entry_read version rec call free r ≡ unchanged 10 rec free
    unfolding entry_read refused_with
    read_not_accepted None = refl
    read_not_accepted (Some c) = rw (not_accepted_ten version (record_of version rec) c n) (line_ten version rec call free (refused_with 10 (record_of version rec)) refl)

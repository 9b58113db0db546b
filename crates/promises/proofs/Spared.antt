-- The calls that get a line are calls of a known kind, in their ranges.
use Rattle.std.specs.Prelude.{Some}
use Prim.Native.Nat.{ℕ}
use mathlib.Core.Path.{◌≡◌, refl, subst}
use mathlib.Core.List.{List, [], ◌∷◌}
use mathlib.Core.Bool.{true}
use lib.ListN.{length, drop}
use Rattle.card.specs.Version.{known_version}
use Rattle.card.specs.Extension.{Extension}
use Rattle.card.specs.declared.Card.{Card}
use Rattle.battery.specs.Call.{call_in_range}
use Rattle.battery.specs.declared.Battery.{Battery}
use Rattle.battery.specs.declared.Call.{Call}
use Rattle.engine.specs.Steps.{step_of}
use Rattle.engine.proofs.StepKeeps.{step_keeps_card}
use Rattle.sheet_calls.specs.Calls.{call_of}
use Rattle.sheet_records.specs.Cards.{extension_at}
use Rattle.sheet_records.specs.Records.{record_bytes}
use Rattle.sheet_lines.specs.Lines.{line_bytes}
use Rattle.entries.specs.Entry.{unchanged}
use Rattle.heat_battery.specs.Lists.{ListedCall, AllGiven, no_line, spared, Encoded}
use Rattle.heat_battery.proofs.Encodings.{lined, Entered, kept_10, kept_11, stepped, entry_on_encoding, step_encoded, gets_line, free_rest_lem}
use Rattle.heat_battery.proofs.EqualSteps.{spared_more, given_is, nothing_used}

-- each of the calls is read, and its fields are in range
abbrev pub AllGood : ℕ → Extension → Card → List (List ℕ) → Type 0
AllGood version extension c [] = Unit
AllGood version extension c (call ∷ calls) = ((d : Call) × (call_of version extension call ≡ Some d) × (call_in_range version c d ≡ true)) × AllGood version extension c calls

module _ (version : ℕ) (known : known_version version ≡ true) (card : List ℕ) where
  pub spared_good : (calls : List ListedCall) → AllGiven version calls → (b : Battery) (rec free : List ℕ) → Encoded version card b rec → AllGood version (extension_at version card) b.card (spared rec free calls)
  unfolding spared no_line
  spared_good [] given b rec free e = tt
  spared_good (call ∷ calls) given b rec free e = on (λ b' rec' free' h. spared_good calls given.1 b' rec' free' h) (entry_on_encoding version card b rec e known call.bytes free)
    where
      on : ((b' : Battery) (rec' free' : List ℕ) → Encoded version card b' rec' → AllGood version (extension_at version card) b'.card (spared rec' free' calls)) → Entered version card b rec call.bytes free
          → AllGood version (extension_at version card) b.card (spared rec free (call ∷ calls))
      on ih (kept_10 h) = rw (spared_more rec free call calls (unchanged 10 rec free) (given_is version rec free call given.0 _ h), nothing_used rec free 10 refl) (ih b rec free e)
      on ih (kept_11 h) = rw (spared_more rec free call calls (unchanged 11 rec free) (given_is version rec free call given.0 _ h), nothing_used rec free 11 refl) (ih b rec free e)
      on ih (stepped d k i h room) =
          let s = step_of version b d in
          let rec' = record_bytes version card s.battery in
          let free' = drop (length (line_bytes version call.bytes s)) free in
          let others : AllGood version (extension_at version card) b.card (spared rec' free' calls) =
          subst (λ (x : Card). AllGood version (extension_at version card) x (spared rec' free' calls)) (step_keeps_card version b d) (ih s.battery rec' free' (step_encoded version card b rec e d)) in
          rw (spared_more rec free call calls (lined version card call.bytes free s) (given_is version rec free call given.0 _ h), gets_line version card b rec e call.bytes free d k, free_rest_lem version card b rec e call.bytes free d k)
          ((d, k, i), others)

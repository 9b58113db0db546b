-- Equal to the steps: after every list of calls the record and each line are the encodings of the steps' state and answer.
use mathlib.Core.Path.{◌≡◌, refl, sym, ap, ◌∙◌}
use mathlib.Core.List.{List, [], ◌∷◌, ◌++◌}
use mathlib.Core.Bool.{true, false, cond}
use Prim.Native.Nat.{ℕ, ◌+◌, ◌-◌, ◌≤◌}
use native.Mathlib.Omega.{arith}
use lib.ListN.{length, take, drop, length-append, length-drop}
use lib.Seq.{drop-drop, take_at}
use lib.Ieee.{binary64}
use lib.Ieee.Bits.{of_bits-fits}
use Rattle.codec.specs.Bytes.{f64_of, over}
use Rattle.card.specs.Version.{known_version}
use Rattle.battery.specs.declared.Battery.{Battery}
use Rattle.battery.specs.declared.Answer.{Answer}
use Rattle.battery.specs.Battery.{fresh}
use Rattle.engine.specs.Steps.{step_of}
use Rattle.sheet_records.specs.Cards.{card_at, extension_at}
use Rattle.sheet_records.proofs.CardLaws.{fields_accepted, extension_accepted}
use Rattle.sheet_records.specs.Records.{record_bytes}
use Rattle.sheet_lines.specs.Lines.{line_bytes, opening_length, opening_bytes}
use Rattle.entries.specs.Entry.{After, unchanged, opened_with, open_of}
use Rattle.heat_battery.specs.Entries.{entry_of}
use Rattle.heat_battery.specs.Cases.{AcceptedBytes, Opens}
use Rattle.heat_battery.specs.Lists.{ListedCall, AllGiven, entry_to, no_line, line_taken, free_rest, record_after, free_after, written, spared, sheet_of, free_after_sheet, spared_of, last_record, answer_to, state_after, step_lines, Encoded, SameAsSteps, SheetOfSteps}
use Rattle.sheet_lines.proofs.Lengths.{length_opening_bytes}
use Rattle.sheet_lines.proofs.LineLaws.{opening_following}
use Rattle.entries.proofs.Opening.{opened, open_known_lem}
use Rattle.heat_battery.proofs.Encodings.{lined, Entered, kept_10, kept_11, stepped, entry_on_encoding, step_encoded, gets_line, line_taken_lem, free_rest_lem, answer_is}
use Rattle.battery.proofs.FreshGood.{fresh_good}

-- the folds over one call more, by what its entry left
module _ (rec free : List ℕ) (call : ListedCall) (calls : List ListedCall) (a : After) (e : entry_to rec free call ≡ a) where
  record_more : record_after rec free (call ∷ calls) ≡ record_after a.record' (free_rest a) calls
  unfolding record_after
  record_more = ap (λ (x : After). record_after x.record' (free_rest x) calls) e

  free_more : free_after rec free (call ∷ calls) ≡ free_after a.record' (free_rest a) calls
  unfolding free_after
  free_more = ap (λ (x : After). free_after x.record' (free_rest x) calls) e

  written_more : written rec free (call ∷ calls) ≡ take (line_taken a) a.sheet ++ written a.record' (free_rest a) calls
  unfolding written
  written_more = ap (λ (x : After). take (line_taken x) x.sheet ++ written x.record' (free_rest x) calls) e

  pub spared_more : spared rec free (call ∷ calls) ≡ cond (no_line a) (spared a.record' (free_rest a) calls) (call.bytes ∷ spared a.record' (free_rest a) calls)
  unfolding spared
  spared_more = ap (λ (x : After). cond (no_line x) (spared x.record' (free_rest x) calls) (call.bytes ∷ spared x.record' (free_rest x) calls)) e

-- a call with the sheet's own version
pub given_is : (version : ℕ) (rec free : List ℕ) (call : ListedCall) → call.version ≡ version → (a : After) → entry_of version rec call.bytes free ≡ a → entry_to rec free call ≡ a
given_is version rec free call g a e = ap (λ (v : ℕ). entry_of v rec call.bytes free) g ∙ e

-- ---- a list of calls

nothing_taken : (rec free : List ℕ) (n : ℕ) → no_line (unchanged n rec free) ≡ true → line_taken (unchanged n rec free) ≡ 0
unfolding line_taken
nothing_taken rec free n t = rw t

pub nothing_used : (rec free : List ℕ) (n : ℕ) → no_line (unchanged n rec free) ≡ true → free_rest (unchanged n rec free) ≡ free
unfolding free_rest
nothing_used rec free n t = rw (nothing_taken rec free n t)

module _ (version : ℕ) (card : List ℕ) (b : Battery) (rec free : List ℕ) (call : ListedCall) (calls : List ListedCall) where
  -- a call that 10 or 11 refuses leaves everything to the others
  skipped : (n : ℕ) → no_line (unchanged n rec free) ≡ true → entry_to rec free call ≡ unchanged n rec free → SameAsSteps version card b rec free calls
      → SameAsSteps version card b rec free (call ∷ calls)
  skipped n t e h =
      let a = unchanged n rec free in
      let z = nothing_taken rec free n t in
      let f = nothing_used rec free n t in
      let w : written rec free (call ∷ calls) ≡ written rec free calls = written_more rec free call calls a e ∙ rw (z, f) in
      let s : spared rec free (call ∷ calls) ≡ spared rec free calls = spared_more rec free call calls a e ∙ rw (t, f) in
      let r : record_after rec free (call ∷ calls) ≡ record_after rec free calls = record_more rec free call calls a e ∙ rw f in
      let k : free_after rec free (call ∷ calls) ≡ free_after rec free calls = free_more rec free call calls a e ∙ rw f in
      record {
        lines = w ∙ h.lines ∙ ap (step_lines version (extension_at version card) b) (sym s);
        encoded = rw (s, r) h.encoded;
        fits = rw w h.fits;
        following = k ∙ h.following ∙ ap (λ (x : List ℕ). drop (length x) free) (sym w);
      }

  -- a call that gets its line, before the others
  module _ (s : Answer) (answered : answer_to version (extension_at version card) b call.bytes ≡ s) (e : entry_to rec free call ≡ lined version card call.bytes free s)
      (has : no_line (lined version card call.bytes free s) ≡ false) (taken : take (line_taken (lined version card call.bytes free s)) (lined version card call.bytes free s).sheet ≡ line_bytes version call.bytes s)
      (following : free_rest (lined version card call.bytes free s) ≡ drop (length (line_bytes version call.bytes s)) free) (room : length (line_bytes version call.bytes s) ≤ length free) where
    abbrev a : After
    a = lined version card call.bytes free s

    abbrev l : List ℕ
    l = line_bytes version call.bytes s

    abbrev rec' : List ℕ
    rec' = record_bytes version card s.battery

    abbrev free' : List ℕ
    free' = drop (length l) free

    lines_more : (cs : List (List ℕ)) → step_lines version (extension_at version card) b (call.bytes ∷ cs) ≡ l ++ step_lines version (extension_at version card) s.battery cs
    unfolding step_lines
    lines_more cs = ap (λ (x : Answer). line_bytes version call.bytes x ++ step_lines version (extension_at version card) x.battery cs) answered

    state_more : (cs : List (List ℕ)) → state_after version (extension_at version card) b (call.bytes ∷ cs) ≡ state_after version (extension_at version card) s.battery cs
    unfolding state_after
    state_more cs = ap (λ (x : Answer). state_after version (extension_at version card) x.battery cs) answered

    lined_first : SameAsSteps version card s.battery rec' free' calls → SameAsSteps version card b rec free (call ∷ calls)
    lined_first h =
        let w : written rec free (call ∷ calls) ≡ l ++ written rec' free' calls = written_more rec free call calls a e ∙ rw (taken, following) in
        let p : spared rec free (call ∷ calls) ≡ call.bytes ∷ spared rec' free' calls = spared_more rec free call calls a e ∙ rw (has, following) in
        let r : record_after rec free (call ∷ calls) ≡ record_after rec' free' calls = record_more rec free call calls a e ∙ rw following in
        let k : free_after rec free (call ∷ calls) ≡ free_after rec' free' calls = free_more rec free call calls a e ∙ rw following in
        let n : length l + length (written rec' free' calls) ≡ length (written rec free (call ∷ calls)) = sym (ap length w ∙ simp length-append) in
        let f : length (written rec' free' calls) ≤ length free - length l = simp length-drop at h.fits in
        record {
          lines = w ∙ ap (λ (x : List ℕ). l ++ x) h.lines ∙ sym (ap (step_lines version (extension_at version card) b) p ∙ lines_more (spared rec' free' calls));
          encoded = rw (p, r, state_more (spared rec' free' calls)) h.encoded;
          fits = omega (arith, n, f, room);
          following = k ∙ h.following ∙ drop-drop (length (written rec' free' calls)) (length l) free ∙ ap (λ (x : ℕ). drop x free) n;
        }

module _ (version : ℕ) (known : known_version version ≡ true) (card : List ℕ) where
  pub equal_to_steps : (calls : List ListedCall) → AllGiven version calls → (b : Battery) (rec free : List ℕ) → Encoded version card b rec → SameAsSteps version card b rec free calls
  unfolding written spared record_after free_after step_lines state_after no_line
  equal_to_steps [] given b rec free e = record { lines = refl; encoded = e; fits = omega arith; following = refl }
  equal_to_steps (call ∷ calls) given b rec free e =
      on (λ b' rec' free' h. equal_to_steps calls given.1 b' rec' free' h) (entry_on_encoding version card b rec e known call.bytes free)
    where
      on : ((b' : Battery) (rec' free' : List ℕ) → Encoded version card b' rec' → SameAsSteps version card b' rec' free' calls) → Entered version card b rec call.bytes free
          → SameAsSteps version card b rec free (call ∷ calls)
      on ih (kept_10 h) = skipped version card b rec free call calls 10 refl (given_is version rec free call given.0 _ h) (ih b rec free e)
      on ih (kept_11 h) = skipped version card b rec free call calls 11 refl (given_is version rec free call given.0 _ h) (ih b rec free e)
      on ih (stepped c k i h room) =
          let s = step_of version b c in
          lined_first version card b rec free call calls s (answer_is version card b rec e call.bytes free c k) (given_is version rec free call given.0 _ h)
          (gets_line version card b rec e call.bytes free c k) (line_taken_lem version card b rec e call.bytes free c k) (free_rest_lem version card b rec e call.bytes free c k) room
          (ih s.battery (record_bytes version card s.battery) (drop (length (line_bytes version call.bytes s)) free) (step_encoded version card b rec e c))

-- ---- from opening on

-- a fresh battery of an accepted card is encoded by its record
pub fresh_encoded : (version : ℕ) (card : List ℕ) → AcceptedBytes version card → Encoded version card (fresh (card_at version card)) (record_bytes version card (fresh (card_at version card)))
unfolding fresh card_at f64_of
fresh_encoded version card h =
    record {
      long = h.long;
      card_read = refl;
      extended = extension_accepted version card h.accepted;
      good = fresh_good version (card_at version card) (fields_accepted version card h.accepted) (of_bits-fits binary64 _);
      bytes = refl;
    }

module _ (version : ℕ) (known : known_version version ≡ true) (card rec free : List ℕ) (h : Opens version card rec free) where
  abbrev first : List ℕ
  first = opening_bytes version card

  is_opened : open_of version card rec free ≡ opened_with version card free
  is_opened = open_known_lem version card rec free known ∙ opened version card rec free h.card_good.long h.card_good.accepted h.long h.room

  opening_taken : take (opening_length version card) (over first free) ≡ first
  unfolding over
  opening_taken = take_at first (drop (length first) free) (opening_length version card) (length_opening_bytes version card h.card_good.long)

  opening_left : drop (opening_length version card) (over first free) ≡ drop (length first) free
  unfolding over
  opening_left = opening_following version card (drop (length first) free) h.card_good.long

  module _ (calls : List ListedCall) where
    abbrev b : Battery
    b = fresh (card_at version card)

    abbrev r : List ℕ
    r = record_bytes version card b

    abbrev left : List ℕ
    left = drop (length first) free

    sheet_is : sheet_of version card rec free calls ≡ first ++ written r left calls
    unfolding sheet_of
    sheet_is = rw (is_opened, opening_taken, opening_left)

    pub spared_is : spared_of version card rec free calls ≡ spared r left calls
    unfolding spared_of
    spared_is = rw (is_opened, opening_left)

    record_is : last_record version card rec free calls ≡ record_after r left calls
    unfolding last_record
    record_is = rw (is_opened, opening_left)

    following_is : free_after_sheet version card rec free calls ≡ free_after r left calls
    unfolding free_after_sheet
    following_is = rw (is_opened, opening_left)

    pub sheet_equal_to_steps : AllGiven version calls → SheetOfSteps version card rec free calls
    sheet_equal_to_steps given =
        let s = equal_to_steps version known card calls given b r left (fresh_encoded version card h.card_good) in
        let n : length first + length (written r left calls) ≡ length (sheet_of version card rec free calls) = sym (ap length sheet_is ∙ simp length-append) in
        let f : length (written r left calls) ≤ length free - length first = simp length-drop at s.fits in
        record {
          sheet = sheet_is ∙ ap (λ (x : List ℕ). first ++ x) (s.lines ∙ ap (step_lines version (extension_at version card) b) (sym spared_is));
          encoded = rw (spared_is, record_is) s.encoded;
          fits = omega (arith, n, f, length_opening_bytes version card h.card_good.long, h.room);
          following = following_is ∙ s.following ∙ drop-drop (length (written r left calls)) (length first) free ∙ ap (λ (x : ℕ). drop x free) n;
        }

-- A call on the encoding of a good battery leaves the encoding of the battery that the step leaves.
use Rattle.std.specs.Prelude.{Some}
use mathlib.Core.Path.{◌≡◌, refl, sym, ap, ◌∙◌}
use mathlib.Core.Logic.{◌⊎◌, inl, inr}
use mathlib.Core.List.{List}
use mathlib.Core.Bool.{true, false}
use Prim.Native.Nat.{ℕ, ◌+◌, ◌≤◌, ◌<◌}
use native.Mathlib.Decide.{ℕ_discrete}
use native.Mathlib.Omega.{arith}
use borrow.Author.Tests.{eq-eqb, ne_eqb}
use lib.ListN.{length, take, drop, get_or, length-append}
use lib.Seq.{take_at}
use Rattle.codec.specs.Bytes.{over}
use Rattle.card.specs.Card.{card_refusal}
use Rattle.card.specs.Version.{known_version}
use Rattle.card.proofs.FullRefusal.{accepted_full}
use Rattle.card.specs.Extension.{Extension}
use Rattle.card.specs.declared.Card.{Card}
use Rattle.battery.specs.declared.Battery.{Battery}
use Rattle.battery.specs.declared.Call.{Call}
use Rattle.battery.specs.declared.Answer.{Answer}
use Rattle.battery.specs.Call.{call_in_range}
use Rattle.engine.specs.Steps.{step_of}
use Rattle.sheet_records.specs.Cards.{card_length, card_at, extension_at, refusal_at}
use Rattle.sheet_records.specs.Records.{state_length, record_length, record_of, state_bytes, record_bytes}
use Rattle.sheet_calls.specs.Calls.{call_of}
use Rattle.sheet_lines.specs.Lines.{line_length, line_size, line_bytes}
use Rattle.sheet_lines.proofs.Lengths.{length_line_bytes}
use Rattle.sheet_records.proofs.Lengths.{length_state_bytes}
use Rattle.battery.specs.Battery.{battery_accepted}
use Rattle.battery.proofs.Accepted.{accepted_battery}
use Rattle.battery.proofs.GoodParts.{good_layers}
use Rattle.sheet_lines.proofs.AnswerBack.{record_back}
use Rattle.sheet_records.proofs.CardLaws.{card_length_front, extension_front}
use Rattle.sheet_lines.proofs.CardFront.{card_at_front, refusal_at_front}
use Rattle.sheet_calls.proofs.CallLaws.{same_call, call_length_lem}
use Rattle.sheet_calls.proofs.CallExact.{call_laid}
use Rattle.sheet_calls.proofs.Places.{call_short}
use Rattle.sheet_lines.proofs.LineLaws.{line_fits, line_says, line_following}
use Rattle.entries.specs.Entry.{After, unchanged, renewed, entered}
use Rattle.entries.proofs.Entering.{LaidRecord}
use Rattle.heat_battery.specs.Entries.{entry_of}
use Rattle.heat_battery.specs.Lists.{no_line, line_taken, free_rest, answer_read, answer_to, Encoded}
use Rattle.heat_battery.proofs.CallCases.{CallWay, ten, eleven, line, call_way, call_10}
use Rattle.heat_battery.proofs.Finite.{accepted_good}
use Rattle.heat_battery.specs.Cases.{CallCase10, bad_record, bad_call}
use Rattle.engine.proofs.StepKeeps.{step_refusals, step_keeps_card, refused_keeps_state, step_keeps_good}

-- the entry's line for an answer, with the record as the answer's encoding
abbrev pub lined : ℕ → List ℕ → List ℕ → List ℕ → Answer → After
lined version card call free s = record { code = s.refusal; record' = record_bytes version card s.battery; sheet = over (line_bytes version call s) free }

-- a call on an encoding: no line and no change, or the step's line and encoding
pub data Entered (version : ℕ) (card : List ℕ) (b : Battery) (rec call free : List ℕ) : Type 0 where
  kept_10 : entry_of version rec call free ≡ unchanged 10 rec free → Entered version card b rec call free
  kept_11 : entry_of version rec call free ≡ unchanged 11 rec free → Entered version card b rec call free
  stepped : (c : Call) → call_of version (extension_at version card) call ≡ Some c → call_in_range version b.card c ≡ true → entry_of version rec call free ≡ lined version card call free (step_of version b c)
      → length (line_bytes version call (step_of version b c)) ≤ length free → Entered version card b rec call free

module _ (version : ℕ) (card : List ℕ) (b : Battery) (rec : List ℕ) (e : Encoded version card b rec) where
  read_back : record_of version rec ≡ b
  read_back = ap (record_of version) e.bytes ∙ record_back version card b e.long e.card_read e.good

  whole : card_length version card ≤ length card
  whole = let l = e.long in omega arith

  -- the record's card is the battery's, in its own bytes
  card_is : card_at version rec ≡ b.card
  unfolding record_bytes
  card_is = ap (card_at version) e.bytes ∙ card_at_front version card (state_bytes version b) whole ∙ e.card_read

  card_size : card_length version rec ≡ card_length version card
  unfolding record_bytes
  card_size = ap (card_length version) e.bytes ∙ card_length_front version card (state_bytes version b) whole

  -- and so is its extension
  extension_is : extension_at version rec ≡ extension_at version card
  unfolding record_bytes
  extension_is = ap (extension_at version) e.bytes ∙ extension_front version card (state_bytes version b) whole

  -- an encoding is laid out
  refusal_is : refusal_at version rec ≡ 0
  unfolding record_bytes
  refusal_is =
      ap (refusal_at version) e.bytes ∙ refusal_at_front version card (state_bytes version b) whole
      ∙ (unfold refusal_at in accepted_full version (card_at version card) (extension_at version card) (ap (card_refusal version) e.card_read ∙ (accepted_battery version b e.good.accepted).card) e.extended)

  long_is : length rec ≡ card_length version card + state_length version b.card
  unfolding record_bytes
  long_is = ap length e.bytes ∙ length-append card (state_bytes version b) ∙ (let l = e.long in let n = length_state_bytes version b in omega arith)

  encoded_laid : LaidRecord version rec
  unfolding record_length
  encoded_laid =
      let n = ap (state_length version) card_is in
      record { card_there = omega (arith, card_size, long_is); card_accepted = refusal_is; long = omega (arith, card_size, long_is, n) }

  -- a call that can be read, in its ranges, isn't refused with 10
  pub read_not_ten : known_version version ≡ true → (call free : List ℕ) (c : Call) → call_of version (extension_at version card) call ≡ Some c → call_in_range version b.card c ≡ true
      → (entry_of version rec call free).code ≡ 10 → ⊥
  read_not_ten known call free c k i h = on ((call_10 version known rec call free).0 h)
    where
      there : call_of version (extension_at version rec) call ≡ Some c
      there = ap (λ (y : Extension). call_of version y call) extension_is ∙ k

      on : CallCase10 version rec call → ⊥
      on (bad_record n) = n (accepted_good version rec encoded_laid (ap (battery_accepted version) read_back ∙ e.good.accepted))
      on (bad_call n) =
          n (record { laid = call_laid version (extension_at version rec) call c there; in_range = λ d l. rw (same_call (call_of version (extension_at version rec) call) there l, card_is) i })

  renewed_is : (c : Call) → renewed version rec (step_of version b c) ≡ record_bytes version card (step_of version b c).battery
  renewed_is c = on (ℕ_discrete (step_of version b c).refusal 0)
    where
      front : take (card_length version rec) rec ≡ card
      front =
          ap (λ (n : ℕ). take n rec) card_size ∙ ap (take (card_length version card)) e.bytes
          ∙ (unfold record_bytes in take_at card (state_bytes version b) (card_length version card) e.long)

      on : Dec ((step_of version b c).refusal ≡ 0) → renewed version rec (step_of version b c) ≡ record_bytes version card (step_of version b c).battery
      on (yes z) = unfold renewed in rw (eq-eqb (step_of version b c).refusal 0 z, front)
      on (no n) = unfold renewed in rw (ne_eqb (step_of version b c).refusal 0 n) (e.bytes ∙ ap (record_bytes version card) (sym (refused_keeps_state version b c n)))

  pub entry_on_encoding : known_version version ≡ true → (call free : List ℕ) → Entered version card b rec call free
  entry_on_encoding known call free = on (call_way version known rec call free)
    where
      on : CallWay version rec call free (entry_of version rec call free) → Entered version card b rec call free
      on (ten x h) = kept_10 h
      on (eleven x h) = kept_11 h
      on (line x c k h) =
          let s : step_of version (record_of version rec) c ≡ step_of version b c = ap (λ (y : Battery). step_of version y c) read_back in
          stepped c (ap (λ (y : Extension). call_of version y call) (sym extension_is) ∙ k) (ap (λ (y : Card). call_in_range version y c) (sym card_is) ∙ x.call_good.in_range c k)
          (h ∙ ap (entered version rec call free) s
          ∙ ap (λ (y : List ℕ). record { code = (step_of version b c).refusal; record' = y; sheet = over (line_bytes version call (step_of version b c)) free }) (renewed_is c))
          (rw (length_line_bytes version call (step_of version b c), step_keeps_card version b c, ← card_is) x.room)

  -- the encoding after the step
  pub step_encoded : (c : Call) → Encoded version card (step_of version b c).battery (record_bytes version card (step_of version b c).battery)
  step_encoded c =
      record { long = e.long; card_read = e.card_read ∙ sym (step_keeps_card version b c); extended = e.extended; good = step_keeps_good version b c e.good; bytes = refl }

  -- what the line takes of the lent part
  module _ (call free : List ℕ) (c : Call) (k : call_of version (extension_at version card) call ≡ Some c) where
    abbrev s : Answer
    s = step_of version b c

    has_line : no_line (lined version card call free s) ≡ false
    has_line = on (step_refusals version b c)
      where
        on : (s.refusal ≡ 0) ⊎ ((20 ≤ s.refusal) × (s.refusal ≤ 25)) → no_line (lined version card call free s) ≡ false
        on (inl z) = unfold no_line in rw (ne_eqb s.refusal 10 (λ h. omega arith), ne_eqb s.refusal 11 (λ h. omega arith), ne_eqb s.refusal 40 (λ h. omega arith))
        on (inr z) = unfold no_line in rw (ne_eqb s.refusal 10 (λ h. omega arith), ne_eqb s.refusal 11 (λ h. omega arith), ne_eqb s.refusal 40 (λ h. omega arith))

    fits_line : line_length version s.battery.card (length call) < 65536
    fits_line =
        line_fits version s.battery.card (length call) (rw (step_keeps_card version b c) (good_layers version b e.good))
        (omega (arith, call_length_lem version (extension_at version card) call c k, call_short version (get_or call 0 0)))

    takes_line : line_taken (lined version card call free s) ≡ line_size version s.battery.card (length call)
    unfolding line_taken over line_size
    takes_line = rw has_line (ap (λ (n : ℕ). 2 + n) (line_says version call s (drop (length (line_bytes version call s)) free) fits_line))

    pub line_taken_lem : take (line_taken (lined version card call free s)) (lined version card call free s).sheet ≡ line_bytes version call s
    line_taken_lem =
        ap (λ (n : ℕ). take n (over (line_bytes version call s) free)) takes_line
        ∙ (unfold over in take_at (line_bytes version call s) (drop (length (line_bytes version call s)) free) (line_size version s.battery.card (length call)) (length_line_bytes version call s))

    pub free_rest_lem : free_rest (lined version card call free s) ≡ drop (length (line_bytes version call s)) free
    unfolding free_rest
    free_rest_lem =
        ap (λ (n : ℕ). drop n (over (line_bytes version call s) free)) takes_line
        ∙ (unfold over in line_following version call s (drop (length (line_bytes version call s)) free))

    pub gets_line : no_line (lined version card call free s) ≡ false
    gets_line = has_line

    pub answer_is : answer_to version (extension_at version card) b call ≡ s
    unfolding answer_to answer_read
    answer_is = rw k

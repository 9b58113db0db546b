-- A call: 10 and 11 are given exactly in their cases, and leave every byte; every other call gets its line.
use Rattle.std.specs.Prelude.{None, Option, Some}
use mathlib.Core.Path.{◌≡◌, refl, sym, ap, ◌∙◌}
use mathlib.Core.Logic.{◌⊎◌, ◌↔◌, inl, inr}
use mathlib.Core.List.{List}
use mathlib.Core.Bool.{Bool, true, false, ◌&&◌}
use Prim.Native.Nat.{ℕ, ◌≤◌, ◌<◌}
use native.Mathlib.Decide.{dec_le}
use native.Mathlib.Omega.{arith}
use lib.ListN.{length}
use Rattle.card.specs.Version.{known_version}
use Rattle.card.specs.declared.Card.{Card}
use Rattle.logic.proofs.Tests.{no_both}
use Rattle.battery.specs.declared.Battery.{Battery}
use Rattle.battery.specs.declared.Call.{Call}
use Rattle.battery.specs.declared.Answer.{Answer}
use Rattle.battery.specs.Battery.{battery_accepted}
use Rattle.battery.specs.Call.{call_in_range}
use Rattle.battery.specs.Answer.{refused_with}
use Rattle.engine.specs.Steps.{step_of, advance_of}
use Rattle.sheet_records.specs.Cards.{card_at, extension_at}
use Rattle.sheet_records.specs.Records.{record_of}
use Rattle.sheet_calls.specs.Calls.{call_of}
use Rattle.sheet_lines.specs.Lines.{line_size, line_bytes}
use Rattle.codec.specs.Bytes.{over}
use borrow.Author.Tests.{ne_eqb}
use Rattle.sheet_calls.proofs.CallLaws.{same_call, no_call}
use Rattle.sheet_calls.proofs.CallExact.{call_laid, laid_call}
use Rattle.entries.specs.Entry.{After, unchanged, renewed, entered, line_after, record_laid}
use Rattle.heat_battery.specs.Entries.{entry_of}
use Rattle.heat_battery.specs.Cases.{GoodRecord, GoodCall, CallCase10, bad_record, bad_call, CallCase11, GetsLine}
use Rattle.entries.proofs.Entering.{LaidRecord, record_laid_lem, laid_record, line_ten, line_room, line_entered, code_of, unchanged_by}
use Rattle.heat_battery.proofs.Calling.{entry_unlaid, entry_bad, entry_read_lem}
use Rattle.heat_battery.proofs.Finite.{record_card_lem, accepted_good, good_accepted}
use Rattle.engine.proofs.StepKeeps.{step_refusals, step_keeps_card, refused_line_lem}
use Rattle.engine.proofs.AdvanceKeeps.{advance_is_step}

-- which way a call goes
pub data CallWay (version : ℕ) (rec call free : List ℕ) (a : After) : Type 0 where
  ten : CallCase10 version rec call → a ≡ unchanged 10 rec free → CallWay version rec call free a
  eleven : CallCase11 version rec call free → a ≡ unchanged 11 rec free → CallWay version rec call free a
  line : GetsLine version rec call free → (c : Call) → call_of version (extension_at version rec) call ≡ Some c → a ≡ entered version rec call free (step_of version (record_of version rec) c)
      → CallWay version rec call free a

good_laid : (version : ℕ) (rec : List ℕ) → GoodRecord version rec → LaidRecord version rec
good_laid version rec g = record { card_there = g.card_there; card_accepted = g.card_accepted; long = g.long }

pub not_ten : (r : ℕ) → (r ≡ 0) ⊎ ((20 ≤ r) × (r ≤ 25)) → (r ≡ 10 → ⊥) × (r ≡ 11 → ⊥)
not_ten r (inl e) = (λ z. omega arith, λ z. omega arith)
not_ten r (inr e) = (λ z. omega arith, λ z. omega arith)

-- a refused step answers with the refusal line
refused_is : (version : ℕ) (b : Battery) (c : Call) → ((step_of version b c).refusal ≡ 0 → ⊥) → step_of version b c ≡ refused_with (step_of version b c).refusal b
unfolding refused_with
refused_is version b c h =
    let l = refused_line_lem version b c h in
    λ i. record { refusal = (step_of version b c).refusal; energy = l.energy i; mark = l.mark i; outlet = l.outlet i; time = l.time i; substeps = l.substeps i; battery = l.battery i }

module _ (version : ℕ) (known : known_version version ≡ true) (rec call free : List ℕ) where
  abbrev b : Battery
  b = record_of version rec

  abbrev o : After
  o = entry_of version rec call free

  refused_ten : (c : Call) → (battery_accepted version b && call_in_range version b.card c) ≡ false → record_laid version rec ≡ true → call_of version (extension_at version rec) call ≡ Some c → o ≡ unchanged 10 rec free
  unfolding advance_of refused_with
  refused_ten c h l e =
      let r : advance_of version b c ≡ refused_with 10 b = rw h in
      entry_read_lem version rec call free known l c e ∙ line_ten version rec call free (advance_of version b c) (ap (λ (a : Answer). a.refusal) r)

  -- with a good record and a good call the step runs: 11, or its line
  stepped : GoodRecord version rec → record_laid version rec ≡ true → (c : Call) → call_of version (extension_at version rec) call ≡ Some c → battery_accepted version b ≡ true → call_in_range version b.card c ≡ true
      → CallWay version rec call free o
  stepped g l c e accepted in_range = on (dec_le (line_size version (card_at version rec) (length call)) (length free))
    where
      s : Answer
      s = step_of version b c

      card : s.battery.card ≡ card_at version rec
      card = step_keeps_card version b c ∙ record_card_lem version rec

      is : o ≡ line_after version rec call free s
      is = entry_read_lem version rec call free known l c e ∙ ap (line_after version rec call free) (advance_is_step version b c accepted in_range)

      good : GoodCall version (extension_at version rec) (card_at version rec) call
      good =
          record {
            laid = call_laid version (extension_at version rec) call c e;
            in_range = λ d h. rw (same_call (call_of version (extension_at version rec) call) e h) (ap (λ (x : Card). call_in_range version x c) (sym (record_card_lem version rec)) ∙ in_range);
          }

      fine : s.refusal ≡ 10 → ⊥
      fine = (not_ten s.refusal (step_refusals version b c)).0

      on : Dec (line_size version (card_at version rec) (length call) ≤ length free) → CallWay version rec call free o
      on (yes r) =
          line (record { record_good = g; call_good = good; room = r }) c e
          (is ∙ line_entered version rec call free s fine (rw card r))
      on (no r) =
          let h : length free < line_size version (card_at version rec) (length call) = omega arith in
          eleven (record { record_good = g; call_good = good; no_room = h }) (is ∙ line_room version rec call free s fine (rw card h))

  read_way : record_laid version rec ≡ true → (c : Call) → call_of version (extension_at version rec) call ≡ Some c → (p q : Bool) → battery_accepted version b ≡ p → call_in_range version b.card c ≡ q → CallWay version rec call free o
  read_way l c e true true h k = stepped (accepted_good version rec (record_laid_lem version rec l) h) l c e h k
  read_way l c e true false h k =
      ten (bad_call (λ g. no_both (sym (g.in_range c e) ∙ ap (λ (x : Card). call_in_range version x c) (sym (record_card_lem version rec)) ∙ k))) (refused_ten c (rw (h, k)) l e)
  read_way l c e false q h k =
      ten (bad_record (λ g. no_both (sym (good_accepted version rec (record_laid_lem version rec l) g) ∙ h))) (refused_ten c (rw h) l e)

  laid_way : record_laid version rec ≡ true → (r : Option Call) → call_of version (extension_at version rec) call ≡ r → CallWay version rec call free o
  laid_way l None e = ten (bad_call (λ g. let x = laid_call version (extension_at version rec) call g.laid in no_call (call_of version (extension_at version rec) call) e x.1)) (entry_bad version rec call free known l e)
  laid_way l (Some c) e = read_way l c e (battery_accepted version b) (call_in_range version b.card c) refl refl

  any_way : (t : Bool) → record_laid version rec ≡ t → CallWay version rec call free o
  any_way true l = laid_way l (call_of version (extension_at version rec) call) refl
  any_way false l = ten (bad_record (λ g. no_both (sym (laid_record version rec (good_laid version rec g)) ∙ l))) (entry_unlaid version rec call free known l)

  pub call_way : CallWay version rec call free (entry_of version rec call free)
  call_way = any_way (record_laid version rec) refl

  -- a line's number
  pub line_code : (c : Call) → o ≡ entered version rec call free (step_of version b c) → (o.code ≡ 10 → ⊥) × (o.code ≡ 11 → ⊥)
  line_code c e =
      let n = code_of (entered version rec call free (step_of version b c)) e in
      let f = not_ten (step_of version b c).refusal (step_refusals version b c) in
      (λ z. f.0 (sym n ∙ z), λ z. f.1 (sym n ∙ z))

  no_case : GoodRecord version rec → GoodCall version (extension_at version rec) (card_at version rec) call → CallCase10 version rec call → ⊥
  no_case g k (bad_record h) = h g
  no_case g k (bad_call h) = h k

  pub call_10 : ((entry_of version rec call free).code ≡ 10) ↔ CallCase10 version rec call
  call_10 = (on call_way, back call_way)
    where
      on : CallWay version rec call free o → o.code ≡ 10 → CallCase10 version rec call
      on (ten x e) h = x
      on (eleven x e) h = let n = code_of (unchanged 11 rec free) e in absurd (omega arith)
      on (line x c k e) h = absurd ((line_code c e).0 h)

      back : CallWay version rec call free o → CallCase10 version rec call → o.code ≡ 10
      back (ten x e) h = code_of (unchanged 10 rec free) e
      back (eleven x e) h = absurd (no_case x.record_good x.call_good h)
      back (line x c k e) h = absurd (no_case x.record_good x.call_good h)

  pub call_11 : ((entry_of version rec call free).code ≡ 11) ↔ CallCase11 version rec call free
  call_11 = (on call_way, back call_way)
    where
      on : CallWay version rec call free o → o.code ≡ 11 → CallCase11 version rec call free
      on (ten x e) h = let n = code_of (unchanged 10 rec free) e in absurd (omega arith)
      on (eleven x e) h = x
      on (line x c k e) h = absurd ((line_code c e).1 h)

      back : CallWay version rec call free o → CallCase11 version rec call free → o.code ≡ 11
      back (ten x e) h = absurd (no_case h.record_good h.call_good x)
      back (eleven x e) h = code_of (unchanged 11 rec free) e
      back (line x c k e) h = let a = x.room in let b = h.no_room in absurd (omega arith)

  -- a call refused with 10 or 11 changes no byte
  pub refused_call_keeps : ((entry_of version rec call free).code ≡ 10) ⊎ ((entry_of version rec call free).code ≡ 11)
      → entry_of version rec call free ≡ unchanged (entry_of version rec call free).code rec free
  refused_call_keeps h = on h call_way
    where
      on : (o.code ≡ 10) ⊎ (o.code ≡ 11) → CallWay version rec call free o → o ≡ unchanged o.code rec free
      on h (ten x e) = unchanged_by 10 e
      on h (eleven x e) = unchanged_by 11 e
      on (inl h) (line x c k e) = absurd ((line_code c e).0 h)
      on (inr h) (line x c k e) = absurd ((line_code c e).1 h)

  -- every other call gets the step's line
  pub gets_step : GetsLine version rec call free → (c : Call) → call_of version (extension_at version rec) call ≡ Some c → entry_of version rec call free ≡ entered version rec call free (step_of version (record_of version rec) c)
  gets_step h c k = on call_way
    where
      on : CallWay version rec call free o → o ≡ entered version rec call free (step_of version b c)
      on (ten x e) = absurd (no_case h.record_good h.call_good x)
      on (eleven x e) = let r = x.no_room in let s = h.room in absurd (omega arith)
      on (line x d l e) = e ∙ ap (λ (y : Call). entered version rec call free (step_of version b y)) (same_call (call_of version (extension_at version rec) call) k l)

  pub gets_line : (((entry_of version rec call free).code ≡ 10 → ⊥) × ((entry_of version rec call free).code ≡ 11 → ⊥)) ↔ GetsLine version rec call free
  gets_line = (on call_way, back call_way)
    where
      on : CallWay version rec call free o → (o.code ≡ 10 → ⊥) × (o.code ≡ 11 → ⊥) → GetsLine version rec call free
      on (ten x e) h = absurd (h.0 (code_of (unchanged 10 rec free) e))
      on (eleven x e) h = absurd (h.1 (code_of (unchanged 11 rec free) e))
      on (line x c k e) h = x

      back : CallWay version rec call free o → GetsLine version rec call free → (o.code ≡ 10 → ⊥) × (o.code ≡ 11 → ⊥)
      back (ten x e) h = absurd (no_case h.record_good h.call_good x)
      back (eleven x e) h = let r = x.no_room in let s = h.room in absurd (omega arith)
      back (line x c k e) h = line_code c e

  -- a call refused with 20 to 25 writes its line, with energy, time and substeps 0 and no outlet, and leaves the record
  pub refusal_line_keeps : 20 ≤ (entry_of version rec call free).code
      → ((entry_of version rec call free).record' ≡ rec)
      × ((entry_of version rec call free).sheet ≡ over (line_bytes version call (refused_with (entry_of version rec call free).code (record_of version rec))) free)
  refusal_line_keeps h = on call_way
    where
      kept : (s : Answer) → (s.refusal ≡ 0 → ⊥) → renewed version rec s ≡ rec
      kept s n = unfold renewed in rw (ne_eqb s.refusal 0 n)

      on : CallWay version rec call free o → (o.record' ≡ rec) × (o.sheet ≡ over (line_bytes version call (refused_with o.code b)) free)
      on (ten x e) = let n = code_of (unchanged 10 rec free) e in absurd (omega arith)
      on (eleven x e) = let n = code_of (unchanged 11 rec free) e in absurd (omega arith)
      on (line x c k e) =
          let s = step_of version b c in
          let n : o.code ≡ s.refusal = code_of (entered version rec call free s) e in
          let z : s.refusal ≡ 0 → ⊥ = λ q. omega arith in (
            ap (λ (y : After). y.record') e ∙ kept s z,
            ap (λ (y : After). y.sheet) e ∙ ap (λ (y : Answer). over (line_bytes version call y) free) (refused_is version b c z ∙ ap (λ (y : ℕ). refused_with y b) (sym n)),
          )

  -- a call gives no other number
  pub call_codes : (((entry_of version rec call free).code ≡ 10) ⊎ ((entry_of version rec call free).code ≡ 11))
      ⊎ (((entry_of version rec call free).code ≡ 0) ⊎ ((20 ≤ (entry_of version rec call free).code) × ((entry_of version rec call free).code ≤ 25)))
  call_codes = on call_way
    where
      on : CallWay version rec call free o → ((o.code ≡ 10) ⊎ (o.code ≡ 11)) ⊎ ((o.code ≡ 0) ⊎ ((20 ≤ o.code) × (o.code ≤ 25)))
      on (ten x e) = inl (inl (code_of (unchanged 10 rec free) e))
      on (eleven x e) = inl (inr (code_of (unchanged 11 rec free) e))
      on (line x c k e) = inr (rw (code_of (entered version rec call free (step_of version b c)) e) (step_refusals version b c))

-- The entries in any version: 40 exactly where it isn't known, which changes nothing; and what holds of a known one carried over.
use Prim.Native.Nat.{ℕ, ◌≤◌}
use mathlib.Core.Path.{◌≡◌, refl, sym, ap, ◌∙◌}
use mathlib.Core.Logic.{◌⊎◌, ◌↔◌, inl, inr}
use mathlib.Core.Bool.{Bool, true, false}
use mathlib.Core.List.{List}
use native.Mathlib.Omega.{arith}
use Rattle.logic.proofs.Tests.{no_both}
use Rattle.codec.specs.Bytes.{over}
use Rattle.card.specs.Version.{known_version}
use Rattle.card.specs.Extension.{Extension}
use Rattle.card.specs.Card.{CardRefusal}
use Rattle.card.proofs.Refusals.{card_refusal_own}
use Rattle.battery.specs.Answer.{refused_with}
use Rattle.battery.specs.declared.Answer.{Answer}
use Rattle.battery.specs.declared.Battery.{Battery}
use Rattle.sheet_records.specs.Records.{record_of}
use Rattle.sheet_lines.specs.Lines.{line_bytes}
use Rattle.entries.specs.Entry.{unchanged, open_of}
use Rattle.entries.proofs.Entering.{code_of, unchanged_by}
use Rattle.entries.proofs.Opening.{open_unknown}
use Rattle.own_record.specs.Record.{shown_of, advanced_by, advanced_of}
use Rattle.own_record.proofs.OwnRecordLaws.{own_unknown}
use Rattle.heat_battery.specs.Cases.{Opens}
use Rattle.heat_battery.specs.Entries.{entry_of}
use Rattle.heat_battery.proofs.Calling.{entry_unknown}
use Rattle.heat_battery.proofs.OpenCases.{open_0, open_codes, refused_opening_keeps}
use Rattle.heat_battery.proofs.CallCases.{call_codes, refused_call_keeps, refusal_line_keeps}
use Rattle.heat_battery.proofs.OwnCases.{own_codes}

-- by whether the version is known
by_version : {A : Type 0} (version : ℕ) → (known_version version ≡ true → A) → (known_version version ≡ false → A) → A
by_version {A} version p q = on (known_version version) refl
  where
    on : (t : Bool) → known_version version ≡ t → A
    on true h = p h
    on false h = q h

-- 40 exactly where it isn't known: there it is given, and elsewhere another number
exactly_unknown : (version n : ℕ) → (known_version version ≡ false → n ≡ 40) → (known_version version ≡ true → n ≡ 40 → ⊥) → (n ≡ 40) ↔ (known_version version ≡ false)
exactly_unknown version n given other = (λ h. by_version version (λ k. absurd (other k h)) (λ u. u), given)

-- ---- opening

module _ (version : ℕ) (card rec free : List ℕ) where
  open_forty : known_version version ≡ false → (open_of version card rec free).code ≡ 40
  open_forty unknown = code_of (unchanged 40 rec free) (open_unknown version card rec free unknown)

  pub open_40 : ((open_of version card rec free).code ≡ 40) ↔ (known_version version ≡ false)
  open_40 = exactly_unknown version (open_of version card rec free).code open_forty (λ k. on (open_codes version k card rec free))
    where
      on : ((open_of version card rec free).code ≡ 0) ⊎ (((open_of version card rec free).code ≡ 10) ⊎ (((open_of version card rec free).code ≡ 11) ⊎ CardRefusal (open_of version card rec free).code))
          → (open_of version card rec free).code ≡ 40 → ⊥
      on (inl e) h = omega arith
      on (inr (inl e)) h = omega arith
      on (inr (inr (inl e))) h = omega arith
      on (inr (inr (inr c))) h = (card_refusal_own 40 (rw (← h) c)).3 refl

  pub opens_exactly : ((open_of version card rec free).code ≡ 0) ↔ ((known_version version ≡ true) × Opens version card rec free)
  opens_exactly = (
    λ h. by_version version (λ k. (k, (open_0 version k card rec free).0 h)) (λ u. let n = open_forty u in absurd (omega arith)),
    λ x. (open_0 version x.0 card rec free).1 x.1,
  )

  pub refused_opening_stays : ((open_of version card rec free).code ≡ 0 → ⊥) → open_of version card rec free ≡ unchanged (open_of version card rec free).code rec free
  refused_opening_stays h =
      by_version version (λ k. refused_opening_keeps version k card rec free h) (λ u. unchanged_by 40 (open_unknown version card rec free u))

  pub open_numbers : ((open_of version card rec free).code ≡ 0) ⊎ (((open_of version card rec free).code ≡ 10) ⊎ (((open_of version card rec free).code ≡ 11)
      ⊎ (((open_of version card rec free).code ≡ 40) ⊎ CardRefusal (open_of version card rec free).code)))
  open_numbers = by_version version (λ k. on (open_codes version k card rec free)) (λ u. inr (inr (inr (inl (open_forty u)))))
    where
      on : ((open_of version card rec free).code ≡ 0) ⊎ (((open_of version card rec free).code ≡ 10) ⊎ (((open_of version card rec free).code ≡ 11) ⊎ CardRefusal (open_of version card rec free).code))
          → ((open_of version card rec free).code ≡ 0) ⊎ (((open_of version card rec free).code ≡ 10) ⊎ (((open_of version card rec free).code ≡ 11)
          ⊎ (((open_of version card rec free).code ≡ 40) ⊎ CardRefusal (open_of version card rec free).code)))
      on (inl e) = inl e
      on (inr (inl e)) = inr (inl e)
      on (inr (inr (inl e))) = inr (inr (inl e))
      on (inr (inr (inr c))) = inr (inr (inr (inr c)))

-- ---- a call

module _ (version : ℕ) (rec call free : List ℕ) where
  abbrev n : ℕ
  n = (entry_of version rec call free).code

  call_forty : known_version version ≡ false → n ≡ 40
  call_forty unknown = code_of (unchanged 40 rec free) (entry_unknown version rec call free unknown)

  pub call_40 : ((entry_of version rec call free).code ≡ 40) ↔ (known_version version ≡ false)
  call_40 = exactly_unknown version n call_forty (λ k. on (call_codes version k rec call free))
    where
      on : ((n ≡ 10) ⊎ (n ≡ 11)) ⊎ ((n ≡ 0) ⊎ ((20 ≤ n) × (n ≤ 25))) → n ≡ 40 → ⊥
      on (inl (inl e)) h = omega arith
      on (inl (inr e)) h = omega arith
      on (inr (inl e)) h = omega arith
      on (inr (inr e)) h = omega arith

  pub call_without_line_stays : (n ≡ 10) ⊎ ((n ≡ 11) ⊎ ((n ≡ 40) ⊎ ⊥)) → entry_of version rec call free ≡ unchanged (entry_of version rec call free).code rec free
  call_without_line_stays h = by_version version (λ k. on k h) (λ u. unchanged_by 40 (entry_unknown version rec call free u))
    where
      on : known_version version ≡ true → (n ≡ 10) ⊎ ((n ≡ 11) ⊎ ((n ≡ 40) ⊎ ⊥)) → entry_of version rec call free ≡ unchanged n rec free
      on k (inl e) = refused_call_keeps version k rec call free (inl e)
      on k (inr (inl e)) = refused_call_keeps version k rec call free (inr e)
      on k (inr (inr (inl e))) = no_both (sym k ∙ call_40.0 e)
      on k (inr (inr (inr z))) = absurd z

  pub refusal_line_stays : 20 ≤ n → n ≤ 25
      → ((entry_of version rec call free).record' ≡ rec)
      × ((entry_of version rec call free).sheet ≡ over (line_bytes version call (refused_with (entry_of version rec call free).code (record_of version rec))) free)
  refusal_line_stays low high = by_version version (λ k. refusal_line_keeps version k rec call free low) (λ u. let e = call_forty u in absurd (omega arith))

  pub call_numbers : (((n ≡ 10) ⊎ (n ≡ 11)) ⊎ ((n ≡ 0) ⊎ ((20 ≤ n) × (n ≤ 25)))) ⊎ (n ≡ 40)
  call_numbers = by_version version (λ k. inl (call_codes version k rec call free)) (λ u. inr (call_forty u))

-- ---- a call on the caller's own record

module _ (version : ℕ) (extension : Extension) (b : Battery) (call : List ℕ) where
  abbrev m : ℕ
  m = (advanced_of version extension b call).shown.refusal

  own_forty : known_version version ≡ false → m ≡ 40
  unfolding advanced_of advanced_by shown_of refused_with
  own_forty unknown = ap (λ (a : Answer). a.refusal) (own_unknown version extension b call unknown)

  pub own_40 : ((advanced_of version extension b call).shown.refusal ≡ 40) ↔ (known_version version ≡ false)
  own_40 = exactly_unknown version m own_forty (λ k. on (own_codes version k extension b call))
    where
      on : (m ≡ 10) ⊎ ((m ≡ 0) ⊎ ((20 ≤ m) × (m ≤ 25))) → m ≡ 40 → ⊥
      on (inl e) h = omega arith
      on (inr (inl e)) h = omega arith
      on (inr (inr e)) h = omega arith

  pub own_numbers : ((m ≡ 10) ⊎ ((m ≡ 0) ⊎ ((20 ≤ m) × (m ≤ 25)))) ⊎ (m ≡ 40)
  own_numbers = by_version version (λ k. inl (own_codes version k extension b call)) (λ u. inr (own_forty u))

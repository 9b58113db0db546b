-- Opening: each refusal is given exactly in its case, and leaves every byte.
use mathlib.Core.Path.{◌≡◌, refl, sym, ap, ◌∙◌, subst}
use mathlib.Core.Logic.{◌⊎◌, ◌↔◌, inl, inr}
use mathlib.Core.List.{List}
use mathlib.Core.Bool.{Bool, true, false}
use Prim.Native.Nat.{ℕ, ◌≤◌, ◌<◌}
use native.Mathlib.Decide.{ℕ_discrete, dec_le}
use native.Mathlib.Omega.{arith}
use borrow.Author.Tests.{leb-true, leb-false, le-leb, lt-leb}
use lib.ListN.{length, get_or}
use Rattle.logic.proofs.Tests.{no_both}
use Rattle.card.specs.Card.{card_refusal, CardRefusal}
use Rattle.card.specs.Services.{services_ok}
use Rattle.card.proofs.Refusals.{card_refusal_own}
use Rattle.card.specs.Extension.{flag_ok}
use Rattle.card.proofs.Listed.{ok_none}
use Rattle.card.proofs.ServicesCase.{services_exactly}
use Rattle.card.proofs.FullRefusal.{full_one, full_few, full_61, full_refusal_lem}
use Rattle.card.specs.Version.{known_version, lists_services}
use Rattle.card.specs.declared.Card.{Card}
use Rattle.sheet_records.specs.Cards.{count_place, card_length, card_at, service_at, services_at, floor_at, extension_at, refusal_at}
use Rattle.sheet_records.proofs.CardLaws.{services_listed, services_none}
use Rattle.sheet_records.specs.Records.{record_length}
use Rattle.sheet_lines.specs.Lines.{opening_length}
use Rattle.entries.specs.Entry.{After, unchanged, opened_with, open_known, open_of}
use Rattle.entries.proofs.Entering.{code_of, unchanged_by}
use Rattle.heat_battery.specs.Cases.{OpenCase1, OpenCase2, OpenCase3, OpenCase4, OpenCase61, OpenCase10, OpenCase11, Opens}
use Rattle.entries.proofs.Opening.{open_length, open_card, open_record, open_room, opened, open_known_lem}
use Rattle.heat_battery.proofs.CardCases.{CardWay, out_of_range, lower_above, max_low, nothing, accepted, card_way, card_1, card_2, card_3, card_4, lower_above_is, max_above_is}

-- the flag's test, and its range
flag_low : (n : ℕ) → flag_ok n ≡ true → n ≤ 1
unfolding flag_ok
flag_low n h = leb-true n 1 h

low_flag : (n : ℕ) → n ≤ 1 → flag_ok n ≡ true
unfolding flag_ok
low_flag n h = le-leb n 1 h

flag_high : (n : ℕ) → flag_ok n ≡ false → 1 < n
unfolding flag_ok
flag_high n h = leb-false n 1 h

high_flag : (n : ℕ) → 1 < n → flag_ok n ≡ false
unfolding flag_ok
high_flag n h = lt-leb n 1 h

-- which way opening goes
data OpenWay (version : ℕ) (card rec free : List ℕ) (a : After) : Type 0 where
  other_card : (length card ≡ card_length version card → ⊥) → a ≡ unchanged 1 rec free → OpenWay version card rec free a
  refused : length card ≡ card_length version card → (refusal_at version card ≡ 0 → ⊥) → a ≡ unchanged (refusal_at version card) rec free
      → OpenWay version card rec free a
  other_record : OpenCase10 version card rec → a ≡ unchanged 10 rec free → OpenWay version card rec free a
  no_room : OpenCase11 version card rec free → a ≡ unchanged 11 rec free → OpenWay version card rec free a
  opens : Opens version card rec free
      → a ≡ opened_with version card free
      → OpenWay version card rec free a

open_way : (version : ℕ) → known_version version ≡ true → (card rec free : List ℕ) → OpenWay version card rec free (open_of version card rec free)
open_way version known card rec free =
    on (ℕ_discrete (length card) (card_length version card)) (ℕ_discrete (refusal_at version card) 0) (ℕ_discrete (length rec) (record_length version card)) (dec_le (opening_length version card) (length free))
  where
    is : open_of version card rec free ≡ open_known version card rec free
    is = open_known_lem version card rec free known

    on : Dec (length card ≡ card_length version card) → Dec (refusal_at version card ≡ 0) → Dec (length rec ≡ record_length version card) → Dec (opening_length version card ≤ length free)
        → OpenWay version card rec free (open_of version card rec free)
    on (no l) a k r = other_card l (is ∙ open_length version card rec free l)
    on (yes l) (no a) k r = refused l a (is ∙ open_card version card rec free l a)
    on (yes l) (yes a) (no k) r =
        other_record (record { card_good = record { long = l; accepted = a }; other_length = k }) (is ∙ open_record version card rec free l a k)
    on (yes l) (yes a) (yes k) (no r) =
        let h : length free < opening_length version card = omega arith in
        no_room (record { card_good = record { long = l; accepted = a }; long = k; no_room = h }) (is ∙ open_room version card rec free l a k h)
    on (yes l) (yes a) (yes k) (yes r) =
        opens (record { card_good = record { long = l; accepted = a }; long = k; room = r }) (is ∙ opened version card rec free l a k r)

module _ (version : ℕ) (known : known_version version ≡ true) (card rec free : List ℕ) where
  is_known : open_of version card rec free ≡ open_known version card rec free
  is_known = open_known_lem version card rec free known

  abbrev c : Card
  c = card_at version card

  abbrev o : After
  o = open_of version card rec free

  -- a number that is neither 0 nor 10 nor 11 is the card's
  by_card : (o.code ≡ 0 → ⊥) → (o.code ≡ 10 → ⊥) → (o.code ≡ 11 → ⊥) → ((length card ≡ card_length version card → ⊥) × (o.code ≡ 1)) ⊎ ((length card ≡ card_length version card) × (refusal_at version card ≡ o.code))
  by_card z ten eleven = on (open_way version known card rec free)
    where
      on : OpenWay version card rec free o → ((length card ≡ card_length version card → ⊥) × (o.code ≡ 1)) ⊎ ((length card ≡ card_length version card) × (refusal_at version card ≡ o.code))
      on (other_card l e) = inl (l, code_of (unchanged 1 rec free) e)
      on (refused l a e) = inr (l, sym (code_of (unchanged (refusal_at version card) rec free) e))
      on (other_record x e) = absurd (ten (code_of (unchanged 10 rec free) e))
      on (no_room x e) = absurd (eleven (code_of (unchanged 11 rec free) e))
      on (opens x e) = absurd (z (code_of (opened_with version card free) e))

  -- 1 is the flag's or the fields', 2 to 4 are the fields', and 61 the list's
  one : (refusal_at version card ≡ 1) ↔ ((flag_ok (floor_at version card) ≡ false) ⊎ (card_refusal version c ≡ 1))
  unfolding refusal_at
  one = full_one version c (extension_at version card)

  few : (n : ℕ) → 2 ≤ n → n ≤ 4 → (refusal_at version card ≡ n) ↔ ((flag_ok (floor_at version card) ≡ true) × (card_refusal version c ≡ n))
  unfolding refusal_at
  few = full_few version c (extension_at version card)

  list_refused : (refusal_at version card ≡ 61) ↔ ((flag_ok (floor_at version card) ≡ true) × (card_refusal version c ≡ 0) × (services_ok (services_at version card) ≡ false))
  unfolding refusal_at
  list_refused = full_61 version c (extension_at version card)

  card_code : length card ≡ card_length version card → (refusal_at version card ≡ 0 → ⊥) → o.code ≡ refusal_at version card
  card_code l h = code_of (unchanged (refusal_at version card) rec free) (is_known ∙ open_card version card rec free l h)

  pub open_1 : ((open_of version card rec free).code ≡ 1) ↔ OpenCase1 version card
  open_1 = (λ h. on h (by_card (λ z. omega arith) (λ z. omega arith) (λ z. omega arith)), back)
    where
      by : card_refusal version c ≡ 1 → CardWay c (card_refusal version c) → OpenCase1 version card
      by h (out_of_range k e) = inr (inl k)
      by h (lower_above k l e) = absurd (omega arith)
      by h (max_low k l m e) = absurd (omega arith)
      by h (nothing k l m s e) = absurd (omega arith)
      by h (accepted e) = absurd (omega arith)

      which : (flag_ok (floor_at version card) ≡ false) ⊎ (card_refusal version c ≡ 1) → OpenCase1 version card
      which (inl f) = inr (inr (flag_high (floor_at version card) f))
      which (inr h) = by h (card_way version c)

      on : o.code ≡ 1 → ((length card ≡ card_length version card → ⊥) × (o.code ≡ 1)) ⊎ ((length card ≡ card_length version card) × (refusal_at version card ≡ o.code)) → OpenCase1 version card
      on h (inl x) = inl x.0
      on h (inr x) = which (one.0 (x.1 ∙ h))

      long : (flag_ok (floor_at version card) ≡ false) ⊎ (card_refusal version c ≡ 1) → Dec (length card ≡ card_length version card) → o.code ≡ 1
      long k (yes l) = let r = one.1 k in card_code l (λ z. omega arith) ∙ r
      long k (no l) = code_of (unchanged 1 rec free) (is_known ∙ open_length version card rec free l)

      back : OpenCase1 version card → o.code ≡ 1
      back (inl l) = code_of (unchanged 1 rec free) (is_known ∙ open_length version card rec free l)
      back (inr (inl k)) = long (inr (card_1 version c k)) (ℕ_discrete (length card) (card_length version card))
      back (inr (inr k)) = long (inl (high_flag (floor_at version card) k)) (ℕ_discrete (length card) (card_length version card))

  pub open_2 : ((open_of version card rec free).code ≡ 2) ↔ OpenCase2 version card
  open_2 = (λ h. on h (by_card (λ z. omega arith) (λ z. omega arith) (λ z. omega arith)), back)
    where
      by : length card ≡ card_length version card → floor_at version card ≤ 1 → card_refusal version c ≡ 2 → CardWay c (card_refusal version c) → OpenCase2 version card
      by x f h (out_of_range k e) = absurd (omega arith)
      by x f h (lower_above k l e) = record { in_range = record { long = x; fields = k; flag = f }; lower_above = (lower_above_is c k).0 l }
      by x f h (max_low k l m e) = absurd (omega arith)
      by x f h (nothing k l m s e) = absurd (omega arith)
      by x f h (accepted e) = absurd (omega arith)

      on : o.code ≡ 2 → ((length card ≡ card_length version card → ⊥) × (o.code ≡ 1)) ⊎ ((length card ≡ card_length version card) × (refusal_at version card ≡ o.code)) → OpenCase2 version card
      on h (inl x) = absurd (omega arith)
      on h (inr x) = let p = (few 2 (omega arith) (omega arith)).0 (x.1 ∙ h) in by x.0 (flag_low (floor_at version card) p.0) p.1 (card_way version c)

      back : OpenCase2 version card → o.code ≡ 2
      back x =
          let k = x.in_range.fields in
          let r = (few 2 (omega arith) (omega arith)).1 (low_flag (floor_at version card) x.in_range.flag, card_2 version c k ((lower_above_is c k).1 x.lower_above)) in
          card_code x.in_range.long (λ z. omega arith) ∙ r

  pub open_3 : ((open_of version card rec free).code ≡ 3) ↔ OpenCase3 version card
  open_3 = (λ h. on h (by_card (λ z. omega arith) (λ z. omega arith) (λ z. omega arith)), back)
    where
      by : length card ≡ card_length version card → floor_at version card ≤ 1 → card_refusal version c ≡ 3 → CardWay c (card_refusal version c) → OpenCase3 version card
      by x f h (out_of_range k e) = absurd (omega arith)
      by x f h (lower_above k l e) = absurd (omega arith)
      by x f h (max_low k l m e) = record { in_range = record { long = x; fields = k; flag = f }; ordered = l; max_low = m }
      by x f h (nothing k l m s e) = absurd (omega arith)
      by x f h (accepted e) = absurd (omega arith)

      on : o.code ≡ 3 → ((length card ≡ card_length version card → ⊥) × (o.code ≡ 1)) ⊎ ((length card ≡ card_length version card) × (refusal_at version card ≡ o.code)) → OpenCase3 version card
      on h (inl x) = absurd (omega arith)
      on h (inr x) = let p = (few 3 (omega arith) (omega arith)).0 (x.1 ∙ h) in by x.0 (flag_low (floor_at version card) p.0) p.1 (card_way version c)

      back : OpenCase3 version card → o.code ≡ 3
      back x =
          let r = (few 3 (omega arith) (omega arith)).1 (low_flag (floor_at version card) x.in_range.flag, card_3 version c x.in_range.fields x.ordered x.max_low) in
          card_code x.in_range.long (λ z. omega arith) ∙ r

  pub open_4 : ((open_of version card rec free).code ≡ 4) ↔ OpenCase4 version card
  open_4 = (λ h. on h (by_card (λ z. omega arith) (λ z. omega arith) (λ z. omega arith)), back)
    where
      by : length card ≡ card_length version card → floor_at version card ≤ 1 → card_refusal version c ≡ 4 → CardWay c (card_refusal version c) → OpenCase4 version card
      by x f h (out_of_range k e) = absurd (omega arith)
      by x f h (lower_above k l e) = absurd (omega arith)
      by x f h (max_low k l m e) = absurd (omega arith)
      by x f h (nothing k l m s e) = record { in_range = record { long = x; fields = k; flag = f }; ordered = l; warm = (max_above_is c k).0 m; nothing_to_store = s }
      by x f h (accepted e) = absurd (omega arith)

      on : o.code ≡ 4 → ((length card ≡ card_length version card → ⊥) × (o.code ≡ 1)) ⊎ ((length card ≡ card_length version card) × (refusal_at version card ≡ o.code)) → OpenCase4 version card
      on h (inl x) = absurd (omega arith)
      on h (inr x) = let p = (few 4 (omega arith) (omega arith)).0 (x.1 ∙ h) in by x.0 (flag_low (floor_at version card) p.0) p.1 (card_way version c)

      back : OpenCase4 version card → o.code ≡ 4
      back x =
          let k = x.in_range.fields in
          let r = (few 4 (omega arith) (omega arith)).1 (low_flag (floor_at version card) x.in_range.flag, card_4 version c k x.ordered ((max_above_is c k).1 x.warm) x.nothing_to_store) in
          card_code x.in_range.long (λ z. omega arith) ∙ r

  -- a refused card's number is a card's
  refused_number : (refusal_at version card ≡ 0 → ⊥) → (n : ℕ) → o ≡ unchanged (refusal_at version card) rec free → o.code ≡ n → CardRefusal n
  unfolding refusal_at
  refused_number a n e h =
      subst CardRefusal (sym (code_of (unchanged (refusal_at version card) rec free) e) ∙ h) (full_refusal_lem version c (extension_at version card) a)

  pub open_61 : ((open_of version card rec free).code ≡ 61) ↔ OpenCase61 version card
  open_61 = (λ h. on h (by_card (λ z. omega arith) (λ z. omega arith) (λ z. omega arith)), back)
    where
      by : length card ≡ card_length version card → (flag_ok (floor_at version card) ≡ true) × (card_refusal version c ≡ 0) × (services_ok (services_at version card) ≡ false) → (t : Bool) → lists_services version ≡ t → OpenCase61 version card
      by l x true t =
          record {
            long = l;
            fields = x.1;
            flag = flag_low (floor_at version card) x.0;
            lists = t;
            list = (services_exactly (service_at card) (get_or card count_place 0)).0 (sym (ap services_ok (services_listed version card t)) ∙ x.2);
          }
      by l x false t = no_both (sym ok_none ∙ sym (ap services_ok (services_none version card t)) ∙ x.2)

      on : o.code ≡ 61 → ((length card ≡ card_length version card → ⊥) × (o.code ≡ 1)) ⊎ ((length card ≡ card_length version card) × (refusal_at version card ≡ o.code)) → OpenCase61 version card
      on h (inl x) = absurd (omega arith)
      on h (inr x) = by x.0 (list_refused.0 (x.1 ∙ h)) (lists_services version) refl

      back : OpenCase61 version card → o.code ≡ 61
      back x =
          let bad = ap services_ok (services_listed version card x.lists) ∙ (services_exactly (service_at card) (get_or card count_place 0)).1 x.list in
          let r = list_refused.1 (low_flag (floor_at version card) x.flag, x.fields, bad) in
          card_code x.long (λ z. omega arith) ∙ r

  pub open_10 : ((open_of version card rec free).code ≡ 10) ↔ OpenCase10 version card rec
  open_10 = (on (open_way version known card rec free), λ x. code_of (unchanged 10 rec free) (is_known ∙ open_record version card rec free x.card_good.long x.card_good.accepted x.other_length))
    where
      on : OpenWay version card rec free o → o.code ≡ 10 → OpenCase10 version card rec
      on (other_card l e) h = let n = code_of (unchanged 1 rec free) e in absurd (omega arith)
      on (refused l a e) h = absurd ((card_refusal_own 10 (refused_number a 10 e h)).1 refl)
      on (other_record x e) h = x
      on (no_room x e) h = let n = code_of (unchanged 11 rec free) e in absurd (omega arith)
      on (opens x e) h = let n = code_of (opened_with version card free) e in absurd (omega arith)

  pub open_11 : ((open_of version card rec free).code ≡ 11) ↔ OpenCase11 version card rec free
  open_11 = (on (open_way version known card rec free), λ x. code_of (unchanged 11 rec free) (is_known ∙ open_room version card rec free x.card_good.long x.card_good.accepted x.long x.no_room))
    where
      on : OpenWay version card rec free o → o.code ≡ 11 → OpenCase11 version card rec free
      on (other_card l e) h = let n = code_of (unchanged 1 rec free) e in absurd (omega arith)
      on (refused l a e) h = absurd ((card_refusal_own 11 (refused_number a 11 e h)).2 refl)
      on (other_record x e) h = let n = code_of (unchanged 10 rec free) e in absurd (omega arith)
      on (no_room x e) h = x
      on (opens x e) h = let n = code_of (opened_with version card free) e in absurd (omega arith)

  -- 0 exactly when the card has its length, 1 to 4 and 61 don't apply, the record has its length and there is room for the version and line 0
  pub open_0 : ((open_of version card rec free).code ≡ 0) ↔ Opens version card rec free
  open_0 = (on (open_way version known card rec free), λ x. code_of (opened_with version card free) (is_known ∙ opened version card rec free x.card_good.long x.card_good.accepted x.long x.room))
    where
      on : OpenWay version card rec free o → o.code ≡ 0 → Opens version card rec free
      on (other_card l e) h = let n = code_of (unchanged 1 rec free) e in absurd (omega arith)
      on (refused l a e) h = absurd (a (sym (code_of (unchanged (refusal_at version card) rec free) e) ∙ h))
      on (other_record x e) h = let n = code_of (unchanged 10 rec free) e in absurd (omega arith)
      on (no_room x e) h = let n = code_of (unchanged 11 rec free) e in absurd (omega arith)
      on (opens x e) h = x

  -- a refused opening changes no byte
  pub refused_opening_keeps : ((open_of version card rec free).code ≡ 0 → ⊥) → open_of version card rec free ≡ unchanged (open_of version card rec free).code rec free
  refused_opening_keeps h = on (open_way version known card rec free)
    where
      on : OpenWay version card rec free o → o ≡ unchanged o.code rec free
      on (other_card l e) = unchanged_by 1 e
      on (refused l a e) = unchanged_by (refusal_at version card) e
      on (other_record x e) = unchanged_by 10 e
      on (no_room x e) = unchanged_by 11 e
      on (opens x e) = absurd (h (code_of (opened_with version card free) e))

  -- opening gives no other number
  pub open_codes : ((open_of version card rec free).code ≡ 0) ⊎ (((open_of version card rec free).code ≡ 10) ⊎ (((open_of version card rec free).code ≡ 11) ⊎ CardRefusal (open_of version card rec free).code))
  open_codes = on (open_way version known card rec free)
    where
      on : OpenWay version card rec free o → (o.code ≡ 0) ⊎ ((o.code ≡ 10) ⊎ ((o.code ≡ 11) ⊎ CardRefusal o.code))
      on (other_card l e) = inr (inr (inr (inl (code_of (unchanged 1 rec free) e))))
      on (refused l a e) = inr (inr (inr (refused_number a o.code e refl)))
      on (other_record x e) = inr (inl (code_of (unchanged 10 rec free) e))
      on (no_room x e) = inr (inr (inl (code_of (unchanged 11 rec free) e)))
      on (opens x e) = inl (code_of (opened_with version card free) e)

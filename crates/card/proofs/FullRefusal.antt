-- A card extended by its services and its flag: which of the fields, the flag and the list decides it.
use mathlib.Core.Path.{◌≡◌, refl, sym, ap, ◌∙◌, subst}
use mathlib.Core.Bool.{Bool, true, false, cond}
use mathlib.Core.Logic.{◌⊎◌, inl, inr, ◌↔◌}
use Prim.Native.Nat.{ℕ, ◌≤◌}
use mathlib.Core.List.{List}
use lib.ListN.{length}
use native.Mathlib.Decide.{ℕ_discrete}
use native.Mathlib.Omega.{arith}
use borrow.Author.Tests.{eq-eqb, ne_eqb}
use Rattle.logic.proofs.Tests.{and_true, true_and}
use Rattle.refusals.specs.Refusals.{answered, bad_services}
use Rattle.card.specs.Card.{card_refusal, CardRefusal}
use Rattle.card.specs.declared.Card.{Card}
use Rattle.card.specs.Services.{Service, services_ok, list_refusal}
use Rattle.card.specs.Extension.{Extension, flag_ok, extension_ok, full_refusal}
use Rattle.card.proofs.Listed.{ok_length}
use Rattle.card.proofs.Refusals.{card_refusal_lem, card_refusal_few}

-- accepted services are at most 32
pub extension_few : (services : List Service) (floor : ℕ) → extension_ok (record { services = services; floor = floor }) ≡ true → length services ≤ 32
unfolding extension_ok
extension_few services floor h = ok_length services (and_true (flag_ok floor) (services_ok services) h).1

listed_zero : (o : Bool) → cond o answered bad_services ≡ answered → o ≡ true
listed_zero true h = refl
listed_zero false h = absurd (omega arith)

listed_61 : (o : Bool) → cond o answered bad_services ≡ bad_services → o ≡ false
listed_61 true h = absurd (omega arith)
listed_61 false h = refl

listed_few : (o : Bool) (n : ℕ) → 1 ≤ n → n ≤ 4 → cond o answered bad_services ≡ n → ⊥
listed_few true n h k e = omega arith
listed_few false n h k e = omega arith

module _ (version : ℕ) (card : Card) (extension : Extension) where
  abbrev own : ℕ
  own = card_refusal version card

  abbrev full : ℕ
  full = full_refusal version card extension

  abbrev flag : Bool
  flag = flag_ok extension.floor

  abbrev list : Bool
  list = services_ok extension.services

  -- the flag decides first; then the list where the fields are accepted; else the fields do
  pub full_flag : flag ≡ false → full ≡ 1
  unfolding full_refusal
  full_flag f = rw f

  pub full_listed : flag ≡ true → own ≡ 0 → full ≡ list_refusal extension.services
  unfolding full_refusal
  full_listed f e = rw (f, eq-eqb own 0 e)

  pub full_fields : flag ≡ true → (own ≡ 0 → ⊥) → full ≡ own
  unfolding full_refusal
  full_fields f ne = rw (f, ne_eqb own 0 ne)

  pub extension_parts : extension_ok extension ≡ true → (flag ≡ true) × (list ≡ true)
  unfolding extension_ok
  extension_parts h = and_true flag list h

  pub extension_whole : flag ≡ true → list ≡ true → extension_ok extension ≡ true
  unfolding extension_ok
  extension_whole f l = true_and f l

  pub full_accepted : full ≡ 0 → (own ≡ 0) × (extension_ok extension ≡ true)
  unfolding list_refusal
  full_accepted h = on flag refl (ℕ_discrete own 0)
    where
      on : (b : Bool) → flag ≡ b → Dec (own ≡ 0) → (own ≡ 0) × (extension_ok extension ≡ true)
      on false f d = absurd (let z = full_flag f in omega arith)
      on true f (yes e) = (e, extension_whole f (listed_zero list (sym (full_listed f e) ∙ h)))
      on true f (no ne) = absurd (ne (sym (full_fields f ne) ∙ h))

  pub accepted_full : own ≡ 0 → extension_ok extension ≡ true → full ≡ 0
  unfolding list_refusal
  accepted_full e k = let p = extension_parts k in full_listed p.0 e ∙ ap (λ (b : Bool). cond b answered bad_services) p.1

  -- 1 is the flag's or the fields'
  pub full_one : (full ≡ 1) ↔ ((flag ≡ false) ⊎ (own ≡ 1))
  unfolding list_refusal
  full_one = (there flag refl (ℕ_discrete own 0), back)
    where
      there : (b : Bool) → flag ≡ b → Dec (own ≡ 0) → full ≡ 1 → (flag ≡ false) ⊎ (own ≡ 1)
      there false f d q = inl f
      there true f (yes e) q = absurd (listed_few list 1 (omega arith) (omega arith) (sym (full_listed f e) ∙ q))
      there true f (no ne) q = inr (sym (full_fields f ne) ∙ q)

      by_flag : (b : Bool) → flag ≡ b → own ≡ 1 → full ≡ 1
      by_flag false f e = full_flag f
      by_flag true f e = full_fields f (λ z. omega arith) ∙ e

      back : (flag ≡ false) ⊎ (own ≡ 1) → full ≡ 1
      back (inl f) = full_flag f
      back (inr e) = by_flag flag refl e

  -- 2 to 4 are the fields'
  pub full_few : (n : ℕ) → 2 ≤ n → n ≤ 4 → (full ≡ n) ↔ ((flag ≡ true) × (own ≡ n))
  unfolding list_refusal
  full_few n h k = (on flag refl (ℕ_discrete own 0), λ x. full_fields x.0 (λ z. omega (arith, x.1, z)) ∙ x.1)
    where
      on : (b : Bool) → flag ≡ b → Dec (own ≡ 0) → full ≡ n → (flag ≡ true) × (own ≡ n)
      on false f d q = absurd (let z = full_flag f in omega arith)
      on true f (yes e) q = absurd (listed_few list n (omega arith) k (sym (full_listed f e) ∙ q))
      on true f (no ne) q = (f, sym (full_fields f ne) ∙ q)

  -- 61 is the list's
  pub full_61 : (full ≡ 61) ↔ ((flag ≡ true) × (own ≡ 0) × (list ≡ false))
  unfolding list_refusal
  full_61 = (on flag refl (ℕ_discrete own 0), λ h. full_listed h.0 h.1 ∙ ap (λ (b : Bool). cond b answered bad_services) h.2)
    where
      on : (b : Bool) → flag ≡ b → Dec (own ≡ 0) → full ≡ 61 → (flag ≡ true) × (own ≡ 0) × (list ≡ false)
      on false f d q = absurd (let z = full_flag f in omega arith)
      on true f (yes e) q = (f, e, listed_61 list (sym (full_listed f e) ∙ q))
      on true f (no ne) q = absurd (let l = card_refusal_few version card in let z : own ≡ 61 = sym (full_fields f ne) ∙ q in omega arith)

  pub full_refusal_lem : (full ≡ 0 → ⊥) → CardRefusal full
  unfolding list_refusal
  full_refusal_lem h = on flag refl (ℕ_discrete own 0)
    where
      of_list : (o : Bool) → list ≡ o → flag ≡ true → own ≡ 0 → CardRefusal full
      of_list true k f e = absurd (h (accepted_full e (extension_whole f k)))
      of_list false k f e = inr (inr (inr (inr (inl (full_61.1 (f, e, k))))))

      on : (b : Bool) → flag ≡ b → Dec (own ≡ 0) → CardRefusal full
      on false f d = inl (full_flag f)
      on true f (yes e) = of_list list refl f e
      on true f (no ne) = subst CardRefusal (sym (full_fields f ne)) (card_refusal_lem version card ne)

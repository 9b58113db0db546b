-- 61 exactly in its case: a list that is too long, or breaks in one of its entries.
use mathlib.Core.Path.{◌≡◌, refl, sym, ◌∙◌}
use mathlib.Core.Bool.{Bool, true, false, ◌&&◌}
use mathlib.Core.Logic.{◌⊎◌, inl, inr, ◌↔◌}
use Prim.Native.Nat.{ℕ, zero, suc, ◌+◌, ◌≤◌, ◌<◌}
use native.Mathlib.Decide.{ℕ_discrete, dec_lt}
use native.Mathlib.Omega.{arith}
use borrow.Author.Tests.{leb-true, le-leb}
use lib.Dec.{leb}
use lib.ListN.{length}
use lib.Ieee.Bits.{is_true}
use Rattle.logic.proofs.Tests.{and_true, true_and, no_both, fails}
use Rattle.card.specs.Services.{Service, listed, most_services, last_type, service_ok, rising_from, services_ok, BadServices, too_many, not_rising, under_four, unknown_class}
use Rattle.card.proofs.Listed.{listed_length}

either_false : (a b : Bool) → (a && b) ≡ false → (a ≡ false) ⊎ (b ≡ false)
either_false true b h = inr h
either_false false b h = inl refl

pub one_ok : (least : ℕ) (s : Service) → service_ok least s ≡ true → (least ≤ s.number) × (1 ≤ s.class) × (s.class ≤ 3)
unfolding service_ok
one_ok least s h =
    let p = and_true (leb least s.number) (leb 1 s.class && leb s.class 3) h in
    let q = and_true (leb 1 s.class) (leb s.class 3) p.1 in
    (leb-true least s.number p.0, leb-true 1 s.class q.0, leb-true s.class 3 q.1)

-- a number under the least one, or an unknown class
one_bad : (least : ℕ) (s : Service) → service_ok least s ≡ false → (s.number < least) ⊎ ((s.class < 1) ⊎ (3 < s.class))
unfolding service_ok
one_bad least s h = on (dec_lt s.number least) (dec_lt s.class 1) (dec_lt 3 s.class)
  where
    on : Dec (s.number < least) → Dec (s.class < 1) → Dec (3 < s.class) → (s.number < least) ⊎ ((s.class < 1) ⊎ (3 < s.class))
    on (yes l) b c = inl l
    on (no a) (yes l) c = inr (inl l)
    on (no a) (no b) (yes l) = inr (inr l)
    on (no a) (no b) (no c) =
        no_both (sym (true_and (le-leb least s.number (omega arith)) (true_and (le-leb 1 s.class (omega arith)) (le-leb s.class 3 (omega arith)))) ∙ h)

module _ (service : ℕ → Service) where
  -- an entry of a rising list, from the k-th on
  abbrev Entry : ℕ → ℕ → Type 0
  Entry least j = (least ≤ (service j).number) × (1 ≤ (service j).class) × ((service j).class ≤ 3)

  each : (least k n : ℕ) → rising_from least (listed service k n) ≡ true → (j : ℕ) → k ≤ j → j < k + n → Entry least j
  unfolding rising_from listed
  each least k zero h j l m = absurd (omega arith)
  each least k (suc n) h j l m =
      let p = and_true (service_ok least (service k)) (rising_from (suc (service k).number) (listed service (suc k) n)) h in
      let o = one_ok least (service k) p.0 in
      elim (ℕ_discrete j k) [
        | yes e ↦ rw e o
        | no ne ↦ (let r = each (suc (service k).number) (suc k) n p.1 j (omega arith) (omega arith) in (omega (arith, r.0, o.0), r.1, r.2))
      ]

  rises : (least k n : ℕ) → rising_from least (listed service k n) ≡ true → (j : ℕ) → k ≤ j → suc j < k + n → (service j).number < (service (suc j)).number
  unfolding rising_from listed
  rises least k zero h j l m = absurd (omega arith)
  rises least k (suc n) h j l m =
      let p = and_true (service_ok least (service k)) (rising_from (suc (service k).number) (listed service (suc k) n)) h in
      elim (ℕ_discrete j k) [
        | yes e ↦ rw e (each (suc (service k).number) (suc k) n p.1 (suc k) (omega arith) (omega arith)).0
        | no ne ↦ rises (suc (service k).number) (suc k) n p.1 j (omega arith) (omega arith)
      ]

  -- where a list that doesn't rise breaks
  data Broken (least k n : ℕ) : Type 0 where
    low : 0 < n → (service k).number < least → Broken least k n
    falls : (j : ℕ) → k ≤ j → suc j < k + n → (service (suc j)).number ≤ (service j).number → Broken least k n
    classless : (j : ℕ) → k ≤ j → j < k + n → ((service j).class < 1) ⊎ (3 < (service j).class) → Broken least k n

  further : (least k n : ℕ) → Broken (suc (service k).number) (suc k) n → Broken least k (suc n)
  further least k n (low some h) = falls k (omega arith) (omega arith) (omega arith)
  further least k n (falls j l m h) = falls j (omega arith) (omega arith) h
  further least k n (classless j l m h) = classless j (omega arith) (omega arith) h

  breaks : (least k n : ℕ) → rising_from least (listed service k n) ≡ false → Broken least k n
  unfolding rising_from listed
  breaks least k zero h = no_both h
  breaks least k (suc n) h =
      elim (either_false (service_ok least (service k)) (rising_from (suc (service k).number) (listed service (suc k) n)) h) [
        | inl e ↦ elim (one_bad least (service k) e) [ inl l ↦ low (omega arith) l | inr l ↦ classless k (omega arith) (omega arith) l ]
        | inr e ↦ further least k n (breaks (suc (service k).number) (suc k) n e)
      ]

  bad_list : (n : ℕ) → Broken 4 0 n → BadServices service n
  bad_list n (low some h) = under_four 0 some h
  bad_list n (falls j l m h) = not_rising j (omega arith) h
  bad_list n (classless j l m h) = unknown_class j (omega arith) h

  not_good : (n : ℕ) → n ≤ 32 → rising_from 4 (listed service 0 n) ≡ true → BadServices service n → ⊥
  not_good n few r (too_many h) = omega arith
  not_good n few r (not_rising i l h) = let k = rises 4 0 n r i (omega arith) (omega arith) in omega arith
  not_good n few r (under_four i l h) = let k = (each 4 0 n r i (omega arith) (omega arith)).0 in omega arith
  not_good n few r (unknown_class i l (inl h)) = let k = (each 4 0 n r i (omega arith) (omega arith)).1 in omega arith
  not_good n few r (unknown_class i l (inr h)) = let k = (each 4 0 n r i (omega arith) (omega arith)).2 in omega arith

  -- the test fails exactly where the list is bad
  pub services_exactly : (n : ℕ) → (services_ok (listed service 0 n) ≡ false) ↔ BadServices service n
  unfolding services_ok
  services_exactly n = (there, back)
    where
      long : length (listed service 0 n) ≡ n
      long = listed_length service 0 n

      few : Dec (32 < length (listed service 0 n)) → leb (length (listed service 0 n)) most_services ≡ false → 32 < n
      few (yes h) e = omega (arith, h, long)
      few (no h) e = no_both (sym (le-leb (length (listed service 0 n)) 32 (omega arith)) ∙ e)

      there : (leb (length (listed service 0 n)) most_services && rising_from (suc last_type) (listed service 0 n)) ≡ false → BadServices service n
      there h =
          elim (either_false (leb (length (listed service 0 n)) most_services) (rising_from 4 (listed service 0 n)) h) [
            | inl e ↦ too_many (few (dec_lt 32 (length (listed service 0 n))) e)
            | inr e ↦ bad_list n (breaks 4 0 n e)
          ]

      back : BadServices service n → (leb (length (listed service 0 n)) most_services && rising_from (suc last_type) (listed service 0 n)) ≡ false
      back bad =
          fails (leb (length (listed service 0 n)) most_services && rising_from 4 (listed service 0 n))
          (λ t. let p = and_true (leb (length (listed service 0 n)) most_services) (rising_from 4 (listed service 0 n)) (is_true (leb (length (listed service 0 n)) most_services && rising_from 4 (listed service 0 n)) t) in
          not_good n (omega (arith, leb-true (length (listed service 0 n)) 32 p.0, long)) p.1 bad)

-- The services that a card lists, entry by entry: a walk over them, and their count.
use mathlib.Core.Path.{◌≡◌, refl, sym, ap, ◌∙◌}
use mathlib.Core.Bool.{Bool, true, false, cond}
use mathlib.Core.List.{List, [], ◌∷◌}
use Prim.Native.Nat.{ℕ, zero, suc, ◌+◌, ◌≤◌, ◌<◌}
use native.Mathlib.Omega.{arith}
use borrow.Author.Tests.{eq-eqb, ne_eqb, leb-true, le-leb}
use lib.Dec.{leb, leb→le}
use lib.ListN.{length, get_or, drop}
use Rattle.std.proofs.lemmas.List.{drop_more, at_drop_all}
use Rattle.logic.proofs.Tests.{and_true, fails}
use Rattle.card.specs.Services.{Service, listed, most_services, service_ok, rising_from, services_ok, listed_class}

-- ---- a list by its entries

pub listed_length : (service : ℕ → Service) (k n : ℕ) → length (listed service k n) ≡ n
unfolding listed
listed_length service k zero = refl
listed_length service k (suc n) = ap suc (listed_length service (suc k) n)

-- the list hangs on the entries that it has
pub listed_same : (service other : ℕ → Service) (k n : ℕ) → ((i : ℕ) → k ≤ i → i < k + n → service i ≡ other i) → listed service k n ≡ listed other k n
unfolding listed
listed_same service other k zero h = refl
listed_same service other k (suc n) h =
    rw (h k (omega arith) (omega arith), listed_same service other (suc k) n (λ i l m. h i (omega arith) (omega arith)))

-- the k-th of those from the j-th on
entry_by : (service : ℕ → Service) (j n k : ℕ) (d : Service) → k < n → get_or (listed service j n) k d ≡ service (j + k)
unfolding listed
entry_by service j zero k d h = absurd (omega arith)
entry_by service j (suc n) zero d h = ap service (omega arith)
entry_by service j (suc n) (suc k) d h = entry_by service (suc j) n k d (omega arith) ∙ ap service (omega arith)

listed_entry : (service : ℕ → Service) (n k : ℕ) (d : Service) → k < n → get_or (listed service 0 n) k d ≡ service k
listed_entry service n k d h = entry_by service 0 n k d h ∙ ap service (omega arith)

-- a list that there is in some versions only
pub entry_if : (t : Bool) (service : ℕ → Service) (n k : ℕ) (d : Service) → k < length (cond t (listed service 0 n) [])
    → (t ≡ true) × (k < n) × (get_or (cond t (listed service 0 n) []) k d ≡ service k)
entry_if true service n k d h =
    let l : k < n = omega (arith, h, listed_length service 0 n) in
    (refl, l, listed_entry service n k d l)
entry_if false service n k d h = absurd (omega arith)

-- ---- a walk over a list: what is left of it from the k-th on

module _ (l : List Service) (k : ℕ) (s : Service) where
  one_more : k < length l → s ≡ get_or l k s → drop k l ≡ s ∷ drop (k + 1) l
  one_more h e = drop_more l k s h ∙ ap (λ (t : Service). t ∷ drop (k + 1) l) (sym e)

  -- whether they rise
  pub rising_stops : (least : ℕ) → k < length l → s ≡ get_or l k s → service_ok least s ≡ false → rising_from least (drop k l) ≡ false
  unfolding rising_from
  rising_stops least h e f = ap (rising_from least) (one_more h e) ∙ rw f

  pub rising_further : (least : ℕ) → k < length l → s ≡ get_or l k s → service_ok least s ≡ true
      → rising_from least (drop k l) ≡ rising_from (s.number + 1) (drop (k + 1) l)
  unfolding rising_from
  rising_further least h e f =
      let q : suc s.number ≡ s.number + 1 = omega arith in
      ap (rising_from least) (one_more h e) ∙ rw (f, q)

  -- the class of a number
  pub class_here : (number : ℕ) → k < length l → s ≡ get_or l k s → s.number ≡ number → listed_class (drop k l) number ≡ s.class
  unfolding listed_class
  class_here number h e f = ap (λ (m : List Service). listed_class m number) (one_more h e) ∙ rw (eq-eqb s.number number f)

  pub class_further : (number : ℕ) → k < length l → s ≡ get_or l k s → (s.number ≡ number → ⊥)
      → listed_class (drop k l) number ≡ listed_class (drop (k + 1) l) number
  unfolding listed_class
  class_further number h e ne = ap (λ (m : List Service). listed_class m number) (one_more h e) ∙ rw (ne_eqb s.number number ne)

-- nothing is left
pub rising_done : (l : List Service) (k least : ℕ) → length l ≤ k → rising_from least (drop k l) ≡ true
unfolding rising_from
rising_done l k least h = at_drop_all (rising_from least) l k h

pub class_none : (l : List Service) (k number : ℕ) → length l ≤ k → listed_class (drop k l) number ≡ 0
unfolding listed_class
class_none l k number h = at_drop_all (λ (m : List Service). listed_class m number) l k h

-- ---- the count first

pub ok_few : (l : List Service) → length l ≤ 32 → services_ok l ≡ rising_from 4 l
unfolding services_ok
ok_few l h = rw (le-leb (length l) most_services h)

pub ok_many : (l : List Service) → 32 < length l → services_ok l ≡ false
unfolding services_ok
ok_many l h = rw (fails (leb (length l) most_services) (λ t. omega (arith, h, leb→le (length l) most_services t)))

pub ok_none : services_ok [] ≡ true
unfolding services_ok rising_from
ok_none = refl

-- accepted ones are at most 32
pub ok_length : (l : List Service) → services_ok l ≡ true → length l ≤ 32
unfolding services_ok
ok_length l h = leb-true (length l) most_services (and_true (leb (length l) most_services) (rising_from 4 l) h).0

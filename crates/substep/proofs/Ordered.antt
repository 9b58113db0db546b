-- What is gathered from a list's places in a mode's order: the same where each place is written just before it is read,
-- and for the tests of a pass and the energies of charging alone the same as upward.
use Rattle.std.specs.Prelude.{Option, None}
use mathlib.Core.Path.{◌≡◌, refl, sym, ◌∙◌, ap}
use mathlib.Core.Bool.{Bool, true, ◌&&◌}
use mathlib.Core.List.{List}
use Prim.Native.Nat.{ℕ, zero, suc, ◌≤◌, ◌<◌}
use native.Mathlib.Decide.{ℕ_discrete}
use native.Mathlib.Omega.{arith}
use lib.ListN.{length, get_or, set}
use lib.Seq.{get_or-set_same, get_or-set_other}
use lib.Ieee.{Float, nan}
use lib.Ieee.Bits.{is_true}
use Rattle.floats.specs.Constants as Constants
use Rattle.floats.specs.Standins.{finite64}
use Rattle.floats.specs.Sum2.{sum2_step, sum2_after}
use Rattle.logic.proofs.Tests.{same_test, and_true, true_and}
use Rattle.floats.proofs.Sum2Laws.{no_sum, no_sum_more}
use Rattle.zone_water.specs.declared.Mode.{Mode}
use Rattle.zone_water.specs.declared.Mode.TheVariants.{OnlyCharging, Losses, Normal}
use Rattle.battery.specs.Battery.{zones_finite}
use Rattle.battery.proofs.Zones.{zones_finite_of, zones_finite_at}
use Rattle.substep.specs.Substep.{zone_index}
use Rattle.substep.proofs.SubstepLaws.{index_below}
use Rattle.substep.proofs.EachZone.{index_once}

-- from a, by f, the first k of n places in the mode's order
unfoldable pub in_order : {A : Type 0} → Mode → ℕ → (A → Float → A) → A → List Float → ℕ → A
in_order m n f a l zero = a
in_order m n f a l (suc k) = f (in_order m n f a l k) (get_or l (zone_index m n k) nan)

abbrev pub and_finite : Bool → Float → Bool
and_finite b t = b && finite64 t

-- the mode's order there and back
index_back : (m : Mode) (n i : ℕ) → i < n → zone_index m n (zone_index m n i) ≡ i
unfolding zone_index
index_back OnlyCharging n i h = omega arith
index_back (Losses f) n i h = refl
index_back Normal n i h = refl

module _ {A : Type 0} (m : Mode) (n : ℕ) (f : A → Float → A) (a : A) (l : List Float) where
  -- a store at the k-th place is not seen before it
  before_store : (k : ℕ) (v : Float) → k < n → (i : ℕ) → i ≤ k → in_order m n f a (set l (zone_index m n k) v) i ≡ in_order m n f a l i
  unfolding in_order
  before_store k v h zero g = refl
  before_store k v h (suc i) g =
      rw (before_store k v h i (omega arith), get_or-set_other l (zone_index m n k) (zone_index m n i) v nan (λ e. index_once m n k i h (omega arith) e))

  -- stored at the k-th place, read there and gathered
  pub read_more : (k : ℕ) (v : Float) → k < n → in_order m n f a (set l (zone_index m n k) v) (suc k) ≡ f (in_order m n f a l k) (get_or (set l (zone_index m n k) v) (zone_index m n k) nan)
  unfolding in_order
  read_more k v h = rw (before_store k v h k (omega arith))

  pub gathered_more : (k : ℕ) (v : Float) → k < n → n ≤ length l → in_order m n f a (set l (zone_index m n k) v) (suc k) ≡ f (in_order m n f a l k) v
  gathered_more k v h g =
      let b : zone_index m n k < n = index_below m n k h in
      read_more k v h ∙ ap (f (in_order m n f a l k)) (get_or-set_same l (zone_index m n k) v nan (omega arith))

  -- items that change nothing
  gathered_none : (v : Float) → f a v ≡ a → ((i : ℕ) → i < n → get_or l i nan ≡ v) → (k : ℕ) → k ≤ n → in_order m n f a l k ≡ a
  unfolding in_order
  gathered_none v e z zero h = refl
  gathered_none v e z (suc k) h = rw (gathered_none v e z k (omega arith), z (zone_index m n k) (index_below m n k (omega arith))) e

-- upward it is the sum of `sum2`
sum_upward : (m : Mode) (n : ℕ) (l : List Float) → ((i : ℕ) → zone_index m n i ≡ i) → (k : ℕ) → in_order m n sum2_step no_sum l k ≡ sum2_after l k
unfolding in_order sum2_after
sum_upward m n l up zero = refl
sum_upward m n l up (suc k) = rw (sum_upward m n l up k, up k)

sum_losses : (f : Option Float) (n : ℕ) (l : List Float) → in_order (Losses f) n sum2_step no_sum l n ≡ sum2_after l n
unfolding zone_index
sum_losses f n l = sum_upward (Losses f) n l (λ i. refl) n

-- all tests hold in one order where they hold in the other
module _ (m : Mode) (n : ℕ) (l : List Float) where
  tests_of : (k : ℕ) → ((i : ℕ) → i < k → finite64 (get_or l (zone_index m n i) nan) ≡ true) → in_order m n and_finite true l k ≡ true
  unfolding in_order
  tests_of zero h = refl
  tests_of (suc k) h = true_and (tests_of k (λ i g. h i (omega arith))) (h k (omega arith))

  tests_at : (k : ℕ) → in_order m n and_finite true l k ≡ true → (i : ℕ) → i < k → finite64 (get_or l (zone_index m n i) nan) ≡ true
  unfolding in_order
  tests_at zero h i g = absurd (omega arith)
  tests_at (suc k) h i g = on (λ e b. tests_at k e i b) (ℕ_discrete i k)
    where
      a : (in_order m n and_finite true l k ≡ true) × (finite64 (get_or l (zone_index m n k) nan) ≡ true)
      a = and_true (in_order m n and_finite true l k) (finite64 (get_or l (zone_index m n k) nan)) h

      on : (in_order m n and_finite true l k ≡ true → i < k → finite64 (get_or l (zone_index m n i) nan) ≡ true) → Dec (i ≡ k) → finite64 (get_or l (zone_index m n i) nan) ≡ true
      on below (yes e) = rw e a.1
      on below (no ne) = below a.0 (omega arith)

  there : in_order m n and_finite true l n ≡ true → zones_finite l n ≡ true
  there h = zones_finite_of l n (λ i g. ap (λ (j : ℕ). finite64 (get_or l j nan)) (sym (index_back m n i g)) ∙ tests_at n h (zone_index m n i) (index_below m n i g))

  back : zones_finite l n ≡ true → in_order m n and_finite true l n ≡ true
  back h = tests_of n (λ i g. zones_finite_at l n h (zone_index m n i) (index_below m n i g))

  pub tests_all : in_order m n and_finite true l n ≡ zones_finite l n
  tests_all =
      same_test (in_order m n and_finite true l n) (zones_finite l n)
      (λ h. rw (there (is_true (in_order m n and_finite true l n) h)) tt)
      (λ h. rw (back (is_true (zones_finite l n) h)) tt)

-- zeros sum to nothing in any order
module _ (n : ℕ) (l : List Float) (zeros : (i : ℕ) → i < n → get_or l i nan ≡ Constants.zero) where
  sum_zeros : in_order OnlyCharging n sum2_step no_sum l n ≡ sum2_after l n
  sum_zeros =
      gathered_none OnlyCharging n sum2_step no_sum l Constants.zero no_sum_more zeros n (omega arith) ∙
      (sym (gathered_none (Losses None) n sum2_step no_sum l Constants.zero no_sum_more zeros n (omega arith)) ∙ sum_losses None n l)

-- the sum in the mode's order, of energies that are 0 where it is not upward
pub sum_all :
    (m : Mode) (n : ℕ) (l : List Float) →
    (m ≡ OnlyCharging → (i : ℕ) → i < n → get_or l i nan ≡ Constants.zero) →
    in_order m n sum2_step no_sum l n ≡ sum2_after l n
unfolding zone_index
sum_all OnlyCharging n l h = sum_zeros n l (h refl)
sum_all (Losses f) n l h = sum_losses f n l
sum_all Normal n l h = sum_upward Normal n l (λ i. refl) n

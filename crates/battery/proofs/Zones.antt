-- Lists of zones: finite ones place by place, and lists that agree from a place on.
use mathlib.Core.Path.{◌≡◌, refl, ◌∙◌}
use mathlib.Core.Bool.{true, ◌&&◌}
use mathlib.Core.List.{List}
use Prim.Native.Nat.{ℕ, zero, suc, ◌≤◌, ◌<◌}
use native.Mathlib.Decide.{ℕ_discrete}
use native.Mathlib.Omega.{arith}
use lib.ListN.{length, take, get_or}
use lib.Ieee.{Float, nan}
use Rattle.floats.specs.Standins.{finite64}
use Rattle.floats.proofs.Front.{front_of}
use Rattle.logic.proofs.Tests.{and_true, true_and}
use Rattle.battery.specs.Battery.{zones_finite}
use Rattle.battery.specs.Places.{SameAbove}

pub zones_finite_of : (zones : List Float) (n : ℕ) → ((i : ℕ) → i < n → finite64 (get_or zones i nan) ≡ true) → zones_finite zones n ≡ true
unfolding zones_finite
zones_finite_of zones zero h = refl
zones_finite_of zones (suc n) h = true_and (zones_finite_of zones n (λ i l. h i (omega arith))) (h n (omega arith))

pub zones_finite_at : (zones : List Float) (n : ℕ) → zones_finite zones n ≡ true → (i : ℕ) → i < n → finite64 (get_or zones i nan) ≡ true
unfolding zones_finite
zones_finite_at zones zero h i l = absurd (omega arith)
zones_finite_at zones (suc n) h i l = on (λ g m. zones_finite_at zones n g i m) (ℕ_discrete i n)
  where
    a : (zones_finite zones n ≡ true) × (finite64 (get_or zones n nan) ≡ true)
    a = and_true (zones_finite zones n) (finite64 (get_or zones n nan)) h

    on : (zones_finite zones n ≡ true → i < n → finite64 (get_or zones i nan) ≡ true) → Dec (i ≡ n) → finite64 (get_or zones i nan) ≡ true
    on below (yes e) = rw e a.1
    on below (no ne) = below a.0 (omega arith)

-- of the front of a list
pub finite_front : (zones : List Float) (n : ℕ) → n ≤ length zones → zones_finite (take n zones) (length (take n zones)) ≡ zones_finite zones n
unfolding zones_finite
finite_front = front_of zones_finite (λ ok k x. ok && finite64 x) (λ xs ys. refl) (λ xs k. refl)

pub same_above : (n : ℕ) (zones : List Float) → SameAbove n zones zones
same_above n zones = record { places = refl; above = λ j h. refl }

pub then_above : {n : ℕ} {a b c : List Float} → SameAbove n a b → SameAbove n b c → SameAbove n a c
then_above p q = record { places = q.places ∙ p.places; above = λ j h. q.above j h ∙ p.above j h }

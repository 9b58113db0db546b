-- A float of a range is finite, and what its ends tell of it.
use mathlib.Core.Path.{◌≡◌}
use mathlib.Core.Bool.{true}
use lib.Dec.{T}
use lib.Ieee.{Float, binary64, fits, of_bits, neg, lt, le}
use lib.Ieee.Fits.{and_i}
use lib.Ieee.Scale.{finite}
use Rattle.floats.specs.Constants.{zero}
use Rattle.floats.specs.Standins.{finite64, magnitude}
use Rattle.logic.proofs.Branch.{by_test}
use Rattle.floats.proofs.Finite.{between_finite}
use Rattle.floats.proofs.Order.{le_trans}
use Rattle.floats.proofs.Sign.{neg_anti}
use Rattle.card.specs.Ranges.{within, coldest, hottest, is_temperature, is_power}
use Rattle.logic.proofs.Tests.{and_true, holds}

module _ (low high x : Float) (h : within low high x ≡ true) where
  pub within_low : T (le low x)
  unfolding within
  within_low = holds (and_true (le low x) (le x high) h).0

  pub within_high : T (le x high)
  unfolding within
  within_high = holds (and_true (le low x) (le x high) h).1

  pub within_finite : T (finite low) → T (finite high) → T (fits binary64 x) → T (finite64 x)
  unfolding finite64
  within_finite p q f = and_i (fits binary64 x) (finite x) f (between_finite low x high p q within_low within_high)

pub temperature_finite : (x : Float) → is_temperature x ≡ true → T (fits binary64 x) → T (finite64 x)
unfolding is_temperature of_bits neg
temperature_finite x h f = within_finite _ _ x h tt tt f

-- -50 and 250 are both of a magnitude of at most 250
pub temperature_magnitude : (x : Float) → is_temperature x ≡ true → T (le (magnitude x) hottest)
unfolding is_temperature magnitude
temperature_magnitude x h =
    by_test (λ (y : Float). T (le y hottest)) (lt x zero) (neg x) x
    (λ l. le_trans (neg x) (neg coldest) hottest (neg_anti coldest x (within_low coldest hottest x h)) (unfold of_bits neg le lt in tt))
    (λ l. within_high coldest hottest x h)

pub power_nonneg : (x : Float) → is_power x ≡ true → T (le zero x)
unfolding is_power
power_nonneg x h = within_low zero _ x h

-- The salt of an accepted card is good: the capacities of a layer, 0.001..1e6 divided by 1..64, stay finite and above 0.
use mathlib.Core.Path.{◌≡◌}
use mathlib.Core.Bool.{true}
use Prim.Native.Nat.{ℕ, ◌≤◌, ◌<◌}
use native.Mathlib.Omega.{arith}
use lib.Dec.{T}
use lib.IntN.{pos}
use lib.Ieee.{Float, binary64, fits, of_bits, of_int, div, lt, le}
use lib.Ieee.Fits.{and_i, div-fits}
use lib.Ieee.Scale.{finite}
use Rattle.floats.specs.F64.{◌⊘◌}
use Rattle.floats.specs.Constants.{zero}
use Rattle.floats.specs.Standins.{finite64}
use Rattle.floats.proofs.Finite.{between_finite}
use Rattle.floats.proofs.Integer.{of_int_mono, of_int_positive}
use Rattle.floats.proofs.Order.{le_trans, lt_of_lt_of_le}
use Rattle.floats.proofs.Quotient.{div_number}
use Rattle.floats.proofs.QuotientOrder.{div_mono_l, div_anti_r}
use Rattle.zone.specs.Good.{GoodSalt}
use Rattle.zone.specs.Layer.{salt_at}
use Rattle.card.specs.Ranges.{thousandth, million, is_capacity}
use Rattle.card.specs.Card.{capacities_in_range, card_refusal}
use Rattle.card.specs.Derived.{salt_of, salts_of}
use Rattle.card.specs.Fits.{CardFits}
use Rattle.card.specs.declared.Card.{Card}
use Rattle.logic.proofs.Tests.{and_true, holds}
use Rattle.card.proofs.Accepted.{each_temperature, accepted, accepted_layers}
use Rattle.card.proofs.Within.{within_low, within_high, temperature_finite}

-- 0.001 / 64 is above 0, 1e6 / 1 is finite
smallest_share : T (lt zero (thousandth ⊘ of_int binary64 (pos 64)))
unfolding of_bits of_int div lt
smallest_share = tt

smallest_finite : T (finite (thousandth ⊘ of_int binary64 (pos 64)))
unfolding of_bits of_int div
smallest_finite = tt

largest_share : T (finite (million ⊘ of_int binary64 (pos 1)))
unfolding of_bits of_int div
largest_share = tt

module _ (x : Float) (h : is_capacity x ≡ true) (n : ℕ) (low : 1 ≤ n) (high : n ≤ 64) where
  in_range : T (le thousandth x) × T (le x million)
  unfolding is_capacity
  in_range = (within_low thousandth million x h, within_high thousandth million x h)

  x_finite : T (finite x)
  unfolding of_bits
  x_finite = between_finite thousandth x million tt tt in_range.0 in_range.1

  whole : (m : ℕ) → 1 ≤ m → T (lt zero (of_int binary64 (pos m)))
  unfolding of_bits
  whole m k = of_int_positive binary64 m k

  -- 0.001 / 64 ≤ 0.001 / n ≤ x / n ≤ 1e6 / n ≤ 1e6 / 1
  at_least : T (le (thousandth ⊘ of_int binary64 (pos 64)) (x ⊘ of_int binary64 (pos n)))
  unfolding of_bits le
  at_least =
      let small = div_number binary64 thousandth (of_int binary64 (pos n)) tt (whole n low) in
      le_trans (thousandth ⊘ of_int binary64 (pos 64)) (thousandth ⊘ of_int binary64 (pos n)) (x ⊘ of_int binary64 (pos n))
      (div_anti_r binary64 thousandth (of_int binary64 (pos n)) (of_int binary64 (pos 64)) small (div_number binary64 thousandth (of_int binary64 (pos 64)) tt (whole 64 (omega arith)))
      tt (whole n low) (of_int_mono binary64 n 64 high))
      (div_mono_l binary64 thousandth x (of_int binary64 (pos n)) small (div_number binary64 x (of_int binary64 (pos n)) x_finite (whole n low)) (whole n low) in_range.0)

  at_most : T (le (x ⊘ of_int binary64 (pos n)) (million ⊘ of_int binary64 (pos 1)))
  unfolding of_bits le
  at_most =
      let large = div_number binary64 million (of_int binary64 (pos n)) tt (whole n low) in
      le_trans (x ⊘ of_int binary64 (pos n)) (million ⊘ of_int binary64 (pos n)) (million ⊘ of_int binary64 (pos 1))
      (div_mono_l binary64 x million (of_int binary64 (pos n)) (div_number binary64 x (of_int binary64 (pos n)) x_finite (whole n low)) large (whole n low) in_range.1)
      (div_anti_r binary64 million (of_int binary64 (pos 1)) (of_int binary64 (pos n)) (div_number binary64 million (of_int binary64 (pos 1)) tt (whole 1 (omega arith))) large
      tt (whole 1 (omega arith)) (of_int_mono binary64 1 n low))

  pub share_positive : T (lt zero (x ⊘ of_int binary64 (pos n)))
  share_positive = lt_of_lt_of_le zero (thousandth ⊘ of_int binary64 (pos 64)) (x ⊘ of_int binary64 (pos n)) smallest_share at_least

  pub share_finite : T (finite64 (x ⊘ of_int binary64 (pos n)))
  unfolding finite64
  share_finite =
      and_i (fits binary64 (x ⊘ of_int binary64 (pos n))) (finite (x ⊘ of_int binary64 (pos n))) (div-fits binary64 x (of_int binary64 (pos n)))
      (between_finite (thousandth ⊘ of_int binary64 (pos 64)) (x ⊘ of_int binary64 (pos n)) (million ⊘ of_int binary64 (pos 1)) smallest_finite largest_share at_least at_most)

-- the three capacities of an accepted card
capacities : (c : Card) → capacities_in_range c ≡ true → (is_capacity c.below ≡ true) × (is_capacity c.during ≡ true) × (is_capacity c.above ≡ true)
unfolding capacities_in_range
capacities c h =
    let p = and_true (is_capacity c.below) _ h in
    let q = and_true (is_capacity c.during) (is_capacity c.above) p.1 in
    (p.0, q.0, q.1)

pub start_finite : (version : ℕ) (c : Card) → card_refusal version c ≡ 0 → T (fits binary64 c.start) → T (finite64 c.start)
start_finite version c h f = temperature_finite c.start (each_temperature c (accepted version c h).temperatures).6 f

salt_good : (version : ℕ) (c : Card) → card_refusal version c ≡ 0 → CardFits c → GoodSalt (salt_of c)
unfolding salt_of
salt_good version c h f =
    let a = accepted version c h in
    let n = accepted_layers version c h in
    let m = each_temperature c a.temperatures in
    let k = capacities c a.capacities in
    record {
      lower_finite = temperature_finite c.lower m.4 f.lower;
      upper_finite = temperature_finite c.upper m.5 f.upper;
      below_finite = share_finite c.below k.0 c.layers n.0 n.1;
      during_finite = share_finite c.during k.1 c.layers n.0 n.1;
      above_finite = share_finite c.above k.2 c.layers n.0 n.1;
      ordered = holds a.ordered;
      below_positive = share_positive c.below k.0 c.layers n.0 n.1;
      during_positive = share_positive c.during k.1 c.layers n.0 n.1;
      above_positive = share_positive c.above k.2 c.layers n.0 n.1;
    }

pub salts_good : (version : ℕ) (c : Card) → card_refusal version c ≡ 0 → CardFits c → (j : ℕ) → j < c.layers → GoodSalt (salt_at (salts_of c) j)
unfolding salts_of
salts_good version c h f j l = salt_good version c h f

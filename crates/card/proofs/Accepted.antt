-- What acceptance tells of a card: each test of refusals 1 to 4 by itself.
use Rattle.std.specs.Prelude.{Err, Ok}
use Prim.Native.Nat.{ℕ, ◌≤◌}
use native.Mathlib.Omega.{arith}
use mathlib.Core.Path.{◌≡◌, refl}
use mathlib.Core.Bool.{Bool, true, false, cond}
use lib.Dec.{leb}
use lib.Ieee.{lt, le}
use Rattle.floats.specs.Constants.{max_relative, tolerance, rated_ambient}
use Rattle.floats.specs.Standins.{nearly_equal}
use Rattle.card.specs.Ranges.{is_temperature}
use Rattle.card.specs.Card.{counts_in_range, times_in_range, temperatures_in_range, capacities_in_range, exchanger_in_range, powers_in_range, card_in_range, card_verdict, verdict_number, card_refusal}
use Rattle.refusals.specs.declared.Refusal.TheVariants.{CardOutOfRange, LowerAboveUpper, MaxTooLow, NothingToStore}
use Rattle.card.specs.declared.Card.{Card}
use Rattle.logic.proofs.Tests.{and_true}
use borrow.Author.Tests.{leb-true}

pub record AcceptedCard (c : Card) : Type 0 where
  pub counts : counts_in_range c ≡ true
  pub times : times_in_range c ≡ true
  pub temperatures : temperatures_in_range c ≡ true
  pub capacities : capacities_in_range c ≡ true
  pub exchanger : exchanger_in_range c ≡ true
  pub powers : powers_in_range c ≡ true
  pub ordered : le c.lower c.upper ≡ true
  pub warm : le c.max rated_ambient ≡ false
  pub not_below : lt c.max c.reference ≡ false
  pub not_near : nearly_equal c.max c.reference tolerance max_relative ≡ false

-- the verdict is Accepted on one way through its tests
one_way :
    (a b m d e : Bool) → verdict_number (cond a (cond b (cond m (Err MaxTooLow) (cond d (Err NothingToStore) (cond e (Err NothingToStore) (Ok tt)))) (Err LowerAboveUpper)) (Err CardOutOfRange)) ≡ 0 →
    (a ≡ true) × (b ≡ true) × (m ≡ false) × (d ≡ false) × (e ≡ false)
unfolding verdict_number
one_way false b m d e h = absurd (omega arith)
one_way true false m d e h = absurd (omega arith)
one_way true true true d e h = absurd (omega arith)
one_way true true false true e h = absurd (omega arith)
one_way true true false false true h = absurd (omega arith)
one_way true true false false false h = (refl, refl, refl, refl, refl)

pub in_range :
    (c : Card) → card_in_range c ≡ true →
    (counts_in_range c ≡ true) × (times_in_range c ≡ true) × (temperatures_in_range c ≡ true) × (capacities_in_range c ≡ true) × (exchanger_in_range c ≡ true) × (powers_in_range c ≡ true)
unfolding card_in_range
in_range c h =
    let p = and_true (counts_in_range c) _ h in
    let q = and_true (times_in_range c) _ p.1 in
    let r = and_true (temperatures_in_range c) _ q.1 in
    let s = and_true (capacities_in_range c) _ r.1 in
    let t = and_true (exchanger_in_range c) (powers_in_range c) s.1 in
    (p.0, q.0, r.0, s.0, t.0, t.1)

pub each_temperature :
    (c : Card) → temperatures_in_range c ≡ true →
    (is_temperature c.inlet ≡ true) × (is_temperature c.outlet ≡ true) × (is_temperature c.max ≡ true) × (is_temperature c.reference ≡ true)
    × (is_temperature c.lower ≡ true) × (is_temperature c.upper ≡ true) × (is_temperature c.start ≡ true)
unfolding temperatures_in_range
each_temperature c h =
    let p = and_true (is_temperature c.inlet) _ h in
    let q = and_true (is_temperature c.outlet) _ p.1 in
    let r = and_true (is_temperature c.max) _ q.1 in
    let s = and_true (is_temperature c.reference) _ r.1 in
    let t = and_true (is_temperature c.lower) _ s.1 in
    let u = and_true (is_temperature c.upper) (is_temperature c.start) t.1 in
    (p.0, q.0, r.0, s.0, t.0, u.0, u.1)

pub accepted : (version : ℕ) (c : Card) → card_refusal version c ≡ 0 → AcceptedCard c
unfolding card_refusal card_verdict
accepted version c h =
    let w =
    one_way (card_in_range c) (le c.lower c.upper) (le c.max rated_ambient) (lt c.max c.reference)
    (nearly_equal c.max c.reference tolerance max_relative) h in
    let r = in_range c w.0 in
    record {
      counts = r.0;
      times = r.1;
      temperatures = r.2;
      capacities = r.3;
      exchanger = r.4;
      powers = r.5;
      ordered = w.1;
      warm = w.2;
      not_below = w.3;
      not_near = w.4;
    }

-- 'layers (u8, 1..64)'
pub accepted_layers : (version : ℕ) (c : Card) → card_refusal version c ≡ 0 → (1 ≤ c.layers) × (c.layers ≤ 64)
unfolding counts_in_range
accepted_layers version c h =
    let p = and_true (leb 1 c.layers) _ (accepted version c h).counts in
    let q = and_true (leb c.layers 64) _ p.1 in
    (leb-true 1 c.layers p.0, leb-true c.layers 64 q.0)

-- 'budget (u16, 1..65535)'
pub accepted_budget : (version : ℕ) (c : Card) → card_refusal version c ≡ 0 → (1 ≤ c.budget) × (c.budget ≤ 65535)
unfolding counts_in_range
accepted_budget version c h =
    let p = and_true (leb 1 c.layers) _ (accepted version c h).counts in
    let q = and_true (leb c.layers 64) _ p.1 in
    let r = and_true (leb 1 c.units) _ q.1 in
    let s = and_true (leb c.units 1000) _ r.1 in
    let t = and_true (leb c.simultaneous 1) _ s.1 in
    let u = and_true (leb 1 c.budget) (leb c.budget 65535) t.1 in
    (leb-true 1 c.budget u.0, leb-true c.budget 65535 u.1)

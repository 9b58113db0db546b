-- What refusal 10 tells of a battery that it accepts, taken apart and put together; and what makes the battery after a call good.
use mathlib.Core.Path.{◌≡◌, sym, ◌∙◌, ap}
use mathlib.Core.Bool.{true}
use Prim.Native.Nat.{ℕ}
use native.Mathlib.Omega.{arith}
use borrow.Author.Tests.{eqb-true, eq-eqb}
use lib.Dec.{eqb}
use Rattle.logic.proofs.Branch.{three_tests}
use Rattle.card.specs.Card.{card_refusal}
use Rattle.logic.proofs.Tests.{and_true, true_and}
use Rattle.battery.specs.Battery.{zones_finite, battery_accepted, GoodBattery}
use Rattle.battery.specs.Ledger.{totals_of, totals_finite}
use Rattle.battery.specs.declared.Battery.{Battery}
use Rattle.battery.specs.Places.{SameAbove}

pub record AcceptedBattery (version : ℕ) (b : Battery) : Type 0 where
  pub card : card_refusal version b.card ≡ 0
  pub count : b.count ≡ b.card.layers
  pub zones : zones_finite b.zones b.card.layers ≡ true
  pub totals : totals_finite (totals_of b) ≡ true

module _ (version : ℕ) (b : Battery) where
  pub accepted_battery : battery_accepted version b ≡ true → AcceptedBattery version b
  unfolding battery_accepted
  accepted_battery h =
      let t = three_tests (eqb (card_refusal version b.card) 0) (eqb b.count b.card.layers) _ h in
      let f = and_true (zones_finite b.zones b.card.layers) (totals_finite (totals_of b)) t.2 in
      record { card = eqb-true _ _ t.0; count = eqb-true _ _ t.1; zones = f.0; totals = f.1 }

  pub battery_accepted_lem : AcceptedBattery version b → battery_accepted version b ≡ true
  unfolding battery_accepted
  battery_accepted_lem a = rw (eq-eqb _ _ a.card, eq-eqb _ _ a.count, true_and a.zones a.totals)

-- a battery of the same card and count, and the same zones above it, is good where its zones and totals are finite
pub stays_good :
    (version : ℕ) (b c : Battery) → GoodBattery version b → c.card ≡ b.card → c.count ≡ b.count → SameAbove b.card.layers b.zones c.zones →
    zones_finite c.zones c.card.layers ≡ true → totals_finite (totals_of c) ≡ true → GoodBattery version c
stays_good version b c g same count kept zones totals =
    let a = accepted_battery version b g.accepted in
    let layers : c.card.layers ≡ b.card.layers = ap (λ k. k.layers) same in
    record {
      accepted = battery_accepted_lem version c (record { card = ap (card_refusal version) same ∙ a.card; count = count ∙ a.count ∙ sym layers; zones = zones; totals = totals });
      places = kept.places ∙ g.places;
      above = λ i h l. kept.above i (omega arith) ∙ g.above i (omega arith) l;
    }

-- What a good battery has: an accepted card, its layers as count, finite zones in all 64 places, finite totals.
use mathlib.Core.Path.{◌≡◌, ◌∙◌, ap}
use mathlib.Core.Bool.{true}
use mathlib.Core.Logic.{◌⊎◌, inl, inr}
use Prim.Native.Nat.{ℕ, ◌≤◌, ◌<◌}
use native.Mathlib.Decide.{dec_lt}
use native.Mathlib.Omega.{arith}
use lib.ListN.{get_or}
use lib.Ieee.{nan}
use Rattle.floats.specs.Standins.{finite64}
use Rattle.card.specs.Card.{card_refusal}
use Rattle.card.specs.declared.Card.{Card}
use Rattle.card.proofs.Accepted.{accepted_budget, accepted_layers}
use Rattle.battery.specs.Battery.{GoodBattery}
use Rattle.battery.specs.Shape.{AnswerShape}
use Rattle.battery.specs.declared.Battery.{Battery}
use Rattle.battery.specs.declared.Answer.{Answer}
use Rattle.battery.proofs.Accepted.{accepted_battery}
use Rattle.battery.proofs.AnswerLaws.{FiniteTotals, finite_totals, zero_finite}
use Rattle.battery.proofs.Zones.{zones_finite_at}

module _ (version : ℕ) (b : Battery) (g : GoodBattery version b) where
  pub good_card : card_refusal version b.card ≡ 0
  good_card = (accepted_battery version b g.accepted).card

  pub good_layers : b.card.layers ≤ 64
  good_layers = (accepted_layers version b.card good_card).1

  pub good_count : b.count ≡ b.card.layers
  good_count = (accepted_battery version b g.accepted).count

  pub good_zone : (i : ℕ) → i < b.card.layers → finite64 (get_or b.zones i nan) ≡ true
  good_zone = zones_finite_at b.zones b.card.layers (accepted_battery version b g.accepted).zones

  pub good_place : (i : ℕ) → i < 64 → finite64 (get_or b.zones i nan) ≡ true
  good_place i h = on (dec_lt i b.card.layers)
    where
      on : Dec (i < b.card.layers) → finite64 (get_or b.zones i nan) ≡ true
      on (yes l) = good_zone i l
      on (no n) = ap finite64 (g.above i (omega arith) h) ∙ zero_finite

  pub good_totals : FiniteTotals b
  good_totals = finite_totals b (accepted_battery version b g.accepted).totals

-- an answer's whole numbers fit a line: a byte, a mark, and no more than the budget, which an accepted card holds to 65,535
pub shape_fits : (version : ℕ) (b : Battery) (a : Answer) → AnswerShape version b a → (a.refusal < 256) × (a.mark ≤ 1) × (a.substeps < 65536)
shape_fits version b a s =
    let n = s.substeps in
    let most = (accepted_budget version a.battery.card (good_card version a.battery s.good)).1 in
    let same = ap (λ (c : Card). c.budget) s.card in
    (on s.refusal, mark s.mark, omega arith)
  where
    on : (a.refusal ≡ 0) ⊎ ((20 ≤ a.refusal) × (a.refusal ≤ 25)) → a.refusal < 256
    on (inl e) = omega arith
    on (inr e) = omega arith

    mark : {P : Type 0} → ((a.mark ≡ 0) × P) ⊎ (a.mark ≡ 1) → a.mark ≤ 1
    mark (inl e) = let z = e.0 in omega arith
    mark (inr e) = omega arith

-- A record's zones and totals are finite exactly when 10 accepts the battery that is read from it.
use mathlib.Core.Path.{◌≡◌, refl, sym, ap, ◌∙◌}
use mathlib.Core.List.{List}
use mathlib.Core.Bool.{true}
use Prim.Native.Nat.{ℕ, ◌+◌, ◌*◌, ◌≤◌, ◌<◌}
use native.Mathlib.Decide.{ℕ_discrete}
use native.Mathlib.Omega.{arith}
use borrow.Author.Tests.{eq-eqb}
use Rattle.floats.specs.Standins.{finite64}
use Rattle.codec.specs.Bytes.{nth_f64}
use Rattle.card.specs.Card.{card_refusal}
use Rattle.card.proofs.Accepted.{accepted_layers}
use Rattle.battery.specs.Battery.{zones_finite, battery_accepted}
use Rattle.battery.specs.Ledger.{totals_finite}
use Rattle.battery.proofs.Zones.{zones_finite_of, zones_finite_at}
use Rattle.battery.proofs.Accepted.{accepted_battery}
use Rattle.battery.proofs.AnswerLaws.{finite_totals}
use Rattle.sheet_records.specs.Cards.{card_length, card_at}
use Rattle.sheet_records.proofs.CardLaws.{fields_accepted}
use Rattle.sheet_records.specs.Records.{zones_at, state_at, record_of}
use Rattle.sheet_lines.proofs.Back.{zones_at_below}
use Rattle.heat_battery.specs.Cases.{GoodRecord}
use Rattle.entries.proofs.Entering.{LaidRecord}

-- what holds of 0 to 4
five : (P : ℕ → Type 0) → P 0 → P 1 → P 2 → P 3 → P 4 → (i : ℕ) → i < 5 → P i
five P p₀ p₁ p₂ p₃ p₄ i h = on (ℕ_discrete i 0) (ℕ_discrete i 1) (ℕ_discrete i 2) (ℕ_discrete i 3)
  where
    on : Dec (i ≡ 0) → Dec (i ≡ 1) → Dec (i ≡ 2) → Dec (i ≡ 3) → P i
    on (yes e) b c d = rw e p₀
    on (no a) (yes e) c d = rw e p₁
    on (no a) (no b) (yes e) d = rw e p₂
    on (no a) (no b) (no c) (yes e) = rw e p₃
    on (no a) (no b) (no c) (no d) = let e : i ≡ 4 = omega arith in rw e p₄

pub record_card_lem : (version : ℕ) (rec : List ℕ) → (record_of version rec).card ≡ card_at version rec
unfolding record_of state_at
record_card_lem version rec = refl

module _ (version : ℕ) (rec : List ℕ) (l : LaidRecord version rec) where
  abbrev n : ℕ
  n = (card_at version rec).layers

  few : n ≤ 64
  few = (accepted_layers version (card_at version rec) (fields_accepted version rec l.card_accepted)).1

  pub accepted_good : battery_accepted version (record_of version rec) ≡ true → GoodRecord version rec
  unfolding record_of state_at
  accepted_good h =
      let a = accepted_battery version (record_of version rec) h in
      let t = finite_totals (record_of version rec) a.totals in
      record {
        card_there = l.card_there;
        card_accepted = l.card_accepted;
        long = l.long;
        zones = λ i k. ap finite64 (sym (zones_at_below rec (card_length version rec) n i few k)) ∙ zones_finite_at (zones_at rec (card_length version rec) n) n a.zones i k;
        totals =
            five (λ (i : ℕ). finite64 (nth_f64 rec (card_length version rec + 8 * n) i) ≡ true) t.total t.pump t.direct t.charged t.electric;
      }

  pub good_accepted : GoodRecord version rec → battery_accepted version (record_of version rec) ≡ true
  unfolding record_of state_at battery_accepted totals_finite
  good_accepted g =
      let t : (i : ℕ) → i < 5 → finite64 (nth_f64 rec (card_length version rec + 8 * n) i) ≡ true = g.totals in
      let z : zones_finite (zones_at rec (card_length version rec) n) n ≡ true =
      zones_finite_of (zones_at rec (card_length version rec) n) n (λ i k. ap finite64 (zones_at_below rec (card_length version rec) n i few k) ∙ g.zones i k) in
      rw (
        eq-eqb (card_refusal version (card_at version rec)) 0 (fields_accepted version rec l.card_accepted),
        eq-eqb n n refl,
        z,
        t 0 (omega arith),
        t 1 (omega arith),
        t 2 (omega arith),
        t 3 (omega arith),
        t 4 (omega arith),
      )

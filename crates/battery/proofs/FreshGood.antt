-- A fresh battery of an accepted card is good.
use mathlib.Core.Path.{◌≡◌, refl, ◌∙◌, ap}
use mathlib.Core.Bool.{true}
use Prim.Native.Nat.{ℕ, zero, suc, ◌≤◌, ◌<◌}
use native.Mathlib.Decide.{ℕ_discrete}
use native.Mathlib.Omega.{arith}
use lib.Dec.{T}
use lib.ListN.{length, get_or, set, length-set, get_or-replicate}
use lib.Seq.{get_or-set_same, get_or-set_other}
use lib.Ieee.{Float, nan, binary64, fits, of_bits}
use lib.Ieee.Bits.{is_true}
use Rattle.floats.specs.Constants as Constants
use Rattle.floats.specs.Standins.{finite64}
use Rattle.card.specs.Card.{card_refusal}
use Rattle.card.specs.declared.Card.{Card}
use Rattle.card.proofs.Accepted.{accepted_layers}
use Rattle.card.proofs.Salt.{start_finite}
use Rattle.battery.specs.Battery.{fresh_zones, fresh, GoodBattery}
use Rattle.battery.specs.Ledger.{totals_of, totals_finite}
use Rattle.battery.proofs.Zones.{zones_finite_of}
use Rattle.battery.proofs.Accepted.{battery_accepted_lem}

fresh_places : (n : ℕ) (t : Float) → length (fresh_zones n t) ≡ 64
unfolding fresh_zones
fresh_places zero t = refl
fresh_places (suc n) t = simp (length-set) (fresh_places n t)

fresh_above : (n : ℕ) (t : Float) (i : ℕ) → n ≤ i → i < 64 → get_or (fresh_zones n t) i nan ≡ Constants.zero
unfolding fresh_zones
fresh_above zero t i h k = get_or-replicate 64 i Constants.zero nan k
fresh_above (suc n) t i h k = get_or-set_other (fresh_zones n t) n i t nan (λ e. omega arith) ∙ fresh_above n t i (omega arith) k

pub fresh_below : (n : ℕ) (t : Float) (i : ℕ) → n ≤ 64 → i < n → get_or (fresh_zones n t) i nan ≡ t
unfolding fresh_zones
fresh_below zero t i h k = absurd (omega arith)
fresh_below (suc n) t i h k = on (λ l. fresh_below n t i (omega arith) l) (ℕ_discrete i n)
  where
    on : (i < n → get_or (fresh_zones n t) i nan ≡ t) → Dec (i ≡ n) → get_or (set (fresh_zones n t) n t) i nan ≡ t
    on below (yes e) = rw e (get_or-set_same (fresh_zones n t) n t nan (simp (fresh_places n t) (omega arith)))
    on below (no ne) = get_or-set_other (fresh_zones n t) n i t nan ne ∙ below (omega arith)

fresh_totals : (c : Card) → totals_finite (totals_of (fresh c)) ≡ true
unfolding totals_finite fresh finite64 fits of_bits
fresh_totals c = refl

pub fresh_good : (version : ℕ) (c : Card) → card_refusal version c ≡ 0 → T (fits binary64 c.start) → GoodBattery version (fresh c)
unfolding fresh
fresh_good version c h f =
    let n = accepted_layers version c h in
    let F = is_true (finite64 c.start) (start_finite version c h f) in
    record {
      accepted =
          battery_accepted_lem version (fresh c)
          (record {
            card = h;
            count = refl;
            zones = zones_finite_of (fresh_zones c.layers c.start) c.layers (λ i l. ap finite64 (fresh_below c.layers c.start i n.1 l) ∙ F);
            totals = fresh_totals c;
          });
      places = fresh_places c.layers c.start;
      above = λ i l k. fresh_above c.layers c.start i l k;
    }

-- A battery: its card, 64 zone places with their count, and five totals. Fresh and good ones.
use Rattle.std.specs.Prelude.{ℕ, zero, suc, ◌≤◌, ◌<◌, ◌≡◌, Bool, true, false, cond, ◌&&◌, List, eqb, length, replicate, set, get_or, Float}
use Rattle.std.specs.Float.{nan}
use Rattle.floats.specs.Constants as Constants
use Rattle.floats.specs.Standins.{finite64}
use Rattle.card.specs.declared.Card.{Card}
use Rattle.card.specs.Card.{card_refusal}
use Rattle.battery.specs.declared.Battery.{Battery}
use Rattle.battery.specs.Ledger.{totals_of, totals_finite}

-- the first n of 64 places at one temperature, the others 0
unfoldable pub fresh_zones : ℕ → Float → List Float
fresh_zones zero t = replicate 64 Constants.zero
fresh_zones (suc n) t = set (fresh_zones n t) n t

-- 'Fresh: all zones at start, five totals 0'
unfoldable pub fresh : Card → Battery
fresh card =
    record {
      card = card;
      zones = fresh_zones card.layers card.start;
      count = card.layers;
      total = Constants.zero;
      pump = Constants.zero;
      direct = Constants.zero;
      charged = Constants.zero;
      electric = Constants.zero;
    }

-- the first n zones are finite
unfoldable pub zones_finite : List Float → ℕ → Bool
zones_finite zones zero = true
zones_finite zones (suc n) = zones_finite zones n && finite64 (get_or zones n nan)

-- refusal 10's test of a battery handed in: refused is one 'whose card 1 to 4 refuse or whose zones or totals aren't finite', or whose count is not its card's
unfoldable pub battery_accepted : ℕ → Battery → Bool
battery_accepted version battery =
    cond (eqb (card_refusal version battery.card) 0)
    (cond (eqb battery.count battery.card.layers)
    (zones_finite battery.zones battery.card.layers && totals_finite (totals_of battery))
    false)
    false

-- What the steps keep: a battery that 10 accepts, in 64 places, 0 above the count.
pub record GoodBattery (version : ℕ) (battery : Battery) : Type 0 where
  pub accepted : battery_accepted version battery ≡ true
  pub places : length battery.zones ≡ 64
  pub above : (i : ℕ) → battery.card.layers ≤ i → i < 64 → get_or battery.zones i nan ≡ Constants.zero

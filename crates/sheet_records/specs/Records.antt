-- Document 01, module 9: 'a battery is its card, zones and totals as in the lines'.
use Rattle.std.specs.Prelude.{ℕ, zero, suc, ◌+◌, ◌*◌, List, [], ◌++◌, get_or, set, replicate, Float}
use Rattle.std.specs.Float.{nan}
use Rattle.floats.specs.Constants as Constants
use Rattle.codec.specs.Bytes.{nth_f64, f64_bytes}
use Rattle.card.specs.declared.Card.{Card}
use Rattle.battery.specs.declared.Battery.{Battery}
use Rattle.sheet_records.specs.Cards.{card_length, card_at}

-- n zones from a place on, in 64 places, 0 above them
unfoldable pub zones_at : List ℕ → ℕ → ℕ → List Float
zones_at bs at zero = replicate 64 Constants.zero
zones_at bs at (suc n) = set (zones_at bs at n) n (nth_f64 bs at n)

unfoldable pub zones_bytes : List Float → ℕ → List ℕ
zones_bytes zones zero = []
zones_bytes zones (suc n) = zones_bytes zones n ++ f64_bytes (get_or zones n nan)

-- five f64
abbrev pub totals_length : ℕ
totals_length = 40

-- 'total, pump and direct running hours, charged total, charged electric'
unfoldable pub totals_bytes : Battery → List ℕ
totals_bytes battery =
    f64_bytes battery.total ++ f64_bytes battery.pump ++ f64_bytes battery.direct ++ f64_bytes battery.charged ++ f64_bytes battery.electric

-- zones, then the five totals
unfoldable pub state_length : ℕ → Card → ℕ
state_length version card = 8 * card.layers + totals_length

unfoldable pub state_at : ℕ → Card → List ℕ → ℕ → Battery
state_at version card bs at =
    let totals = at + 8 * card.layers in
    record {
      card = card;
      zones = zones_at bs at card.layers;
      count = card.layers;
      total = nth_f64 bs totals 0;
      pump = nth_f64 bs totals 1;
      direct = nth_f64 bs totals 2;
      charged = nth_f64 bs totals 3;
      electric = nth_f64 bs totals 4;
    }

unfoldable pub state_bytes : ℕ → Battery → List ℕ
state_bytes version battery = zones_bytes battery.zones battery.card.layers ++ totals_bytes battery

-- a battery record: the bytes of its card, then its state; its length by the card at the front of bs
unfoldable pub record_length : ℕ → List ℕ → ℕ
record_length version bs = card_length version bs + state_length version (card_at version bs)

unfoldable pub record_of : ℕ → List ℕ → Battery
record_of version bs = state_at version (card_at version bs) bs (card_length version bs)

unfoldable pub record_bytes : ℕ → List ℕ → Battery → List ℕ
record_bytes version card battery = card ++ state_bytes version battery

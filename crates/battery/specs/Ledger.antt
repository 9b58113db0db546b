-- A battery whose zones lie apart: all but the zones by value, the zones where the caller keeps them.
use Rattle.std.specs.Prelude.{Bool, ◌&&◌, List, Float}
use Rattle.floats.specs.Standins.{finite64}
use Rattle.battery.specs.declared.Battery.{Battery}
use Rattle.battery.specs.declared.Totals.{Totals}
use Rattle.battery.specs.declared.Ledger.{Ledger}

abbrev pub totals_of : Battery → Totals
totals_of battery = record { total = battery.total; pump = battery.pump; direct = battery.direct; charged = battery.charged; electric = battery.electric }

abbrev pub ledger_of : Battery → Ledger
ledger_of battery = record { card = battery.card; count = battery.count; totals = totals_of battery }

-- the battery with these zones
abbrev pub whole : Ledger → List Float → Battery
whole ledger zones =
    record {
      card = ledger.card;
      zones = zones;
      count = ledger.count;
      total = ledger.totals.total;
      pump = ledger.totals.pump;
      direct = ledger.totals.direct;
      charged = ledger.totals.charged;
      electric = ledger.totals.electric;
    }

-- the battery after a call: its card and count stay
abbrev pub renewed_battery : Ledger → Totals → List Float → Battery
renewed_battery ledger totals zones = whole (record { card = ledger.card; count = ledger.count; totals = totals }) zones

unfoldable pub totals_finite : Totals → Bool
totals_finite totals =
    finite64 totals.total && (finite64 totals.pump && (finite64 totals.direct && (finite64 totals.charged && finite64 totals.electric)))

-- The five totals after a call.
use Rattle.floats.specs.F64.{◌⊕◌, ◌⊘◌}
use Rattle.floats.specs.Constants.{zero, hour}
use Rattle.battery.specs.declared.Totals.{Totals}
use Rattle.battery.specs.declared.Ledger.{Ledger}
use Rattle.runs.specs.declared.Stopped.{Stopped}
use Rattle.engine_replies.specs.declared.totals.ServiceClass.{ServiceClass}
use Rattle.engine_replies.specs.Classes.{pump_after, direct_after}

-- a committed demand: running hours by class, charged electric
abbrev pub served_totals : Ledger → ServiceClass → Stopped → Totals
served_totals ledger class ended =
    record {
      total = ledger.totals.total ⊕ ended.time ⊘ hour;
      pump = pump_after class ledger.totals.pump (ended.time ⊘ hour);
      direct = direct_after class ledger.totals.direct (ended.time ⊘ hour);
      charged = ledger.totals.charged;
      electric = ended.electric.0;
    }

abbrev pub charged_totals : Ledger → Stopped → Totals
charged_totals ledger ended =
    record { total = ledger.totals.total; pump = ledger.totals.pump; direct = ledger.totals.direct; charged = ledger.totals.charged ⊕ ended.energy.0; electric = ended.electric.0 }

abbrev pub closed_totals : Ledger → Totals
closed_totals ledger = record { total = zero; pump = zero; direct = zero; charged = ledger.totals.charged; electric = ledger.totals.electric }

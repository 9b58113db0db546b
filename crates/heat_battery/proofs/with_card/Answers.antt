use mathlib.Core.Path.{◌≡◌, refl, sym, ◌∙◌}
use mathlib.Core.Bool.{false}
use native.Mathlib.Omega.{arith}
use Rattle.card.proofs.Accepted.{accepted_layers}
use Rattle.battery.specs.Battery.{battery_accepted}
use Rattle.sheet_records.specs.Cards.{card_at, extension_at}
use Rattle.sheet_records.proofs.CardLaws.{fields_accepted}
use Rattle.sheet_records.specs.Records.{record_of, state_at}
use Rattle.sheet_calls.specs.Calls.{call_of}
use Rattle.entries.proofs.Entering.{record_laid_lem}
use Rattle.heat_battery.proofs.Calling.{read_not_accepted}
use Rattle.heat_battery.proofs.with_card.Goals as goal

pub read_record-b-requires : goal.read_record-b-requires
read_record-b-requires c =
    let rec = c.args.«record».now in
    let l = record_laid_lem c.args.version rec c.requires.0 in
    (c.requires.1, rw c.requires.1 (accepted_layers c.args.version (card_at c.args.version rec) (fields_accepted c.args.version rec l.card_accepted)).1, omega (arith, l.long))

pub record_accepted-requires : goal.record_accepted-requires
unfolding record_of state_at
record_accepted-requires c =
    rw c.read_record-b.ensures (fields_accepted c.args.version c.args.«record».now (record_laid_lem c.args.version c.args.«record».now c.requires.0).card_accepted, refl)

pub advance-requires : goal.advance-requires
advance-requires c = (c.requires.0, c.read_record-b.ensures, sym c.record_accepted.ensures ∙ c.if-not-record_accepted.false)

pub returns : goal.returns
returns c = c.advance.ensures

pub returns-then-not-record_accepted : goal.returns-then-not-record_accepted
returns-then-not-record_accepted c =
    let a = c.args in
    let n : battery_accepted a.version (record_of a.version a.«record».now) ≡ false =
    rw (← c.read_record-b.ensures) (sym c.record_accepted.ensures ∙ c.if-not-record_accepted.true) in
    rw (read_not_accepted a.version a.«record».now a.call.now a.sheet.now n (call_of a.version (extension_at a.version a.«record».now) a.call.now))
    (record { code_is = refl; record_is = refl; sheet_is = refl })

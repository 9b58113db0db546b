use Rattle.std.specs.Prelude.{Err}
use borrow.Author.Rules.{rules}
use mathlib.Core.Path.{◌≡◌, refl, sym, ◌∙◌, ap}
use native.Mathlib.Omega.{arith}
use Rattle.card.specs.Card.{card_refusal}
use Rattle.card.proofs.Accepted.{accepted_layers}
use Rattle.battery.specs.Battery.{fresh}
use Rattle.battery.specs.declared.Battery.{Battery}
use Rattle.sheet_records.specs.Cards.{card_at}
use Rattle.sheet_records.proofs.CardLaws.{fields_accepted}
use Rattle.sheet_records.specs.Records.{state_length, record_length, record_bytes}
use Rattle.entries.proofs.Opening.{open_length, open_refused, open_record, open_room, opened}
use Rattle.entries.proofs.open.Goals as goal

pub returns-then-card-card_length : goal.returns-then-card-card_length
returns-then-card-card_length c =
    let s = c.args in
    rw (open_length s.version s.card.now s.«record».now s.sheet.now (λ e. c.if-card-card_length.true (e ∙ sym c.card_length.ensures.0)))
    (record { code_is = refl; record_is = refl; sheet_is = refl })

pub invariant_of-line0 : goal.invariant_of-line0
invariant_of-line0 c = record { fits = omega (arith, c.if-card-card_length.false, c.card_length.ensures.0) }

pub returns-in_err-check : goal.returns-in_err-check
returns-in_err-check c =
    let s = c.args in
    let r = c.in_err-check.field-0.0 in
    let e : c.from_residual.result ≡ Err r = search rules in
    rw (e, open_refused s.version s.card.now s.«record».now s.sheet.now (c.if-card-card_length.false ∙ c.card_length.ensures.0) r c.in_err-check.ensures)
    (record { code_is = refl; record_is = refl; sheet_is = refl })

pub returns-then-record-record_length : goal.returns-then-record-record_length
returns-then-record-record_length c =
    let s = c.args in
    rw (
    open_record s.version s.card.now s.«record».now s.sheet.now (c.if-card-card_length.false ∙ c.card_length.ensures.0)
    (sym c.in_ok-check.ensures)
    (λ z. c.if-record-record_length.true (z ∙ sym c.record_length.ensures))
    )
    (record { code_is = refl; record_is = refl; sheet_is = refl })

pub returns-then-sheet-opening_length : goal.returns-then-sheet-opening_length
returns-then-sheet-opening_length c =
    let s = c.args in
    rw (
    open_room s.version s.card.now s.«record».now s.sheet.now (c.if-card-card_length.false ∙ c.card_length.ensures.0)
    (sym c.in_ok-check.ensures)
    (c.if-record-record_length.false ∙ c.record_length.ensures)
    (omega (arith, c.if-sheet-opening_length.true, c.opening_length.ensures))
    )
    (record { code_is = refl; record_is = refl; sheet_is = refl })

pub fresh-b-requires : goal.fresh-b-requires
fresh-b-requires c =
    (accepted_layers _ c.read_card-c.result (ap (card_refusal _) c.read_card-c.ensures ∙ fields_accepted _ _ (sym c.in_ok-check.ensures))).1

pub put_record-requires : goal.put_record-requires
unfolding fresh record_length
put_record-requires c =
    let s = c.args in
    let read = c.read_card-c in
    let e : c.fresh-b.result.card ≡ read.result = ap (λ (x : Battery). x.card) c.fresh-b.ensures in
    let l : state_length s.version c.fresh-b.result.card ≡ state_length s.version (card_at s.version s.card.now) = ap (state_length s.version) (e ∙ read.ensures) in (
      rw e (accepted_layers _ read.result (ap (card_refusal _) read.ensures ∙ fields_accepted _ _ (sym c.in_ok-check.ensures))).1,
      omega (arith, c.if-card-card_length.false, c.card_length.ensures.0, c.if-record-record_length.false, c.record_length.ensures, l),
    )

pub returns : goal.returns
returns c =
    let s = c.args in
    let e = c.read_card-c.ensures in
    rw (
    opened s.version s.card.now s.«record».now s.sheet.now (c.if-card-card_length.false ∙ c.card_length.ensures.0)
    (sym c.in_ok-check.ensures)
    (c.if-record-record_length.false ∙ c.record_length.ensures)
    (omega (arith, c.if-sheet-opening_length.false, c.opening_length.ensures))
    )
    (record {
      code_is = refl;
      record_is = c.put_record.ensures ∙ ap (record_bytes s.version s.card.now) (c.fresh-b.ensures ∙ ap fresh e);
      sheet_is = c.put_opening.ensures;
    })

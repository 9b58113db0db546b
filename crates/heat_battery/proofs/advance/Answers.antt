use Rattle.std.specs.Prelude.{Some}
use mathlib.Core.Path.{◌≡◌, refl, sym, ◌∙◌, ap}
use mathlib.Core.List.{List}
use Prim.Native.Nat.{ℕ, ◌<◌}
use native.Mathlib.Omega.{arith}
use lib.ListN.{length, get_or}
use Rattle.std.proofs.Math.Nat.{le_refl}
use Rattle.battery.specs.declared.Call.{Call}
use Rattle.sheet_calls.specs.Calls.{call_of}
use Rattle.sheet_calls.proofs.CallLaws.{call_length_lem}
use Rattle.sheet_calls.proofs.Places.{call_short}
use Rattle.sheet_calls.proofs.ByKind.{kind_fits, read_by_kind, none_by_kind}
use Rattle.engine.proofs.AdvanceKeeps.{advance_keeps_card}
use Rattle.card.proofs.Accepted.{accepted_layers}
use Rattle.battery.specs.declared.Battery.{Battery}
use Rattle.battery.specs.declared.Answer.{Answer}
use Rattle.engine.specs.Steps.{advance_of}
use Rattle.card.specs.Extension.{Extension}
use Rattle.sheet_records.specs.Cards.{card_at, extension_at}
use Rattle.sheet_records.proofs.CardLaws.{fields_accepted}
use Rattle.sheet_records.specs.Records.{record_length, record_of, state_at}
use Rattle.heat_battery.specs.Entries.{entry_read}
use Rattle.entries.proofs.Entering.{record_laid_lem}
use Rattle.heat_battery.proofs.advance.Goals as goal

module _ (version : ℕ) where
  -- the answer is of the record's card
  answer_card : (rec : List ℕ) (b : Battery) (a : Answer) (call : Call) → b ≡ record_of version rec → a ≡ advance_of version b call → a.battery.card ≡ card_at version rec
  unfolding record_of state_at
  answer_card rec b a call e f = ap (λ (x : Answer). x.battery.card) f ∙ advance_keeps_card version b call ∙ ap (λ (x : Battery). x.card) e

  answer_is : (rec : List ℕ) (b : Battery) (a : Answer) (call : Call) → b ≡ record_of version rec → a ≡ advance_of version b call → a ≡ advance_of version (record_of version rec) call
  answer_is rec b a call e f = f ∙ ap (λ (x : Battery). advance_of version x call) e

  -- a call that is read fits a line
  read_short : (extension : Extension) (call : List ℕ) (c : Call) → call_of version extension call ≡ Some c → length call < 65536
  read_short extension call c h = omega (arith, call_length_lem version extension call c h, call_short version (get_or call 0 0))

pub returns-in_default : goal.returns-in_default
unfolding entry_read
returns-in_default c =
    let a = c.args in
    rw (none_by_kind a.version (extension_at a.version a.«record».now) a.call.now c.in_default.ensures) (record { code_is = refl; record_is = refl; sheet_is = refl })

pub invariant_of-listed : goal.invariant_of-listed
invariant_of-listed c = record { fits = (record_laid_lem c.args.version c.args.«record».now c.requires.0).card_there }

pub demand_class-class-requires : goal.demand_class-class-requires
demand_class-class-requires c =
    (le_refl _, rw (c.from-kind.ensures ∙ c.in-Some.ensures) (kind_fits c.args.version c.args.call.now))

pub call_by-requires : goal.call_by-requires
call_by-requires c = let a = c.args in rw (c.from-kind.ensures ∙ c.in-Some.ensures) (kind_fits a.version a.call.now)

pub advance-a-requires : goal.advance-a-requires
advance-a-requires c = c.requires.2

pub enter-requires : goal.enter-requires
unfolding record_length
enter-requires c =
    let a = c.args in
    let rec = a.«record».now in
    let l = record_laid_lem a.version rec c.requires.0 in
    let e = answer_card a.version rec a.battery c.advance-a.result _ c.requires.1 c.advance-a.ensures in (
      rw e (accepted_layers a.version (card_at a.version rec) (fields_accepted a.version rec l.card_accepted)).1,
      read_short a.version (extension_at a.version rec) a.call.now _ (sym (read_by_kind a.version (extension_at a.version a.«record».now) a.call.now _ _ _ _ (c.from-kind.ensures ∙ c.in-Some.ensures) c.demand_class-class.ensures c.has_floor-floor.ensures c.call_by.ensures) ∙ c.in-Some-call_by.is),
      rw e l.long,
    )

pub returns-in_default-call_by : goal.returns-in_default-call_by
unfolding entry_read
returns-in_default-call_by c =
    let a = c.args in
    rw (← (read_by_kind a.version (extension_at a.version a.«record».now) a.call.now _ _ _ _ (c.from-kind.ensures ∙ c.in-Some.ensures) c.demand_class-class.ensures c.has_floor-floor.ensures c.call_by.ensures), c.in_default-call_by.is) (record { code_is = refl; record_is = refl; sheet_is = refl })

pub returns : goal.returns
unfolding entry_read
returns c =
    let a = c.args in
    rw (← (read_by_kind a.version (extension_at a.version a.«record».now) a.call.now _ _ _ _ (c.from-kind.ensures ∙ c.in-Some.ensures) c.demand_class-class.ensures c.has_floor-floor.ensures c.call_by.ensures), c.in-Some-call_by.is, ← (answer_is a.version a.«record».now a.battery c.advance-a.result _ c.requires.1 c.advance-a.ensures))
    c.enter.ensures

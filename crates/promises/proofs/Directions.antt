-- Demand 3: 'In each accepted sheet no zone is warmer after a standing loss, none cooler after an electric charge, and none altered by a refused
-- or trial line.' Document 02, Six: with the flag 1 none is under 16 °C after a standing loss that wasn't before.
use Rattle.std.specs.Prelude.{Some}
use mathlib.Core.Path.{◌≡◌, sym, ap, subst, ◌∙◌}
use mathlib.Core.List.{List, [], ◌∷◌}
use mathlib.Core.Bool.{Bool, true}
use Prim.Native.Nat.{ℕ, ◌<◌}
use lib.Dec.{T, eqb}
use lib.ListN.{get_or}
use lib.Ieee.{Float, nan, of_bits, lt, le, eq}
use lib.Ieee.Bits.{is_true}
use Rattle.floats.specs.Constants.{room_temperature}
use Rattle.floats.proofs.Order.{le_respects, lt_respects, eq_refl, eq_sym, eq_trans}
use Rattle.card.specs.Fits.{CardFits}
use Rattle.card.specs.Extension.{Extension, has_floor}
use Rattle.card.specs.declared.Card.{Card}
use Rattle.card.proofs.Accepted.{accepted_layers}
use Rattle.battery.specs.Battery.{fresh_zones, fresh}
use Rattle.battery.specs.Call.{call_in_range}
use Rattle.battery.specs.declared.Battery.{Battery}
use Rattle.battery.specs.declared.Call.{Call}
use Rattle.battery.specs.declared.Call.TheVariants.{ChargeElectric, HeatLoss}
use Rattle.battery.specs.declared.Answer.{Answer}
use Rattle.battery.proofs.Accepted.{accepted_battery}
use Rattle.battery.proofs.FreshGood.{fresh_below}
use Rattle.battery.proofs.Zones.{zones_finite_at}
use Rattle.engine.specs.Steps.{step_of}
use Rattle.engine.proofs.StepKeeps.{refused_keeps_state, trial_keeps_state}
use Rattle.engine.proofs.Warmth.{loss_warms_none, loss_stops, electric_cools_none}
use Rattle.sheet_records.specs.Cards.{card_at, floor_at, extension_at}
use Rattle.sheet_calls.specs.Calls.{call_of}
use Rattle.sheet_lines.specs.Answers.{same_number, agrees}
use Rattle.auditor.specs.Rules.{Rules, plain, NoLooser}
use Rattle.auditor.specs.Sheet.{Line, Laid, Sheet}
use Rattle.promises.specs.Claims.{shown, zones_in, NoneWarmer, NoneCooler, NoneAltered, Directed, AllDirected, NoneUnder, AllFloored}
use Rattle.promises.specs.Requests.{LossesStop}
use Rattle.auditor.proofs.Stepped.{Stepped}
use Rattle.auditor.proofs.Walks.{Own, next_own}
use Rattle.auditor.proofs.Opened.{fresh_own}
use Rattle.auditor.proofs.Exact.{sheet_stepped, plain_sheet}
use Rattle.auditor.proofs.ReadCalls.{card_held, read_loss, read_electric, read_trial}
use Rattle.promises.proofs.Shown.{number_of, SameZones, shown_refusal, shown_zones}

room : T (eq room_temperature room_temperature)
unfolding of_bits
room = eq_refl room_temperature tt

-- ---- one line

module _ (version : ℕ) (extension : Extension) (c : Card) (f : CardFits c) (b : Battery) (o : Own version c b) (before : ℕ → Float) (was : SameZones c before b) (l : Line) (call : Call) (laid : Laid version extension c l call)
    (a : agrees same_number (shown version c l) (step_of version b call) ≡ true) where
  abbrev own : Answer
  own = step_of version b call

  now : SameZones c (zones_in version c l) own.battery
  now = shown_zones version c l own a

  layers : (i : ℕ) → i < c.layers → i < b.card.layers
  layers i k = rw o.card k

  fits : CardFits b.card
  fits = rw o.card f

  warms_none : (floor : Bool) → call ≡ HeatLoss floor → NoneWarmer c before (zones_in version c l)
  warms_none floor e i k =
      let x = get_or own.battery.zones i nan in
      let y = get_or b.zones i nan in
      let h : T (le x y) = rw e (loss_warms_none version b o.good fits floor i (layers i k)) in
      le_respects (zones_in version c l i) x (before i) y (now i k) (was i k) ∙ is_true (le x y) h

  -- under the floor after the loss: as before it
  pub none_under : call ≡ HeatLoss true → NoneUnder c before (zones_in version c l)
  none_under e i k h =
      let x = get_or own.battery.zones i nan in
      let y = get_or b.zones i nan in
      let z = zones_in version c l i in
      let u : lt x room_temperature ≡ true = sym (lt_respects z x room_temperature room_temperature (now i k) room) ∙ h in
      let s : x ≡ y = subst (λ (d : Call). lt (get_or (step_of version b d).battery.zones i nan) room_temperature ≡ true → get_or (step_of version b d).battery.zones i nan ≡ y) (sym e) (loss_stops version b o.good fits i (layers i k)) u in
      let t : T (eq z y) = subst (λ (v : Float). T (eq z v)) s (now i k) in
      is_true (eq z (before i)) (eq_trans z y (before i) t (eq_sym (before i) y (was i k)))

  cools_none : (power target : Float) → call ≡ ChargeElectric power target → NoneCooler c before (zones_in version c l)
  cools_none power target e i k =
      let x = get_or own.battery.zones i nan in
      let y = get_or b.zones i nan in
      let r : call_in_range version b.card (ChargeElectric power target) ≡ true = rw (o.card, ← e) laid.in_range in
      let h : T (le y x) = rw e (electric_cools_none version b o.good fits power target r i (layers i k)) in
      le_respects (before i) y (zones_in version c l i) x (was i k) (now i k) ∙ is_true (le y x) h

  alters_none : own.battery ≡ b → NoneAltered c before (zones_in version c l)
  alters_none e i k =
      let y = get_or b.zones i nan in
      let h : T (eq (zones_in version c l i) y) = rw e at (now i k) in
      is_true (eq (zones_in version c l i) (before i)) (eq_trans (zones_in version c l i) y (before i) h (eq_sym (before i) y (was i k)))

  pub directed : Directed version c l before (zones_in version c l)
  directed =
      record {
        loss = λ k. warms_none (has_floor extension) (read_loss version extension l.call call laid.reads k);
        electric = λ k. let e = read_electric version extension l.call call laid.reads k in cools_none e.power e.target e.is;
        refused = λ r. alters_none (refused_keeps_state version b call (λ z. r (shown_refusal version c l own a ∙ z)));
        trial = λ t. let d = read_trial version extension l.call call laid.reads t.0 t.1 in alters_none (ap (λ (x : Call). (step_of version b x).battery) d.1 ∙ trial_keeps_state version b d.0 d.2);
      }

all_directed : (version : ℕ) (extension : Extension) (c : Card) → CardFits c → (ls : List Line) (calls : List Call) (b : Battery) → Own version c b → (before : ℕ → Float) → SameZones c before b → Stepped same_number version extension c b ls calls
    → AllDirected version c before ls
all_directed version extension c f [] [] b o before was s = tt
all_directed version extension c f [] (call ∷ calls) b o before was s = absurd s
all_directed version extension c f (l ∷ ls) [] b o before was s = absurd s
all_directed version extension c f (l ∷ ls) (call ∷ calls) b o before was s = (
  directed version extension c f b o before was l call s.0 s.1,
  all_directed version extension c f ls calls (step_of version b call).battery (next_own version c b o call) (zones_in version c l) (shown_zones version c l (step_of version b call) s.1) s.2,
)

-- where the flag is 1 a loss has the floor
floor_read : (version : ℕ) (extension : Extension) → extension.floor ≡ 1 → (bs : List ℕ) (call : Call) → call_of version extension bs ≡ Some call → get_or bs 0 0 ≡ 4 → call ≡ HeatLoss true
unfolding has_floor
floor_read version extension one bs call reads k = read_loss version extension bs call reads k ∙ ap (λ (n : ℕ). HeatLoss (eqb n 1)) one

all_floored : (version : ℕ) (extension : Extension) → extension.floor ≡ 1 → (c : Card) → CardFits c → (ls : List Line) (calls : List Call) (b : Battery) → Own version c b → (before : ℕ → Float) → SameZones c before b
    → Stepped same_number version extension c b ls calls → AllFloored version c before ls
all_floored version extension one c f [] [] b o before was s = tt
all_floored version extension one c f [] (call ∷ calls) b o before was s = absurd s
all_floored version extension one c f (l ∷ ls) [] b o before was s = absurd s
all_floored version extension one c f (l ∷ ls) (call ∷ calls) b o before was s = (
  λ k. none_under version extension c f b o before was l call s.0 s.1 (floor_read version extension one l.call call s.0.reads k),
  all_floored version extension one c f ls calls (step_of version b call).battery (next_own version c b o call) (zones_in version c l) (shown_zones version c l (step_of version b call) s.1) s.2,
)

-- ---- the zones before the first line

start_zones : (version : ℕ) (c : Card) → Own version c (fresh c) → SameZones c (λ i. c.start) (fresh c)
unfolding fresh
start_zones version c o i k =
    let g = accepted_battery version (fresh c) o.good.accepted in
    let e : get_or (fresh_zones c.layers c.start) i nan ≡ c.start = fresh_below c.layers c.start i (accepted_layers version c g.card).1 k in
    let z = zones_finite_at (fresh_zones c.layers c.start) c.layers g.zones i k in
    rw e (eq_refl c.start (number_of c.start (rw e at z)))

plain_directions : (bs : List ℕ) (n : ℕ) (s : Sheet plain bs n)
    → AllDirected s.version (card_at s.version s.card) (λ i. (card_at s.version s.card).start) s.lines
plain_directions bs n s =
    let v = s.version in
    let c = card_at v s.card in
    let o = fresh_own v s.card s.accepted in
    all_directed v (extension_at v s.card) c (card_held v s.card) s.lines s.calls (fresh c) o (λ i. c.start) (start_zones v c o) (sheet_stepped plain bs n s)

pub directions : (rules : Rules) → NoLooser rules → (bs : List ℕ) (n : ℕ) (s : Sheet rules bs n)
    → AllDirected s.version (card_at s.version s.card) (λ i. (card_at s.version s.card).start) s.lines
unfolding plain_sheet
directions rules more bs n s = plain_directions bs n (plain_sheet rules more bs n s)

plain_floored : (bs : List ℕ) (n : ℕ) (s : Sheet plain bs n) → floor_at s.version s.card ≡ 1
    → AllFloored s.version (card_at s.version s.card) (λ i. (card_at s.version s.card).start) s.lines
plain_floored bs n s one =
    let v = s.version in
    let c = card_at v s.card in
    let o = fresh_own v s.card s.accepted in
    all_floored v (extension_at v s.card) one c (card_held v s.card) s.lines s.calls (fresh c) o (λ i. c.start) (start_zones v c o) (sheet_stepped plain bs n s)

pub losses_stop : LossesStop
unfolding plain_sheet
losses_stop rules more bs n s one = plain_floored bs n (plain_sheet rules more bs n s) one

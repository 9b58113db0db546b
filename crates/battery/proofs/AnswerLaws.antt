-- The test of an answer's numbers, taken apart and put together; a refusal line on an accepted battery passes it.
use mathlib.Core.Path.{◌≡◌, refl}
use mathlib.Core.Bool.{true, ◌&&◌}
use mathlib.Core.List.{List}
use Prim.Native.Nat.{ℕ}
use lib.Ieee.{Float, fits, of_bits}
use Rattle.floats.specs.Constants.{zero}
use Rattle.floats.specs.Standins.{finite64}
use Rattle.logic.proofs.Tests.{and_true, true_and, and_with_true}
use Rattle.battery.specs.Battery.{zones_finite}
use Rattle.battery.specs.Answer.{refused_with, plain_answer, numbers_finite, answer_finite, answer_with}
use Rattle.battery.specs.Ledger.{totals_of, totals_finite}
use Rattle.battery.specs.declared.Battery.{Battery}
use Rattle.battery.specs.declared.Ledger.{Ledger}
use Rattle.battery.specs.declared.Answer.{Answer}
use Rattle.battery.specs.declared.Reply.{Reply}
use Rattle.battery.proofs.Accepted.{AcceptedBattery}

pub record FiniteTotals (b : Battery) : Type 0 where
  pub total : finite64 b.total ≡ true
  pub pump : finite64 b.pump ≡ true
  pub direct : finite64 b.direct ≡ true
  pub charged : finite64 b.charged ≡ true
  pub electric : finite64 b.electric ≡ true

pub finite_totals : (b : Battery) → totals_finite (totals_of b) ≡ true → FiniteTotals b
unfolding totals_finite
finite_totals b h =
    let p = and_true (finite64 b.total) _ h in
    let q = and_true (finite64 b.pump) _ p.1 in
    let r = and_true (finite64 b.direct) _ q.1 in
    let s = and_true (finite64 b.charged) (finite64 b.electric) r.1 in
    record { total = p.0; pump = q.0; direct = r.0; charged = s.0; electric = s.1 }

pub record FiniteAnswer (a : Answer) : Type 0 where
  pub energy : finite64 a.energy ≡ true
  pub outlet : finite64 a.outlet ≡ true
  pub time : finite64 a.time ≡ true
  pub zones : zones_finite a.battery.zones a.battery.card.layers ≡ true
  pub totals : totals_finite (totals_of a.battery) ≡ true

pub finite_answer : (a : Answer) → answer_finite a ≡ true → FiniteAnswer a
unfolding answer_finite
finite_answer a h =
    let z = and_true (finite64 a.energy && (finite64 a.outlet && (finite64 a.time && totals_finite (totals_of a.battery)))) _ h in
    let p = and_true (finite64 a.energy) _ z.0 in
    let q = and_true (finite64 a.outlet) _ p.1 in
    let r = and_true (finite64 a.time) _ q.1 in
    record { energy = p.0; outlet = q.0; time = r.0; zones = z.1; totals = r.1 }

pub zero_finite : finite64 zero ≡ true
unfolding finite64 fits of_bits
zero_finite = refl

-- an answer that ran no substep is no refusal
pub plain_answers : (energy : Float) (b : Battery) → (plain_answer energy b).refusal ≡ 0
unfolding plain_answer
plain_answers energy b = refl

pub refused_finite : (version r : ℕ) (b : Battery) → AcceptedBattery version b → answer_finite (refused_with r b) ≡ true
unfolding answer_finite refused_with
refused_finite version r b a = true_and (true_and zero_finite (true_and zero_finite (true_and zero_finite a.totals))) a.zones

-- with finite zones an answer is finite where its other numbers are
pub numbers_decide :
    (l : Ledger) (r : Reply) (zones : List Float) → zones_finite zones l.card.layers ≡ true → answer_finite (answer_with l r zones) ≡ numbers_finite r
unfolding answer_finite numbers_finite
numbers_decide l r zones h = rw h (and_with_true (numbers_finite r))

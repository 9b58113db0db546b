-- When two answers agree by a comparison: each of their parts does; and an answer whose numbers are finite agrees with itself.
use mathlib.Core.Path.{◌≡◌, refl, ◌∙◌}
use mathlib.Core.List.{List}
use mathlib.Core.Bool.{Bool, true, ◌&&◌}
use Prim.Native.Nat.{ℕ, zero, suc, ◌≤◌, ◌<◌}
use native.Mathlib.Decide.{ℕ_discrete}
use native.Mathlib.Omega.{arith}
use borrow.Author.Tests.{eq-eqb, eqb-true}
use lib.ListN.{length, take, get_or}
use lib.Dec.{eqb}
use lib.Ieee.{Float, nan, eq}
use lib.Ieee.Bits.{is_true}
use Rattle.floats.specs.Standins.{finite64}
use Rattle.floats.proofs.Front.{front_of, front_below}
use Rattle.floats.proofs.Standins.{finite64_finite}
use Rattle.floats.proofs.Order.{eq_refl, finite_number}
use Rattle.logic.proofs.Tests.{and_true, true_and}
use Rattle.battery.specs.declared.Answer.{Answer}
use Rattle.battery.specs.Battery.{zones_finite}
use Rattle.sheet_lines.specs.Answers.{same_number, AcceptsItself, same_zones, same_totals, agrees, GoodAnswer}
use Rattle.battery.proofs.GoodParts.{good_totals}
use Rattle.battery.proofs.Accepted.{accepted_battery}

-- f64 equality accepts a finite number beside itself
pub same_number_self : AcceptsItself same_number
unfolding same_number
same_number_self x h = is_true (eq x x) (eq_refl x (finite_number x (finite64_finite x (rw h tt))))

module _ (same : Float → Float → Bool) (same_self : AcceptsItself same) where
  zones_self : (zones : List Float) (n : ℕ) → zones_finite zones n ≡ true → same_zones same zones zones n ≡ true
  unfolding same_zones zones_finite
  zones_self zones zero h = refl
  zones_self zones (suc n) h =
      let a = and_true (zones_finite zones n) (finite64 (get_or zones n nan)) h in
      true_and (zones_self zones n a.0) (same_self (get_or zones n nan) a.1)

  pub agrees_self : (version : ℕ) (a : Answer) → GoodAnswer version a → agrees same a a ≡ true
  unfolding agrees same_totals
  agrees_self version a g =
      let b = a.battery in
      let ok = good_totals version b g.battery_good in
      let t = true_and (same_self b.total ok.total) (true_and (same_self b.pump ok.pump) (true_and (same_self b.direct ok.direct) (true_and (same_self b.charged ok.charged) (same_self b.electric ok.electric)))) in
      true_and (eq-eqb a.refusal a.refusal refl)
      (true_and (same_self a.energy g.energy_finite)
      (true_and (eq-eqb a.mark a.mark refl)
      (true_and (same_self a.outlet g.outlet_finite)
      (true_and (same_self a.time g.time_finite)
      (true_and (eq-eqb a.substeps a.substeps refl)
      (true_and (zones_self b.zones b.card.layers (accepted_battery version b g.battery_good.accepted).zones) t))))))

-- zones are compared at the front of both lists
pub same_zones_front : (same : Float → Float → Bool) (xs ys : List Float) (n : ℕ) → n ≤ length xs → n ≤ length ys
    → same_zones same (take n xs) (take n ys) (length (take n xs)) ≡ same_zones same xs ys n
unfolding same_zones
same_zones_front same xs ys n h k =
    front_of (λ zs. same_zones same zs (take n ys)) (λ ok j x. ok && same x (get_or (take n ys) j nan)) (λ zs ws. refl) (λ zs j. refl) xs n h
    ∙ front_below (λ zs. same_zones same xs zs) (λ ok j y. ok && same (get_or xs j nan) y) (λ zs ws. refl) (λ zs j. refl) ys n n (omega arith)

-- ---- the parts of two answers that agree

pub record Agreed (same : Float → Float → Bool) (x y : Answer) : Type 0 where
  pub refusal : x.refusal ≡ y.refusal
  pub energy : same x.energy y.energy ≡ true
  pub mark : x.mark ≡ y.mark
  pub outlet : same x.outlet y.outlet ≡ true
  pub time : same x.time y.time ≡ true
  pub substeps : x.substeps ≡ y.substeps
  pub zones : (i : ℕ) → i < x.battery.card.layers → same (get_or x.battery.zones i nan) (get_or y.battery.zones i nan) ≡ true
  pub total : same x.battery.total y.battery.total ≡ true
  pub pump : same x.battery.pump y.battery.pump ≡ true
  pub direct : same x.battery.direct y.battery.direct ≡ true
  pub charged : same x.battery.charged y.battery.charged ≡ true
  pub electric : same x.battery.electric y.battery.electric ≡ true

module _ (same : Float → Float → Bool) where
  zone_agreed : (xs ys : List Float) (n : ℕ) → same_zones same xs ys n ≡ true → (i : ℕ) → i < n → same (get_or xs i nan) (get_or ys i nan) ≡ true
  unfolding same_zones
  zone_agreed xs ys zero h i l = absurd (omega arith)
  zone_agreed xs ys (suc n) h i l = on (λ g m. zone_agreed xs ys n g i m) (ℕ_discrete i n)
    where
      a : (same_zones same xs ys n ≡ true) × (same (get_or xs n nan) (get_or ys n nan) ≡ true)
      a = and_true (same_zones same xs ys n) (same (get_or xs n nan) (get_or ys n nan)) h

      on : (same_zones same xs ys n ≡ true → i < n → same (get_or xs i nan) (get_or ys i nan) ≡ true) → Dec (i ≡ n) → same (get_or xs i nan) (get_or ys i nan) ≡ true
      on ih (yes e) = rw e a.1
      on ih (no ne) = ih a.0 (omega arith)

  pub agreed : (x y : Answer) → agrees same x y ≡ true → Agreed same x y
  unfolding agrees same_totals
  agreed x y h =
      let b = x.battery in
      let c = y.battery in
      let p₁ = and_true (eqb x.refusal y.refusal) _ h in
      let p₂ = and_true (same x.energy y.energy) _ p₁.1 in
      let p₃ = and_true (eqb x.mark y.mark) _ p₂.1 in
      let p₄ = and_true (same x.outlet y.outlet) _ p₃.1 in
      let p₅ = and_true (same x.time y.time) _ p₄.1 in
      let p₆ = and_true (eqb x.substeps y.substeps) _ p₅.1 in
      let p₇ = and_true (same_zones same b.zones c.zones b.card.layers) _ p₆.1 in
      let t₁ = and_true (same b.total c.total) _ p₇.1 in
      let t₂ = and_true (same b.pump c.pump) _ t₁.1 in
      let t₃ = and_true (same b.direct c.direct) _ t₂.1 in
      let t₄ = and_true (same b.charged c.charged) (same b.electric c.electric) t₃.1 in
      record {
        refusal = eqb-true x.refusal y.refusal p₁.0;
        energy = p₂.0;
        mark = eqb-true x.mark y.mark p₃.0;
        outlet = p₄.0;
        time = p₅.0;
        substeps = eqb-true x.substeps y.substeps p₆.0;
        zones = zone_agreed b.zones c.zones b.card.layers p₇.0;
        total = t₁.0;
        pump = t₂.0;
        direct = t₃.0;
        charged = t₄.0;
        electric = t₄.1;
      }

-- ---- answers that agree by one comparison agree by any that accepts as much

module _ (same other : Float → Float → Bool) (more : (x y : Float) → same x y ≡ true → other x y ≡ true) where
  zones_more : (xs ys : List Float) (n : ℕ) → same_zones same xs ys n ≡ true → same_zones other xs ys n ≡ true
  unfolding same_zones
  zones_more xs ys zero h = refl
  zones_more xs ys (suc n) h =
      let a = and_true (same_zones same xs ys n) (same (get_or xs n nan) (get_or ys n nan)) h in
      true_and (zones_more xs ys n a.0) (more (get_or xs n nan) (get_or ys n nan) a.1)

  pub agrees_more : (x y : Answer) → agrees same x y ≡ true → agrees other x y ≡ true
  unfolding agrees same_totals
  agrees_more x y h =
      let b = x.battery in
      let c = y.battery in
      let p₁ = and_true (eqb x.refusal y.refusal) _ h in
      let p₂ = and_true (same x.energy y.energy) _ p₁.1 in
      let p₃ = and_true (eqb x.mark y.mark) _ p₂.1 in
      let p₄ = and_true (same x.outlet y.outlet) _ p₃.1 in
      let p₅ = and_true (same x.time y.time) _ p₄.1 in
      let p₆ = and_true (eqb x.substeps y.substeps) _ p₅.1 in
      let p₇ = and_true (same_zones same b.zones c.zones b.card.layers) _ p₆.1 in
      let t₁ = and_true (same b.total c.total) _ p₇.1 in
      let t₂ = and_true (same b.pump c.pump) _ t₁.1 in
      let t₃ = and_true (same b.direct c.direct) _ t₂.1 in
      let t₄ = and_true (same b.charged c.charged) (same b.electric c.electric) t₃.1 in
      let totals = true_and (more _ _ t₁.0) (true_and (more _ _ t₂.0) (true_and (more _ _ t₃.0) (true_and (more _ _ t₄.0) (more _ _ t₄.1)))) in
      true_and p₁.0
      (true_and (more _ _ p₂.0)
      (true_and p₃.0
      (true_and (more _ _ p₄.0)
      (true_and (more _ _ p₅.0)
      (true_and p₆.0
      (true_and (zones_more b.zones c.zones b.card.layers p₇.0) totals))))))

-- One loop over the zones, as the engine has it: no array of energies, their sum and the zones' tests in the mode's order. After the last
-- zone it has what the definition reads of its arrays.
use Rattle.std.specs.Prelude.{None, Option, Some}
use mathlib.Core.Path.{◌≡◌, refl, sym, ◌∙◌, ap, subst}
use mathlib.Core.Bool.{Bool, true, cond, ◌&&◌}
use mathlib.Core.List.{List}
use Prim.Native.Nat.{ℕ, zero, suc, ◌≤◌, ◌<◌, ◌+◌}
use native.Mathlib.Omega.{arith}
use native.Mathlib.Numerals.{add-one}
use lib.ListN.{length, get_or, set, replicate, get_or-replicate, length-replicate}
use lib.Seq.{set-get_or}
use lib.Ieee.{Float, nan, eq}
use Rattle.floats.specs.F64.{◌⊕◌}
use Rattle.floats.specs.Constants as Constants
use Rattle.floats.specs.Standins.{finite64}
use Rattle.floats.specs.Sum2.{sum2_step, sum2_after, sum2}
use Rattle.floats.specs.declared.Sum2.{Sum2}
use Rattle.floats.proofs.Spread.{spread_start}
use Rattle.floats.proofs.Sum2Laws.{no_more, no_sum}
use Rattle.zone.specs.Heat.{kj, kwh}
use Rattle.zone_water.specs.Water.{zone_properties}
use Rattle.zone.specs.declared.Kilojoules.{Kilojoules}
use Rattle.zone.specs.declared.KilowattHours.{KilowattHours}
use Rattle.zone_water.specs.declared.Mode.{Mode}
use Rattle.zone_water.specs.declared.Mode.TheVariants.{OnlyCharging, Losses, Normal}
use Rattle.zone_water.specs.declared.Shared.{Shared}
use Rattle.zone.specs.declared.Salt.{Salt}
use Rattle.card.specs.declared.Card.{Card}
use Rattle.battery.specs.Battery.{zones_finite}
use Rattle.substep.specs.Substep.{zone_index, counted_energy, zone_step, zone_at, zones_after, charger_heat, progress_from, outcome_of, InPlace, progress_finite, progress_fault, substep_from}
use Rattle.substep.specs.declared.Common.{Common}
use Rattle.substep.specs.declared.SubstepInput.{SubstepInput}
use Rattle.substep.specs.declared.Fault.{Fault}
use Rattle.substep.specs.declared.Fault.TheVariants.{NotFinite}
use Rattle.substep.specs.declared.Outcome.{Outcome}
use Rattle.substep.specs.Progress.{Progress}
use Rattle.substep.specs.declared.ZoneStep.{ZoneStep}
use Rattle.substep.proofs.SubstepLaws.{index_below}
use Rattle.substep.proofs.Stores.{stored_places, stored_elsewhere}
use Rattle.substep.proofs.EachZone.{index_once}
use Rattle.substep.proofs.Ordered.{in_order, and_finite, read_more, gathered_more, tests_all, sum_all}

-- the k-th of n zones' step, and the sum and the tests up to it, in the mode's order
abbrev stepped : Common → (ℕ → Salt) → ℕ → ℕ → Progress → ZoneStep
stepped x s n k p =
    let q = zones_after x s n k p in
    let j = zone_index x.mode n k in
    zone_step x (s j) (get_or q.zones j nan) q.outlet q.left q.charged

abbrev pub summed : Common → (ℕ → Salt) → ℕ → ℕ → Progress → Sum2
summed x s n k p = in_order x.mode n sum2_step no_sum (zones_after x s n k p).energies k

abbrev pub tested : Common → (ℕ → Salt) → ℕ → ℕ → Progress → Bool
tested x s n k p = in_order x.mode n and_finite true (zones_after x s n k p).zones k

-- what the loop has after the first k of n zones
pub record Underway (x : Common) (s : ℕ → Salt) (n k : ℕ) (p : Progress) (zones : List Float) (outlet : Float) (left : Kilojoules) (charged : KilowattHours) (sum : Sum2) (spread : Float) : Type 0 where
  pub same_zones_lem : zones ≡ (zones_after x s n k p).zones
  pub same_outlet : outlet ≡ (zones_after x s n k p).outlet
  pub same_left : left ≡ (zones_after x s n k p).left
  pub same_charged : charged ≡ (zones_after x s n k p).charged
  pub same_sum : sum ≡ summed x s n k p
  pub same_test : eq spread Constants.zero ≡ tested x s n k p

-- a zero more at a zero
store_zero : (l : List Float) (j : ℕ) (e : Float) → get_or l j nan ≡ Constants.zero → e ≡ Constants.zero → set l j (get_or l j nan ⊕ e) ≡ l
store_zero l j e h g = rw (h, g, no_more) (ap (set l j) (sym h) ∙ set-get_or l j nan)

-- a zone's step where no water runs
abbrev pub zone_step_of : Float → Kilojoules → Kilojoules → KilowattHours → ZoneStep
zone_step_of t e q k = record { temperature = t; energy = e; outlet = Constants.zero; left = q; charged = k; logarithms = 0 }

-- no zone takes a logarithm of its own
properties_take_none : (m : Mode) (x : Shared) (t inlet : Float) (q : Kilojoules) → (zone_properties m x t inlet q).logarithms ≡ 0
unfolding zone_properties
properties_take_none OnlyCharging x t inlet q = refl
properties_take_none (Losses f) x t inlet q = refl
properties_take_none Normal x t inlet q = refl

pub zone_takes_none : (x : Common) (s : Salt) (t inlet : Float) (q : Kilojoules) (k : KilowattHours) → (zone_step x s t inlet q k).logarithms ≡ 0
unfolding zone_step
zone_takes_none x s t inlet q k = properties_take_none x.mode x.shared t inlet q

-- so the logarithms after a zone more are those before it
pub no_more_logarithms :
    (x : Common) (s : Salt) (t inlet : Float) (q : Kilojoules) (k : KilowattHours) (z : ZoneStep) (taken logarithms : ℕ) →
    z ≡ zone_step x s t inlet q k →
    logarithms ≡ taken →
    logarithms + z.logarithms ≡ taken
no_more_logarithms x s t inlet q k z taken logarithms e h =
    let none = ap (λ (y : ZoneStep). y.logarithms) e ∙ zone_takes_none x s t inlet q k in
    omega arith

-- charging alone gives no heat to the water
pub no_energy : (x : Common) (s : Salt) (t inlet : Float) (q : Kilojoules) (e : KilowattHours) → x.mode ≡ OnlyCharging → (zone_step x s t inlet q e).energy.0 ≡ Constants.zero
unfolding zone_step zone_properties counted_energy
no_energy x s t inlet q e m = rw m

module _ (x : Common) (s : ℕ → Salt) (n : ℕ) (p : Progress) (none : p.energies ≡ replicate 64 Constants.zero) (few : n ≤ 64) where
  clear : (i : ℕ) → i < n → get_or p.energies i nan ≡ Constants.zero
  clear i h = rw none (get_or-replicate 64 i Constants.zero nan (omega arith))

  still_clear : (k : ℕ) → k < n → get_or (zones_after x s n k p).energies (zone_index x.mode n k) nan ≡ Constants.zero
  unfolding zones_after zone_at
  still_clear k h =
      stored_elsewhere x.mode n (λ i. (zones_after x s n i p).energies) _ (λ i. refl) k (zone_index x.mode n k) (λ j g. index_once x.mode n k j h g) ∙
      clear (zone_index x.mode n k) (index_below x.mode n k h)

  charging_energies : x.mode ≡ OnlyCharging → (k : ℕ) → k ≤ n → (zones_after x s n k p).energies ≡ p.energies
  unfolding zones_after zone_at
  charging_energies m zero h = refl
  charging_energies m (suc k) h =
      store_zero (zones_after x s n k p).energies (zone_index x.mode n k) _ (still_clear k (omega arith)) (no_energy x _ _ _ _ _ m) ∙ charging_energies m k (omega arith)

  module _ (k : ℕ) (h : k < n) where
    sum_more : sum2_step (summed x s n k p) (Constants.zero ⊕ (stepped x s n k p).energy.0) ≡ summed x s n (suc k) p
    unfolding zones_after zone_at
    sum_more =
        let l = stored_places x.mode n (λ i. (zones_after x s n i p).energies) _ (λ i. refl) k ∙ (ap length none ∙ length-replicate 64 Constants.zero) in
        ap (λ (e : Float). sum2_step (summed x s n k p) (e ⊕ (stepped x s n k p).energy.0)) (sym (still_clear k h)) ∙
        sym (gathered_more x.mode n sum2_step no_sum (zones_after x s n k p).energies k _ h (omega arith))

    tests_more :
        (tested x s n k p && finite64 (get_or (zones_after x s n (suc k) p).zones (zone_index x.mode n k) nan)) ≡ tested x s n (suc k) p
    unfolding zones_after zone_at
    tests_more = sym (read_more x.mode n and_finite true (zones_after x s n k p).zones k _ h)

    -- one zone more
    pub underway_more :
        (zones : List Float) (outlet : Float) (left : Kilojoules) (charged : KilowattHours) (sum more : Sum2) (spread next : Float) (j : ℕ) (own : Salt) (z : ZoneStep) →
        Underway x s n k p zones outlet left charged sum spread →
        j ≡ zone_index x.mode n k →
        own ≡ s j →
        z ≡ zone_step x own (get_or zones j nan) outlet left charged →
        more ≡ sum2_step sum (Constants.zero ⊕ z.energy.0) →
        eq next Constants.zero ≡ (eq spread Constants.zero && finite64 (get_or (set zones j z.temperature) j nan)) →
        Underway x s n (k + 1) p (set zones j z.temperature) z.outlet z.left z.charged more next
    unfolding zones_after zone_at
    underway_more zones outlet left charged sum more spread next j own z u d r e a t =
        let g : z ≡ stepped x s n k p = rw (e, r, d, u.same_zones_lem, u.same_outlet, u.same_left, u.same_charged) in
        record {
          same_zones_lem = rw (add-one, g, d, u.same_zones_lem);
          same_outlet = rw (add-one, g);
          same_left = rw (add-one, g);
          same_charged = rw (add-one, g);
          same_sum = rw (add-one, a, g, u.same_sum) sum_more;
          same_test = rw (add-one, t, g, d, u.same_zones_lem, u.same_test) tests_more;
        }

    -- and its energy
    pub energies_more :
        (zones : List Float) (outlet : Float) (left : Kilojoules) (charged : KilowattHours) (sum : Sum2) (spread : Float) (j : ℕ) (own : Salt) (z : ZoneStep) →
        Underway x s n k p zones outlet left charged sum spread →
        j ≡ zone_index x.mode n k →
        own ≡ s j →
        z ≡ zone_step x own (get_or zones j nan) outlet left charged →
        set (zones_after x s n k p).energies j (get_or (zones_after x s n k p).energies j nan ⊕ z.energy.0) ≡ (zones_after x s n (k + 1) p).energies
    unfolding zones_after zone_at
    energies_more zones outlet left charged sum spread j own z u d r e = rw (add-one, e, r, d, u.same_zones_lem, u.same_outlet, u.same_left, u.same_charged)

-- before the first zone, with no energies yet
pub underway_start :
    (x : Common) (s : ℕ → Salt) (n : ℕ) (d : SubstepInput) (zones : List Float) (heat : Kilojoules) →
    heat ≡ charger_heat d →
    Underway x s n 0 (progress_from d zones) zones d.inlet heat (kwh Constants.zero) no_sum Constants.zero
unfolding progress_from zones_after in_order
underway_start x s n d zones heat h = record { same_zones_lem = refl; same_outlet = refl; same_left = h; same_charged = refl; same_sum = refl; same_test = spread_start }

-- after the last zone: the zones, and what a substep hands out besides
module _ (c : Card) (x : Common) (s : ℕ → Salt) (k : ℕ) (d : SubstepInput) (start : List Float) (few : c.layers ≤ 64) where
  end : Progress
  end = zones_after x s c.layers c.layers (progress_from d start)

  sum_end : summed x s c.layers c.layers (progress_from d start) ≡ sum2_after end.energies c.layers
  unfolding progress_from end
  sum_end =
      sum_all x.mode c.layers end.energies
      (λ m i h. ap (λ (l : List Float). get_or l i nan) (charging_energies x s c.layers (progress_from d start) refl few m c.layers (omega arith)) ∙ clear x s c.layers (progress_from d start) refl few i h)

  tests_end : tested x s c.layers c.layers (progress_from d start) ≡ zones_finite end.zones c.layers
  unfolding end
  tests_end = tests_all x.mode c.layers end.zones

  module _ (zones : List Float) (outlet : Float) (left : Kilojoules) (charged : KilowattHours) (sum : Sum2) (spread : Float) (f : Option Fault) (taken logarithms : ℕ)
      (same : logarithms ≡ taken) where
    handed_out :
        Underway x s c.layers c.layers (progress_from d start) zones outlet left charged sum spread →
        f ≡ cond (eq spread Constants.zero && (finite64 outlet && (finite64 (sum.s ⊕ sum.c) && finite64 charged.0))) None (Some NotFinite) →
        (zones ≡ end.zones) × (◌≡◌ {A = Outcome} (record { outlet = outlet; delivered = kj (sum.s ⊕ sum.c); charged = charged; fault = f; logarithms = logarithms }) (outcome_of (substep_from c taken end)))
    unfolding end outcome_of substep_from progress_fault progress_finite sum2
    handed_out u g = (u.same_zones_lem, rw (same, g, u.same_test, tests_end, u.same_sum, sum_end, u.same_outlet, u.same_charged))

    pub underway_end :
        k ≤ c.layers →
        c.layers ≤ k →
        Underway x s c.layers k (progress_from d start) zones outlet left charged sum spread →
        f ≡ cond (eq spread Constants.zero && (finite64 outlet && (finite64 (sum.s ⊕ sum.c) && finite64 charged.0))) None (Some NotFinite) →
        InPlace (substep_from c taken (zones_after x s c.layers c.layers (progress_from d start)))
        (record { outlet = outlet; delivered = kj (sum.s ⊕ sum.c); charged = charged; fault = f; logarithms = logarithms }) zones
    unfolding end substep_from
    underway_end a b u g = handed_out (subst (λ (i : ℕ). Underway x s c.layers i (progress_from d start) zones outlet left charged sum spread) (omega arith) u) g

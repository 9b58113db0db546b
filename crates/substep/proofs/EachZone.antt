-- A pass comes to each zone once: what one zone's step does to its temperature, the pass does to every zone's.
use mathlib.Core.Path.{◌≡◌, refl}
use Prim.Native.Nat.{ℕ, zero, suc, ◌≤◌, ◌<◌}
use native.Mathlib.Decide.{ℕ_discrete}
use native.Mathlib.Omega.{arith}
use lib.Dec.{T}
use lib.ListN.{length, get_or}
use lib.Seq.{get_or-set_same, get_or-set_other}
use lib.Ieee.{Float, nan}
use Rattle.floats.specs.Standins.{finite64}
use Rattle.zone.specs.declared.Kilojoules.{Kilojoules}
use Rattle.zone.specs.declared.KilowattHours.{KilowattHours}
use Rattle.zone.specs.declared.Salt.{Salt}
use Rattle.zone_water.specs.declared.Mode.{Mode}
use Rattle.zone_water.specs.declared.Mode.TheVariants.{OnlyCharging, Losses, Normal}
use Rattle.substep.specs.Substep.{zone_index, zone_step, zone_at, zones_after}
use Rattle.substep.specs.declared.Common.{Common}
use Rattle.substep.specs.Progress.{Progress}
use Rattle.substep.proofs.SubstepLaws.{index_below}
use Rattle.substep.proofs.Stores.{stored_elsewhere}
use Rattle.substep.proofs.Above.{progress_places}

pub index_once : (m : Mode) (n k l : ℕ) → k < n → l < k → zone_index m n l ≡ zone_index m n k → ⊥
unfolding zone_index
index_once OnlyCharging n k l h g e = omega arith
index_once (Losses f) n k l h g e = omega arith
index_once Normal n k l h g e = omega arith

-- a zone that none of the first k steps came to is as before
pub unvisited :
    (x : Common) (s : ℕ → Salt) (n k : ℕ) (p : Progress) (i : ℕ) → ((l : ℕ) → l < k → zone_index x.mode n l ≡ i → ⊥) → get_or (zones_after x s n k p).zones i nan ≡ get_or p.zones i nan
unfolding zones_after zone_at
unvisited x s n k p i h = stored_elsewhere x.mode n (λ j. (zones_after x s n j p).zones) _ (λ j. refl) k i h

-- J of the charger's heat left holds throughout, and R of each temperature before and after its step
module _
    (x : Common) (s : ℕ → Salt) (n : ℕ) (J : Kilojoules → Type 0) (R : Float → Float → Type 0)
    (stays : (t : Float) → T (finite64 t) → R t t)
    (moves : (j : ℕ) → j < n → (t inlet : Float) (q : Kilojoules) (e : KilowattHours) → J q → T (finite64 t) → R t (zone_step x (s j) t inlet q e).temperature)
    (goes : (j : ℕ) → j < n → (t inlet : Float) (q : Kilojoules) (e : KilowattHours) → J q → T (finite64 t) → J (zone_step x (s j) t inlet q e).left)
    (p : Progress) (start : J p.left) (finite : (i : ℕ) → i < n → T (finite64 (get_or p.zones i nan))) (places : n ≤ length p.zones) where
  before : (k : ℕ) → k < n → get_or (zones_after x s n k p).zones (zone_index x.mode n k) nan ≡ get_or p.zones (zone_index x.mode n k) nan
  before k h = unvisited x s n k p (zone_index x.mode n k) (λ l g. index_once x.mode n k l h g)

  before_finite : (k : ℕ) → k < n → T (finite64 (get_or (zones_after x s n k p).zones (zone_index x.mode n k) nan))
  before_finite k h = rw (before k h) (finite (zone_index x.mode n k) (index_below x.mode n k h))

  left_throughout : (k : ℕ) → k ≤ n → J (zones_after x s n k p).left
  unfolding zones_after zone_at
  left_throughout zero h = start
  left_throughout (suc k) h = goes (zone_index x.mode n k) (index_below x.mode n k (omega arith)) _ _ _ _ (left_throughout k (omega arith)) (before_finite k (omega arith))

  step_at : (k : ℕ) → k < n → R (get_or p.zones (zone_index x.mode n k) nan) (get_or (zones_after x s n (suc k) p).zones (zone_index x.mode n k) nan)
  unfolding zones_after zone_at
  step_at k h =
      let j = zone_index x.mode n k in
      let q = zones_after x s n k p in
      let b : j < n = index_below x.mode n k h in
      let l = progress_places x s n k p in
      rw (get_or-set_same q.zones j (zone_step x (s j) (get_or q.zones j nan) q.outlet q.left q.charged).temperature nan (omega arith), ← before k h)
      (moves j b (get_or q.zones j nan) q.outlet q.left q.charged (left_throughout k (omega arith)) (before_finite k h))

  elsewhere : (k i : ℕ) → (i ≡ zone_index x.mode n k → ⊥) → get_or (zones_after x s n (suc k) p).zones i nan ≡ get_or (zones_after x s n k p).zones i nan
  unfolding zones_after zone_at
  elsewhere k i h = get_or-set_other (zones_after x s n k p).zones (zone_index x.mode n k) i _ nan h

  one_more :
      (k : ℕ) → k < n → (i : ℕ) → R (get_or p.zones i nan) (get_or (zones_after x s n k p).zones i nan) → Dec (i ≡ zone_index x.mode n k) →
      R (get_or p.zones i nan) (get_or (zones_after x s n (suc k) p).zones i nan)
  one_more k h i r (yes e) = rw e (step_at k h)
  one_more k h i r (no d) = rw (elsewhere k i d) r

  after : (k : ℕ) → k ≤ n → (i : ℕ) → i < n → R (get_or p.zones i nan) (get_or (zones_after x s n k p).zones i nan)
  after zero h i b = unfold zones_after in stays (get_or p.zones i nan) (finite i b)
  after (suc k) h i b = one_more k (omega arith) i (after k (omega arith) i b) (ℕ_discrete i (zone_index x.mode n k))

  pub each_zone : (i : ℕ) → i < n → R (get_or p.zones i nan) (get_or (zones_after x s n n p).zones i nan)
  each_zone = after n (omega arith)

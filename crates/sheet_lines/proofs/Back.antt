-- Every reader gives back what its writer wrote.
use mathlib.Core.Path.{◌≡◌, refl, sym, ap, ◌∙◌}
use mathlib.Core.List.{List, ◌++◌, append_assoc}
use mathlib.Core.Bool.{true}
use Prim.Native.Nat.{ℕ, zero, suc, ◌+◌, ◌*◌, ◌≤◌, ◌<◌}
use native.Mathlib.Decide.{ℕ_discrete, dec_lt}
use native.Mathlib.Omega.{arith}
use lib.ListN.{length, get_or, set, length-append, length-set, get_or-replicate}
use lib.Seq.{ext_get_or, get_or-set_same, get_or-set_other}
use lib.Ieee.{Float, nan}
use Rattle.floats.specs.Constants as Constants
use Rattle.floats.specs.Standins.{finite64}
use Rattle.codec.specs.Bytes.{nth_f64, f64_bytes}
use Rattle.codec.proofs.Laws.{length_f64_bytes}
use Rattle.codec.proofs.Places.{f64_here}
use Rattle.battery.specs.declared.Battery.{Battery}
use Rattle.battery.specs.Battery.{GoodBattery}
use Rattle.battery.proofs.GoodParts.{good_layers, good_count, good_zone, good_totals}
use Rattle.sheet_records.specs.Records.{zones_at, zones_bytes, totals_bytes, state_at, state_bytes}
use Rattle.sheet_records.proofs.Lengths.{length_zones_bytes}
use Rattle.sheet_lines.proofs.Good.{held}

-- ---- zones

zone_here : (zones : List Float) (n : ℕ) (p r : List ℕ) (at i : ℕ) → length p ≡ at → i < n → ((j : ℕ) → j < n → finite64 (get_or zones j nan) ≡ true)
    → nth_f64 (p ++ (zones_bytes zones n ++ r)) at i ≡ get_or zones i nan
unfolding zones_bytes
zone_here zones zero p r at i e l h = absurd (omega arith)
zone_here zones (suc n) p r at i e l h =
    on (λ m. zone_here zones n p (f64_bytes (get_or zones n nan) ++ r) at i e m (λ j k. h j (omega arith))) (ℕ_discrete i n)
  where
    on : (i < n → nth_f64 (p ++ (zones_bytes zones n ++ (f64_bytes (get_or zones n nan) ++ r))) at i ≡ get_or zones i nan) → Dec (i ≡ n)
        → nth_f64 (p ++ ((zones_bytes zones n ++ f64_bytes (get_or zones n nan)) ++ r)) at i ≡ get_or zones i nan
    on ih (yes q) =
        rw q
        (f64_here (p ++ ((zones_bytes zones n ++ f64_bytes (get_or zones n nan)) ++ r)) (p ++ zones_bytes zones n) r (at + 8 * n) (get_or zones n nan) (simp append_assoc)
        (simp (length-append, length_zones_bytes) (omega arith)) (held (get_or zones n nan) (h n (omega arith))))
    on ih (no ne) = rw append_assoc (ih (omega arith))

pub zones_at_long : (bs : List ℕ) (at n : ℕ) → length (zones_at bs at n) ≡ 64
unfolding zones_at
zones_at_long bs at zero = refl
zones_at_long bs at (suc n) = simp (length-set) (zones_at_long bs at n)

pub zones_at_above : (bs : List ℕ) (at n i : ℕ) → n ≤ i → i < 64 → get_or (zones_at bs at n) i nan ≡ Constants.zero
unfolding zones_at
zones_at_above bs at zero i h l = get_or-replicate 64 i Constants.zero nan l
zones_at_above bs at (suc n) i h l =
    let ne : i ≡ n → ⊥ = λ e. omega arith in
    get_or-set_other (zones_at bs at n) n i _ nan ne ∙ zones_at_above bs at n i (omega arith) l

pub zones_at_below : (bs : List ℕ) (at n i : ℕ) → n ≤ 64 → i < n → get_or (zones_at bs at n) i nan ≡ nth_f64 bs at i
unfolding zones_at
zones_at_below bs at zero i h l = absurd (omega arith)
zones_at_below bs at (suc n) i h l = on (λ m. zones_at_below bs at n i (omega arith) m) (ℕ_discrete i n)
  where
    on : (i < n → get_or (zones_at bs at n) i nan ≡ nth_f64 bs at i) → Dec (i ≡ n) → get_or (set (zones_at bs at n) n (nth_f64 bs at n)) i nan ≡ nth_f64 bs at i
    on ih (yes e) = rw e (get_or-set_same (zones_at bs at n) n (nth_f64 bs at n) nan (simp (zones_at_long bs at n) (omega arith)))
    on ih (no ne) = get_or-set_other (zones_at bs at n) n i (nth_f64 bs at n) nan ne ∙ ih (omega arith)

zones_back : (version : ℕ) (b : Battery) (p r : List ℕ) (at : ℕ) → GoodBattery version b → length p ≡ at
    → zones_at (p ++ (zones_bytes b.zones b.card.layers ++ r)) at b.card.layers ≡ b.zones
zones_back version b p r at g e =
    ext_get_or nan (zones_at bs at n) b.zones (zones_at_long bs at n ∙ sym g.places) (λ i l. on i (rw zones_at_long at l) (dec_lt i n))
  where
    n : ℕ
    n = b.card.layers

    bs : List ℕ
    bs = p ++ (zones_bytes b.zones n ++ r)

    on : (i : ℕ) → i < 64 → Dec (i < n) → get_or (zones_at bs at n) i nan ≡ get_or b.zones i nan
    on i l (yes m) =
        zones_at_below bs at n i (good_layers version b g) m
        ∙ zone_here b.zones n p r at i e m (good_zone version b g)
    on i l (no m) =
        let a : n ≤ i = omega arith in
        zones_at_above bs at n i a l ∙ sym (g.above i a l)

-- ---- a state

-- zones and totals that stand after p, with r after them
pub state_back : (version : ℕ) (b : Battery) (p r : List ℕ) (at : ℕ) → GoodBattery version b → length p ≡ at
    → state_at version b.card (p ++ (state_bytes version b ++ r)) at ≡ b
unfolding state_at state_bytes totals_bytes
state_back version b p r at g e =
    let ok = good_totals version b g in
    let n = b.card.layers in
    let z : List ℕ = p ++ zones_bytes b.zones n in
    let t₁ = f64_bytes b.total in
    let t₂ = f64_bytes b.pump in
    let t₃ = f64_bytes b.direct in
    let t₄ = f64_bytes b.charged in
    let t₅ = f64_bytes b.electric in
    let bs : List ℕ = p ++ ((zones_bytes b.zones n ++ (t₁ ++ t₂ ++ t₃ ++ t₄ ++ t₅)) ++ r) in
    let m : bs ≡ p ++ (zones_bytes b.zones n ++ ((t₁ ++ t₂ ++ t₃ ++ t₄ ++ t₅) ++ r)) = simp append_assoc in
    let e₀ : zones_at bs at n ≡ b.zones = ap (λ (x : List ℕ). zones_at x at n) m ∙ zones_back version b p ((t₁ ++ t₂ ++ t₃ ++ t₄ ++ t₅) ++ r) at g e in
    let q₁ : length z ≡ at + 8 * n + 0 = simp (length-append, length_zones_bytes) (omega arith) in
    let q₂ : length (z ++ t₁) ≡ at + 8 * n + 8 = simp (length-append, length_f64_bytes, length_zones_bytes) (omega arith) in
    let q₃ : length (z ++ t₁ ++ t₂) ≡ at + 8 * n + 16 = simp (length-append, length_f64_bytes, length_zones_bytes) (omega arith) in
    let q₄ : length (z ++ t₁ ++ t₂ ++ t₃) ≡ at + 8 * n + 24 = simp (length-append, length_f64_bytes, length_zones_bytes) (omega arith) in
    let q₅ : length (z ++ t₁ ++ t₂ ++ t₃ ++ t₄) ≡ at + 8 * n + 32 = simp (length-append, length_f64_bytes, length_zones_bytes) (omega arith) in
    let e₁ : nth_f64 bs (at + 8 * n) 0 ≡ b.total = f64_here bs z (t₂ ++ t₃ ++ t₄ ++ t₅ ++ r) (at + 8 * n + 0) b.total (simp append_assoc) q₁ (held b.total ok.total) in
    let e₂ : nth_f64 bs (at + 8 * n) 1 ≡ b.pump = f64_here bs (z ++ t₁) (t₃ ++ t₄ ++ t₅ ++ r) (at + 8 * n + 8) b.pump (simp append_assoc) q₂ (held b.pump ok.pump) in
    let e₃ : nth_f64 bs (at + 8 * n) 2 ≡ b.direct = f64_here bs (z ++ t₁ ++ t₂) (t₄ ++ t₅ ++ r) (at + 8 * n + 16) b.direct (simp append_assoc) q₃ (held b.direct ok.direct) in
    let e₄ : nth_f64 bs (at + 8 * n) 3 ≡ b.charged = f64_here bs (z ++ t₁ ++ t₂ ++ t₃) (t₅ ++ r) (at + 8 * n + 24) b.charged (simp append_assoc) q₄ (held b.charged ok.charged) in
    let e₅ : nth_f64 bs (at + 8 * n) 4 ≡ b.electric = f64_here bs (z ++ t₁ ++ t₂ ++ t₃ ++ t₄) r (at + 8 * n + 32) b.electric (simp append_assoc) q₅ (held b.electric ok.electric) in
    let e₆ : n ≡ b.count = sym (good_count version b g) in
    λ i. record { card = b.card; zones = e₀ i; count = e₆ i; total = e₁ i; pump = e₂ i; direct = e₃ i; charged = e₄ i; electric = e₅ i }

-- The first zones of another list, stored one by one: which places change, and where the two lists agree above them the whole is the other list.
use mathlib.Core.Path.{◌≡◌, refl, sym, ap, ◌∙◌}
use mathlib.Core.Bool.{Bool, true, false, not}
use mathlib.Core.List.{List, [], ◌∷◌, ◌++◌}
use Prim.Native.Nat.{ℕ, zero, suc, ◌+◌, ◌≤◌, ◌<◌}
use native.Mathlib.Decide.{ℕ_discrete}
use native.Mathlib.Omega.{arith}
use lib.Dec.{T, ltb, ltb→lt, nltb→le}
use lib.ListN.{length, get_or, set, take, drop, length-set}
use lib.Seq.{get_or-set_same, get_or-set_other, ext_get_or}
use lib.Ieee.{Float, nan}
use Rattle.std.proofs.Math.Seq.{set-append_seam}
use Rattle.std.proofs.lemmas.List.{length-take-le, take_more, drop_more, append_assoc}
use Rattle.battery.specs.Places.{SameAbove}
use Rattle.own_record.specs.Record.{renewed_zones}

module _ (zones own : List Float) where
  -- stored all at once
  pub renewed_front : (n : ℕ) → n ≤ length own → n ≤ length zones → renewed_zones zones own n ≡ take n own ++ drop n zones
  unfolding renewed_zones
  renewed_front zero h k = refl
  renewed_front (suc n) h k =
      let x = get_or own n nan in
      let rest = drop (n + 1) zones in
      let e : n ≡ length (take n own) = sym (length-take-le n own (omega arith)) in
      let left : drop n zones ≡ get_or zones n nan ∷ rest = drop_more zones n nan (omega arith) in
      let more : take (n + 1) own ≡ take n own ++ (x ∷ []) = take_more own n nan (omega arith) in
      let q : suc n ≡ n + 1 = omega arith in
      ap (λ (l : List Float). set l n x) (renewed_front n (omega arith) (omega arith) ∙ ap (λ (l : List Float). take n own ++ l) left)
      ∙ ap (λ (i : ℕ). set (take n own ++ (get_or zones n nan ∷ rest)) i x) e
      ∙ set-append_seam (take n own) (get_or zones n nan) rest x
      ∙ sym (ap (λ (l : List Float). l ++ rest) more ∙ append_assoc (take n own) (x ∷ []) rest)
      ∙ ap (λ (i : ℕ). take i own ++ drop i zones) (sym q)

  pub renewed_places : (n : ℕ) → length (renewed_zones zones own n) ≡ length zones
  unfolding renewed_zones
  renewed_places zero = refl
  renewed_places (suc n) = length-set (renewed_zones zones own n) n (get_or own n nan) ∙ renewed_places n

  -- the places from n on are not stored to
  pub renewed_above : (n i : ℕ) → n ≤ i → get_or (renewed_zones zones own n) i nan ≡ get_or zones i nan
  unfolding renewed_zones
  renewed_above zero i h = refl
  renewed_above (suc n) i h =
      get_or-set_other (renewed_zones zones own n) n i (get_or own n nan) nan (λ e. omega arith) ∙ renewed_above n i (omega arith)

  pub renewed_below : (n i : ℕ) → i < n → i < length zones → get_or (renewed_zones zones own n) i nan ≡ get_or own i nan
  unfolding renewed_zones
  renewed_below zero i h k = absurd (omega arith)
  renewed_below (suc n) i h k = on (λ g. renewed_below n i g k) (ℕ_discrete i n)
    where
      on : (i < n → get_or (renewed_zones zones own n) i nan ≡ get_or own i nan) → Dec (i ≡ n) → get_or (set (renewed_zones zones own n) n (get_or own n nan)) i nan ≡ get_or own i nan
      on below (yes e) =
          let p = renewed_places n in
          rw e (get_or-set_same (renewed_zones zones own n) n (get_or own n nan) nan (omega arith))
      on below (no ne) = get_or-set_other (renewed_zones zones own n) n i (get_or own n nan) nan ne ∙ below (omega arith)

  -- what lies above is the same already
  pub renewed_whole : (n : ℕ) → SameAbove n zones own → renewed_zones zones own n ≡ own
  renewed_whole n same =
      let p = renewed_places n in
      ext_get_or nan (renewed_zones zones own n) own (p ∙ sym same.places) (λ i h. at i (omega arith) (ltb i n) (ltb→lt i n) (nltb→le i n))
    where
      at : (i : ℕ) → i < length zones → (t : Bool) → (T t → i < n) → (T (not t) → n ≤ i) → get_or (renewed_zones zones own n) i nan ≡ get_or own i nan
      at i k true below above = renewed_below n i (below tt) k
      at i k false below above = renewed_above n i (above tt) ∙ sym (same.above i (above tt))

-- The salts among the figures.
use mathlib.Core.Path.{◌≡◌, refl, sym, ◌∙◌, ap, fun_ext}
use mathlib.Core.List.{List}
use Prim.Native.Nat.{ℕ, zero, suc, ◌+◌, ◌*◌, ◌≤◌, ◌<◌}
use native.Mathlib.Omega.{arith}
use borrow.Author.Tests.{ne_eqb}
use lib.ListN.{length}
use lib.Ieee.{Float}
use Rattle.zone.specs.Layer.{Salts, One, Each, salt_at}
use Rattle.zone.specs.Lent.{zone_salt, salts_in, Salted, step_by}
use Rattle.zone.specs.LentSalts.{lent_step}
use Rattle.zone.specs.declared.lent.LentSalts.{LentSalts}
use native.Mathlib.Nat.{le_trans, lt_of_lt_of_le}

-- with APART 0 the step is 0, whatever the field holds
pub step_by_none : (step : ℕ) → step_by 0 step ≡ 0
unfolding step_by
step_by_none step = refl

-- a caller who knows the step when the code is compiled gives it as APART and as the field
pub step_by_same : (step : ℕ) → step_by step step ≡ step
unfolding step_by
step_by_same zero = refl
step_by_same (suc k) = rw (ne_eqb (suc k) 0 (λ h. omega arith))

-- with the step 0 every zone has the first salt
pub one_salt : (figures : List Float) (step j : ℕ) → step ≡ 0 → zone_salt figures step j ≡ zone_salt figures step 0
unfolding zone_salt
one_salt figures step j e = let h : j * 0 ≡ 0 = omega arith in rw (e, h)

pub salts_one : (figures : List Float) (step : ℕ) → step ≡ 0 → salts_in figures step ≡ One (zone_salt figures step 0)
unfolding salts_in
salts_one figures step e = rw e

pub salts_each : (figures : List Float) (step : ℕ) → (step ≡ 0 → ⊥) → salts_in figures step ≡ Each (zone_salt figures step)
unfolding salts_in
salts_each figures step e = rw (ne_eqb step 0 e)

each_salt : (figures : List Float) (step : ℕ) → zone_salt figures step ≡ salt_at (salts_in figures step)
each_salt figures zero = fun_ext (λ j. one_salt figures 0 j refl) ∙ sym (ap salt_at (salts_one figures 0 refl))
each_salt figures (suc k) = sym (ap salt_at (salts_each figures (suc k) (λ h. omega arith)))

-- where the salts are known, so is each zone's
pub salts_at : (figures : List Float) (step : ℕ) (s : Salts) → salts_in figures step ≡ s → zone_salt figures step ≡ salt_at s
salts_at figures step s e = each_salt figures step ∙ ap salt_at e

-- one salt is enough for any zones
pub one_salted : (figures : List Float) (n : ℕ) → 5 ≤ length figures → Salted figures 0 n
one_salted figures n h = (h, λ j l. let e : j * 0 ≡ 0 = omega arith in rw e h)

-- what is lent has salts for at most 64 zones, and one for each zone of fewer
pub few_layers : {apart : ℕ} (salts : LentSalts apart) (n : ℕ) → n ≤ salts.layers → n ≤ 64
few_layers salts n h = le_trans h salts.salted.0

pub has_salt : {apart : ℕ} (salts : LentSalts apart) (n j : ℕ) → n ≤ salts.layers → j < n → j * lent_step salts + 5 ≤ length salts.figures.now
has_salt salts n j h l = salts.salted.1.1 j (lt_of_lt_of_le l h)

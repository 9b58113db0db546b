-- A card's figures are its salts.
use mathlib.Core.Path.{◌≡◌, refl, ◌∙◌, ap}
use mathlib.Core.List.{List}
use native.Mathlib.Omega.{arith}
use lib.Ieee.{Float}
use Prim.Native.Nat.{ℕ, ◌≤◌}
use native.Mathlib.Nat.{le_refl}
use Rattle.zone.specs.Layer.{One}
use Rattle.zone.specs.Lent.{zone_salt}
use Rattle.zone.proofs.Salts.{salts_one, one_salted}
use Rattle.card.specs.declared.Card.{Card}
use Rattle.card.specs.Derived.{salt_of, salts_of}
use Rattle.zone.specs.LentSalts.{lent_step, lent_salts}
use Rattle.zone.specs.declared.lent.LentSalts.{LentSalts}
use Rattle.card.specs.Lent.{figures_of, SaltsLent}

first_salt : (c : Card) → zone_salt (figures_of c) 0 0 ≡ salt_of c
unfolding figures_of zone_salt
first_salt c = refl

its_figures : (c : Card) → SaltsLent c (figures_of c) 0
unfolding figures_of salts_of
its_figures c = (one_salted (figures_of c) c.layers (omega arith), salts_one (figures_of c) 0 refl ∙ ap One (first_salt c))

-- lent with the step 0
pub figures_salts : (c : Card) (figures : List Float) → figures ≡ figures_of c → SaltsLent c figures 0
figures_salts c figures e = rw e (its_figures c)

-- what is lent of a card's own salts
pub lent_own : {apart : ℕ} (c : Card) (s : LentSalts apart) → s.layers ≡ c.layers → lent_salts s ≡ salts_of c → (c.layers ≤ s.layers) × SaltsLent c s.figures.now (lent_step s)
lent_own c s few e = (rw few (le_refl c.layers), (rw (← few) s.salted.1, e))

-- The salts that the code is lent.
use Rattle.std.specs.Prelude.{ℕ}
use Rattle.zone.specs.Layer.{Salts}
use Rattle.zone.specs.Lent.{zone_salt, salts_in, step_by}
use Rattle.zone.specs.declared.Salt.{Salt}
use Rattle.zone.specs.declared.lent.LentSalts.{LentSalts}

-- how far they lie apart
abbrev pub lent_step : {apart : ℕ} → LentSalts apart → ℕ
lent_step {apart} salts = step_by apart salts.step

-- each zone's
abbrev pub lent_salt : {apart : ℕ} → LentSalts apart → ℕ → Salt
lent_salt salts = zone_salt salts.figures.now (lent_step salts)

abbrev pub lent_salts : {apart : ℕ} → LentSalts apart → Salts
lent_salts salts = salts_in salts.figures.now (lent_step salts)

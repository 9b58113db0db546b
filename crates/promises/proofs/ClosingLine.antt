-- Document 01, 'Sheet': 'Closing a timestep, one layer at 60 °C, totals 0', as the steps answer it, in every version.
use Prim.Native.Nat.{ℕ}
use mathlib.Core.Bool.{true}
use mathlib.Core.Path.{◌≡◌, refl, ap, ◌∙◌}
use mathlib.Core.List.{[], ◌∷◌, ◌++◌}
use lib.ListN.{get_or, replicate}
use lib.Ieee.{binary64, of_bits, fits, nan}
use Rattle.floats.specs.Constants.{zero}
use Rattle.floats.specs.Standins.{finite64}
use Rattle.battery.specs.Battery.{zones_finite}
use Rattle.battery.specs.Ledger.{totals_finite}
use Rattle.battery.specs.Answer.{plain_answer, numbers_finite, answer_finite}
use Rattle.battery.specs.declared.Battery.{Battery}
use Rattle.battery.specs.declared.Call.TheVariants.{CloseTimestep}
use Rattle.engine_replies.specs.Replies.{checked, closed_battery}
use Rattle.engine.specs.Steps.{step_of}
use Rattle.sheet_lines.specs.Lines.{line_bytes}
use Rattle.sheet_lines.proofs.LineLaws as sheet

-- any running times, which the closing sets to 0; one zone of 60 °C, and nothing charged
module _ (version : ℕ) (b : Battery) (layers : b.card.layers ≡ 1) (zone : get_or b.zones 0 nan ≡ of_bits binary64 0x404E000000000000)
    (charged : b.charged ≡ zero) (electric : b.electric ≡ zero) where
  closed_finite : answer_finite (plain_answer zero (closed_battery b)) ≡ true
  unfolding answer_finite numbers_finite plain_answer closed_battery zones_finite totals_finite finite64 fits of_bits
  closed_finite = rw (layers, zone, charged, electric)

  closed_answer : step_of version b CloseTimestep ≡ plain_answer zero (closed_battery b)
  unfolding step_of checked
  closed_answer = rw closed_finite

  closed : sheet.Closing (closed_battery b)
  unfolding closed_battery
  closed = record { layers = layers; zone = zone; total = refl; pump = refl; direct = refl; charged = charged; electric = electric }

  -- '`004f`, `05`, 30 zero bytes, `404e000000000000`, 40 zero bytes'
  pub closing_line : line_bytes version (5 ∷ []) (step_of version b CloseTimestep)
      ≡ 0x00 ∷ 0x4f ∷ 0x05 ∷ (replicate 30 0 ++ (0x40 ∷ 0x4e ∷ 0x00 ∷ 0x00 ∷ 0x00 ∷ 0x00 ∷ 0x00 ∷ 0x00 ∷ replicate 40 0))
  closing_line = ap (line_bytes version (5 ∷ [])) closed_answer ∙ sheet.closing_line version (closed_battery b) closed

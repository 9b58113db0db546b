-- An accepted battery has at most 64 layers, finite zones, and losses that charge nothing.
use Rattle.std.specs.Prelude.{None}
use Prim.Native.Nat.{ℕ, ◌≤◌}
use mathlib.Core.Path.{◌≡◌}
use mathlib.Core.Bool.{true, false}
use lib.Ieee.{lt}
use Rattle.floats.specs.Constants.{zero}
use Rattle.substep.specs.Substep.{charger_heat}
use Rattle.runs.specs.Charge.{loss_input}
use Rattle.engine.proofs.Losses.{no_charger}
use Rattle.card.specs.Card.{card_refusal}
use Rattle.card.proofs.Accepted.{accepted_layers}
use Rattle.battery.specs.Battery.{zones_finite, battery_accepted}
use Rattle.battery.specs.declared.Battery.{Battery}
use Rattle.battery.proofs.Accepted.{accepted_battery}

module _ (version : ℕ) (b : Battery) (h : battery_accepted version b ≡ true) where
  pub accepted_card : card_refusal version b.card ≡ 0
  accepted_card = (accepted_battery version b h).card

  pub accepted_few : b.card.layers ≤ 64
  accepted_few = (accepted_layers version b.card accepted_card).1

  pub accepted_finite : zones_finite b.zones b.card.layers ≡ true
  accepted_finite = (accepted_battery version b h).zones

  pub accepted_losses : lt (charger_heat (loss_input b.card None)).0 zero ≡ false
  accepted_losses = no_charger version b accepted_card None

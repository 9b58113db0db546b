use Rattle.battery.specs.Ledger.{whole}
use Rattle.engine.specs.Steps.{heat_loss}
use Rattle.engine.proofs.FiniteZones.{loss_leaves_finite, left_finite}
use Rattle.engine_replies.proofs.Settled.{cooled_with}
use mathlib.Core.Path.{◌∙◌}
use Rattle.engine.proofs.steps.heat_loss.Goals as goal

pub returns : goal.returns
unfolding heat_loss
returns g c =
    let a = c.args in
    let w = c.battery_heat_loss-s.ensures in
    let f = loss_leaves_finite (whole a.lent.ledger a.zones.now) a.floor in
    c.unless_refused.ensures a.lent.ledger _ _ (left_finite _ _ _ _ w f) ∙ cooled_with _ _ _ _ _ w _ c.run_reply-a.ensures

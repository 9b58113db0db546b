use Rattle.battery.specs.Ledger.{whole}
use Rattle.engine.specs.Steps.{charge}
use Rattle.engine.proofs.FiniteZones.{charge_leaves_finite, left_finite}
use Rattle.engine_replies.proofs.Settled.{charged_with}
use mathlib.Core.Path.{◌∙◌}
use Rattle.engine.proofs.steps.charge.Goals as goal

pub returns : goal.returns
unfolding charge
returns g c =
    let a = c.args in
    let w = c.charge_battery-s.ensures in
    let f = charge_leaves_finite (whole a.lent.ledger a.zones.now) c.requires a.source a.target in
    c.unless_refused.ensures a.lent.ledger _ _ (left_finite _ _ _ _ w f)
    ∙ charged_with _ _ _ _ _ w _ a.version _ _ c.charged_time-time.ensures c.charged_totals-totals.ensures c.run_reply-a.ensures

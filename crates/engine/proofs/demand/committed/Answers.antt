use Rattle.battery.specs.Ledger.{whole}
use Rattle.engine.proofs.FiniteZones.{demand_leaves_finite, left_finite}
use Rattle.engine_replies.proofs.Settled.{committed_with}
use mathlib.Core.Path.{◌∙◌}
use Rattle.engine.proofs.demand.committed.Goals as goal

pub returns : goal.returns
returns g c =
    let a = c.args in
    let w = c.demand_stopped-s.ensures in
    let b = whole a.lent.ledger a.zones.now in
    let f = demand_leaves_finite b c.requires.0 a.demand a.feed in
    c.unless_refused.ensures a.lent.ledger _ _ (left_finite _ _ _ _ w (λ h. f)) ∙ committed_with _ _ _ _ _ w _ _ _ _ c.requires.1 (c.from-class.ensures _) c.served_totals-totals.ensures c.demand_reply-a.ensures

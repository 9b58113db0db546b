use Rattle.engine_replies.proofs.Settled.{trial_with}
use mathlib.Core.Path.{◌∙◌}
use Rattle.engine.proofs.demand.trial.Goals as goal

pub returns : goal.returns
returns g c =
    let w = c.demand_stopped-s.ensures in
    let p = c.requires in
    c.unless_refused.ensures c.args.lent.ledger _ _ (λ h. p.0) ∙ trial_with _ _ _ _ _ w _ _ p.1 c.demand_reply-a.ensures

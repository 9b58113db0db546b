use mathlib.Core.List.{[]}
use Rattle.engine_replies.specs.Replies.{checked}
use Rattle.engine_replies.proofs.Settled.{closed_with}
use mathlib.Core.Path.{◌∙◌, ap}
use Rattle.engine.proofs.steps.close_timestep.Goals as goal

pub returns : goal.returns
returns c = c.checked.ensures _ ∙ ap (checked _) (closed_with c.args.ledger [] _ _ _ _ c.closed_totals-totals.ensures c.plain_reply-a.ensures)

use Rattle.runs.proofs.HydronicTurns.{whole_replayed, whole_limit, whole_on, whole_level}
use Rattle.runs.proofs.InPlace.{as_defined}
use Rattle.runs.specs.Zoned.{AsDefined}
use mathlib.Core.Path.{subst}
use Rattle.run_hydronic.proofs.hydronic_whole.Goals as goal

pub returns-then-not-clearly_below : goal.returns-then-not-clearly_below
returns-then-not-clearly_below g c = as_defined _ _ _ _ (whole_level c.args.task _ _ _ _ _ _ c.reynold_between-reynold.ensures c.clearly_below.ensures c.if-not-clearly_below.true)

pub returns-then-not-limit_reached : goal.returns-then-not-limit_reached
returns-then-not-limit_reached g c = as_defined _ _ _ _ (whole_on c.args.task _ _ _ _ _ _ c.reynold_between-reynold.ensures c.clearly_below.ensures c.if-not-clearly_below.false _ c.limit_reached.ensures c.if-not-limit_reached.true)

pub returns-then-this : goal.returns-then-this
returns-then-this g c = subst (AsDefined _ _ _) (whole_replayed c.args.task _ _ _ _ _ _ c.reynold_between-reynold.ensures c.clearly_below.ensures c.if-not-clearly_below.false _ c.limit_reached.ensures c.if-not-limit_reached.false _ c.if-this.true c.fraction_seconds-seconds.ensures) c.replayed.ensures

pub returns : goal.returns
returns g c = as_defined _ _ _ _ (whole_limit c.args.task _ _ _ _ _ _ c.reynold_between-reynold.ensures c.clearly_below.ensures c.if-not-clearly_below.false _ c.limit_reached.ensures c.if-not-limit_reached.false c.if-this.false)

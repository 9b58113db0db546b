use native.Mathlib.Omega.{arith}
use mathlib.Core.Path.{sym, ◌∙◌, ap}
use Rattle.sheet_calls.specs.Kinds.{kind_number}
use Rattle.sheet_calls.proofs.Places.{demand_long}
use Rattle.sheet_calls.proofs.demand_class.Goals as goal

pub read_u16-number-requires : goal.read_u16-number-requires
read_u16-number-requires g c = omega (arith, demand_long _ _ _ (sym c.in-Ok.ensures ∙ ap kind_number c.in-DemandEnergy.is) c.requires.1)

pub bounds-bytes-1 : goal.bounds-bytes-1
bounds-bytes-1 g c = omega (arith, demand_long _ _ _ (sym c.in-Ok.ensures ∙ ap kind_number c.in-DemandEnergy.is) c.requires.1)

use native.Mathlib.Omega.{arith}
use mathlib.Core.Path.{sym, ◌∙◌, ap}
use Rattle.sheet_calls.specs.Kinds.{kind_number}
use Rattle.sheet_calls.proofs.Places.{electric_long}
use Rattle.sheet_calls.proofs.call_by.Goals as goal

pub nth_f64-power-requires : goal.nth_f64-power-requires
nth_f64-power-requires c = omega (arith, electric_long _ _ _ (sym c.in-Ok.ensures ∙ ap kind_number c.in-ChargeElectric.is) c.requires)

pub nth_f64-target-requires : goal.nth_f64-target-requires
nth_f64-target-requires c = omega (arith, electric_long _ _ _ (sym c.in-Ok.ensures ∙ ap kind_number c.in-ChargeElectric.is) c.requires)

-- `advance` of a standing loss warms no zone, of an electric charge cools none, whatever the call's numbers; and 22 only with the budget used.
use mathlib.Core.Path.{◌≡◌}
use mathlib.Core.Bool.{Bool, ◌&&◌}
use Prim.Native.Nat.{ℕ, ◌<◌}
use native.Mathlib.Omega.{arith}
use lib.Dec.{T}
use lib.ListN.{get_or}
use lib.Ieee.{Float, nan, le}
use lib.Ieee.Bits.{is_true}
use Rattle.logic.proofs.Branch.{by_test}
use Rattle.card.specs.Fits.{CardFits}
use Rattle.logic.proofs.Tests.{and_true}
use Rattle.battery.specs.Answer.{refused_with}
use Rattle.battery.specs.Battery.{battery_accepted, GoodBattery}
use Rattle.battery.specs.Call.{call_in_range}
use Rattle.battery.specs.declared.Answer.{Answer}
use Rattle.battery.specs.declared.Battery.{Battery}
use Rattle.battery.specs.declared.Call.{Call}
use Rattle.battery.specs.declared.Call.TheVariants.{ChargeElectric, HeatLoss}
use Rattle.engine.specs.Budget.{BudgetUsed}
use Rattle.engine.specs.Steps.{advance_of}
use Rattle.engine.proofs.AdvanceKeeps.{by_step}
use Rattle.engine.proofs.OverBudget.{over_budget_only}
use Rattle.engine.proofs.Promises.{refused_number}
use Rattle.engine.proofs.Warmth.{as_before, loss_warms_none, electric_cools_none}

module _ (version : ℕ) (b : Battery) (g : GoodBattery version b) (f : CardFits b.card) (i : ℕ) (l : i < b.card.layers) where
  pub advance_loss_warms_none : (floor : Bool) → T (le (get_or (advance_of version b (HeatLoss floor)).battery.zones i nan) (get_or b.zones i nan))
  unfolding refused_with
  advance_loss_warms_none floor =
      by_step version b (HeatLoss floor) (λ (a : Answer). T (le (get_or a.battery.zones i nan) (get_or b.zones i nan)))
      (loss_warms_none version b g f floor i l) (as_before version b g f i l)

  pub advance_electric_cools_none : (power target : Float) → T (le (get_or b.zones i nan) (get_or (advance_of version b (ChargeElectric power target)).battery.zones i nan))
  unfolding advance_of refused_with
  advance_electric_cools_none power target =
      let call = ChargeElectric power target in
      by_test (λ (a : Answer). T (le (get_or b.zones i nan) (get_or a.battery.zones i nan))) (battery_accepted version b && call_in_range version b.card call) _ _
      (λ t. electric_cools_none version b g f power target (and_true (battery_accepted version b) (call_in_range version b.card call) (is_true _ t)).1 i l)
      (λ t. as_before version b g f i l)

pub advance_over_budget_only : (version : ℕ) (b : Battery) (call : Call) → (advance_of version b call).refusal ≡ 22 → BudgetUsed b call
advance_over_budget_only version b call =
    let n = refused_number 10 b in
    by_step version b call (λ (a : Answer). a.refusal ≡ 22 → BudgetUsed b call) (over_budget_only version b call) (λ h. absurd (omega arith))

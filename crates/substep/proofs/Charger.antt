-- The sign of the charger's heat over a substep.
use mathlib.Core.Path.{◌≡◌, sym, ap, ◌∙◌}
use mathlib.Core.Bool.{true, false}
use mathlib.Core.Logic.{inl, inr}
use lib.Dec.{T}
use lib.Ieee.{Float, binary64, of_bits, neg, lt, le}
use Rattle.floats.specs.F64.{◌⊗◌, ◌⊘◌}
use Rattle.floats.specs.Constants.{zero, hour}
use Rattle.floats.proofs.Parts.{number}
use Rattle.floats.proofs.Compare.{lt_number_l}
use Rattle.floats.proofs.Order.{lt→not_le, le_total}
use Rattle.logic.proofs.Tests.{same_test}
use Rattle.floats.proofs.Product.{mul_number_left}
use Rattle.floats.proofs.ProductLaws.{turned, mul_nonneg, mul_nonpos_nonneg, mul_nonpos_nonpos}
use Rattle.floats.proofs.Quotient.{div_number_left, div_nonneg, div_nonpos}
use Rattle.floats.proofs.Difference.{neg_nonpos, neg_nonneg}
use Rattle.zone.specs.Heat.{kilojoules}
use Rattle.substep.specs.Substep.{charger_heat}
use Rattle.substep.specs.declared.SubstepInput.{SubstepInput}
use Rattle.substep.proofs.SubstepLaws.{not_alike}

-- power times seconds over an hour, as heat, has the sign of the product
module _ (power seconds : Float) (N : T (number (neg power ⊗ seconds ⊘ hour ⊗ hour))) where
  quotient : T (number (neg power ⊗ seconds ⊘ hour))
  quotient = mul_number_left binary64 (neg power ⊗ seconds ⊘ hour) hour N

  product : T (number (neg power ⊗ seconds))
  product = div_number_left binary64 (neg power ⊗ seconds) hour quotient

  nonpositive : T (le zero power) → T (le zero seconds) → T (le (neg power ⊗ seconds ⊘ hour ⊗ hour) zero)
  unfolding of_bits lt le
  nonpositive P S =
      mul_nonpos_nonneg binary64 (neg power ⊗ seconds ⊘ hour) hour N
      (div_nonpos binary64 (neg power ⊗ seconds) hour quotient (mul_nonpos_nonneg binary64 (neg power) seconds product (neg_nonpos power P) S) tt) tt

  nonnegative : T (le zero (neg power ⊗ seconds)) → T (le zero (neg power ⊗ seconds ⊘ hour ⊗ hour))
  unfolding of_bits lt le
  nonnegative Q = mul_nonneg binary64 (neg power ⊗ seconds ⊘ hour) hour N (div_nonneg binary64 (neg power ⊗ seconds) hour quotient Q tt) tt

-- a charger's power is at least 0: its heat, which a zone would give up, is at most 0
pub charger_nonpositive : (d : SubstepInput) → T (le zero d.power) → T (le zero d.seconds) → T (number (charger_heat d).0) → T (le (charger_heat d).0 zero)
unfolding charger_heat kilojoules
charger_nonpositive d P S N = nonpositive d.power d.seconds N P S

not_negative :
    (power seconds : Float) → (T (number (neg power ⊗ seconds)) → T (le zero (neg power ⊗ seconds))) → lt (neg power ⊗ seconds ⊘ hour ⊗ hour) zero ≡ false
not_negative power seconds sign =
    let q = neg power ⊗ seconds ⊘ hour ⊗ hour in
    same_test (lt q zero) false
    (λ h. let N = lt_number_l q zero h in lt→not_le q zero h (nonnegative power seconds N (sign (product power seconds N)))) (λ h. absurd h)

-- of losses the heat is not negative
loss_sign : (power seconds : Float) → T (le power zero) → T (le zero seconds) → T (number (neg power ⊗ seconds)) → T (le zero (neg power ⊗ seconds))
unfolding of_bits le
loss_sign power seconds P S N = mul_nonneg binary64 (neg power) seconds N (neg_nonneg power P) S

pub charger_not_negative : (d : SubstepInput) → T (le d.power zero) → T (le zero d.seconds) → lt (charger_heat d).0 zero ≡ false
unfolding charger_heat kilojoules
charger_not_negative d P S = not_negative d.power d.seconds (loss_sign d.power d.seconds P S)

-- nor without a power, whatever the seconds are
no_power : (seconds : Float) → T (number (neg zero ⊗ seconds)) → T (le zero (neg zero ⊗ seconds))
unfolding of_bits le neg
no_power seconds N =
    elim (le_total zero seconds tt (mul_number_left binary64 seconds (neg zero) (turned binary64 (neg zero) seconds N))) [
      | inl S ↦ mul_nonneg binary64 (neg zero) seconds N tt S
      | inr S ↦ mul_nonpos_nonpos binary64 (neg zero) seconds N tt S
    ]

pub charger_idle : (d : SubstepInput) → d.power ≡ zero → lt (charger_heat d).0 zero ≡ false
unfolding charger_heat kilojoules
charger_idle d e = ap (λ (p : Float). lt (neg p ⊗ d.seconds ⊘ hour ⊗ hour) zero) e ∙ not_negative zero d.seconds (no_power d.seconds)

-- so a zone is never charged then
pub idle_charges_none : {A : Type 0} (d : SubstepInput) → d.power ≡ zero → lt (charger_heat d).0 zero ≡ true → A
idle_charges_none d e h = not_alike (sym (charger_idle d e) ∙ h)

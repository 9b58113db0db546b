-- p not below q and not nearly equal to it is a difference above epsilon, where p and q are finite and so small that the larger magnitude times max_relative is at most epsilon. Assumes nothing.
use mathlib.Core.Path.{◌≡◌, sym}
use mathlib.Core.Bool.{◌&&◌, not}
use lib.Dec.{T}
use lib.Ieee.{Float, binary64, lt, le, eq}
use lib.Ieee.Bits.{is_true}
use Rattle.floats.specs.F64.{◌⊖◌, ◌⊗◌}
use Rattle.floats.specs.Standins.{finite64, magnitude, larger, nearly_equal}
use Rattle.floats.proofs.Parts.{number, zero}
use Rattle.floats.proofs.Compare.{le_of_lt, le_of_eq, le_number_l, le_number_r}
use Rattle.floats.proofs.Order.{le_trans, lt→not_le, lt_false→le, lt_is_not_le, ge_of_eq, finite_number}
use Rattle.floats.proofs.SumLaws.{sub_number, sub_nonneg, sub_nonpos}
use Rattle.floats.proofs.ProductOrder.{mul_mono_l}
use Rattle.logic.proofs.Branch.{by_test, one_decides}
use Rattle.floats.proofs.Standins.{finite64_finite}
use Rattle.floats.proofs.Negligible.{magnitude_of_others}
use Rattle.logic.proofs.Tests.{fails, neither_is}

module _ (p q bound epsilon relative : Float) (P : T (finite64 p)) (Q : T (finite64 q)) (pb : T (le (magnitude p) bound)) (qb : T (le (magnitude q) bound)) (r : T (le zero relative)) (e : T (le zero epsilon)) (small : T (le (bound ⊗ relative) epsilon)) where
  difference_number : T (number (p ⊖ q))
  difference_number = sub_number binary64 p q (finite64_finite p P) (finite_number q (finite64_finite q Q))

  -- p ≤ q
  not_above : T (le p q) → T (le (p ⊖ q) epsilon)
  not_above h = le_trans (p ⊖ q) zero epsilon (sub_nonpos binary64 p q difference_number h) e

  -- p ≥ q
  difference_is : T (le q p) → magnitude (p ⊖ q) ≡ p ⊖ q
  difference_is h = magnitude_of_others (p ⊖ q) (sub_nonneg binary64 p q difference_number h)

  at_equal : T (eq p q) → T (le (magnitude (p ⊖ q)) epsilon)
  at_equal h = rw (difference_is (ge_of_eq p q h)) (not_above (le_of_eq p q h))

  larger_bound : T (le (larger (magnitude p) (magnitude q)) bound)
  unfolding larger
  larger_bound = by_test (λ (x : Float). T (le x bound)) (lt (magnitude p) (magnitude q)) (magnitude q) (magnitude p) (λ h. qb) (λ h. pb)

  at_relative : T (le (magnitude (p ⊖ q)) (larger (magnitude p) (magnitude q) ⊗ relative)) → T (le (magnitude (p ⊖ q)) epsilon)
  at_relative h =
      let l = larger (magnitude p) (magnitude q) in
      le_trans (magnitude (p ⊖ q)) (l ⊗ relative) epsilon h
      (le_trans (l ⊗ relative) (bound ⊗ relative) epsilon
      (mul_mono_l binary64 l bound relative (le_number_r (magnitude (p ⊖ q)) (l ⊗ relative) h) (le_number_l (bound ⊗ relative) epsilon small) r larger_bound)
      small)

  -- nearly equal is a difference of a magnitude of at most epsilon
  nearly_equal_is : nearly_equal p q epsilon relative ≡ le (magnitude (p ⊖ q)) epsilon
  unfolding nearly_equal
  nearly_equal_is =
      rw (is_true (finite64 p) P, is_true (finite64 q) Q)
      (one_decides (eq p q) (le (magnitude (p ⊖ q)) epsilon) (le (magnitude (p ⊖ q)) (larger (magnitude p) (magnitude q) ⊗ relative)) at_equal at_relative)

  -- clearly above is a difference above epsilon
  pub clearly_above_is : (not (lt p q) && not (nearly_equal p q epsilon relative)) ≡ lt epsilon (p ⊖ q)
  clearly_above_is =
      neither_is (lt p q) (nearly_equal p q epsilon relative) (lt epsilon (p ⊖ q))
      (λ h. fails (lt epsilon (p ⊖ q)) (λ l. lt→not_le epsilon (p ⊖ q) l (not_above (le_of_lt p q h))))
      (λ h. rw (nearly_equal_is, difference_is (lt_false→le p q (finite_number p (finite64_finite p P)) (finite_number q (finite64_finite q Q)) h))
      (sym (lt_is_not_le epsilon (p ⊖ q) (le_number_r zero epsilon e) difference_number)))

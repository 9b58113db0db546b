-- Named sets of the laws, for `search`: `search (needs, directions, signs)` at a need of a function on floats.
use lib.Ieee.Fits.{neg-fits, add-fits, sub-fits, mul-fits, div-fits, of_int-fits}
use lib.Ieee.Bits.{of_bits-fits}
use Rattle.floats.proofs.Apart.{sub_number_of_gt, sub_number_of_lt, gap_nonneg, gap_nonpos, mul_number_positive, mul_positive_number}
use Rattle.floats.proofs.Standins.{finite64_fits, finite64_finite}
use Rattle.floats.proofs.Chain.{finite_below, finite_above, step_down, step_up}
use Rattle.floats.proofs.Compare.{le_of_lt, le_number_l, le_number_r, lt_number_l, lt_number_r}
use Rattle.floats.proofs.Order.{finite_number, le_refl, lt_false→le, le_false→lt}
use Rattle.floats.proofs.Product.{mul_number}
use Rattle.floats.proofs.ProductLaws.{mul_nonneg, mul_nonpos_nonneg, mul_nonneg_nonpos}
use Rattle.floats.proofs.Quotient.{div_number, div_number_finite, div_nonneg, div_nonpos}
use Rattle.floats.proofs.Difference.{add_number}
use Rattle.floats.proofs.SumLaws.{sub_number, sub_lowers, sub_raises, add_raises, add_lowers, add_nonneg, add_nonpos, sub_nonneg, sub_nonpos}

-- which way x + d and x - d go from x
pub ruleset directions = (sub_lowers, sub_raises, add_raises, add_lowers)

-- the sign of a result
pub ruleset signs = (add_nonneg, add_nonpos, sub_nonneg, sub_nonpos, mul_nonneg, mul_nonpos_nonneg, mul_nonneg_nonpos, div_nonneg, div_nonpos)

-- where a result is no NaN
pub ruleset numbers = (finite_number, le_number_l, le_number_r, lt_number_l, lt_number_r, add_number, sub_number, mul_number, div_number, div_number_finite)

-- the order from a branch's tests
pub ruleset tests = (le_refl, le_of_lt, lt_false→le, le_false→lt)

-- what an operation returns, its format holds
pub ruleset held = (neg-fits, add-fits, sub-fits, mul-fits, div-fits, of_int-fits, of_bits-fits)

-- several steps in one direction
pub ruleset steps = (le_refl, finite_number, finite_below, finite_above, step_down, step_up)

-- differences of values that are apart, and products with a finite factor above zero, where the other may be infinite
pub ruleset apart = (sub_number_of_gt, sub_number_of_lt, gap_nonneg, gap_nonpos, mul_number_positive, mul_positive_number)

-- the parts of a finite number of binary64
pub ruleset finites = (finite64_fits, finite64_finite)

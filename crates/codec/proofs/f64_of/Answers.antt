use mathlib.Core.Path.{◌≡◌, refl, sym, ◌∙◌}
use mathlib.Core.Bool.{true, not}
use Prim.Native.Nat.{ℕ, ◌%◌, ◌≤◌, ◌<◌}
use lib.Dec.{T}
use borrow.Author.Tests.{le-ltb, lt-ltb}
use lib.Ieee.{Float, nan, inf, fin, binary64, of_bits, div, is_nan, nan_bits}
use lib.Ieee.Bits.{nan_bits_above, nan_bits_is}
use Rattle.logic.proofs.Tests.{no_both}
use Rattle.codec.proofs.f64_of.Goals as goal

not_nan : (n : ℕ) → n % 9223372036854775808 ≤ 9218868437227405312 → T (not (nan_bits binary64 n))
not_nan n h = rw (nan_bits_above, le-ltb _ _ h) tt

nan_of : (x : Float) → is_nan x ≡ true → nan ≡ x
unfolding is_nan
nan_of nan h = refl
nan_of (inf s) h = no_both (sym h)
nan_of (fin s m e) h = no_both (sym h)

nan_is : (n : ℕ) → 9218868437227405312 < n % 9223372036854775808 → nan ≡ of_bits binary64 n
nan_is n h = nan_of (of_bits binary64 n) (sym (nan_bits_is binary64 n) ∙ nan_bits_above binary64 n ∙ lt-ltb _ _ h)

pub float_from_bits-result : goal.float_from_bits-result
float_from_bits-result c = not_nan _ c.if-n-le9218868437227405312.true

pub returns-else-n-le9218868437227405312 : goal.returns-else-n-le9218868437227405312
unfolding div of_bits
returns-else-n-le9218868437227405312 c = nan_is _ c.if-n-le9218868437227405312.false

-- The laws of `add` and `sub` that a program's proof cites: direction, signs, order in each argument, and equal operands. Assumes nothing.
use mathlib.Core.Path.{◌≡◌, subst}
use Prim.Native.Nat.{ℕ, ◌+◌, ◌*◌, ◌≤◌}
use native.Mathlib.Omega.{arith}
use native.Mathlib.Nat.{mul-pos, mul-le-mul_right}
use mathlib.Core.Bool.{Bool, true, false}
use lib.Dec.{T}
use lib.Ieee.{Float, nan, inf, fin, Format, neg, add, sub, eq, le, fits}
use lib.Ieee.Scale.{finite}
use lib.Ieee.Positive.{den, den_pos}
use Rattle.floats.proofs.Parts.{number, zero, plus, minus, rank}
use Rattle.floats.proofs.Compare.{le_of_eq, le_numbers, eq_numbers, eq→Same}
use Rattle.floats.proofs.Order.{le→here, le_trans, le_antisym, ge_of_eq, finite_rank}
use Rattle.floats.proofs.Sign.{neg_number, neg_anti, le_bottom, le_top, top_le, le_bottom_only}
use Rattle.floats.proofs.Rounding.{signed}
use Rattle.floats.proofs.Sum.{plus_sum, minus_sum, add_is, add_inf_l, add_nan_l, add_nan_r, add_mono}
use Rattle.floats.proofs.Difference.{add_number, signed_nonneg, signed_nonpos, nonneg_parts, nonpos_parts, no_le, no_ge, add_le_self, add_ge_self, sub_le_self, sub_ge_self}

-- ---- direction, at a finite x

-- a finite value less a number is a number
pub sub_number : (f : Format) (x d : Float) → T (finite x) → T (number d) → T (number (sub f x d))
unfolding sub
sub_number f x d p q = add_number f x (neg d) p (neg_number d q)

-- d ≥ 0 gives x - d ≤ x
pub sub_lowers : (f : Format) (x d : Float) → T (fits f x) → T (finite x) → T (le zero d) → T (le (sub f x d) x)
sub_lowers f x d F p h = sub_le_self f x d F (sub_number f x d p (le_numbers zero d h).1) h

-- d ≤ 0 gives x ≤ x - d
pub sub_raises : (f : Format) (x d : Float) → T (fits f x) → T (finite x) → T (le d zero) → T (le x (sub f x d))
sub_raises f x d F p h = sub_ge_self f x d F (sub_number f x d p (le_numbers d zero h).0) h

-- d ≥ 0 gives x ≤ x + d
pub add_raises : (f : Format) (x d : Float) → T (fits f x) → T (finite x) → T (le zero d) → T (le x (add f x d))
add_raises f x d F p h = add_ge_self f x d F (add_number f x d p (le_numbers zero d h).1) h

-- d ≤ 0 gives x + d ≤ x
pub add_lowers : (f : Format) (x d : Float) → T (fits f x) → T (finite x) → T (le d zero) → T (le (add f x d) x)
add_lowers f x d F p h = add_le_self f x d F (add_number f x d p (le_numbers d zero h).0) h

-- ---- signs

sum_nonneg : (f : Format) (x y : Float) → T (finite x) → T (finite y) → minus_sum x y ≤ plus_sum x y → T (le zero (add f x y))
sum_nonneg f x y p q h =
    let s = signed f (plus_sum x y) (minus_sum x y) (den x * den y) in
    le_trans zero s (add f x y) (signed_nonneg f (plus_sum x y) (minus_sum x y) (den x * den y) h) (ge_of_eq (add f x y) s (add_is f x y p q))

parts_add : (nx px dx ny py dy : ℕ) → nx ≤ px → ny ≤ py → nx * dy + ny * dx ≤ px * dy + py * dx
parts_add nx px dx ny py dy h k = omega (arith, mul-le-mul_right dy h, mul-le-mul_right dx k)

-- x ≥ 0 and y ≥ 0 give x + y ≥ 0, so x + y is no NaN
pub add_nonneg : (f : Format) (x y : Float) → T (le zero x) → T (le zero y) → T (le zero (add f x y))
unfolding add
add_nonneg f nan y h k = absurd (le_numbers zero nan h).1
add_nonneg f (inf true) y h k = absurd (no_ge zero h tt)
add_nonneg f (inf false) nan h k = absurd (le_numbers zero nan k).1
add_nonneg f (inf false) (inf true) h k = absurd (no_ge zero k tt)
add_nonneg f (inf false) (inf false) h k = h
add_nonneg f (inf false) (fin t n d) h k = h
add_nonneg f (fin s m e) nan h k = absurd (le_numbers zero nan k).1
add_nonneg f (fin s m e) (inf t) h k = k
add_nonneg f (fin s m e) (fin t n d) h k =
    let x = fin s m e in
    let y = fin t n d in
    sum_nonneg f x y tt tt (parts_add (minus x) (plus x) (den x) (minus y) (plus y) (den y) (nonneg_parts x tt h) (nonneg_parts y tt k))

-- -(x + y) = -x + -y in its parts: x ≤ 0 and y ≤ 0 give x + y ≤ 0
sum_nonpos : (f : Format) (x y : Float) → T (finite x) → T (finite y) → plus_sum x y ≤ minus_sum x y → T (le (add f x y) zero)
sum_nonpos f x y p q h =
    let s = signed f (plus_sum x y) (minus_sum x y) (den x * den y) in
    le_trans (add f x y) s zero (le_of_eq (add f x y) s (add_is f x y p q)) (signed_nonpos f (plus_sum x y) (minus_sum x y) (den x * den y) (mul-pos (den_pos x) (den_pos y)) h)

pub add_nonpos : (f : Format) (x y : Float) → T (le x zero) → T (le y zero) → T (le (add f x y) zero)
unfolding add
add_nonpos f nan y h k = absurd (le_numbers nan zero h).0
add_nonpos f (inf false) y h k = absurd (no_le zero h tt)
add_nonpos f (inf true) nan h k = absurd (le_numbers nan zero k).0
add_nonpos f (inf true) (inf false) h k = absurd (no_le zero k tt)
add_nonpos f (inf true) (inf true) h k = h
add_nonpos f (inf true) (fin t n d) h k = h
add_nonpos f (fin s m e) nan h k = absurd (le_numbers nan zero k).0
add_nonpos f (fin s m e) (inf t) h k = k
add_nonpos f (fin s m e) (fin t n d) h k =
    let x = fin s m e in
    let y = fin t n d in
    sum_nonpos f x y tt tt (parts_add (plus x) (minus x) (den x) (plus y) (minus y) (den y) (nonpos_parts x tt h) (nonpos_parts y tt k))

-- y ≤ x gives x - y ≥ 0, where it is a number
pub sub_nonneg : (f : Format) (x y : Float) → T (number (sub f x y)) → T (le y x) → T (le zero (sub f x y))
unfolding sub
sub_nonneg f nan y p h = absurd (add_nan_l f (neg y) p)
sub_nonneg f (inf true) y p h =
    absurd (subst (λ (z : Float). T (number (add f (inf true) (neg z)))) (le_bottom_only y h) p)
sub_nonneg f (inf false) y p h = rw (add_inf_l f false (neg y) p) (le_top zero tt)
sub_nonneg f (fin s m e) nan p h = absurd (le_numbers nan (fin s m e) h).0
sub_nonneg f (fin s m e) (inf true) p h = le_top zero tt
sub_nonneg f (fin s m e) (inf false) p h = absurd (no_le (fin s m e) h tt)
sub_nonneg f (fin s m e) (fin true n d) p h = let y = fin true n d in sum_nonneg f (fin s m e) (fin false n d) tt tt (let l = le→here y (fin s m e) tt tt h in omega arith)
sub_nonneg f (fin s m e) (fin false n d) p h = let y = fin false n d in sum_nonneg f (fin s m e) (fin true n d) tt tt (let l = le→here y (fin s m e) tt tt h in omega arith)

-- x ≤ y gives x - y ≤ 0, where it is a number
pub sub_nonpos : (f : Format) (x y : Float) → T (number (sub f x y)) → T (le x y) → T (le (sub f x y) zero)
unfolding sub
sub_nonpos f nan y p h = absurd (add_nan_l f (neg y) p)
sub_nonpos f (inf false) y p h =
    absurd (subst (λ (z : Float). T (number (add f (inf false) (neg z)))) (top_le y h) p)
sub_nonpos f (inf true) y p h = rw (add_inf_l f true (neg y) p) (le_bottom zero tt)
sub_nonpos f (fin s m e) nan p h = absurd (le_numbers (fin s m e) nan h).1
sub_nonpos f (fin s m e) (inf true) p h = absurd (no_ge (fin s m e) h tt)
sub_nonpos f (fin s m e) (inf false) p h = le_bottom zero tt
sub_nonpos f (fin s m e) (fin true n d) p h = let y = fin true n d in sum_nonpos f (fin s m e) (fin false n d) tt tt (let l = le→here (fin s m e) y tt tt h in omega arith)
sub_nonpos f (fin s m e) (fin false n d) p h = let y = fin false n d in sum_nonpos f (fin s m e) (fin true n d) tt tt (let l = le→here (fin s m e) y tt tt h in omega arith)

-- ---- order in each argument

-- x ≤ x' and y' ≤ y give x - y ≤ x' - y', where neither is a NaN
pub sub_mono : (f : Format) (x x' y y' : Float) → T (number (sub f x y)) → T (number (sub f x' y')) → T (le x x') → T (le y' y) → T (le (sub f x y) (sub f x' y'))
unfolding sub
sub_mono f x x' y y' p q h k = add_mono f x x' (neg y) (neg y') p q h (neg_anti y' y k)

-- ---- equal operands, which may differ in a zero's sign

-- what equals an infinity is that infinity
pub eq_inf : (s : Bool) (x : Float) → T (eq (inf s) x) → x ≡ inf s
eq_inf true x h = le_bottom_only x (ge_of_eq (inf true) x h)
eq_inf false x h = top_le x (le_of_eq (inf false) x h)

of_rank : (x : Float) → rank x ≡ 1 → T (finite x)
of_rank nan h = omega arith
of_rank (inf true) h = omega arith
of_rank (inf false) h = omega arith
of_rank (fin s m e) h = tt

-- what equals a finite value is finite
pub eq_finite : (x x' : Float) → T (eq x x') → T (finite x) → T (finite x')
eq_finite x x' h p = of_rank x' (omega (arith, (eq→Same x x' h).0, finite_rank x p))

add_number_respects : (f : Format) (x x' y y' : Float) → T (eq x x') → T (eq y y') → T (number (add f x y)) → T (number (add f x' y'))
add_number_respects f nan x' y y' h k p = absurd (add_nan_l f y p)
add_number_respects f (inf s) x' nan y' h k p = absurd (add_nan_r f (inf s) p)
add_number_respects f (inf s) x' (inf t) y' h k p = rw (eq_inf s x' h, eq_inf t y' k) p
add_number_respects f (inf s) x' (fin t n d) y' h k p = rw (eq_inf s x' h) (unfold add in go y' (eq_finite (fin t n d) y' k tt))
  where
    go : (y : Float) → T (finite y) → T (number (add f (inf s) y))
    go nan q = absurd q
    go (inf u) q = absurd q
    go (fin u w z) q = unfold add in tt
add_number_respects f (fin s m e) x' y y' h k p = add_number f x' y' (eq_finite (fin s m e) x' h tt) (eq_numbers y y' k).1

-- x = x' and y = y' give x + y = x' + y', where x + y is no NaN
pub add_respects : (f : Format) (x x' y y' : Float) → T (eq x x') → T (eq y y') → T (number (add f x y)) → T (eq (add f x y) (add f x' y'))
add_respects f x x' y y' h k p =
    let q = add_number_respects f x x' y y' h k p in
    le_antisym (add f x y) (add f x' y') (add_mono f x x' y y' p q (le_of_eq x x' h) (le_of_eq y y' k)) (add_mono f x' x y' y q p (ge_of_eq x x' h) (ge_of_eq y y' k))

-- x = y gives -x = -y
pub neg_respects : (x y : Float) → T (eq x y) → T (eq (neg x) (neg y))
neg_respects x y h = le_antisym (neg x) (neg y) (neg_anti y x (ge_of_eq x y h)) (neg_anti x y (le_of_eq x y h))

-- x = x' and y = y' give x - y = x' - y', where x - y is no NaN
pub sub_respects : (f : Format) (x x' y y' : Float) → T (eq x x') → T (eq y y') → T (number (sub f x y)) → T (eq (sub f x y) (sub f x' y'))
unfolding sub
sub_respects f x x' y y' h k p = add_respects f x x' (neg y) (neg y') h (neg_respects y y' k) p

-- `lt`, `eq` and `le` as facts on ranks and fractions, and how `le` is made of the other two. Assumes nothing.
use mathlib.Core.Path.{◌≡◌, refl}
use mathlib.Core.Logic.{◌⊎◌, inl, inr}
use Prim.Native.Nat.{ℕ, ◌*◌}
use native.Mathlib.Omega.{arith}
use mathlib.Core.Bool.{true, false, ◌&&◌}
use lib.Dec.{T, eqb, ltb→lt, lt→ltb, eqb→eq}
use lib.Ieee.{Float, nan, inf, fin, up, down, lt, eq, le}
use lib.Ieee.Fits.{and_i, and_l, and_r, eq→eqb}
use Rattle.logic.proofs.Tests.{or_l, or_r, or_split}
use Rattle.floats.proofs.Parts.{number, Less, Same}

-- ---- `lt` and `eq` as facts on numbers

pub lt→Less : (x y : Float) → T (lt x y) → Less x y
unfolding lt
lt→Less nan y h = absurd h
lt→Less (inf true) nan h = absurd h
lt→Less (inf false) nan h = absurd h
lt→Less (inf true) (inf true) h = absurd h
lt→Less (inf true) (inf false) h = inl (omega arith)
lt→Less (inf false) (inf t) h = absurd h
lt→Less (inf true) (fin t n d) h = inl (omega arith)
lt→Less (inf false) (fin t n d) h = absurd h
lt→Less (fin s m e) nan h = absurd h
lt→Less (fin s m e) (inf true) h = absurd h
lt→Less (fin s m e) (inf false) h = inl (omega arith)
lt→Less (fin false m e) (fin false n d) h = inr (refl, omega (arith, ltb→lt))
lt→Less (fin false m e) (fin true n d) h = absurd h
lt→Less (fin true m e) (fin false n d) h = inr (refl, omega (arith, ltb→lt))
lt→Less (fin true m e) (fin true n d) h = inr (refl, omega (arith, ltb→lt))

equal : (a b : ℕ) → a ≡ b → T (eqb a b)
equal a b e = eq→eqb e

pub Less→lt : (x y : Float) → T (number x) → T (number y) → Less x y → T (lt x y)
unfolding lt
Less→lt nan y p q h = absurd p
Less→lt (inf true) nan p q h = absurd q
Less→lt (inf false) nan p q h = absurd q
Less→lt (inf true) (inf true) p q h = elim h [ inl r ↦ omega arith | inr r ↦ omega arith ]
Less→lt (inf true) (inf false) p q h = tt
Less→lt (inf false) (inf true) p q h = elim h [ inl r ↦ omega arith | inr r ↦ omega arith ]
Less→lt (inf false) (inf false) p q h = elim h [ inl r ↦ omega arith | inr r ↦ omega arith ]
Less→lt (inf true) (fin t n d) p q h = tt
Less→lt (inf false) (fin t n d) p q h = elim h [ inl r ↦ omega arith | inr r ↦ omega arith ]
Less→lt (fin s m e) nan p q h = absurd q
Less→lt (fin s m e) (inf true) p q h = elim h [ inl r ↦ omega arith | inr r ↦ omega arith ]
Less→lt (fin s m e) (inf false) p q h = tt
Less→lt (fin false m e) (fin false n d) p q h = elim h [ inl r ↦ omega (arith, lt→ltb) | inr r ↦ omega (arith, lt→ltb) ]
Less→lt (fin false m e) (fin true n d) p q h = elim h [ inl r ↦ omega arith | inr r ↦ omega arith ]
Less→lt (fin true m e) (fin false n d) p q h = elim h [ inl r ↦ omega (arith, lt→ltb) | inr r ↦ omega (arith, lt→ltb) ]
Less→lt (fin true m e) (fin true n d) p q h = elim h [ inl r ↦ omega (arith, lt→ltb) | inr r ↦ omega (arith, lt→ltb) ]

zero_both : (a b : ℕ) → T (eqb a b && eqb a 0) → (a ≡ 0) × (b ≡ 0)
zero_both a b h =
    let p = eqb→eq a b (and_l (eqb a b) (eqb a 0) h) in
    let q = eqb→eq a 0 (and_r (eqb a b) (eqb a 0) h) in
    (omega arith, omega arith)

both_zero : (a b : ℕ) → a ≡ 0 → b ≡ 0 → T (eqb a b && eqb a 0)
both_zero a b p q = and_i (eqb a b) (eqb a 0) (equal a b (omega arith)) (equal a 0 p)

pub eq→Same : (x y : Float) → T (eq x y) → Same x y
unfolding eq
eq→Same nan y h = absurd h
eq→Same (inf true) nan h = absurd h
eq→Same (inf false) nan h = absurd h
eq→Same (inf true) (inf true) h = (refl, refl)
eq→Same (inf true) (inf false) h = absurd h
eq→Same (inf false) (inf true) h = absurd h
eq→Same (inf false) (inf false) h = (refl, refl)
eq→Same (inf true) (fin t n d) h = absurd h
eq→Same (inf false) (fin t n d) h = absurd h
eq→Same (fin s m e) nan h = absurd h
eq→Same (fin s m e) (inf t) h = absurd h
eq→Same (fin false m e) (fin false n d) h = (refl, (let p = eqb→eq (m * up e * down d) (n * up d * down e) (and_l (eqb (m * up e * down d) (n * up d * down e)) true h) in omega arith))
eq→Same (fin false m e) (fin true n d) h = (refl, omega (arith, zero_both (m * up e * down d) (n * up d * down e) h))
eq→Same (fin true m e) (fin false n d) h = (refl, omega (arith, zero_both (m * up e * down d) (n * up d * down e) h))
eq→Same (fin true m e) (fin true n d) h = (refl, (let p = eqb→eq (m * up e * down d) (n * up d * down e) (and_l (eqb (m * up e * down d) (n * up d * down e)) true h) in omega arith))

pub Same→eq : (x y : Float) → T (number x) → T (number y) → Same x y → T (eq x y)
unfolding eq
Same→eq nan y p q h = absurd p
Same→eq (inf true) nan p q h = absurd q
Same→eq (inf false) nan p q h = absurd q
Same→eq (inf true) (inf true) p q h = tt
Same→eq (inf true) (inf false) p q h = omega arith
Same→eq (inf false) (inf true) p q h = omega arith
Same→eq (inf false) (inf false) p q h = tt
Same→eq (inf true) (fin t n d) p q h = omega arith
Same→eq (inf false) (fin t n d) p q h = omega arith
Same→eq (fin s m e) nan p q h = absurd q
Same→eq (fin s m e) (inf true) p q h = omega arith
Same→eq (fin s m e) (inf false) p q h = omega arith
Same→eq (fin false m e) (fin false n d) p q h = and_i (eqb (m * up e * down d) (n * up d * down e)) true (equal (m * up e * down d) (n * up d * down e) (omega arith)) tt
Same→eq (fin false m e) (fin true n d) p q h = both_zero (m * up e * down d) (n * up d * down e) (omega arith) (omega arith)
Same→eq (fin true m e) (fin false n d) p q h = both_zero (m * up e * down d) (n * up d * down e) (omega arith) (omega arith)
Same→eq (fin true m e) (fin true n d) p q h = and_i (eqb (m * up e * down d) (n * up d * down e)) true (equal (m * up e * down d) (n * up d * down e) (omega arith)) tt

-- ---- `le` is `lt` or `eq`, and `lt` is where `le` the other way fails

-- x < y gives x ≤ y
pub le_of_lt : (x y : Float) → T (lt x y) → T (le x y)
unfolding le
le_of_lt x y h = or_l (lt x y) (eq x y) h

-- x = y gives x ≤ y
pub le_of_eq : (x y : Float) → T (eq x y) → T (le x y)
unfolding le
le_of_eq x y h = or_r (lt x y) (eq x y) h

-- x ≤ y is x < y or x = y
pub lt_or_eq : (x y : Float) → T (le x y) → T (lt x y) ⊎ T (eq x y)
unfolding le
lt_or_eq x y h = or_split (lt x y) (eq x y) h

-- both sides of a comparison that holds are numbers
pub lt_numbers : (x y : Float) → T (lt x y) → T (number x) × T (number y)
unfolding lt
lt_numbers nan y h = absurd h
lt_numbers (inf true) nan h = absurd h
lt_numbers (inf false) nan h = absurd h
lt_numbers (inf s) (inf t) h = (tt, tt)
lt_numbers (inf s) (fin t n d) h = (tt, tt)
lt_numbers (fin s m e) nan h = absurd h
lt_numbers (fin s m e) (inf t) h = (tt, tt)
lt_numbers (fin s m e) (fin t n d) h = (tt, tt)

pub eq_numbers : (x y : Float) → T (eq x y) → T (number x) × T (number y)
unfolding eq
eq_numbers nan y h = absurd h
eq_numbers (inf true) nan h = absurd h
eq_numbers (inf false) nan h = absurd h
eq_numbers (inf s) (inf t) h = (tt, tt)
eq_numbers (inf s) (fin t n d) h = (tt, tt)
eq_numbers (fin s m e) nan h = absurd h
eq_numbers (fin s m e) (inf t) h = (tt, tt)
eq_numbers (fin s m e) (fin t n d) h = (tt, tt)

pub le_numbers : (x y : Float) → T (le x y) → T (number x) × T (number y)
le_numbers x y h = elim (lt_or_eq x y h) [ inl k ↦ lt_numbers x y k | inr k ↦ eq_numbers x y k ]

-- the same, one side at a time, for `search` to run forwards
pub le_number_l : (x y : Float) → T (le x y) → T (number x)
le_number_l x y h = (le_numbers x y h).0

pub le_number_r : (x y : Float) → T (le x y) → T (number y)
le_number_r x y h = (le_numbers x y h).1

pub lt_number_l : (x y : Float) → T (lt x y) → T (number x)
lt_number_l x y h = (lt_numbers x y h).0

pub lt_number_r : (x y : Float) → T (lt x y) → T (number y)
lt_number_r x y h = (lt_numbers x y h).1

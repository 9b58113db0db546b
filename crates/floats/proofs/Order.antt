-- The order of floats off NaN: `le` is a total preorder, `lt` is its strict part and `eq` its equivalence. Assumes nothing.
use mathlib.Core.Path.{◌≡◌, refl, sym, subst, ◌∙◌}
use mathlib.Core.Logic.{◌⊎◌, inl, inr}
use Prim.Native.Nat.{ℕ, ◌+◌, ◌*◌, ◌≤◌, ◌<◌}
use native.Mathlib.Nat.{le_of_mul-le-mul_right, mul-le-mul_right, eq-or-lt_of_le, add-mul, mul_assoc, mul_comm, mul_left_comm}
use native.Mathlib.Omega.{arith}
use mathlib.Core.Bool.{Bool, true, false, not, ◌&&◌}
use lib.Dec.{T, leb, leb→le, nleb→lt, not_T, T_not}
use lib.Ieee.{Float, nan, inf, fin, lt, eq, le}
use lib.Ieee.Scale.{finite}
use lib.Ieee.Fits.{and_i, and_l, and_r}
use lib.Ieee.Positive.{den, den_pos}
use Rattle.logic.proofs.Tests.{same_test}
use Rattle.floats.proofs.Parts.{number, plus, minus, rank, here, Less, AtMost}
use Rattle.floats.proofs.Compare.{lt→Less, Less→lt, eq→Same, Same→eq, le_of_lt, le_of_eq, lt_or_eq, lt_numbers, le_numbers, eq_numbers}

-- ---- `le` as a fact on numbers

pub le→AtMost : (x y : Float) → T (le x y) → AtMost x y
le→AtMost x y h = elim (lt_or_eq x y h) [
  | inl k ↦ elim (lt→Less x y k) [ inl r ↦ inl r | inr r ↦ inr (r.0, omega arith) ]
  | inr k ↦ inr ((eq→Same x y k).0, omega (arith, (eq→Same x y k).1))
]

pub AtMost→le : (x y : Float) → T (number x) → T (number y) → AtMost x y → T (le x y)
AtMost→le x y p q h = elim h [
  | inl r ↦ le_of_lt x y (Less→lt x y p q (inl r))
  | inr r ↦ elim (eq-or-lt_of_le r.1) [
    | inl k ↦ le_of_eq x y (Same→eq x y p q (r.0, k))
    | inr k ↦ le_of_lt x y (Less→lt x y p q (inr (r.0, k)))
  ]
]

-- products multiplied out and sorted, for `simp` before `omega` where `omega` does not multiply out by itself
pub ruleset monomials = (add-mul, mul_assoc, mul_comm, mul_left_comm)

-- three fractions in order: (px - nx) / dx ≤ (py - ny) / dy ≤ (pz - nz) / dz
pub cross_trans : (px nx dx py ny dy pz nz dz : ℕ) → 0 < dy → px * dy + ny * dx ≤ py * dx + nx * dy → py * dz + nz * dy ≤ pz * dy + ny * dz → px * dz + nz * dx ≤ pz * dx + nx * dz
cross_trans px nx dx py ny dy pz nz dz Y h k =
    let g : (px * dz + nz * dx) * dy ≤ (pz * dx + nx * dz) * dy = omega (arith, mul-le-mul_right dz h, mul-le-mul_right dx k) in
    le_of_mul-le-mul_right g Y

le_or_lt : (a b : ℕ) → (a ≤ b) ⊎ (b < a)
le_or_lt a b = go (leb a b) (leb→le a b) (nleb→lt a b)
  where
    go : (t : Bool) → (T t → a ≤ b) → (T (not t) → b < a) → (a ≤ b) ⊎ (b < a)
    go true h k = inl (h tt)
    go false h k = inr (k tt)

-- one of the two holds, and not both
split : (a b c d : ℕ) → ((a < b) ⊎ ((a ≡ b) × (c ≤ d))) ⊎ ((b < a) ⊎ ((b ≡ a) × (d < c)))
split a b c d = elim (le_or_lt a b) [
  | inl h ↦ elim (eq-or-lt_of_le h) [
    | inl e ↦ elim (le_or_lt c d) [ inl k ↦ inl (inr (e, k)) | inr k ↦ inr (inr (sym e, k)) ]
    | inr l ↦ inl (inl l)
  ]
  | inr h ↦ inr (inl h)
]

pub AtMost-or-Less : (x y : Float) → AtMost x y ⊎ Less y x
AtMost-or-Less x y = split (rank x) (rank y) (here x y) (here y x)

pub not_both : (x y : Float) → AtMost x y → Less y x → ⊥
not_both x y h k = elim h [
  | inl r ↦ elim k [ inl l ↦ omega arith | inr l ↦ omega arith ]
  | inr r ↦ elim k [ inl l ↦ omega arith | inr l ↦ omega arith ]
]

-- ---- the laws of `le`

-- x ≤ x
pub le_refl : (x : Float) → T (number x) → T (le x x)
le_refl x p = AtMost→le x x p p (inr (refl, omega arith))

-- x ≤ y and y ≤ z give x ≤ z
pub le_trans : (x y z : Float) → T (le x y) → T (le y z) → T (le x z)
le_trans x y z h k =
    AtMost→le x z (le_numbers x y h).0 (le_numbers y z k).1
    (elim (le→AtMost x y h) [
      | inl r ↦ elim (le→AtMost y z k) [ inl l ↦ inl (omega arith) | inr l ↦ inl (omega arith) ]
      | inr r ↦ elim (le→AtMost y z k) [
        | inl l ↦ inl (omega arith)
        | inr l ↦ inr (omega arith, cross_trans (plus x) (minus x) (den x) (plus y) (minus y) (den y) (plus z) (minus z) (den z) (den_pos y) r.1 l.1)
      ]
    ])

-- x ≤ y or y ≤ x
pub le_total : (x y : Float) → T (number x) → T (number y) → T (le x y) ⊎ T (le y x)
le_total x y p q = elim (AtMost-or-Less x y) [
  | inl h ↦ inl (AtMost→le x y p q h)
  | inr h ↦ inr (le_of_lt y x (Less→lt y x q p h))
]

-- x < y rules out y ≤ x
pub lt→not_le : (x y : Float) → T (lt x y) → T (le y x) → ⊥
lt→not_le x y h k = not_both y x (le→AtMost y x k) (lt→Less x y h)

-- x ≤ y and y ≤ x give x = y
pub le_antisym : (x y : Float) → T (le x y) → T (le y x) → T (eq x y)
le_antisym x y h k = elim (lt_or_eq x y h) [ inl l ↦ absurd (lt→not_le x y l k) | inr e ↦ e ]

-- x < y fails: y ≤ x
pub not_lt→le : (x y : Float) → T (number x) → T (number y) → T (not (lt x y)) → T (le y x)
not_lt→le x y p q h = elim (AtMost-or-Less y x) [
  | inl r ↦ AtMost→le y x q p r
  | inr r ↦ absurd (T_not (lt x y) h (Less→lt x y p q r))
]

-- x ≤ y fails: y < x
pub not_le→lt : (x y : Float) → T (number x) → T (number y) → T (not (le x y)) → T (lt y x)
not_le→lt x y p q h = elim (AtMost-or-Less x y) [
  | inl r ↦ absurd (T_not (le x y) h (AtMost→le x y p q r))
  | inr r ↦ Less→lt y x q p r
]

-- the same, from a branch's test that came out false
pub lt_false→le : (x y : Float) → T (number x) → T (number y) → lt x y ≡ false → T (le y x)
lt_false→le x y p q h = not_lt→le x y p q (subst (λ (b : Bool). T (not b)) (sym h) tt)

pub le_false→lt : (x y : Float) → T (number x) → T (number y) → le x y ≡ false → T (lt y x)
le_false→lt x y p q h = not_le→lt x y p q (subst (λ (b : Bool). T (not b)) (sym h) tt)

-- off NaN, `<` is `≤` the other way, negated
pub lt_is_not_le : (x y : Float) → T (number x) → T (number y) → lt x y ≡ not (le y x)
lt_is_not_le x y p q = same_test (lt x y) (not (le y x)) (λ h. not_T (le y x) (lt→not_le x y h)) (not_le→lt y x q p)

-- off NaN, `≤` is `<` the other way, negated
pub le_is_not_lt : (x y : Float) → T (number x) → T (number y) → le x y ≡ not (lt y x)
le_is_not_lt x y p q = same_test (le x y) (not (lt y x)) (λ h. not_T (lt y x) (λ k. lt→not_le y x k h)) (not_lt→le y x q p)

-- ---- the laws of `eq`

-- x = x
pub eq_refl : (x : Float) → T (number x) → T (eq x x)
eq_refl x p = le_antisym x x (le_refl x p) (le_refl x p)

-- x = y gives y = x
pub eq_sym : (x y : Float) → T (eq x y) → T (eq y x)
eq_sym x y h = Same→eq y x (eq_numbers x y h).1 (eq_numbers x y h).0 (sym (eq→Same x y h).0, sym (eq→Same x y h).1)

-- x = y gives y ≤ x
pub ge_of_eq : (x y : Float) → T (eq x y) → T (le y x)
ge_of_eq x y h = le_of_eq y x (eq_sym x y h)

-- x = y and y = z give x = z
pub eq_trans : (x y z : Float) → T (eq x y) → T (eq y z) → T (eq x z)
eq_trans x y z h k = le_antisym x z (le_trans x y z (le_of_eq x y h) (le_of_eq y z k)) (le_trans z y x (ge_of_eq y z k) (ge_of_eq x y h))

-- `eq` is `le` both ways, at a NaN too
pub eq_is_le_both : (x y : Float) → eq x y ≡ (le x y && le y x)
eq_is_le_both x y =
    same_test (eq x y) (le x y && le y x) (λ h. and_i (le x y) (le y x) (le_of_eq x y h) (ge_of_eq x y h))
    (λ h. le_antisym x y (and_l (le x y) (le y x) h) (and_r (le x y) (le y x) h))

-- ---- chains with a strict step

-- x < y ≤ z gives x < z
pub lt_of_lt_of_le : (x y z : Float) → T (lt x y) → T (le y z) → T (lt x z)
lt_of_lt_of_le x y z h k =
    not_le→lt z x (le_numbers y z k).1 (lt_numbers x y h).0 (not_T (le z x) (λ l. lt→not_le x y h (le_trans y z x k l)))

-- x ≤ y < z gives x < z
pub lt_of_le_of_lt : (x y z : Float) → T (le x y) → T (lt y z) → T (lt x z)
lt_of_le_of_lt x y z h k =
    not_le→lt z x (lt_numbers y z k).1 (le_numbers x y h).0 (not_T (le z x) (λ l. lt→not_le y z k (le_trans z x y l h)))

-- x < y < z gives x < z
pub lt_trans : (x y z : Float) → T (lt x y) → T (lt y z) → T (lt x z)
lt_trans x y z h k = lt_of_lt_of_le x y z h (le_of_lt y z k)

-- not x < x
pub lt_irrefl : (x : Float) → T (lt x x) → ⊥
lt_irrefl x h = lt→not_le x x h (le_of_lt x x h)

-- ---- comparisons see only the value: `eq` on each side

pub le_respects : (x x' y y' : Float) → T (eq x x') → T (eq y y') → le x y ≡ le x' y'
le_respects x x' y y' h k =
    same_test (le x y) (le x' y') (λ l. le_trans x' x y' (ge_of_eq x x' h) (le_trans x y y' l (le_of_eq y y' k)))
    (λ l. le_trans x x' y (le_of_eq x x' h) (le_trans x' y' y l (ge_of_eq y y' k)))

pub lt_respects : (x x' y y' : Float) → T (eq x x') → T (eq y y') → lt x y ≡ lt x' y'
lt_respects x x' y y' h k =
    same_test (lt x y) (lt x' y') (λ l. lt_of_le_of_lt x' x y' (ge_of_eq x x' h) (lt_of_lt_of_le x y y' l (le_of_eq y y' k)))
    (λ l. lt_of_le_of_lt x x' y (le_of_eq x x' h) (lt_of_lt_of_le x' y' y l (ge_of_eq y y' k)))

pub eq_respects : (x x' y y' : Float) → T (eq x x') → T (eq y y') → eq x y ≡ eq x' y'
eq_respects x x' y y' h k =
    same_test (eq x y) (eq x' y') (λ l. eq_trans x' x y' (eq_sym x x' h) (eq_trans x y y' l k)) (λ l. eq_trans x x' y h (eq_trans x' y' y l (eq_sym y y' k)))

-- ---- finite values, by their fractions

pub finite_rank : (x : Float) → T (finite x) → rank x ≡ 1
finite_rank nan p = absurd p
finite_rank (inf s) p = absurd p
finite_rank (fin s m e) p = refl

pub finite_number : (x : Float) → T (finite x) → T (number x)
finite_number nan p = absurd p
finite_number (inf s) p = absurd p
finite_number (fin s m e) p = tt

pub le→here : (x y : Float) → T (finite x) → T (finite y) → T (le x y) → here x y ≤ here y x
le→here x y p q h = elim (le→AtMost x y h) [
  | inl r ↦ omega (arith, finite_rank x p, finite_rank y q)
  | inr r ↦ r.1
]

pub here→le : (x y : Float) → T (finite x) → T (finite y) → here x y ≤ here y x → T (le x y)
here→le x y p q h = AtMost→le x y (finite_number x p) (finite_number y q) (inr (finite_rank x p ∙ sym (finite_rank y q), h))

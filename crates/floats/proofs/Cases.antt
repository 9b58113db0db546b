-- A definition's value at a test: what holds of each arm, under the order that its test tells of two numbers, holds of the value. Assumes nothing.
use mathlib.Core.Bool.{cond}
use lib.Dec.{T}
use lib.Ieee.{Float, lt, le}
use Rattle.logic.proofs.Branch.{by_test}
use Rattle.floats.proofs.Parts.{number}
use Rattle.floats.proofs.Order.{le_false→lt, lt_false→le}

-- x ≤ y, or y < x
pub by_le :
    {A : Type 0} (P : A → Type 0) (x y : Float) {a b : A} → T (number x) → T (number y) →
    (T (le x y) → P a) → (T (lt y x) → P b) → P (cond (le x y) a b)
by_le P x y {a} {b} p q h k = by_test P (le x y) a b h (λ n. k (le_false→lt x y p q n))

-- x < y, or y ≤ x
pub by_lt :
    {A : Type 0} (P : A → Type 0) (x y : Float) {a b : A} → T (number x) → T (number y) →
    (T (lt x y) → P a) → (T (le y x) → P b) → P (cond (lt x y) a b)
by_lt P x y {a} {b} p q h k = by_test P (lt x y) a b h (λ n. k (lt_false→le x y p q n))

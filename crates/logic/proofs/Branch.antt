-- A definition's value at a test, `cond b x y`. Every `returns` is answered with the first two.
use mathlib.Core.Path.{◌≡◌, refl, sym}
use mathlib.Core.Bool.{Bool, true, false, not, cond}
use lib.Dec.{T}
use Rattle.logic.proofs.Tests.{no_both}

-- v is the arm that the test picks
pub via_true : {A : Type 0} {b : Bool} {v : A} (x y : A) → b ≡ true → v ≡ x → v ≡ cond b x y
via_true {A} {b} {v} x y h e = rw (h, e)

pub via_false : {A : Type 0} {b : Bool} {v : A} (x y : A) → b ≡ false → v ≡ y → v ≡ cond b x y
via_false {A} {b} {v} x y h e = rw (h, e)

pub at_not : {A : Type 0} (b : Bool) (x y : A) → not b ≡ true → cond b x y ≡ y
at_not true x y h = no_both (sym h)
at_not false x y h = refl

-- what holds of each arm where the test picks it holds of the value
pub by_test : {A : Type 0} (P : A → Type 0) (b : Bool) (x y : A) → (T b → P x) → (b ≡ false → P y) → P (cond b x y)
by_test P true x y h k = h tt
by_test P false x y h k = k refl

-- nested tests that hold
pub three_tests : (a b c : Bool) → cond a (cond b c false) false ≡ true → (a ≡ true) × (b ≡ true) × (c ≡ true)
three_tests true true c h = (refl, refl, h)
three_tests true false c h = no_both (sym h)
three_tests false b c h = no_both (sym h)

-- a test that holds wherever one of two others does decides all three
pub one_decides : (e a b : Bool) → (T e → T a) → (T b → T a) → cond e true (cond a true b) ≡ a
one_decides true true b h k = refl
one_decides true false b h k = absurd (h tt)
one_decides false true b h k = refl
one_decides false false true h k = absurd (k tt)
one_decides false false false h k = refl

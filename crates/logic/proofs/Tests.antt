-- Tests that are known, taken apart and put together; as paths, `b ≡ true`, and as `T b`.
use mathlib.Core.Path.{◌≡◌, refl, sym}
use mathlib.Core.Bool.{Bool, true, false, not, ◌&&◌, ◌||◌, true≢false}
use mathlib.Core.Logic.{◌⊎◌, inl, inr}
use lib.Dec.{T, not_T}
use lib.Ieee.Bits.{is_false}

pub no_both : {A : Type 0} → ◌≡◌ {A = Bool} true false → A
no_both h = absurd (true≢false h)

pub holds : {b : Bool} → b ≡ true → T b
holds {b} h = rw h tt

pub fails : (b : Bool) → (T b → ⊥) → b ≡ false
fails b h = is_false b (not_T b h)

pub same_test : (a b : Bool) → (T a → T b) → (T b → T a) → a ≡ b
same_test true true p q = refl
same_test true false p q = absurd (p tt)
same_test false true p q = absurd (q tt)
same_test false false p q = refl

pub and_true : (a b : Bool) → (a && b) ≡ true → (a ≡ true) × (b ≡ true)
and_true true b h = (refl, h)
and_true false b h = no_both (sym h)

pub true_and : {a b : Bool} → a ≡ true → b ≡ true → (a && b) ≡ true
true_and {a} {b} h k = rw (h, k)

pub and_with_true : (a : Bool) → (a && true) ≡ a
and_with_true true = refl
and_with_true false = refl

pub or_l : (a b : Bool) → T a → T (a || b)
or_l true b t = tt
or_l false b t = absurd t

pub or_r : (a b : Bool) → T b → T (a || b)
or_r true b t = tt
or_r false b t = t

pub or_split : (a b : Bool) → T (a || b) → T a ⊎ T b
or_split true b t = inl tt
or_split false b t = inr t

-- a test that the first of two rules out, and that is else the opposite of the second, is that neither holds
pub neither_is : (a b c : Bool) → (T a → c ≡ false) → (a ≡ false → not b ≡ c) → (not a && not b) ≡ c
neither_is true b c h k = sym (h tt)
neither_is false b c h k = k refl

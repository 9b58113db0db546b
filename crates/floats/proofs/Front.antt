-- What goes over the first numbers of a list, one after the other, is the same of the list's front.
use mathlib.Core.Path.{◌≡◌, ◌∙◌, ap}
use mathlib.Core.List.{List}
use Prim.Native.Nat.{ℕ, zero, suc, ◌≤◌}
use native.Mathlib.Omega.{arith}
use lib.ListN.{length, take, get_or}
use lib.Seq.{length-take-le}
use lib.Ieee.{Float, nan}
use Rattle.std.proofs.lemmas.List.{get_or-take}

module _ {A : Type 0} (f : List Float → ℕ → A) (next : A → ℕ → Float → A)
    (start : (xs ys : List Float) → f xs zero ≡ f ys zero)
    (more : (xs : List Float) (k : ℕ) → f xs (suc k) ≡ next (f xs k) k (get_or xs k nan)) where
  pub front_below : (xs : List Float) (m n : ℕ) → n ≤ m → f (take m xs) n ≡ f xs n
  front_below xs m zero h = start (take m xs) xs
  front_below xs m (suc n) h =
      rw (more (take m xs) n, more xs n, front_below xs m n (omega arith), get_or-take m xs n nan (omega arith))

  pub front_of : (xs : List Float) (n : ℕ) → n ≤ length xs → f (take n xs) (length (take n xs)) ≡ f xs n
  front_of xs n h = ap (f (take n xs)) (length-take-le n xs h) ∙ front_below xs n n (omega arith)

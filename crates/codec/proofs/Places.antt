-- What stands at a place of bytes that were put together: the number or the f64 that was encoded there.
use mathlib.Core.Path.{◌≡◌, refl, ap, ◌∙◌}
use mathlib.Core.List.{List, [], ◌∷◌, ◌++◌}
use Prim.Native.Nat.{ℕ, zero, suc, ◌+◌, ◌*◌, ◌%◌, ◌^◌, ◌≤◌, ◌<◌}
use native.Mathlib.Omega.{arith}
use lib.ListN.{length, take, drop, get_or, length-drop}
use lib.Seq.{take_at, drop_at, get_or-append-add, take-append-le, drop-append-le}
use lib.Dec.{T}
use lib.Ieee.{Float, binary64, fits}
use Rattle.codec.specs.Bytes.{be, be_from, be_at, be_bytes, f64_at, f64_of, f64_bytes}
use Rattle.codec.proofs.Laws.{be_be_bytes, length_be_bytes, f64_back, length_f64_bytes}

-- bytes at a place
pub bytes_here : (bs p x r : List ℕ) (at n : ℕ) → bs ≡ p ++ (x ++ r) → length p ≡ at → length x ≡ n → take n (drop at bs) ≡ x
bytes_here bs p x r at n q e h =
    ap (λ (y : List ℕ). take n (drop at y)) q ∙ ap (take n) (drop_at p (x ++ r) at e) ∙ take_at x r n h

pub number_here : (bs p r : List ℕ) (at w x : ℕ) → bs ≡ p ++ (be_bytes w x ++ r) → length p ≡ at → x < 256 ^ w → be_at bs at w ≡ x
number_here bs p r at w x q e h = ap be (bytes_here bs p (be_bytes w x) r at w q e (length_be_bytes w x)) ∙ be_be_bytes w x h

pub byte_here : (bs p r : List ℕ) (at x : ℕ) → bs ≡ p ++ (be_bytes 1 x ++ r) → length p ≡ at → x < 256 → get_or bs at 0 ≡ x
unfolding be_bytes
byte_here bs p r at x q e h =
    ap (λ (y : List ℕ). get_or y at 0) q ∙ ap (λ (m : ℕ). get_or (p ++ (x % 256 ∷ r)) m 0) (omega arith) ∙ get_or-append-add p (x % 256 ∷ r) 0 0 ∙ omega arith

pub f64_here : (bs p r : List ℕ) (at : ℕ) (x : Float) → bs ≡ p ++ (f64_bytes x ++ r) → length p ≡ at → T (fits binary64 x) → f64_at bs at ≡ x
f64_here bs p r at x q e h = ap f64_of (bytes_here bs p (f64_bytes x) r at 8 q e (length_f64_bytes x)) ∙ f64_back x h

-- what is read within the first of two parts is read from it
pub in_front : (bs r : List ℕ) (at w : ℕ) → at + w ≤ length bs → take w (drop at (bs ++ r)) ≡ take w (drop at bs)
in_front bs r at w h =
    ap (take w) (drop-append-le at bs r (omega arith)) ∙ take-append-le w (drop at bs) r (simp length-drop (omega arith))

-- bytes stand for 0 where all of them are 0, and only there
be_from_zero : (a : ℕ) (bs : List ℕ) → be_from a bs ≡ 0 → (a ≡ 0) × ((i : ℕ) → get_or bs i 0 ≡ 0)
be_from_zero a [] h = (h, λ i. refl)
be_from_zero a (b ∷ bs) h = on (be_from_zero (a * 256 + b) bs h)
  where
    at_each : b ≡ 0 → ((i : ℕ) → get_or bs i 0 ≡ 0) → (i : ℕ) → get_or (b ∷ bs) i 0 ≡ 0
    at_each e g zero = e
    at_each e g (suc i) = g i

    on : (a * 256 + b ≡ 0) × ((i : ℕ) → get_or bs i 0 ≡ 0) → (a ≡ 0) × ((i : ℕ) → get_or (b ∷ bs) i 0 ≡ 0)
    on k = (omega arith, at_each (omega arith) k.1)

pub zero_bytes : (bs : List ℕ) → be bs ≡ 0 → (i : ℕ) → get_or bs i 0 ≡ 0
unfolding be
zero_bytes bs h i = (be_from_zero 0 bs h).1 i

pub zero_number : (bs : List ℕ) → ((i : ℕ) → get_or bs i 0 ≡ 0) → be bs ≡ 0
unfolding be
zero_number [] h = refl
zero_number (b ∷ bs) h = rw (h 0) (zero_number bs (λ i. h (suc i)))

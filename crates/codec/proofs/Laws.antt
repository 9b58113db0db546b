-- Laws of numbers as bytes, and of a run of stores.
use mathlib.Core.Path.{◌≡◌, refl, sym, ap, ◌∙◌}
use mathlib.Core.List.{List, [], ◌∷◌, ◌++◌}
use Prim.Native.Nat.{ℕ, zero, suc, ◌+◌, ◌*◌, ◌/◌, ◌%◌, ◌^◌, ◌<◌}
use native.Mathlib.Nat.{div-add-mod', div-lt_iff_lt-mul, add-zero, pow-suc}
use native.Mathlib.Omega.{arith}
use lib.ListN.{length, set, length-append}
use lib.Seq.{sets, set_comm}
use lib.Dec.{T}
use lib.Ieee.{Float, nan, inf, fin, binary64, of_bits, to_bits, fits, is_nan}
use mathlib.Core.Bool.{true}
use Rattle.logic.proofs.Tests.{no_both}
use lib.Ieee.Bits.{of_bits-to_bits, to_bits-lt}
use Rattle.codec.specs.Bytes.{be, be_from, be_bytes, f64_bytes, f64_of}

pub be_from_snoc : (a : ℕ) (bs : List ℕ) (b : ℕ) → be_from a (bs ++ (b ∷ [])) ≡ be_from a bs * 256 + b
be_from_snoc a [] b = refl
be_from_snoc a (x ∷ bs) b = be_from_snoc (a * 256 + x) bs b

pub length_be_bytes : (w x : ℕ) → length (be_bytes w x) ≡ w
unfolding be_bytes
length_be_bytes zero x = refl
length_be_bytes (suc w) x = simp (length-append, length_be_bytes w (x / 256)) (omega arith)

pub be_be_bytes : (w x : ℕ) → x < 256 ^ w → be (be_bytes w x) ≡ x
unfolding be be_bytes
be_be_bytes zero x h = omega arith
be_be_bytes (suc w) x h =
    be_from_snoc 0 (be_bytes w (x / 256)) (x % 256)
    ∙ ap (λ (n : ℕ). n * 256 + x % 256) (be_be_bytes w (x / 256) ((div-lt_iff_lt-mul {k = 256} {x = x} {y = 256 ^ w} (omega arith)).1 (rw pow-suc at h)))
    ∙ div-add-mod' x 256

-- a store after a run of stores is one more of the run
pub sets_snoc : (l : List ℕ) (i : ℕ) (vs : List ℕ) (b : ℕ) → sets l i (vs ++ (b ∷ [])) ≡ sets (set l (i + length vs) b) i vs
sets_snoc l i [] b = ap (λ (n : ℕ). set l n b) (sym (add-zero i))
sets_snoc l i (v ∷ vs) b =
    sets_snoc (set l i v) (suc i) vs b
    ∙ ap (λ (n : ℕ). sets (set (set l i v) n b) (suc i) vs) (omega arith)
    ∙ ap (λ (m : List ℕ). sets m (suc i) vs) (set_comm l i (i + suc (length vs)) v b (omega arith))

-- one run after another
pub sets_sets : {A : Type 0} (l : List A) (i : ℕ) (vs ws : List A) → sets (sets l i vs) (i + length vs) ws ≡ sets l i (vs ++ ws)
sets_sets l i [] ws = ap (λ (n : ℕ). sets l n ws) (add-zero i)
sets_sets {A} l i (v ∷ vs) ws =
    ap (λ (n : ℕ). sets (sets (set l i v) (suc i) vs) n ws) (omega arith) ∙ sets_sets (set l i v) (suc i) vs ws

-- a finite f64 comes back from its bytes
pub f64_back : (x : Float) → T (fits binary64 x) → f64_of (f64_bytes x) ≡ x
unfolding f64_of f64_bytes
f64_back x h = ap (of_bits binary64) (be_be_bytes 8 (to_bits binary64 x) (to_bits-lt binary64 x h)) ∙ of_bits-to_bits binary64 x h

pub length_f64_bytes : (x : Float) → length (f64_bytes x) ≡ 8
unfolding f64_bytes
length_f64_bytes x = length_be_bytes 8 (to_bits binary64 x)

-- the one pattern of a NaN
pub nan_pattern : (x : Float) → is_nan x ≡ true → 9221120237041090560 ≡ to_bits binary64 x
unfolding is_nan to_bits
nan_pattern nan h = refl
nan_pattern (inf s) h = no_both (sym h)
nan_pattern (fin s m e) h = no_both (sym h)

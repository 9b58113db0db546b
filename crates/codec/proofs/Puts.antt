-- Bytes written one after the other from a place on, and what a memory holds afterwards.
use mathlib.Core.Path.{◌≡◌, refl, sym, ap, ◌∙◌}
use mathlib.Core.List.{List, [], ◌∷◌, ◌++◌, append-nil}
use Prim.Native.Nat.{ℕ, ◌+◌, ◌≤◌, ◌<◌}
use native.Mathlib.Nat.{add-zero, zero-add}
use native.Mathlib.Numerals.{add-one}
use native.Mathlib.Omega.{arith}
use lib.ListN.{length, take, drop, get_or, set, length-append, length-drop, drop_of_length-le}
use lib.Seq.{sets, sets-eq, length-sets, take-suc, length-take-le}
use lib.Ieee.{Float}
use Rattle.codec.specs.Bytes.{be_bytes, f64_bytes, over}
use Rattle.codec.proofs.Laws.{sets_sets, length_be_bytes, length_f64_bytes}

-- the memory l, once bs were written from place i on; p is the place after them
pub record Written (l : List ℕ) (i : ℕ) (bs : List ℕ) (p : ℕ) (s : List ℕ) : Type 0 where
  pub place : p ≡ i + length bs
  pub memory : s ≡ sets l i bs

pub nothing_written : (l : List ℕ) (i : ℕ) → Written l i [] i l
nothing_written l i = record { place = sym (add-zero i); memory = refl }

pub written_length : {l bs s : List ℕ} {i p : ℕ} → Written l i bs p s → length s ≡ length l
written_length {l} {bs} {s} {i} {p} w = ap length w.memory ∙ length-sets l i bs

-- more bytes after those written
pub then : {l bs s : List ℕ} {i p : ℕ} (q : ℕ) (t more : List ℕ) → Written l i bs p s → q ≡ p + length more → t ≡ sets s p more → Written l i (bs ++ more) q t
then {l} {bs} {s} {i} {p} q t more w e f =
    record {
      place = simp length-append (omega (arith, w.place));
      memory = f ∙ rw (w.memory, w.place) (sets_sets l i bs more);
    }

-- the same from what a writer ensures, where the new bytes have a known length
pub then_sized : {l bs s t : List ℕ} {i p q n : ℕ} (more : List ℕ) → length more ≡ n → Written l i bs p s → (q ≡ p + n) × (t ≡ sets s p more)
    → Written l i (bs ++ more) q t
then_sized {l} {bs} {s} {t} {i} {p} {q} {n} more h w e = then q t more w (e.0 ∙ ap (λ (m : ℕ). p + m) (sym h)) e.1

pub then_number : {l bs s t : List ℕ} {i p q : ℕ} (w x : ℕ) → Written l i bs p s → (q ≡ p + w) × (t ≡ sets s p (be_bytes w x))
    → Written l i (bs ++ be_bytes w x) q t
then_number w x h e = then_sized (be_bytes w x) (length_be_bytes w x) h e

-- a number that was worked out as y and is x
pub then_equal : {l bs s t : List ℕ} {i p q y : ℕ} (w x : ℕ) → y ≡ x → Written l i bs p s → (q ≡ p + w) × (t ≡ sets s p (be_bytes w y))
    → Written l i (bs ++ be_bytes w x) q t
then_equal {l} {bs} {s} {t} {i} {p} {q} {y} w x d h e = then_number w x h (e.0, e.1 ∙ ap (λ (n : ℕ). sets s p (be_bytes w n)) d)

pub then_f64 : {l bs s t : List ℕ} {i p q : ℕ} (x : Float) → Written l i bs p s → (q ≡ p + 8) × (t ≡ sets s p (f64_bytes x))
    → Written l i (bs ++ f64_bytes x) q t
then_f64 x h e = then_sized (f64_bytes x) (length_f64_bytes x) h e

-- one byte more of a copy
pub put_byte : (l s src : List ℕ) (at i : ℕ) → i < length src → s ≡ sets l at (take i src)
    → set s (at + i) (get_or src i 0) ≡ sets l at (take (i + 1) src)
put_byte l s src at i h e =
    let w : length (take i src) ≡ i = length-take-le i src (omega arith) in
    let v : Written l at (take i src) (at + i) s = record { place = omega arith; memory = e } in
    (then (at + i + 1) (set s (at + i) (get_or src i 0)) (get_or src i 0 ∷ []) v refl refl).memory ∙ rw (add-one, take-suc src i 0 h)

-- writing at the front, and up to the end
pub put_front : (d bs : List ℕ) → length bs ≤ length d → sets d 0 bs ≡ over bs d
unfolding over
put_front d bs h = sets-eq bs d 0 (omega arith) ∙ ap (λ (n : ℕ). bs ++ drop n d) (zero-add (length bs))

pub put_tail : (d bs : List ℕ) (at : ℕ) → length d ≡ at + length bs → sets d at bs ≡ take at d ++ bs
put_tail d bs at h =
    sets-eq bs d at (omega arith)
    ∙ ap (λ (x : List ℕ). take at d ++ bs ++ x) (drop_of_length-le d {i = at + length bs} (omega arith))
    ∙ append-nil (take at d ++ bs)

pub over_all : (d bs : List ℕ) → length bs ≡ length d → over bs d ≡ bs
unfolding over
over_all d bs h = ap (λ (x : List ℕ). bs ++ x) (drop_of_length-le d {i = length bs} (omega arith)) ∙ append-nil bs

pub length_over : (d bs : List ℕ) → length bs ≤ length d → length (over bs d) ≡ length d
unfolding over
length_over d bs h = simp (length-append, length-drop) (omega arith)

-- what a writer ensures, once all is written: from a place on; at the front of a memory; over a whole one
pub written : {l bs s : List ℕ} {i p n : ℕ} → Written l i bs p s → length bs ≡ n → (p ≡ i + n) × (s ≡ sets l i bs)
written {l} {bs} {s} {i} {p} {n} w h = (w.place ∙ ap (λ (m : ℕ). i + m) h, w.memory)

pub written_front : {l bs s : List ℕ} {p : ℕ} → Written l 0 bs p s → length bs ≤ length l → s ≡ over bs l
written_front {l} {bs} {s} {p} w h = w.memory ∙ put_front l bs h

pub written_whole : {l bs s : List ℕ} {p : ℕ} → Written l 0 bs p s → length bs ≡ length l → s ≡ bs
written_whole {l} {bs} {s} {p} w h = written_front w (omega arith) ∙ over_all l bs h

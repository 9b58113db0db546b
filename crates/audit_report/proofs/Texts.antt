-- A number's digits are those that `io::decimal` leaves, at most 20; what is written at the front of a memory, for each verdict.
use mathlib.Core.Bool.{Bool, true, false, cond}
use mathlib.Core.Path.{◌≡◌, sym, ap, ◌∙◌}
use mathlib.Core.List.{List, []}
use Prim.Native.Nat.{ℕ, zero, suc, ◌+◌, ◌-◌, ◌*◌, ◌/◌, ◌%◌, ◌^◌, ◌≤◌, ◌<◌}
use native.Mathlib.Decide.{dec_lt}
use native.Mathlib.Nat.{pow-le-pow_right, pow-succ', mod-lt, le-div_iff_mul-le, div-lt_iff_lt-mul}
use native.Mathlib.Omega.{arith}
use borrow.Author.Tests.{lt-ltb, le-ltb}
use lib.Dec.{ltb}
use lib.ListN.{length, take, drop, length-append}
use lib.Seq.{length-take-le}
use Rattle.std.proofs.Math.Seq.{take-append_seam}
use Rattle.io.specs.Counts.{IsPrefixLen}
use Rattle.io.specs.Digits.{hex_digit_ascii, last_digits as io_digits, IsDigitCount}
use Rattle.codec.specs.Bytes.{over}
use Rattle.codec.proofs.Puts.{Written, written_front}
use Rattle.auditor.specs.Verdicts.{Verdict, Accepted, Refused}
use Rattle.audit_report.specs.Report.{last_digits, decimal, says_accepted, says_refused, says}

pub few_digits : (n k : ℕ) → n < 18446744073709551616 → IsDigitCount 10 1 n k → k ≤ 20
few_digits n k h f = on (dec_lt 20 k)
  where
    on : Dec (20 < k) → k ≤ 20
    on (yes l) =
        let p : 100000000000000000000 ≤ 10 ^ (k - 1) = pow-le-pow_right {n = 10} (omega arith) {i = 20} {j = k - 1} (omega arith) in
        let q : 10 ^ (k - 1) ≤ n = f.2 (omega arith) in
        absurd (omega arith)
    on (no l) = omega arith

glyph_below : (d : ℕ) → d < 10 → hex_digit_ascii d ≡ 48 + d
glyph_below d h = rw (lt-ltb d 10 h)

-- of a number with k + 2 digits the front has k + 1
fewer : (k n : ℕ) → IsDigitCount 10 1 n (suc (suc k)) → (10 ≤ n) × IsDigitCount 10 1 (n / 10) (suc k)
fewer k n f =
    let p : n < 10 * 10 ^ suc k = rw (pow-succ' 10 (suc k)) at f.1 in
    let e : suc (suc k) - 1 ≡ suc k = omega arith in
    let d : suc k - 1 ≡ k = omega arith in
    let q : 10 * 10 ^ k ≤ n = rw (e, pow-succ' 10 k) at (f.2 (omega arith)) in
    let one : 1 ≤ 10 ^ k = pow-le-pow_right {n = 10} (omega arith) {i = 0} {j = k} (omega arith) in
    (omega arith, (omega arith, (div-lt_iff_lt-mul {k = 10} (omega arith)).1 (omega arith), λ h. rw d ((le-div_iff_mul-le {k = 10} (omega arith)).1 (omega arith))))

pub fewest_digits : (most k n : ℕ) → k ≤ most → IsDigitCount 10 1 n k → last_digits most n ≡ io_digits 10 k n
unfolding last_digits
fewest_digits most zero n h f = absurd (omega (arith, f.0))
fewest_digits zero (suc k) n h f = absurd (omega (arith, h))
fewest_digits (suc most) (suc zero) n h f = rw (lt-ltb n 10 f.1, glyph_below (n % 10) (mod-lt n (omega arith)))
fewest_digits (suc most) (suc (suc k)) n h f =
    rw (le-ltb n 10 (fewer k n f).0, fewest_digits most (suc k) (n / 10) (omega (arith, h)) (fewer k n f).1, glyph_below (n % 10) (mod-lt n (omega arith)))

pub spelled : (n k : ℕ) (text : List ℕ) → n < 18446744073709551616 → IsDigitCount 10 1 n k → take k text ≡ io_digits 10 k n → take k text ≡ decimal n
spelled n k text h f d = d ∙ sym (fewest_digits 20 k n (few_digits n k h f) f)

pub short : (most n : ℕ) → length (last_digits most n) ≤ most
unfolding last_digits
short zero n = omega arith
short (suc most) n = simp length-append (omega (arith, front (ltb n 10) most (last_digits most (n / 10)) (short most (n / 10))))
  where
    front : (b : Bool) (m : ℕ) (ds : List ℕ) → length ds ≤ m → length (cond b [] ds) ≤ m
    front true m ds h = omega arith
    front false m ds h = h

-- a text at the front of a memory: where it ends, and the memory afterwards
abbrev pub Front : List ℕ → ℕ → List ℕ → List ℕ → Type 0
Front text end before after = (end ≡ length text) × (after ≡ over text before)

pub at_front : {l bs s : List ℕ} {p : ℕ} → Written l 0 bs p s → length bs ≤ length l → Front bs p l s
at_front w h = (omega (arith, w.place), written_front w h)

pub counted : (bs l s : List ℕ) (p : ℕ) → Front bs p l s → IsPrefixLen p s
unfolding over
counted bs l s p w =
    let e : length s ≡ length bs + length (drop (length bs) l) = ap length w.1 ∙ length-append bs (drop (length bs) l) in
    let h : p ≤ length s = omega (arith, e, w.0) in
    (h, sym (length-take-le p s h))

pub taken : (l s bs : List ℕ) (p : ℕ) → Front bs p l s → take p s ≡ bs
unfolding over
taken l s bs p w = rw (w.1, w.0) (take-append_seam bs (drop (length bs) l))

-- the verdict told by its constructor
pub says_accepted_lem : (v : Verdict) (n p : ℕ) (l s : List ℕ) → v ≡ Accepted n → Front (says_accepted n) p l s → Front (says v) p l s
says_accepted_lem v n p l s e w = rw e w

pub says_refused_lem : (v : Verdict) (r k p : ℕ) (l s : List ℕ) → v ≡ Refused r k → Front (says_refused r k) p l s → Front (says v) p l s
says_refused_lem v r k p l s e w = rw e w

pub says_of : (v w : Verdict) (p : ℕ) (l s : List ℕ) → v ≡ w → Front (says v) p l s → Front (says w) p l s
says_of v w p l s e f = rw e at f

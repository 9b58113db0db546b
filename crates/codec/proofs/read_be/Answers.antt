use native.Mathlib.Omega.{arith}
use Prim.Native.Nat.{ℕ, suc, ◌+◌, ◌-◌, ◌*◌, ◌^◌, ◌≤◌, ◌<◌}
use mathlib.Core.Path.{◌≡◌, refl, sym, ap, ◌∙◌}
use mathlib.Core.List.{List}
use native.Mathlib.Numerals.{add-one}
use native.Mathlib.Nat.{pow-le-pow_right, lt_of_lt_of_le, pow-suc}
use lib.ListN.{length, take, drop, get_or, length-drop}
use lib.Seq.{take-suc, length-take-le}
use Rattle.std.proofs.lemmas.List.{get_or-take, get_or-drop}
use lib.Arith.{digits_lt}
use Rattle.codec.specs.Bytes.{be}
use Rattle.codec.proofs.Laws.{be_from_snoc}
use Rattle.codec.proofs.read_be.Goals as goal

-- x * 256 + b has one digit more, and fits
digit : (x i w b : ℕ) → x < 256 ^ i → b < 256 → i < w → w ≤ 8 → (x * 256 + b < 256 ^ (i + 1)) × (x * 256 + b < 2 ^ 64)
digit x i w b h hb hi hw =
    let z : 0 < 256 = omega arith in
    let e : suc i ≤ 8 = omega arith in
    let m : x * 256 + b < 256 ^ i * 256 = digits_lt h hb in
    let n : x * 256 + b < 256 ^ suc i = rw pow-suc m in
    (rw add-one n, lt_of_lt_of_le n (pow-le-pow_right z e))

turn : (s : List ℕ) (i x : ℕ) → i < length s → x ≡ be (take i s) → x * 256 + get_or s i 0 ≡ be (take (i + 1) s)
unfolding be
turn s i x h e = ap (λ (n : ℕ). n * 256 + get_or s i 0) e ∙ sym (be_from_snoc 0 (take i s) (get_or s i 0)) ∙ rw (add-one, take-suc s i 0 h) refl

inside : (s : List ℕ) (at w i : ℕ) → at + w ≤ length s → i < length (take (at + w - at) (drop at s)) → i < w
inside s at w i h k =
    let d : length (drop at s) ≡ length s - at = length-drop at s in
    let e : length (take (at + w - at) (drop at s)) ≡ at + w - at = length-take-le (at + w - at) (drop at s) (omega arith) in
    omega arith

pub loop-byte-init : goal.loop-byte-init
unfolding be
loop-byte-init c = (omega arith, refl)

pub overflow_mul-x : goal.overflow_mul-x
overflow_mul-x c =
    let l = c.loop-byte in
    let d = digit l.x l.byte-index c.args.w 0 l.invariant.0 (omega arith) (inside c.args.bytes.now c.args.at c.args.w _ c.requires.1 c.loop-byte-test.true) c.requires.0 in
    record { fits = omega (arith, d.1) }

pub loop-byte-preserved : goal.loop-byte-preserved
loop-byte-preserved c =
    let l = c.loop-byte in
    let s = c.args.bytes.now in
    let i = inside s c.args.at c.args.w _ c.requires.1 c.loop-byte-test.true in
    let b : c.from.result < 256 = rw (c.from.ensures, get_or-take (c.args.at + c.args.w - c.args.at) (drop c.args.at s) l.byte-index 0 (omega arith), get_or-drop) (omega (arith, c.type_inv.bytes (c.args.at + l.byte-index))) in
    ((digit l.x l.byte-index c.args.w _ l.invariant.0 b i c.requires.0).0, rw c.from.ensures (turn _ l.byte-index l.x c.loop-byte-test.true l.invariant.1))

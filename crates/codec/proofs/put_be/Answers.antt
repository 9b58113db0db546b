use native.Mathlib.Omega.{arith}
use Prim.Native.Nat.{ℕ, suc, ◌+◌, ◌-◌, ◌/◌, ◌%◌, ◌<◌}
use mathlib.Core.Path.{◌≡◌, refl, sym, ap, ◌∙◌}
use mathlib.Core.List.{List}
use lib.ListN.{set, length-set}
use lib.Seq.{sets}
use Rattle.codec.specs.Bytes.{be_bytes}
use Rattle.codec.proofs.Laws.{sets_snoc, length_be_bytes}
use Rattle.codec.proofs.put_be.Goals as goal

-- one digit less: the lowest is written behind the others
turn : (s : List ℕ) (at y w i : ℕ) → i < w → sets s at (be_bytes (w - i) y) ≡ sets (set s (at + (w - 1 - i)) (y % 256)) at (be_bytes (w - (i + 1)) (y / 256))
unfolding be_bytes
turn s at y w i h =
    let e : w - i ≡ suc (w - (i + 1)) = omega arith in
    let d : w - (i + 1) ≡ w - 1 - i = omega arith in
    ap (λ (n : ℕ). sets s at (be_bytes n y)) e
    ∙ sets_snoc s at (be_bytes (w - (i + 1)) (y / 256)) (y % 256)
    ∙ ap (λ (n : ℕ). sets (set s (at + n) (y % 256)) at (be_bytes (w - (i + 1)) (y / 256))) (length_be_bytes (w - (i + 1)) (y / 256) ∙ d)

pub loop-i-preserved : goal.loop-i-preserved
loop-i-preserved c =
    let l = c.loop-i in
    ((simp length-set l.invariant.0), (l.invariant.1 ∙ turn l.bytes c.args.at l.y c.args.w l.i (omega arith)))

pub returns : goal.returns
unfolding be_bytes
returns c =
    let l = c.loop-i in
    let z : c.args.w - l.i ≡ 0 = omega arith in
    (refl, sym (l.invariant.1 ∙ ap (λ (n : ℕ). sets l.bytes c.args.at (be_bytes n l.y)) z))

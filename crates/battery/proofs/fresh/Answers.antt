use mathlib.Core.Path.{◌≡◌, refl, sym, ap, ◌∙◌}
use mathlib.Core.List.{List, [], ◌∷◌, ◌++◌, append_assoc}
use Prim.Native.Nat.{ℕ, zero, suc, ◌+◌, ◌≤◌}
use native.Mathlib.Omega.{arith}
use lib.ListN.{drop, get_or, set, replicate}
use lib.Seq.{drop-cons, set-append_seam, length-take-le}
use lib.Ieee.{Float}
use Rattle.std.proofs.lemmas.List.{replicate_more, length-replicate}
use Rattle.floats.specs.Constants as Constants
use Rattle.battery.specs.Battery.{fresh_zones, fresh}
use Rattle.battery.proofs.fresh.Goals as goal

abbrev zeros : List Float
zeros = replicate 64 Constants.zero

next : (n : ℕ) (t : Float) → replicate (suc n) t ≡ replicate n t ++ t ∷ []
next n t = let e : suc n ≡ n + 1 = omega arith in ap (λ (m : ℕ). replicate m t) e ∙ sym (replicate_more n t)

fresh_is : (n : ℕ) (t : Float) → n ≤ 64 → replicate n t ++ drop n zeros ≡ fresh_zones n t
unfolding fresh_zones
fresh_is zero t h = refl
fresh_is (suc n) t h =
    ap (λ (l : List Float). l ++ drop (suc n) zeros) (next n t)
    ∙ append_assoc (replicate n t) (t ∷ []) (drop (suc n) zeros)
    ∙ sym (set-append_seam (replicate n t) (get_or zeros n Constants.zero) (drop (suc n) zeros) t)
    ∙ ap (λ (m : ℕ). set (replicate n t ++ get_or zeros n Constants.zero ∷ drop (suc n) zeros) m t) (length-replicate n t)
    ∙ ap (λ (l : List Float). set (replicate n t ++ l) n t) (sym (drop-cons zeros n Constants.zero (omega arith)))
    ∙ ap (λ (l : List Float). set l n t) (fresh_is n t (omega arith))

pub returns : goal.returns
unfolding fresh
returns c =
    let n = c.args.card.layers in
    let w : c.fill.new.self ≡ replicate n c.args.card.start =
    c.fill.ensures.after (λ y h. h) ∙ ap (λ (m : ℕ). replicate m c.args.card.start) (length-take-le n zeros c.requires) in
    rw (← fresh_is n c.args.card.start c.requires, w) refl

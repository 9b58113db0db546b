-- Line 0's content, as the code takes it.
use mathlib.Core.Path.{◌≡◌, refl, ap, ◌∙◌}
use mathlib.Core.List.{List}
use Rattle.std.specs.Prelude.{Some, None}
use mathlib.Core.Bool.{Bool, true, false, cond}
use borrow.Author.Tests.{eqb-true, leb-true, lt-leb}
use lib.Dec.{leb, eqb}
use Prim.Native.Nat.{ℕ, ◌+◌, ◌-◌, ◌≤◌, ◌<◌}
use native.Mathlib.Omega.{arith}
use lib.ListN.{length, take, drop, length-drop}
use lib.Seq.{take_all, length-take-le}
use Rattle.codec.specs.Bytes.{be_at}
use Rattle.sheet_records.specs.Cards.{card_length, card_at, refusal_at}
use Rattle.sheet_records.proofs.CardLaws.{card_length_take}
use Rattle.sheet_lines.specs.Lines.{opening_length}
use Rattle.auditor.specs.declared.CardLine.{CardLine}
use Rattle.auditor.specs.Audit.{card_part, card_line_ok, card_line}
use Rattle.logic.proofs.Branch.{three_tests}

pub opening_is : (version : ℕ) (bs : List ℕ) → opening_length version bs ≡ 3 + card_length version bs
unfolding opening_length
opening_is version bs = omega arith

-- the bytes after the version and line 0's length, as the code takes them
pub from_three : (bs : List ℕ) → take (length bs - 3) (drop 3 bs) ≡ drop 3 bs
from_three bs = take_all (length bs - 3) (drop 3 bs) (simp length-drop (omega arith))

pub opening_end : (version : ℕ) (bs : List ℕ) (n : ℕ) → n ≡ card_length version (take (length bs - 3) (drop 3 bs)) → 3 + n ≡ opening_length version (drop 3 bs)
opening_end version bs n e =
    let l : n ≡ card_length version (drop 3 bs) = e ∙ ap (card_length version) (from_three bs) in
    omega (arith, opening_is version (drop 3 bs))

module _ (version : ℕ) (bs : List ℕ) (end : ℕ) (e : end ≡ opening_length version (drop 3 bs)) where
  pub card_slice : take (end - 3) (drop 3 bs) ≡ card_part version bs
  card_slice =
      let m : end - 3 ≡ card_length version (drop 3 bs) = omega (arith, opening_is version (drop 3 bs)) in
      ap (λ (n : ℕ). take n (drop 3 bs)) m

  -- the card is whole in it
  pub card_whole : end ≤ length bs → card_length version (take (end - 3) (drop 3 bs)) ≤ length (take (end - 3) (drop 3 bs))
  card_whole h =
      let n = card_length version (drop 3 bs) in
      let l : n ≤ length (drop 3 bs) = simp length-drop (omega (arith, opening_is version (drop 3 bs))) in
      let k : length (card_part version bs) ≡ n = length-take-le n (drop 3 bs) l in
      rw card_slice (omega (arith, k, card_length_take version (drop 3 bs) l))

-- what card_line_ok tells
pub record CardLineOk (version : ℕ) (bs : List ℕ) : Type 0 where
  pub long : 3 + card_length version (drop 3 bs) ≤ length bs
  pub says : be_at bs 1 2 ≡ card_length version (drop 3 bs)
  pub accepted : refusal_at version (card_part version bs) ≡ 0

pub card_line_lem : (version : ℕ) (bs : List ℕ) → card_line_ok version bs ≡ true → CardLineOk version bs
unfolding card_line_ok
card_line_lem version bs ok =
    let r = refusal_at version (card_part version bs) in
    let n = opening_length version (drop 3 bs) in
    let t = three_tests (leb n (length bs)) (eqb (be_at bs 1 2) (card_length version (drop 3 bs))) (eqb r 0) ok in
    let l : n ≤ length bs = leb-true n (length bs) t.0 in
    record { long = omega (arith, opening_is version (drop 3 bs)); says = eqb-true (be_at bs 1 2) (card_length version (drop 3 bs)) t.1; accepted = eqb-true r 0 t.2 }

-- fewer than three bytes hold no card
pub no_card_line : (version : ℕ) (bs : List ℕ) → length bs < 3 → card_line version bs ≡ None
unfolding card_line card_line_ok
no_card_line version bs h =
    let l : length bs < opening_length version (drop 3 bs) = omega (arith, opening_is version (drop 3 bs)) in
    rw (lt-leb (opening_length version (drop 3 bs)) (length bs) l)

-- what line 0's reader tells
fit_by : (t : Bool) (x line : CardLine) → Some line ≡ cond t (Some x) None → (t ≡ true) × (line ≡ x)
fit_by true x line e = (refl, cc)
fit_by false x line e = let z : ◌≡◌ {A = ℕ} 0 1 = cc in absurd (omega arith)

unfit_by : (t : Bool) (x : CardLine) → None ≡ cond t (Some x) None → t ≡ false
unfit_by true x e = let z : ◌≡◌ {A = ℕ} 0 1 = cc in absurd (omega arith)
unfit_by false x e = refl

module _ (version : ℕ) (bs : List ℕ) where
  pub card_line_fit : (line : CardLine) → Some line ≡ card_line version bs
      → (card_line_ok version bs ≡ true) × (line.card ≡ card_at version (card_part version bs)) × (line.end ≡ opening_length version (drop 3 bs))
  unfolding card_line
  card_line_fit line e = let f = fit_by (card_line_ok version bs) _ line e in (f.0, rw f.1, rw f.1)

  -- it lies in the sheet
  pub card_line_inside : (line : CardLine) → Some line ≡ card_line version bs → (3 ≤ line.end) × (line.end ≤ length bs)
  card_line_inside line e =
      let fit = card_line_fit line e in
      let l = (card_line_lem version bs fit.0).long in
      (omega (arith, fit.2, opening_is version (drop 3 bs)), omega (arith, l, fit.2, opening_is version (drop 3 bs)))

  pub card_line_unfit : None ≡ card_line version bs → card_line_ok version bs ≡ false
  unfolding card_line
  card_line_unfit = unfit_by (card_line_ok version bs) _

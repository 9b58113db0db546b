-- A card is read from its own bytes alone, whatever the version.
use mathlib.Core.Path.{◌≡◌, sym, ap, ◌∙◌}
use mathlib.Core.List.{List, ◌++◌}
use Prim.Native.Nat.{ℕ, ◌+◌, ◌*◌, ◌≤◌, ◌<◌}
use native.Mathlib.Omega.{arith}
use lib.ListN.{length, take, drop, get_or, get_or-append, take-append-drop}
use lib.Seq.{length-take-le}
use Rattle.codec.specs.Bytes.{be, be_at, nth_f64, f64_of}
use Rattle.codec.proofs.Places.{in_front}
use Rattle.sheet_records.specs.Cards.{card_length, card_at, refusal_at}
use Rattle.sheet_records.proofs.CardLaws.{card_least, card_length_take, extension_front, extension_take}

-- a card is read from its own bytes, whatever follows them
pub card_at_front : (version : ℕ) (card r : List ℕ) → card_length version card ≤ length card → card_at version (card ++ r) ≡ card_at version card
unfolding card_at
card_at_front version card r h =
    let n = card_least version card in
    let byte : (i : ℕ) → i < card_length version card → get_or (card ++ r) i 0 ≡ get_or card i 0 = λ i l. get_or-append card r 0 i (omega arith) in
    let two : (at : ℕ) → at + 2 ≤ card_length version card → be_at (card ++ r) at 2 ≡ be_at card at 2 = λ at l. ap be (in_front card r at 2 (omega arith)) in
    let f : (k : ℕ) → k < 19 → nth_f64 (card ++ r) 6 k ≡ nth_f64 card 6 k = λ k l. ap f64_of (in_front card r (6 + 8 * k) 8 (omega arith)) in
    λ i. record {
      layers = byte 0 (omega arith) i;
      units = two 1 (omega arith) i;
      simultaneous = byte 3 (omega arith) i;
      budget = two 4 (omega arith) i;
      substep = f 0 (omega arith) i;
      timestep = f 1 (omega arith) i;
      inlet = f 2 (omega arith) i;
      outlet = f 3 (omega arith) i;
      max = f 4 (omega arith) i;
      reference = f 5 (omega arith) i;
      lower = f 6 (omega arith) i;
      upper = f 7 (omega arith) i;
      below = f 8 (omega arith) i;
      during = f 9 (omega arith) i;
      above = f 10 (omega arith) i;
      velocity = f 11 (omega arith) i;
      diameter = f 12 (omega arith) i;
      a = f 13 (omega arith) i;
      b = f 14 (omega arith) i;
      flow = f 15 (omega arith) i;
      losses = f 16 (omega arith) i;
      start = f 17 (omega arith) i;
      power = f 18 (omega arith) i;
    }

-- and from those that are cut out by its length
pub card_at_take : (version : ℕ) (bs : List ℕ) → card_length version bs ≤ length bs → card_at version (take (card_length version bs) bs) ≡ card_at version bs
card_at_take version bs h =
    let n = card_length version bs in
    let l : length (take n bs) ≡ n = length-take-le n bs h in
    let k : card_length version (take n bs) ≡ n = card_length_take version bs h in
    sym (card_at_front version (take n bs) (drop n bs) (omega arith)) ∙ ap (card_at version) (take-append-drop n bs)

-- so its refusal, its extension's too, hangs on them alone
pub refusal_at_front : (version : ℕ) (card r : List ℕ) → card_length version card ≤ length card → refusal_at version (card ++ r) ≡ refusal_at version card
unfolding refusal_at
refusal_at_front version card r h = rw (card_at_front version card r h, extension_front version card r h)

pub refusal_at_take : (version : ℕ) (bs : List ℕ) → card_length version bs ≤ length bs → refusal_at version (take (card_length version bs) bs) ≡ refusal_at version bs
unfolding refusal_at
refusal_at_take version bs h = rw (card_at_take version bs h, extension_take version bs h)

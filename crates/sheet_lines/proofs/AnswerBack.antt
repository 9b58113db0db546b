-- Records and answers come back from their bytes, and a written mark passes 42's test.
use mathlib.Core.Path.{◌≡◌, refl, ap, ◌∙◌}
use mathlib.Core.List.{List, [], ◌++◌, append_assoc, append-nil}
use mathlib.Core.Bool.{true, cond}
use mathlib.Core.Logic.{◌⊎◌, inl, inr}
use Prim.Native.Nat.{ℕ, ◌≤◌}
use native.Mathlib.Omega.{arith}
use lib.Dec.{eqb}
use lib.ListN.{length, take, drop, get_or, length-append}
use lib.Ieee.{Float, to_bits, of_bits}
use Rattle.floats.specs.Constants as Constants
use Rattle.codec.specs.Bytes.{be, be_at, f64_at, be_bytes, f64_bytes}
use Rattle.codec.proofs.Laws.{length_be_bytes, length_f64_bytes}
use Rattle.codec.proofs.Places.{bytes_here, number_here, byte_here, f64_here}
use Rattle.battery.specs.declared.Battery.{Battery}
use Rattle.battery.specs.declared.Answer.{Answer}
use Rattle.battery.specs.Battery.{GoodBattery}
use Rattle.sheet_records.specs.Cards.{card_length, card_at}
use Rattle.sheet_records.proofs.CardLaws.{card_length_front}
use Rattle.sheet_lines.proofs.CardFront.{card_at_front}
use Rattle.sheet_records.specs.Records.{state_at, state_bytes, record_of, record_bytes}
use Rattle.sheet_calls.specs.Calls.{mark_ok}
use Rattle.sheet_lines.specs.Answers.{head_length, head_bytes, answer_at, answer_bytes, marks_ok, GoodAnswer}
use Rattle.sheet_lines.proofs.Lengths.{length_head_bytes}
use Rattle.sheet_lines.proofs.Good.{held, mark_small}
use Rattle.sheet_lines.proofs.Back.{state_back}

-- ---- a record

-- the battery comes back from a record with its card's bytes
pub record_back : (version : ℕ) (card : List ℕ) (b : Battery) → length card ≡ card_length version card → card_at version card ≡ b.card → GoodBattery version b
    → record_of version (record_bytes version card b) ≡ b
unfolding record_of record_bytes
record_back version card b h e g =
    let long : card_length version card ≤ length card = omega arith in
    let n : card_length version (card ++ state_bytes version b) ≡ card_length version card = card_length_front version card (state_bytes version b) long in
    let c : card_at version (card ++ state_bytes version b) ≡ b.card = card_at_front version card (state_bytes version b) long ∙ e in
    let m : card ++ state_bytes version b ≡ card ++ (state_bytes version b ++ []) = simp append-nil in
    rw (n, c, m) (state_back version b card [] (card_length version card) g h)

-- ---- an answer

-- a mark of 0 over the bytes of +0, or of 1
marked_ok : (m : ℕ) (o : Float) → ((m ≡ 0) × (o ≡ Constants.zero)) ⊎ (m ≡ 1) → cond (eqb m 0) (eqb (be (f64_bytes o)) 0) (eqb m 1) ≡ true
unfolding f64_bytes be be_bytes to_bits of_bits
marked_ok m o (inl h) = rw (h.0, h.1)
marked_ok m o (inr h) = rw h

-- the bytes of an answer, cut before each field
module _ (version : ℕ) (a : Answer) where
  abbrev B : List ℕ
  B = answer_bytes version a

  abbrev X₁ : List ℕ
  X₁ = be_bytes 1 a.refusal

  abbrev X₂ : List ℕ
  X₂ = f64_bytes a.energy

  abbrev X₃ : List ℕ
  X₃ = be_bytes 1 a.mark

  abbrev X₄ : List ℕ
  X₄ = f64_bytes a.outlet

  abbrev X₅ : List ℕ
  X₅ = f64_bytes a.time

  abbrev X₆ : List ℕ
  X₆ = be_bytes 4 a.substeps

  abbrev S : List ℕ
  S = state_bytes version a.battery

  cut₁ : B ≡ [] ++ (X₁ ++ (X₂ ++ (X₃ ++ (X₄ ++ (X₅ ++ (X₆ ++ S))))))
  unfolding answer_bytes head_bytes
  cut₁ = simp append_assoc

  cut₂ : B ≡ X₁ ++ (X₂ ++ (X₃ ++ (X₄ ++ (X₅ ++ (X₆ ++ S)))))
  unfolding answer_bytes head_bytes
  cut₂ = simp append_assoc

  cut₃ : B ≡ (X₁ ++ X₂) ++ (X₃ ++ (X₄ ++ (X₅ ++ (X₆ ++ S))))
  unfolding answer_bytes head_bytes
  cut₃ = simp append_assoc

  cut₄ : B ≡ (X₁ ++ X₂ ++ X₃) ++ (X₄ ++ (X₅ ++ (X₆ ++ S)))
  unfolding answer_bytes head_bytes
  cut₄ = simp append_assoc

  cut₅ : B ≡ (X₁ ++ X₂ ++ X₃ ++ X₄) ++ (X₅ ++ (X₆ ++ S))
  unfolding answer_bytes head_bytes
  cut₅ = simp append_assoc

  cut₆ : B ≡ (X₁ ++ X₂ ++ X₃ ++ X₄ ++ X₅) ++ (X₆ ++ S)
  unfolding answer_bytes head_bytes
  cut₆ = simp append_assoc

  cut₇ : B ≡ head_bytes a ++ (S ++ [])
  unfolding answer_bytes
  cut₇ = simp append-nil

  places : (length X₁ ≡ 1) × (length (X₁ ++ X₂) ≡ 9) × (length (X₁ ++ X₂ ++ X₃) ≡ 10) × (length (X₁ ++ X₂ ++ X₃ ++ X₄) ≡ 18) × (length (X₁ ++ X₂ ++ X₃ ++ X₄ ++ X₅) ≡ 26)
  places =
      (length_be_bytes 1 a.refusal, simp (length-append, length_be_bytes, length_f64_bytes), simp (length-append, length_be_bytes, length_f64_bytes), simp (length-append, length_be_bytes, length_f64_bytes), simp (length-append, length_be_bytes, length_f64_bytes))

  module _ (g : GoodAnswer version a) where
    mark_here : get_or B 9 0 ≡ a.mark
    mark_here = byte_here B (X₁ ++ X₂) _ 9 a.mark cut₃ places.1 (mark_small a.mark a.outlet g.marked)

    -- the answer comes back from its bytes
    pub answer_back : answer_at version a.battery.card (answer_bytes version a) ≡ a
    unfolding answer_at
    answer_back =
        let r : get_or B 0 0 ≡ a.refusal = byte_here B [] _ 0 a.refusal cut₁ refl g.refusal_fits in
        let e : f64_at B 1 ≡ a.energy = f64_here B X₁ _ 1 a.energy cut₂ places.0 (held a.energy g.energy_finite) in
        let o : f64_at B 10 ≡ a.outlet = f64_here B (X₁ ++ X₂ ++ X₃) _ 10 a.outlet cut₄ places.2 (held a.outlet g.outlet_finite) in
        let t : f64_at B 18 ≡ a.time = f64_here B (X₁ ++ X₂ ++ X₃ ++ X₄) _ 18 a.time cut₅ places.3 (held a.time g.time_finite) in
        let s : be_at B 26 4 ≡ a.substeps = number_here B (X₁ ++ X₂ ++ X₃ ++ X₄ ++ X₅) _ 26 4 a.substeps cut₆ places.4 g.substeps_fit in
        let b : state_at version a.battery.card B (head_length version) ≡ a.battery =
        ap (λ (x : List ℕ). state_at version a.battery.card x (head_length version)) cut₇
        ∙ state_back version a.battery (head_bytes a) [] (head_length version) g.battery_good (length_head_bytes version a) in
        λ i. record { refusal = r i; energy = e i; mark = mark_here i; outlet = o i; time = t i; substeps = s i; battery = b i }

    -- 42's test of the outlet's mark passes
    pub marks_written : marks_ok version (answer_bytes version a) ≡ true
    unfolding marks_ok mark_ok
    marks_written =
        let o : take 8 (drop 10 B) ≡ X₄ = bytes_here B (X₁ ++ X₂ ++ X₃) X₄ _ 10 8 cut₄ places.2 (length_f64_bytes a.outlet) in
        rw (mark_here, o) (marked_ok a.mark a.outlet g.marked)

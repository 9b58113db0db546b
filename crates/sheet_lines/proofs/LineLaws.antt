-- The parts of a line and of the opening are found again at their places; 01's closing line.
use Rattle.std.specs.Prelude.{Some}
use mathlib.Core.Path.{◌≡◌, refl, ap, ◌∙◌}
use mathlib.Core.List.{List, [], ◌∷◌, ◌++◌, append_assoc}
use Prim.Native.Nat.{ℕ, ◌+◌, ◌%◌, ◌≤◌, ◌<◌}
use native.Mathlib.Omega.{arith}
use lib.ListN.{length, take, drop, get_or, replicate, get_or-append, length-append}
use lib.Seq.{drop_at, get_or-append-add}
use lib.Ieee.{binary64, of_bits, to_bits, nan}
use Rattle.floats.specs.Constants as Constants
use Rattle.codec.specs.Bytes.{be_at, be_bytes, f64_bytes}
use Rattle.codec.proofs.Laws.{length_be_bytes}
use Rattle.codec.proofs.Places.{bytes_here, number_here, byte_here}
use Rattle.card.specs.Extension.{Extension}
use Rattle.card.specs.declared.Card.{Card}
use Rattle.battery.specs.declared.Battery.{Battery}
use Rattle.battery.specs.declared.Answer.{Answer}
use Rattle.battery.specs.declared.Call.TheVariants.{CloseTimestep}
use Rattle.battery.specs.Answer.{plain_answer}
use Rattle.sheet_records.specs.Cards.{card_length}
use Rattle.sheet_records.specs.Records.{state_length, zones_bytes, totals_bytes, state_bytes}
use Rattle.sheet_calls.specs.Calls.{call_length, bare_call, call_by, call_of}
use Rattle.sheet_lines.specs.Answers.{head_length, head_bytes, answer_length, answer_bytes}
use Rattle.sheet_lines.specs.Lines.{line_length, line_size, line_bytes, opening_length, opening_bytes}
use Rattle.sheet_lines.proofs.Lengths.{length_answer_bytes, length_line_bytes, length_opening_bytes}

-- a line with r after it
module _ (version : ℕ) (call : List ℕ) (a : Answer) (r : List ℕ) where
  abbrev L : List ℕ
  L = be_bytes 2 (line_length version a.battery.card (length call))

  cut : line_bytes version call a ++ r ≡ L ++ (call ++ (answer_bytes version a ++ r))
  unfolding line_bytes
  cut = simp append_assoc

  cut_answer : line_bytes version call a ++ r ≡ (L ++ call) ++ (answer_bytes version a ++ r)
  unfolding line_bytes
  cut_answer = simp append_assoc

  two : length L ≡ 2
  two = length_be_bytes 2 (line_length version a.battery.card (length call))

  -- the first two bytes say the length of what follows them
  pub line_says : line_length version a.battery.card (length call) < 65536
      → be_at (line_bytes version call a ++ r) 0 2 ≡ line_length version a.battery.card (length call)
  line_says h = number_here (line_bytes version call a ++ r) [] _ 0 2 (line_length version a.battery.card (length call)) cut refl h

  pub line_call_lem : take (length call) (drop 2 (line_bytes version call a ++ r)) ≡ call
  line_call_lem = bytes_here (line_bytes version call a ++ r) L call _ 2 (length call) cut two refl

  pub line_kind : 0 < length call → get_or (line_bytes version call a ++ r) 2 0 ≡ get_or call 0 0
  line_kind h =
      ap (λ (x : List ℕ). get_or x 2 0) cut ∙ ap (λ (n : ℕ). get_or (L ++ (call ++ (answer_bytes version a ++ r))) n 0) (omega (arith, two))
      ∙ get_or-append-add L (call ++ (answer_bytes version a ++ r)) 0 0 ∙ get_or-append call (answer_bytes version a ++ r) 0 0 h

  pub line_answer_lem : take (answer_length version a.battery.card) (drop (2 + length call) (line_bytes version call a ++ r)) ≡ answer_bytes version a
  line_answer_lem =
      bytes_here (line_bytes version call a ++ r) (L ++ call) (answer_bytes version a) r (2 + length call) (answer_length version a.battery.card) cut_answer
      (simp (length-append, two)) (length_answer_bytes version a)

  pub line_following : drop (line_size version a.battery.card (length call)) (line_bytes version call a ++ r) ≡ r
  line_following = drop_at (line_bytes version call a) r (line_size version a.battery.card (length call)) (length_line_bytes version call a)

-- a number below 256 is one byte
one_byte : (x : ℕ) → x < 256 → be_bytes 1 x ≡ x ∷ []
unfolding be_bytes
one_byte x h = let e : x % 256 ≡ x = omega arith in ap (λ (n : ℕ). n ∷ []) e

-- the version and line 0, with r after them
module _ (version : ℕ) (card r : List ℕ) where
  head : opening_bytes version card ++ r ≡ be_bytes 1 version ++ (be_bytes 2 (card_length version card) ++ (card ++ r))
  unfolding opening_bytes
  head = simp append_assoc

  head_card : opening_bytes version card ++ r ≡ (be_bytes 1 version ++ be_bytes 2 (card_length version card)) ++ (card ++ r)
  unfolding opening_bytes
  head_card = simp append_assoc

  pub opening_starts : version < 256 → opening_bytes version card ++ r ≡ version ∷ (be_bytes 2 (card_length version card) ++ (card ++ r))
  opening_starts h = head ∙ ap (λ (x : List ℕ). x ++ (be_bytes 2 (card_length version card) ++ (card ++ r))) (one_byte version h)

  pub opening_version : version < 256 → get_or (opening_bytes version card ++ r) 0 0 ≡ version
  opening_version h = byte_here (opening_bytes version card ++ r) [] _ 0 version head refl h

  pub opening_card : length card ≡ card_length version card → take (card_length version card) (drop 3 (opening_bytes version card ++ r)) ≡ card
  opening_card h =
      bytes_here (opening_bytes version card ++ r) (be_bytes 1 version ++ be_bytes 2 (card_length version card)) card r 3 (card_length version card) head_card
      (simp (length-append, length_be_bytes)) h

  pub opening_following : length card ≡ card_length version card → drop (opening_length version card) (opening_bytes version card ++ r) ≡ r
  opening_following h = drop_at (opening_bytes version card) r (opening_length version card) (length_opening_bytes version card h)

-- 'Closing a timestep, one layer at 60 °C, totals 0': 81 bytes with the length
pub record Closing (b : Battery) : Type 0 where
  pub layers : b.card.layers ≡ 1
  pub zone : get_or b.zones 0 nan ≡ of_bits binary64 0x404E000000000000
  pub total : b.total ≡ Constants.zero
  pub pump : b.pump ≡ Constants.zero
  pub direct : b.direct ≡ Constants.zero
  pub charged : b.charged ≡ Constants.zero
  pub electric : b.electric ≡ Constants.zero

pub closing_line : (version : ℕ) (b : Battery) → Closing b → line_bytes version (5 ∷ []) (plain_answer Constants.zero b)
    ≡ 0x00 ∷ 0x4f ∷ 5 ∷ (replicate 30 0 ++ (0x40 ∷ 0x4e ∷ replicate 46 0))
unfolding line_bytes line_length plain_answer answer_length head_length state_length answer_bytes head_bytes state_bytes zones_bytes totals_bytes f64_bytes be_bytes to_bits of_bits
closing_line version b c = rw (c.layers, c.zone, c.total, c.pump, c.direct, c.charged, c.electric)

-- and its call is the closing of a timestep
pub closing_call : (version : ℕ) (extension : Extension) → call_of version extension (5 ∷ []) ≡ Some CloseTimestep
unfolding call_of call_length call_by bare_call
closing_call version extension = refl

-- what a call's line says of its length fits two bytes
pub line_fits : (version : ℕ) (card : Card) (n : ℕ) → card.layers ≤ 64 → n ≤ 73 → line_length version card n < 65536
unfolding line_length answer_length head_length state_length
line_fits version card n h k = omega arith

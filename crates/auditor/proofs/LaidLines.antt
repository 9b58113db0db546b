-- A laid line in front of a rest is what the auditor reads there; and a line that the auditor reads is laid.
use Rattle.std.specs.Prelude.{None, Some}
use mathlib.Core.Path.{◌≡◌, refl, sym, ap, ◌∙◌}
use mathlib.Core.List.{List, [], ◌∷◌, ◌++◌, append_assoc}
use mathlib.Core.Bool.{true, cond}
use Prim.Native.Nat.{ℕ, ◌+◌, ◌≤◌}
use native.Mathlib.Omega.{arith}
use borrow.Author.Tests.{eq-eqb, le-leb}
use lib.ListN.{length, take, drop, get_or, length-append, take-append-drop, get_or-append}
use lib.Seq.{take_at, drop_at, get_or-append-add, drop-drop, length-take-le}
use Rattle.codec.specs.Bytes.{be, be_at}
use Rattle.card.specs.Extension.{Extension}
use Rattle.card.specs.declared.Card.{Card}
use Rattle.battery.specs.Call.{call_in_range}
use Rattle.battery.specs.declared.Call.{Call}
use Rattle.sheet_calls.specs.Calls.{call_length, call_of}
use Rattle.sheet_lines.specs.Answers.{answer_length, marks_ok}
use Rattle.sheet_lines.specs.Lines.{line_length, line_size}
use Rattle.sheet_calls.proofs.CallLaws.{test_good, call_length_lem}
use Rattle.sheet_calls.proofs.CallExact.{call_laid}
use Rattle.sheet_lines.specs.Front.{line_call_length, call_part, answer_part, following, head_ok, line_call}
use Rattle.auditor.specs.Sheet.{Line, bytes_of, Laid}
use Rattle.sheet_lines.proofs.Fronts.{size_is, Front, front, call_long, answer_long}

-- a read call has a kind, so it is not empty
call_some : (version : ℕ) (extension : Extension) (bs : List ℕ) (call : Call) → call_of version extension bs ≡ Some call → 1 ≤ length bs
call_some version extension [] call h = absurd (omega (arith, (call_laid version extension [] call h).from_one))
call_some version extension (x ∷ bs) call h = omega arith

get_d_after : (p q : List ℕ) (k : ℕ) → length p ≡ k → get_or (p ++ q) k 0 ≡ get_or q 0 0
get_d_after p q k e =
    let z : k ≡ length p + 0 = omega arith in
    ap (λ (m : ℕ). get_or (p ++ q) m 0) z ∙ get_or-append-add p q 0 0

-- ---- a laid line with r after it
module _ (version : ℕ) (extension : Extension) (c : Card) (l : Line) (call : Call) (h : Laid version extension c l call) (r : List ℕ) where
  abbrev bs : List ℕ
  bs = bytes_of l ++ r

  abbrev rest : List ℕ
  rest = l.call ++ (l.answer ++ r)

  split : bs ≡ l.head ++ rest
  split = simp append_assoc

  pub line_long : length bs ≡ 2 + length l.call + answer_length version c + length r
  line_long = simp length-append (omega (arith, h.two, h.long))

  kind : line_call_length version bs ≡ length l.call
  kind =
      let e : get_or bs 2 0 ≡ get_or l.call 0 0 =
      ap (λ (x : List ℕ). get_or x 2 0) split ∙ get_d_after l.head rest 2 h.two ∙ get_or-append l.call (l.answer ++ r) 0 0 (call_some version extension l.call call h.reads) in
      ap (call_length version) e ∙ sym (call_length_lem version extension l.call call h.reads)

  at_call : drop 2 bs ≡ rest
  at_call = ap (drop 2) split ∙ drop_at l.head rest 2 h.two

  at_answer : drop (2 + length l.call) bs ≡ l.answer ++ r
  at_answer = sym (drop-drop (length l.call) 2 bs) ∙ ap (drop (length l.call)) at_call ∙ drop_at l.call (l.answer ++ r) (length l.call) refl

  call_part_lem : call_part version bs ≡ l.call
  unfolding call_part
  call_part_lem = rw (kind, at_call) (take_at l.call (l.answer ++ r) (length l.call) refl)

  pub answer_part_lem : answer_part version c bs ≡ l.answer
  unfolding answer_part
  answer_part_lem = rw (kind, at_answer) (take_at l.answer r (answer_length version c) h.long)

  pub following_part : following version c bs ≡ r
  unfolding following
  following_part =
      rw (kind, size_is)
      (sym (drop-drop (answer_length version c) (2 + length l.call) bs) ∙ ap (drop (answer_length version c)) at_answer ∙ drop_at l.answer r (answer_length version c) h.long)

  head_says : be_at bs 0 2 ≡ length l.call + answer_length version c
  head_says =
      ap (λ (x : List ℕ). be (take 2 x)) split ∙ ap be (take_at l.head rest 2 h.two) ∙ h.counts
      ∙ ap (λ (m : ℕ). length l.call + m) h.long

  head_ok_lem : head_ok version c bs ≡ true
  unfolding head_ok line_length
  head_ok_lem =
      let n = length l.call in
      let w : line_size version c n ≤ length bs = omega (arith, size_is version c n, line_long) in
      rw (kind, le-leb 1 n (call_some version extension l.call call h.reads), le-leb (line_size version c n) (length bs) w) (eq-eqb (be_at bs 0 2) (n + answer_length version c) head_says)

  pub line_call_lem : line_call version extension c bs ≡ Some call
  unfolding line_call
  line_call_lem = rw (head_ok_lem, answer_part_lem, h.marks, call_part_lem) h.reads

-- ---- the line that the auditor reads at the front of bs
abbrev pub front_line : ℕ → Card → List ℕ → Line
front_line version c bs = record { head = take 2 bs; call = call_part version bs; answer = answer_part version c bs }

module _ (version : ℕ) (extension : Extension) (c : Card) (bs : List ℕ) (call : Call) (h : line_call version extension c bs ≡ Some call) where
  tests : (head_ok version c bs ≡ true) × (marks_ok version (answer_part version c bs) ≡ true) × (call_of version extension (call_part version bs) ≡ Some call)
  unfolding line_call
  tests =
      let m = marks_ok version (answer_part version c bs) in
      let a = test_good (head_ok version c bs) (cond m (call_of version extension (call_part version bs)) None) call h in
      let b = test_good m (call_of version extension (call_part version bs)) call a.1 in
      (a.0, b.0, b.1)

  at_front : Front version c bs
  at_front = front version c bs tests.0

  pub front_joined : bs ≡ bytes_of (front_line version c bs) ++ following version c bs
  unfolding call_part answer_part following
  front_joined =
      let n = line_call_length version bs in
      let a = answer_length version c in
      let s : line_size version c n ≡ 2 + n + a = size_is version c n in
      let d : drop (2 + n) bs ≡ take a (drop (2 + n) bs) ++ drop (line_size version c n) bs =
      sym (take-append-drop a (drop (2 + n) bs)) ∙ ap (λ (x : List ℕ). take a (drop (2 + n) bs) ++ x) (drop-drop a (2 + n) bs ∙ ap (λ (m : ℕ). drop m bs) (sym s)) in
      let e : drop 2 bs ≡ take n (drop 2 bs) ++ drop (2 + n) bs =
      sym (take-append-drop n (drop 2 bs)) ∙ ap (λ (x : List ℕ). take n (drop 2 bs) ++ x) (drop-drop n 2 bs) in
      sym (take-append-drop 2 bs)
      ∙ ap (λ (x : List ℕ). take 2 bs ++ x) (e ∙ ap (λ (x : List ℕ). take n (drop 2 bs) ++ x) d)
      ∙ simp append_assoc

  pub front_laid : call_in_range version c call ≡ true → Laid version extension c (front_line version c bs) call
  front_laid k =
      let says : be (take 2 bs) ≡ length (call_part version bs) + length (answer_part version c bs) =
      at_front.says ∙ rw (call_long version c bs at_front, answer_long version c bs at_front) in
      record {
        two = length-take-le 2 bs (omega (arith, at_front.whole));
        counts = rw says;
        reads = tests.2;
        in_range = rw k;
        long = answer_long version c bs at_front;
        marks = rw tests.1;
      }

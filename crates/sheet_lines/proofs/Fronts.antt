-- The parts of the line at the front of a slice: where they lie, and what its first tests tell of them.
use mathlib.Core.Path.{◌≡◌, refl, sym, ap, ◌∙◌}
use Rattle.std.specs.Prelude.{Some, None}
use mathlib.Core.Bool.{Bool, true, false, cond}
use mathlib.Core.List.{List}
use Prim.Native.Nat.{ℕ, ◌+◌, ◌-◌, ◌≤◌}
use native.Mathlib.Omega.{arith}
use borrow.Author.Tests.{eqb-true, leb-true}
use lib.Dec.{leb, eqb}
use lib.ListN.{length, take, drop, get_or, length-drop}
use lib.Seq.{length-take-le, get_or-take, get_or-drop}
use Rattle.logic.proofs.Branch.{three_tests}
use Rattle.codec.specs.Bytes.{be_at}
use Rattle.card.specs.Extension.{Extension, has_floor}
use Rattle.card.specs.declared.Card.{Card}
use Rattle.sheet_calls.specs.Kinds.{kind_number}
use Rattle.sheet_calls.specs.Calls.{call_length, demand_class, call_by, call_of}
use Rattle.sheet_calls.proofs.CallLaws.{call_by_lem}
use Rattle.sheet_lines.specs.declared.front.LineHead.{LineHead}
use Rattle.sheet_lines.specs.Answers.{head_length, answer_length}
use Rattle.sheet_lines.specs.Lines.{line_length, line_size}
use Rattle.sheet_lines.specs.Front.{line_call_length, call_part, answer_part, following, head_ok, HeadNumbers, head_numbers, line_head}

pub size_is : (version : ℕ) (c : Card) (n : ℕ) → line_size version c n ≡ 2 + n + answer_length version c
unfolding line_size line_length
size_is version c n = omega arith

pub head_in_answer : (version : ℕ) (c : Card) → head_length version ≤ answer_length version c
unfolding answer_length
head_in_answer version c = omega arith

-- what head_ok tells
pub record Front (version : ℕ) (c : Card) (bs : List ℕ) : Type 0 where
  pub known : 1 ≤ line_call_length version bs
  pub whole : 2 + line_call_length version bs + answer_length version c ≤ length bs
  pub says : be_at bs 0 2 ≡ line_call_length version bs + answer_length version c

module _ (version : ℕ) (c : Card) (bs : List ℕ) where
  pub front : head_ok version c bs ≡ true → Front version c bs
  unfolding head_ok line_length
  front ok =
      let n = line_call_length version bs in
      let t = three_tests (leb 1 n) (leb (line_size version c n) (length bs)) (eqb (be_at bs 0 2) (n + answer_length version c)) ok in
      let w : line_size version c n ≤ length bs = leb-true (line_size version c n) (length bs) t.1 in
      record { known = leb-true 1 n t.0; whole = omega (arith, size_is version c n); says = eqb-true (be_at bs 0 2) (n + answer_length version c) t.2 }

  pub answer_long : Front version c bs → length (answer_part version c bs) ≡ answer_length version c
  unfolding answer_part
  answer_long f = length-take-le (answer_length version c) (drop (2 + line_call_length version bs) bs) (simp length-drop (omega (arith, f.whole)))

  pub call_long : Front version c bs → length (call_part version bs) ≡ line_call_length version bs
  unfolding call_part
  call_long f = length-take-le (line_call_length version bs) (drop 2 bs) (simp length-drop (omega (arith, f.whole)))

  -- the call's first byte is the line's kind, by which it is read
  kind_part : Front version c bs → get_or (call_part version bs) 0 0 ≡ get_or bs 2 0
  unfolding call_part
  kind_part f = get_or-take (line_call_length version bs) (drop 2 bs) 0 0 f.known ∙ get_or-drop 2 bs 0 0

  pub call_known : (extension : Extension) → Front version c bs
      → call_of version extension (call_part version bs) ≡ call_by version (get_or bs 2 0) (demand_class version extension.services (get_or bs 2 0) (call_part version bs)) (has_floor extension) (call_part version bs)
  call_known extension f =
      call_by_lem version extension (call_part version bs) (call_long f ∙ ap (call_length version) (sym (kind_part f)))
      ∙ ap (λ (k : ℕ). call_by version k (demand_class version extension.services k (call_part version bs)) (has_floor extension) (call_part version bs)) (kind_part f)

-- what a head in order tells: the line's parts are the slices that the code takes by it
pub record Headed (version : ℕ) (c : Card) (bs : List ℕ) (h : LineHead) : Type 0 where
  pub ok : head_ok version c bs ≡ true
  pub fits : Front version c bs
  pub kind_is : kind_number h.kind ≡ get_or bs 2 0
  pub inside : (2 + h.call ≤ h.size) × (h.size ≤ length bs)
  pub calls : take (2 + h.call - 2) (drop 2 bs) ≡ call_part version bs
  pub answers : take (h.size - (2 + h.call)) (drop (2 + h.call) bs) ≡ answer_part version c bs
  pub follows : drop h.size bs ≡ following version c bs

-- where the head is, it is in order
some_by : (t : Bool) (x h : HeadNumbers) → Some h ≡ cond t (Some x) None → (t ≡ true) × (h ≡ x)
some_by true x h e = (refl, cc)
some_by false x h e = let z : ◌≡◌ {A = ℕ} 0 1 = cc in absurd (omega arith)

none_by : (t : Bool) (x : HeadNumbers) → None ≡ cond t (Some x) None → t ≡ false
none_by true x e = let z : ◌≡◌ {A = ℕ} 0 1 = cc in absurd (omega arith)
none_by false x e = refl

module _ (version : ℕ) (c : Card) (bs : List ℕ) where
  pub headed : (h : LineHead) → head_numbers (Some h) ≡ line_head version c bs → Headed version c bs h
  unfolding line_head call_part answer_part following
  headed h e =
      let n = line_call_length version bs in
      let t = some_by (head_ok version c bs) _ _ e in
      let f = front version c bs t.0 in
      let k : kind_number h.kind ≡ get_or bs 2 0 = ap (λ (x : HeadNumbers). x.kind) t.1 in
      let l : h.call ≡ n = ap (λ (x : HeadNumbers). x.call) t.1 in
      let s : h.size ≡ line_size version c n = ap (λ (x : HeadNumbers). x.size) t.1 in
      let m : 2 + h.call - 2 ≡ n = omega arith in
      let r : h.size - (2 + h.call) ≡ answer_length version c = omega (arith, size_is version c n) in
      record {
        ok = t.0;
        fits = f;
        kind_is = k;
        inside = (omega (arith, size_is version c n), omega (arith, size_is version c n, f.whole));
        calls = rw m;
        answers = rw (r, l);
        follows = rw s;
      }

  pub head_none : None ≡ line_head version c bs → head_ok version c bs ≡ false
  unfolding line_head
  head_none e = none_by (head_ok version c bs) _ e

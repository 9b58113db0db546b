-- What each verdict on lines tells of them, for the auditor's own battery.
use Rattle.std.specs.Prelude.{None, Option, Some}
use mathlib.Core.Path.{◌≡◌, refl, sym, ap, ◌∙◌}
use mathlib.Core.List.{List, [], ◌∷◌, ◌++◌, append_assoc}
use mathlib.Core.Bool.{Bool, true, false, cond}
use Prim.Native.Nat.{ℕ, zero, suc, ◌+◌, ◌≤◌}
use native.Mathlib.Omega.{arith}
use borrow.Author.Tests.{eq-eqb, ne_eqb}
use lib.Ieee.{Float}
use lib.ListN.{length}
use Rattle.logic.proofs.Tests.{no_both}
use Rattle.card.specs.Extension.{Extension}
use Rattle.card.specs.declared.Card.{Card}
use Rattle.battery.specs.Call.{call_in_range}
use Rattle.battery.specs.declared.Battery.{Battery}
use Rattle.battery.specs.declared.Call.{Call}
use Rattle.battery.specs.declared.Answer.{Answer}
use Rattle.engine.specs.Steps.{step_of, advance_of}
use Rattle.sheet_lines.specs.Answers.{answer_at, agrees}
use Rattle.sheet_calls.proofs.CallLaws.{same_call, no_call}
use Rattle.auditor.specs.Verdicts.{Verdict, Accepted, Refused}
use Rattle.sheet_lines.specs.Front.{following, line_call, line_answer}
use Rattle.auditor.specs.Audit.{judge, audit_line, audit_from}
use Rattle.auditor.specs.Sheet.{Line, bytes_of, lines_bytes, Laid, steps_from}
use Rattle.auditor.specs.Cases.{NoLine}
use Rattle.auditor.proofs.Turns.{audit_none, audit_some, following_short}
use Rattle.auditor.proofs.Stepped.{Stepped}
use Rattle.auditor.proofs.LaidLines.{line_call_lem, front_line, front_joined, front_laid}
use Rattle.auditor.proofs.Walks.{Own, next_own, own_step, own_ten, not_ten}

-- after k lines: the lines of bs and the verdict v on them
pub data Told (same : Float → Float → Bool) (version : ℕ) (extension : Extension) (c : Card) (b : Battery) (k : ℕ) (bs : List ℕ) (v : Verdict) : Type 0 where
  whole : (ls : List Line) (calls : List Call) → bs ≡ lines_bytes ls → Stepped same version extension c b ls calls → v ≡ Accepted (k + length ls) → Told same version extension c b k bs v
  unlaid : (ls : List Line) (calls : List Call) (r : List ℕ) → bs ≡ lines_bytes ls ++ r → Stepped same version extension c b ls calls → 1 ≤ length r → NoLine version extension c r
      → v ≡ Refused 42 (k + length ls + 1) → Told same version extension c b k bs v
  differing : (ls : List Line) (calls : List Call) (l : Line) (call : Call) (r : List ℕ) → bs ≡ lines_bytes ls ++ (bytes_of l ++ r) → Stepped same version extension c b ls calls
      → Laid version extension c l call → agrees same (answer_at version c l.answer) (step_of version (steps_from version b calls) call) ≡ false
      → v ≡ Refused 43 (k + length ls + 1) → Told same version extension c b k bs v

-- a line is read wherever one is laid
laid_read : (version : ℕ) (extension : Extension) (c : Card) (bs : List ℕ) (l : Line) (call : Call) (r : List ℕ) → bs ≡ bytes_of l ++ r → Laid version extension c l call → line_call version extension c bs ≡ Some call
laid_read version extension c bs l call r e h = ap (line_call version extension c) e ∙ line_call_lem version extension c l call h r

pub no_line_bad : (version : ℕ) (extension : Extension) (c : Card) (bs : List ℕ) → line_call version extension c bs ≡ None → NoLine version extension c bs
no_line_bad version extension c bs n l call r e h = no_call (line_call version extension c bs) n (laid_read version extension c bs l call r e h)

pub no_line_range : (version : ℕ) (extension : Extension) (c : Card) (bs : List ℕ) (d : Call) → line_call version extension c bs ≡ Some d → call_in_range version c d ≡ false → NoLine version extension c bs
no_line_range version extension c bs d n o l call r e h =
    let s : d ≡ call = same_call (line_call version extension c bs) (laid_read version extension c bs l call r e h) n in
    no_both (sym h.in_range ∙ ap (call_in_range version c) (sym s) ∙ o)

told_at : (same : Float → Float → Bool) (version : ℕ) (extension : Extension) (c : Card) (b : Battery) (k : ℕ) (bs cs : List ℕ) (v w : Verdict) → bs ≡ cs → v ≡ w → Told same version extension c b k cs w → Told same version extension c b k bs v
told_at same version extension c b k bs cs v w e f t = rw (e, f) t

-- one line more in front
more : (same : Float → Float → Bool) (version : ℕ) (extension : Extension) (c : Card) (b : Battery) (k : ℕ) (l : Line) (call : Call) (t : List ℕ) (v : Verdict) → Laid version extension c l call
    → agrees same (answer_at version c l.answer) (step_of version b call) ≡ true → Told same version extension c (step_of version b call).battery (k + 1) t v
    → Told same version extension c b k (bytes_of l ++ t) v
unfolding steps_from
more same version extension c b k l call t v h a (whole ls calls e s w) =
    let m : k + 1 + length ls ≡ k + suc (length ls) = omega arith in
    whole (l ∷ ls) (call ∷ calls) (ap (λ (x : List ℕ). bytes_of l ++ x) e) (h, a, s) (w ∙ ap Accepted m)
more same version extension c b k l call t v h a (unlaid ls calls r e s some none w) =
    let m : k + 1 + length ls + 1 ≡ k + suc (length ls) + 1 = omega arith in
    unlaid (l ∷ ls) (call ∷ calls) r (ap (λ (x : List ℕ). bytes_of l ++ x) e ∙ sym (append_assoc (bytes_of l) (lines_bytes ls) r)) (h, a, s) some none (w ∙ ap (Refused 42) m)
more same version extension c b k l call t v h a (differing ls calls l₂ call₂ r e s laid d w) =
    let m : k + 1 + length ls + 1 ≡ k + suc (length ls) + 1 = omega arith in
    differing (l ∷ ls) (call ∷ calls) l₂ call₂ r (ap (λ (x : List ℕ). bytes_of l ++ x) e ∙ sym (append_assoc (bytes_of l) (lines_bytes ls) (bytes_of l₂ ++ r))) (h, a, s) laid d
    (w ∙ ap (Refused 43) m)

module _ (same : Float → Float → Bool) (version : ℕ) (extension : Extension) (c : Card) (b : Battery) (o : Own version c b) (k : ℕ) (bs : List ℕ) (some : 1 ≤ length bs) (v : Verdict) (go : Battery → Verdict)
    (next : (x : Battery) → Own version c x → Told same version extension c x (k + 1) (following version c bs) (go x)) where
  abbrev seen : Answer
  seen = line_answer version c bs

  at_front : k + 1 ≡ k + 0 + 1
  at_front = omega arith

  by_agreement : (call : Call) → line_call version extension c bs ≡ Some call → call_in_range version c call ≡ true → (t : Bool) → agrees same seen (step_of version b call) ≡ t
      → v ≡ cond t (go (step_of version b call).battery) (Refused 43 (k + 1)) → Told same version extension c b k bs v
  unfolding steps_from
  by_agreement call e i true a w =
      told_at same version extension c b k bs (bytes_of (front_line version c bs) ++ following version c bs) v (go (step_of version b call).battery) (front_joined version extension c bs call e) w
      (more same version extension c b k (front_line version c bs) call (following version c bs) (go (step_of version b call).battery) (front_laid version extension c bs call e i) a
      (next (step_of version b call).battery (next_own version c b o call)))
  by_agreement call e i false a w =
      differing [] [] (front_line version c bs) call (following version c bs) (front_joined version extension c bs call e) tt (front_laid version extension c bs call e i) a (w ∙ ap (Refused 43) at_front)

  by_range : (call : Call) → line_call version extension c bs ≡ Some call → (t : Bool) → call_in_range version c call ≡ t → v ≡ judge same k seen (advance_of version b call) go
      → Told same version extension c b k bs v
  unfolding judge steps_from
  by_range call e true i w =
      let s = step_of version b call in
      by_agreement call e i (agrees same seen s) refl (w ∙ rw (own_step version c b o call i, ne_eqb s.refusal 10 (not_ten version c b o call)))
  by_range call e false i w =
      unlaid [] [] bs refl tt some (no_line_range version extension c bs call e i) (w ∙ rw (eq-eqb (advance_of version b call).refusal 10 (own_ten version c b o call i)) (ap (Refused 42) at_front))

  by_call : (r : Option Call) → line_call version extension c bs ≡ r → v ≡ audit_line same version b k seen r go → Told same version extension c b k bs v
  unfolding audit_line
  by_call None e w = unlaid [] [] bs refl tt some (no_line_bad version extension c bs e) (w ∙ ap (Refused 42) at_front)
  by_call (Some call) e w = by_range call e (call_in_range version c call) refl w

none_told : (same : Float → Float → Bool) (version : ℕ) (extension : Extension) (c : Card) (most : ℕ) (b : Battery) (k : ℕ) → Told same version extension c b k [] (audit_from same version extension c most b k [])
none_told same version extension c most b k =
    let m : k ≡ k + 0 = omega arith in
    whole [] [] refl tt (audit_none same version extension c most b k ∙ ap Accepted m)

abbrev Tells : (Float → Float → Bool) → ℕ → Extension → Card → ℕ → Type 0
Tells same version extension c most = (b : Battery) (k : ℕ) (bs : List ℕ) → Own version c b → length bs ≤ most → Told same version extension c b k bs (audit_from same version extension c most b k bs)

tells_more : (same : Float → Float → Bool) (version : ℕ) (extension : Extension) (c : Card) (most : ℕ) → Tells same version extension c most → Tells same version extension c (suc most)
tells_more same version extension c most ih b k [] o h = none_told same version extension c (suc most) b k
tells_more same version extension c most ih b k (x ∷ t) o h =
    let bs = x ∷ t in
    let less : length (following version c bs) ≤ most = omega (arith, following_short version c bs) in
    by_call same version extension c b o k bs (omega arith) (audit_from same version extension c (suc most) b k bs) (λ next. audit_from same version extension c most next (k + 1) (following version c bs))
    (λ y p. ih y (k + 1) (following version c bs) p less) (line_call version extension c bs) refl (audit_some same version extension c most b k bs (omega arith))

tells_none : (same : Float → Float → Bool) (version : ℕ) (extension : Extension) (c : Card) → Tells same version extension c zero
tells_none same version extension c b k [] o h = none_told same version extension c zero b k
tells_none same version extension c b k (x ∷ t) o h = absurd (omega arith)

pub told : (same : Float → Float → Bool) (version : ℕ) (extension : Extension) (c : Card) (most : ℕ) → Tells same version extension c most
told same version extension c zero = tells_none same version extension c
told same version extension c (suc most) = tells_more same version extension c most (told same version extension c most)

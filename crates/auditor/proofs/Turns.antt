-- One turn of the walk over the lines.
use mathlib.Core.Path.{◌≡◌, refl, sym, ap, ◌∙◌}
use mathlib.Core.List.{List, [], ◌∷◌}
use Rattle.std.specs.Prelude.{None, Some}
use mathlib.Core.Bool.{Bool, true, false}
use Prim.Native.Nat.{ℕ, zero, suc, ◌+◌, ◌-◌, ◌≤◌, ◌<◌}
use native.Mathlib.Omega.{arith}
use borrow.Author.Tests.{eq-eqb, ne_eqb, eqb-true, eqb-false}
use lib.Dec.{eqb}
use lib.Ieee.{Float}
use lib.ListN.{length, take, drop, length-drop}
use lib.Seq.{take_all}
use Rattle.card.specs.Extension.{Extension}
use Rattle.card.specs.declared.Card.{Card}
use Rattle.battery.specs.declared.Battery.{Battery}
use Rattle.battery.specs.declared.Call.{Call}
use Rattle.battery.specs.declared.Answer.{Answer}
use Rattle.engine.specs.Steps.{advance_of}
use Rattle.sheet_lines.specs.Answers.{agrees}
use Rattle.auditor.specs.Verdicts.{Verdict, Accepted, Refused}
use Rattle.sheet_lines.specs.Front.{line_call_length, following, head_numbers, line_head, line_call, line_answer}
use Rattle.auditor.specs.Audit.{judge, audit_line, audit_from}
use Rattle.sheet_lines.proofs.Fronts.{size_is, head_none}

pub audit_none : (same : Float → Float → Bool) (version : ℕ) (extension : Extension) (c : Card) (most : ℕ) (b : Battery) (k : ℕ) → audit_from same version extension c most b k [] ≡ Accepted k
unfolding audit_from
audit_none same version extension c zero b k = refl
audit_none same version extension c (suc most) b k = refl

pub audit_some : (same : Float → Float → Bool) (version : ℕ) (extension : Extension) (c : Card) (most : ℕ) (b : Battery) (k : ℕ) (bs : List ℕ) → 1 ≤ length bs
    → audit_from same version extension c (suc most) b k bs
    ≡ audit_line same version b k (line_answer version c bs) (line_call version extension c bs) (λ next. audit_from same version extension c most next (k + 1) (following version c bs))
unfolding audit_from
audit_some same version extension c most b k [] h = absurd (omega arith)
audit_some same version extension c most b k (x ∷ bs) h = refl

pub following_short : (version : ℕ) (c : Card) (bs : List ℕ) → length (following version c bs) ≤ length bs - 2
unfolding following
following_short version c bs = simp length-drop (omega (arith, size_is version c (line_call_length version bs)))

-- the lines from t on, of which there are at most so many, give the verdict v
pub record From (same : Float → Float → Bool) (version : ℕ) (extension : Extension) (c : Card) (b : Battery) (k : ℕ) (t : List ℕ) (v : Verdict) : Type 0 where
  pub most : ℕ
  pub enough : length t ≤ most
  pub gives : v ≡ audit_from same version extension c most b k t

module _ (same : Float → Float → Bool) (version : ℕ) (extension : Extension) (c : Card) (b : Battery) (k : ℕ) (t : List ℕ) (v : Verdict) (some : 1 ≤ length t) (h : From same version extension c b k t v) where
  line : v ≡ audit_line same version b k (line_answer version c t) (line_call version extension c t) (λ next. audit_from same version extension c (h.most - 1) next (k + 1) (following version c t))
  line =
      let e : h.most ≡ suc (h.most - 1) = omega (arith, h.enough) in
      h.gives ∙ ap (λ (m : ℕ). audit_from same version extension c m b k t) e ∙ audit_some same version extension c (h.most - 1) b k t some

  pub turn_bad : line_call version extension c t ≡ None → v ≡ Refused 42 (k + 1)
  unfolding audit_line
  turn_bad e = line ∙ rw e

  module _ (call : Call) (e : line_call version extension c t ≡ Some call) (own : Answer) (o : own ≡ advance_of version b call) where
    judged : v ≡ judge same k (line_answer version c t) own (λ next. audit_from same version extension c (h.most - 1) next (k + 1) (following version c t))
    unfolding audit_line
    judged = line ∙ rw (e, o)

    pub turn_out : own.refusal ≡ 10 → v ≡ Refused 42 (k + 1)
    unfolding judge
    turn_out r = judged ∙ rw (eq-eqb own.refusal 10 r)

    pub turn_differs : (own.refusal ≡ 10 → ⊥) → agrees same (line_answer version c t) own ≡ false → v ≡ Refused 43 (k + 1)
    unfolding judge
    turn_differs r d = judged ∙ rw (ne_eqb own.refusal 10 r, d)

    pub turn_next : (own.refusal ≡ 10 → ⊥) → agrees same (line_answer version c t) own ≡ true → From same version extension c own.battery (k + 1) (following version c t) v
    unfolding judge
    turn_next r d =
        record {
          most = h.most - 1;
          enough = omega (arith, h.enough, following_short version c t);
          gives = judged ∙ rw (ne_eqb own.refusal 10 r, d);
        }

pub at_end : (same : Float → Float → Bool) (version : ℕ) (extension : Extension) (c : Card) (b : Battery) (k : ℕ) (t : List ℕ) (v : Verdict) → length t ≡ 0 → From same version extension c b k t v → v ≡ Accepted k
at_end same version extension c b k [] v z h = h.gives ∙ audit_none same version extension c h.most b k
at_end same version extension c b k (x ∷ t) v z h = absurd (omega arith)

-- a line without a head has no call
pub no_head : (version : ℕ) (extension : Extension) (c : Card) (bs : List ℕ) → head_numbers None ≡ line_head version c bs → line_call version extension c bs ≡ None
unfolding line_call
no_head version extension c bs e = rw (head_none version c bs e)

-- a slice with something left in it, and one without
pub some_left : (t : List ℕ) (empty : Bool) → empty ≡ eqb (length t) 0 → empty ≡ false → 1 ≤ length t
some_left t empty e h = let n = eqb-false (length t) 0 (sym e ∙ h) in omega (arith, n)

pub none_left : (t : List ℕ) (empty : Bool) → empty ≡ eqb (length t) 0 → empty ≡ true → length t ≡ 0
none_left t empty e h = eqb-true (length t) 0 (sym e ∙ h)

-- the rest of a slice, as the code takes it
pub rest_of : (t : List ℕ) (r : ℕ) → take (length t - r) (drop r t) ≡ drop r t
rest_of t r = take_all (length t - r) (drop r t) (simp length-drop (omega arith))

pub rest_less : (t : List ℕ) (r : ℕ) → 1 ≤ r → r ≤ length t → length (take (length t - r) (drop r t)) < length t
rest_less t r h k = rw rest_of (simp length-drop (omega arith))

-- what the loop keeps
abbrev pub Walked : (Float → Float → Bool) → ℕ → Extension → Card → List ℕ → Verdict → Battery → ℕ → List ℕ → Type 0
Walked same version extension c s v b k t = (k + length t ≤ length s) × From same version extension c b k t v

pub walked_on : (same : Float → Float → Bool) (version : ℕ) (extension : Extension) (c : Card) (s t : List ℕ) (v : Verdict) (b next : Battery) (k r : ℕ) → Walked same version extension c s v b k t
    → 1 ≤ r → r ≤ length t → drop r t ≡ following version c t → From same version extension c next (k + 1) (following version c t) v
    → Walked same version extension c s v next (k + 1) (take (length t - r) (drop r t))
walked_on same version extension c s t v b next k r w low high d f =
    let l : length (take (length t - r) (drop r t)) < length t = rest_less t r low high in
    (omega (arith, w.0), rw (rest_of t r, d) f)

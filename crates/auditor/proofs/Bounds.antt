-- A verdict's index is at most the sheet's length.
use Rattle.std.specs.Prelude.{None, Option, Some}
use mathlib.Core.Path.{◌≡◌, refl}
use mathlib.Core.List.{List, [], ◌∷◌}
use mathlib.Core.Bool.{Bool, true, false, cond}
use Prim.Native.Nat.{ℕ, zero, suc, ◌+◌, ◌≤◌}
use native.Mathlib.Omega.{arith}
use lib.Dec.{ltb, eqb}
use lib.ListN.{length, get_or, length-drop}
use lib.Ieee.{Float}
use Rattle.card.specs.Version.{known_version}
use borrow.Author.Tests.{ltb-false}
use Rattle.card.specs.Extension.{Extension}
use Rattle.card.specs.declared.Card.{Card}
use Rattle.battery.specs.Battery.{fresh}
use Rattle.battery.specs.declared.Battery.{Battery}
use Rattle.battery.specs.declared.Answer.{Answer}
use Rattle.engine.specs.Steps.{advance_of}
use Rattle.sheet_records.specs.Cards.{card_at, extension_at}
use Rattle.sheet_lines.specs.Answers.{agrees}
use Rattle.auditor.specs.Verdicts.{Verdict, Accepted, Refused}
use Rattle.sheet_lines.specs.Front.{following, line_call, line_answer}
use Rattle.auditor.specs.Audit.{limit, judge, audit_line, audit_from, audit_lines, audit_card, card_part, lines_part, card_line_ok, audit_of, limited_audit_of}
use Rattle.auditor.specs.Rules.{Rules}
use Rattle.auditor.specs.Bound.{IndexAtMost}
use Rattle.auditor.proofs.Turns.{following_short}
use Rattle.battery.specs.declared.Call.{Call}

most_more : (m p : ℕ) (v : Verdict) → m ≤ p → IndexAtMost m v → IndexAtMost p v
most_more m p (Accepted n) h s = omega arith
most_more m p (Refused r k) h s = omega arith

most_line : (same : Float → Float → Bool) (version : ℕ) (b : Battery) (k m : ℕ) (seen : Answer) (r : Option Call) (go : Battery → Verdict) → k + 1 ≤ m → ((next : Battery) → IndexAtMost m (go next))
    → IndexAtMost m (audit_line same version b k seen r go)
unfolding audit_line judge
most_line same version b k m seen None go h s = h
most_line same version b k m seen (Some call) go h s = on (eqb own.refusal 10) (agrees same seen own)
  where
    own : Answer
    own = advance_of version b call

    on : (t u : Bool) → IndexAtMost m (cond t (Refused 42 (k + 1)) (cond u (go own.battery) (Refused 43 (k + 1))))
    on true u = h
    on false true = s own.battery
    on false false = h

most_from : (same : Float → Float → Bool) (version : ℕ) (extension : Extension) (c : Card) (most : ℕ) (b : Battery) (k : ℕ) (bs : List ℕ) → IndexAtMost (k + length bs) (audit_from same version extension c most b k bs)
unfolding audit_from
most_from same version extension c zero b k bs = omega arith
most_from same version extension c (suc most) b k bs = on bs (λ next t. most_from same version extension c most next (k + 1) t)
  where
    on : (t : List ℕ) → ((next : Battery) (u : List ℕ) → IndexAtMost (k + 1 + length u) (audit_from same version extension c most next (k + 1) u))
        → IndexAtMost (k + length t) (audit_from same version extension c (suc most) b k t)
    on [] ih = omega arith
    on (x ∷ t) ih =
        let r = following version c (x ∷ t) in
        most_line same version b k (k + suc (length t)) (line_answer version c (x ∷ t)) (line_call version extension c (x ∷ t)) (λ next. audit_from same version extension c most next (k + 1) r) (omega arith)
        (λ next. most_more (k + 1 + length r) (k + suc (length t)) (audit_from same version extension c most next (k + 1) r) (omega (arith, following_short version c (x ∷ t))) (ih next r))

pub most_audit : (rules : Rules) (bs : List ℕ) → IndexAtMost (length bs) (audit_of rules bs)
unfolding audit_of audit_card audit_lines
most_audit rules bs = on (known_version version) (card_line_ok version bs) (rules.test version c)
  where
    version : ℕ
    version = get_or bs 0 0

    extension : Extension
    extension = extension_at version (card_part version bs)

    c : Card
    c = card_at version (card_part version bs)

    t : List ℕ
    t = lines_part version bs

    v : Verdict
    v = audit_from rules.same version extension c (length t) (fresh c) 0 t

    on : (p q r : Bool) → IndexAtMost (length bs) (cond p (cond q (cond r v (Refused 70 0)) (Refused 41 0)) (Refused 40 0))
    on false q r = omega arith
    on true false r = omega arith
    on true true false = omega arith
    on true true true = most_more (0 + length t) (length bs) v (simp length-drop (omega arith)) (most_from rules.same version extension c (length t) (fresh c) 0 t)

pub most_limited : (rules : Rules) (bs : List ℕ) → IndexAtMost limit (limited_audit_of rules bs)
unfolding limited_audit_of
most_limited rules bs = on (ltb limit (length bs)) (ltb-false limit (length bs))
  where
    on : (t : Bool) → (t ≡ false → length bs ≤ limit) → IndexAtMost limit (cond t (Refused 44 0) (audit_of rules bs))
    on true h = omega arith
    on false h = most_more (length bs) limit (audit_of rules bs) (h refl) (most_audit rules bs)

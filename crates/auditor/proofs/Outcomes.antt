-- Every sheet of bytes is in one of six cases, and the audit's verdict is that case's.
use mathlib.Core.Path.{◌≡◌, refl, sym, ap, ◌∙◌}
use mathlib.Core.List.{List, [], ◌∷◌, ◌++◌, append_assoc}
use mathlib.Core.Bool.{Bool, true, false}
use Prim.Native.Nat.{ℕ, ◌+◌}
use native.Mathlib.Omega.{arith}
use lib.ListN.{length, get_or}
use Rattle.logic.proofs.Tests.{no_both}
use Rattle.card.specs.Version.{known_version}
use Rattle.card.specs.Extension.{Extension}
use Rattle.card.specs.declared.Card.{Card}
use Rattle.battery.specs.Battery.{fresh}
use Rattle.battery.specs.declared.Call.{Call}
use Rattle.sheet_records.specs.Cards.{card_at, extension_at}
use Rattle.auditor.specs.Verdicts.{Verdict, Accepted, Refused}
use Rattle.auditor.specs.Rules.{Rules}
use Rattle.auditor.specs.Audit.{card_line_ok, audit_from, audit_lines, audit_card, audit_of}
use Rattle.auditor.specs.Sheet.{Line, bytes_of, lines_bytes, steps_from, expected, Sheet}
use Rattle.auditor.specs.Cases.{NoVersion, Opened, NoCard, CardNotTaken, BadLine, Disagrees}
use Rattle.auditor.proofs.Stepped.{Stepped, all_laid, all_agree}
use Rattle.auditor.proofs.Verdicts.{Told, whole, unlaid, differing, told}
use Rattle.auditor.proofs.Opened.{fresh_own, audit_opened, opened_ok, opened, starts_known}

pub data Outcome (rules : Rules) (bs : List ℕ) (v : Verdict) : Type 0 where
  no_version_lem : NoVersion bs → v ≡ Refused 40 0 → Outcome rules bs v
  no_card : NoCard bs → v ≡ Refused 41 0 → Outcome rules bs v
  not_taken : CardNotTaken rules bs → v ≡ Refused 70 0 → Outcome rules bs v
  a_sheet : (n : ℕ) → Sheet rules bs n → v ≡ Accepted n → Outcome rules bs v
  bad_line_lem : (k : ℕ) → BadLine rules bs k → v ≡ Refused 42 (k + 1) → Outcome rules bs v
  disagrees : (k : ℕ) → Disagrees rules bs k → v ≡ Refused 43 (k + 1) → Outcome rules bs v

-- the card of an opening, and its extension
abbrev extension_of : (bs : List ℕ) → Opened bs → Extension
extension_of bs o = extension_at o.version o.card

abbrev card_of : (bs : List ℕ) → Opened bs → Card
card_of bs o = card_at o.version o.card

-- lines after line 0 that are laid and agree make a sheet
module _ (rules : Rules) (bs : List ℕ) (o : Opened bs) (taken : rules.test o.version (card_of bs o) ≡ true) (ls : List Line) (calls : List Call)
    (s : Stepped rules.same o.version (extension_of bs o) (card_of bs o) (fresh (card_of bs o)) ls calls) where
  abbrev up_to : List ℕ
  up_to = o.version ∷ (o.head ++ (o.card ++ lines_bytes ls))

  pub made : Sheet rules up_to (length ls)
  unfolding steps_from
  made =
      record {
        version = o.version;
        card = o.card;
        lines = ls;
        calls = calls;
        layout =
            record {
              known = rw o.known;
              head = o.head;
              bytes = refl;
              two = o.two;
              counts = o.counts;
              long = o.long;
              laid = all_laid rules.same o.version (extension_of bs o) (card_of bs o) (fresh (card_of bs o)) ls calls s;
            };
        accepted = o.accepted;
        passes = taken;
        agreed = all_agree rules.same o.version (extension_of bs o) (card_of bs o) [] (fresh (card_of bs o)) ls calls refl s;
        count = refl;
      }

  pub joins : (r : List ℕ) → o.rest ≡ lines_bytes ls ++ r → bs ≡ up_to ++ r
  joins r e = o.bytes ∙ ap (λ (x : List ℕ). o.version ∷ (o.head ++ (o.card ++ x))) e ∙ simp append_assoc

from_none : (n : ℕ) → 0 + n ≡ n
from_none n = omega arith

-- the verdict on the lines after line 0
by_lines : (rules : Rules) (bs : List ℕ) (o : Opened bs) → rules.test o.version (card_of bs o) ≡ true → (v : Verdict)
    → Told rules.same o.version (extension_of bs o) (card_of bs o) (fresh (card_of bs o)) 0 o.rest v → Outcome rules bs v
unfolding expected made steps_from
by_lines rules bs o t v (whole ls calls e s w) =
    let j : bs ≡ up_to rules bs o t ls calls s = o.bytes ∙ ap (λ (x : List ℕ). o.version ∷ (o.head ++ (o.card ++ x))) e in
    a_sheet (length ls) (rw j (made rules bs o t ls calls s)) (w ∙ ap Accepted (from_none (length ls)))
by_lines rules bs o t v (unlaid ls calls r e s some none w) =
    bad_line_lem (length ls)
    (record { front = up_to rules bs o t ls calls s; rest = r; bytes = joins rules bs o t ls calls s r e; some = some; sheet = made rules bs o t ls calls s; none = none })
    (w ∙ ap (λ (n : ℕ). Refused 42 (n + 1)) (from_none (length ls)))
by_lines rules bs o t v (differing ls calls l call r e s laid d w) =
    disagrees (length ls)
    (record {
      front = up_to rules bs o t ls calls s;
      line = l;
      rest = r;
      bytes = joins rules bs o t ls calls s (bytes_of l ++ r) e;
      sheet = made rules bs o t ls calls s;
      call = call;
      laid = laid;
      differs = d;
    })
    (w ∙ ap (λ (n : ℕ). Refused 43 (n + 1)) (from_none (length ls)))

pub card_taken : (rules : Rules) (version : ℕ) (extension : Extension) (c : Card) (t : List ℕ) → rules.test version c ≡ true
    → audit_card rules version extension c t ≡ audit_from rules.same version extension c (length t) (fresh c) 0 t
unfolding audit_card audit_lines
card_taken rules version extension c t h = rw h

pub refused_version : (rules : Rules) (bs : List ℕ) → known_version (get_or bs 0 0) ≡ false → audit_of rules bs ≡ Refused 40 0
unfolding audit_of
refused_version rules bs e = rw e

pub refused_card : (rules : Rules) (bs : List ℕ) → known_version (get_or bs 0 0) ≡ true → card_line_ok (get_or bs 0 0) bs ≡ false → audit_of rules bs ≡ Refused 41 0
unfolding audit_of
refused_card rules bs known k = rw (known, k)

pub refused_taking : (rules : Rules) (bs : List ℕ) → CardNotTaken rules bs → audit_of rules bs ≡ Refused 70 0
unfolding audit_card
refused_taking rules bs h = audit_opened rules bs h.opened ∙ rw h.fails

pub outcome : (rules : Rules) (bs : List ℕ) → Outcome rules bs (audit_of rules bs)
outcome rules bs = by_version (known_version (get_or bs 0 0)) refl
  where
    by_test : (o : Opened bs) (t : Bool) → rules.test o.version (card_of bs o) ≡ t → Outcome rules bs (audit_of rules bs)
    by_test o true t =
        let extension = extension_of bs o in
        let c = card_of bs o in
        by_lines rules bs o t (audit_of rules bs)
        (rw (audit_opened rules bs o, card_taken rules o.version extension c o.rest t)
        (told rules.same o.version extension c (length o.rest) (fresh c) 0 o.rest (fresh_own o.version o.card o.accepted) (omega arith)))
    by_test o false t = let h : CardNotTaken rules bs = record { opened = o; fails = t } in not_taken h (refused_taking rules bs h)

    by_card : known_version (get_or bs 0 0) ≡ true → (t : Bool) → card_line_ok (get_or bs 0 0) bs ≡ t → Outcome rules bs (audit_of rules bs)
    by_card known true k = let o = opened bs known k in by_test o (rules.test o.version (card_of bs o)) refl
    by_card known false k =
        let r = starts_known bs known in
        no_card (record { version = get_or bs 0 0; known = known; rest = r.0; bytes = r.1; unopened = λ o. no_both (sym (opened_ok bs o) ∙ k) }) (refused_card rules bs known k)

    by_version : (t : Bool) → known_version (get_or bs 0 0) ≡ t → Outcome rules bs (audit_of rules bs)
    by_version true e = by_card e (card_line_ok (get_or bs 0 0) bs) refl
    by_version false e =
        no_version_lem (λ version rest known b. no_both (sym known ∙ sym (ap (λ (x : List ℕ). known_version (get_or x 0 0)) b) ∙ e)) (refused_version rules bs e)

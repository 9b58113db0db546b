-- 'Each is given only in its case': 40 to 43 and 70 by the auditor, 44 by the program and the C audit.
use mathlib.Core.Path.{◌≡◌, refl, ap, ◌∙◌}
use mathlib.Core.List.{List, [], ◌∷◌, ◌++◌, append_assoc}
use mathlib.Core.Bool.{Bool, true, false, cond}
use mathlib.Core.Logic.{◌↔◌, inl, inr}
use Prim.Native.Nat.{ℕ, suc, ◌+◌, ◌-◌, ◌≤◌, ◌<◌}
use native.Mathlib.Omega.{arith}
use borrow.Author.Tests.{ne_eqb, ltb-true, lt-ltb, le-ltb}
use lib.Dec.{ltb}
use lib.ListN.{length, get_or}
use lib.Ieee.{Float}
use Rattle.card.specs.Version.{known_version}
use Rattle.card.proofs.Versions.{zero_unknown}
use Rattle.card.specs.Extension.{Extension}
use Rattle.card.specs.declared.Card.{Card}
use Rattle.battery.specs.Battery.{fresh}
use Rattle.battery.specs.declared.Battery.{Battery}
use Rattle.engine.specs.Steps.{step_of}
use Rattle.sheet_records.specs.Cards.{card_at, extension_at}
use Rattle.auditor.specs.Verdicts.{Verdict, Refused}
use Rattle.auditor.specs.Rules.{Rules, plain}
use Rattle.auditor.specs.Audit.{card_line_ok, judge, audit_from, audit_of, limit, limited_audit_of}
use Rattle.auditor.specs.Sheet.{bytes_of, lines_bytes, steps_from, expected}
use Rattle.auditor.specs.Cases.{NoVersion, NoCard, CardNotTaken, NoLine, BadLine, Disagrees, Known, KnownBy}
use Rattle.auditor.proofs.Walks.{not_ten, one_line, own_after}
use Rattle.auditor.proofs.LaidLines.{line_long}
use Rattle.auditor.proofs.Verdicts.{Told, whole, unlaid, differing, told}
use Rattle.auditor.proofs.Opened.{fresh_own, opened}
use Rattle.auditor.proofs.Outcomes.{Outcome, no_version_lem, no_card, not_taken, a_sheet, bad_line_lem, disagrees, outcome, refused_version, refused_card, refused_taking}
use Rattle.auditor.proofs.Exact.{not_refused, sheet_walk}

-- a refusal is one refusal only
same_number_lem : (v : Verdict) (r i s j : ℕ) → v ≡ Refused r i → v ≡ Refused s j → r ≡ s
same_number_lem v r i s j e f = cc

same_index : (v : Verdict) (r i s j : ℕ) → v ≡ Refused r i → v ≡ Refused s j → i ≡ j
same_index v r i s j e f = cc

other_number : {A : Type 0} (v : Verdict) (r i s j : ℕ) → (r ≡ s → ⊥) → v ≡ Refused r i → v ≡ Refused s j → A
other_number v r i s j n e f = absurd (n (same_number_lem v r i s j e f))

-- ---- 40

in_40 : (rules : Rules) (bs : List ℕ) → Outcome rules bs (audit_of rules bs) → audit_of rules bs ≡ Refused 40 0 → NoVersion bs
in_40 rules bs (no_version_lem h e) a = h
in_40 rules bs (no_card h e) a = other_number (audit_of rules bs) 41 0 40 0 (λ z. omega arith) e a
in_40 rules bs (not_taken h e) a = other_number (audit_of rules bs) 70 0 40 0 (λ z. omega arith) e a
in_40 rules bs (a_sheet n h e) a = not_refused (audit_of rules bs) a e
in_40 rules bs (bad_line_lem k h e) a = other_number (audit_of rules bs) 42 (k + 1) 40 0 (λ z. omega arith) e a
in_40 rules bs (disagrees k h e) a = other_number (audit_of rules bs) 43 (k + 1) 40 0 (λ z. omega arith) e a

unknown : (bs : List ℕ) → NoVersion bs → known_version (get_or bs 0 0) ≡ false
unknown [] h = zero_unknown
unknown (x ∷ t) h = on (known_version x) refl
  where
    on : (known : Bool) → known_version x ≡ known → known_version x ≡ false
    on true e = absurd (h x t e refl)
    on false e = e

pub refused_40 : (rules : Rules) (bs : List ℕ) → (audit_of rules bs ≡ Refused 40 0) ↔ NoVersion bs
refused_40 rules bs = (in_40 rules bs (outcome rules bs), λ h. refused_version rules bs (unknown bs h))

-- ---- 41

in_41 : (rules : Rules) (bs : List ℕ) → Outcome rules bs (audit_of rules bs) → audit_of rules bs ≡ Refused 41 0 → NoCard bs
in_41 rules bs (no_version_lem h e) a = other_number (audit_of rules bs) 40 0 41 0 (λ z. omega arith) e a
in_41 rules bs (no_card h e) a = h
in_41 rules bs (not_taken h e) a = other_number (audit_of rules bs) 70 0 41 0 (λ z. omega arith) e a
in_41 rules bs (a_sheet n h e) a = not_refused (audit_of rules bs) a e
in_41 rules bs (bad_line_lem k h e) a = other_number (audit_of rules bs) 42 (k + 1) 41 0 (λ z. omega arith) e a
in_41 rules bs (disagrees k h e) a = other_number (audit_of rules bs) 43 (k + 1) 41 0 (λ z. omega arith) e a

no_opening : (rules : Rules) (bs : List ℕ) → NoCard bs → audit_of rules bs ≡ Refused 41 0
no_opening rules bs h = on (card_line_ok (get_or bs 0 0) bs) refl
  where
    known : known_version (get_or bs 0 0) ≡ true
    known = ap (λ (x : List ℕ). known_version (get_or x 0 0)) h.bytes ∙ h.known

    on : (t : Bool) → card_line_ok (get_or bs 0 0) bs ≡ t → audit_of rules bs ≡ Refused 41 0
    on true k = absurd (h.unopened (opened bs known k))
    on false k = refused_card rules bs known k

pub refused_41 : (rules : Rules) (bs : List ℕ) → (audit_of rules bs ≡ Refused 41 0) ↔ NoCard bs
refused_41 rules bs = (in_41 rules bs (outcome rules bs), no_opening rules bs)

-- ---- 70

in_70 : (rules : Rules) (bs : List ℕ) → Outcome rules bs (audit_of rules bs) → audit_of rules bs ≡ Refused 70 0 → CardNotTaken rules bs
in_70 rules bs (no_version_lem h e) a = other_number (audit_of rules bs) 40 0 70 0 (λ z. omega arith) e a
in_70 rules bs (no_card h e) a = other_number (audit_of rules bs) 41 0 70 0 (λ z. omega arith) e a
in_70 rules bs (not_taken h e) a = h
in_70 rules bs (a_sheet n h e) a = not_refused (audit_of rules bs) a e
in_70 rules bs (bad_line_lem k h e) a = other_number (audit_of rules bs) 42 (k + 1) 70 0 (λ z. omega arith) e a
in_70 rules bs (disagrees k h e) a = other_number (audit_of rules bs) 43 (k + 1) 70 0 (λ z. omega arith) e a

pub refused_70 : (rules : Rules) (bs : List ℕ) → (audit_of rules bs ≡ Refused 70 0) ↔ CardNotTaken rules bs
refused_70 rules bs = (in_70 rules bs (outcome rules bs), refused_taking rules bs)

-- ---- 42

in_42 : (rules : Rules) (bs : List ℕ) (k : ℕ) → Outcome rules bs (audit_of rules bs) → audit_of rules bs ≡ Refused 42 (k + 1) → BadLine rules bs k
in_42 rules bs k (no_version_lem h e) a = other_number (audit_of rules bs) 40 0 42 (k + 1) (λ z. omega arith) e a
in_42 rules bs k (no_card h e) a = other_number (audit_of rules bs) 41 0 42 (k + 1) (λ z. omega arith) e a
in_42 rules bs k (not_taken h e) a = other_number (audit_of rules bs) 70 0 42 (k + 1) (λ z. omega arith) e a
in_42 rules bs k (a_sheet n h e) a = not_refused (audit_of rules bs) a e
in_42 rules bs k (bad_line_lem m h e) a =
    let z = same_index (audit_of rules bs) 42 (m + 1) 42 (k + 1) e a in
    let s : m ≡ k = omega arith in
    rw s at h
in_42 rules bs k (disagrees m h e) a = other_number (audit_of rules bs) 43 (m + 1) 42 (k + 1) (λ z. omega arith) e a

module _ (same : Float → Float → Bool) (version : ℕ) (extension : Extension) (c : Card) (b : Battery) (k : ℕ) (r : List ℕ) (v : Verdict) (some : 1 ≤ length r) (none : NoLine version extension c r) where
  -- where no line stands, the verdict is 42
  none_told : Told same version extension c b k r v → v ≡ Refused 42 (k + 1)
  none_told (whole [] calls e s w) = absurd (omega (arith, some, ap length e))
  none_told (whole (l ∷ ls) [] e s w) = absurd s
  none_told (whole (l ∷ ls) (call ∷ calls) e s w) = absurd (none l call (lines_bytes ls) e s.0)
  none_told (unlaid [] calls t e s u n w) =
      let z : k + 0 + 1 ≡ k + 1 = omega arith in
      w ∙ ap (Refused 42) z
  none_told (unlaid (l ∷ ls) [] t e s u n w) = absurd s
  none_told (unlaid (l ∷ ls) (call ∷ calls) t e s u n w) = absurd (none l call (lines_bytes ls ++ t) (e ∙ append_assoc (bytes_of l) (lines_bytes ls) t) s.0)
  none_told (differing [] calls l call t e s laid d w) = absurd (none l call t e laid)
  none_told (differing (l ∷ ls) [] l₂ call₂ t e s laid d w) = absurd s
  none_told (differing (l ∷ ls) (call ∷ calls) l₂ call₂ t e s laid d w) =
      absurd (none l call (lines_bytes ls ++ (bytes_of l₂ ++ t)) (e ∙ append_assoc (bytes_of l) (lines_bytes ls) (bytes_of l₂ ++ t)) s.0)

no_line_lem : (rules : Rules) (bs : List ℕ) (k : ℕ) → BadLine rules bs k → audit_of rules bs ≡ Refused 42 (k + 1)
no_line_lem rules bs k h =
    let s = h.sheet in
    let v = s.version in
    let extension = extension_at v s.card in
    let c = card_at v s.card in
    let b = steps_from v (fresh c) s.calls in
    let w = sheet_walk rules h.front k s h.rest in
    ap (audit_of rules) h.bytes ∙ w.gives
    ∙ none_told rules.same v extension c b k h.rest (audit_from rules.same v extension c w.most b k h.rest) h.some h.none
    (told rules.same v extension c w.most b k h.rest (own_after v c s.calls (fresh c) (fresh_own v s.card s.accepted)) w.enough)

pub refused_42 : (rules : Rules) (bs : List ℕ) (k : ℕ) → (audit_of rules bs ≡ Refused 42 (k + 1)) ↔ BadLine rules bs k
refused_42 rules bs k = (in_42 rules bs k (outcome rules bs), no_line_lem rules bs k)

-- ---- 43

in_43 : (rules : Rules) (bs : List ℕ) (k : ℕ) → Outcome rules bs (audit_of rules bs) → audit_of rules bs ≡ Refused 43 (k + 1) → Disagrees rules bs k
in_43 rules bs k (no_version_lem h e) a = other_number (audit_of rules bs) 40 0 43 (k + 1) (λ z. omega arith) e a
in_43 rules bs k (no_card h e) a = other_number (audit_of rules bs) 41 0 43 (k + 1) (λ z. omega arith) e a
in_43 rules bs k (not_taken h e) a = other_number (audit_of rules bs) 70 0 43 (k + 1) (λ z. omega arith) e a
in_43 rules bs k (a_sheet n h e) a = not_refused (audit_of rules bs) a e
in_43 rules bs k (bad_line_lem m h e) a = other_number (audit_of rules bs) 42 (m + 1) 43 (k + 1) (λ z. omega arith) e a
in_43 rules bs k (disagrees m h e) a =
    let z = same_index (audit_of rules bs) 43 (m + 1) 43 (k + 1) e a in
    let s : m ≡ k = omega arith in
    rw s at h

differs : (rules : Rules) (bs : List ℕ) (k : ℕ) → Disagrees rules bs k → audit_of rules bs ≡ Refused 43 (k + 1)
unfolding judge expected
differs rules bs k h =
    let s = h.sheet in
    let v = s.version in
    let extension = extension_at v s.card in
    let c = card_at v s.card in
    let b = steps_from v (fresh c) s.calls in
    let o = own_after v c s.calls (fresh c) (fresh_own v s.card s.accepted) in
    let t = bytes_of h.line ++ h.rest in
    let w = sheet_walk rules h.front k s t in
    let m : w.most ≡ suc (w.most - 1) = omega (arith, w.enough, line_long v extension c h.line h.call h.laid h.rest) in
    ap (audit_of rules) h.bytes ∙ w.gives ∙ ap (λ (n : ℕ). audit_from rules.same v extension c n b k t) m
    ∙ one_line rules.same v extension c (w.most - 1) b k h.line h.call h.rest o h.laid
    ∙ rw (ne_eqb (step_of v b h.call).refusal 10 (not_ten v c b o h.call), h.differs)

pub refused_43 : (rules : Rules) (bs : List ℕ) (k : ℕ) → (audit_of rules bs ≡ Refused 43 (k + 1)) ↔ Disagrees rules bs k
refused_43 rules bs k = (in_43 rules bs k (outcome rules bs), differs rules bs k)

-- ---- no other, and 44

pub no_other_by : (rules : Rules) (bs : List ℕ) (r i : ℕ) → audit_of rules bs ≡ Refused r i → KnownBy r i
no_other_by rules bs r i a = on (outcome rules bs)
  where
    v : Verdict
    v = audit_of rules bs

    on : Outcome rules bs v → KnownBy r i
    on (no_version_lem h e) = inl (inl (same_number_lem v r i 40 0 a e, same_index v r i 40 0 a e))
    on (no_card h e) = inl (inr (inl (same_number_lem v r i 41 0 a e, same_index v r i 41 0 a e)))
    on (not_taken h e) = inr (same_number_lem v r i 70 0 a e, same_index v r i 70 0 a e)
    on (a_sheet n h e) = not_refused v a e
    on (bad_line_lem k h e) =
        let z = same_index v r i 42 (k + 1) a e in
        inl (inr (inr (inl (same_number_lem v r i 42 (k + 1) a e, omega arith))))
    on (disagrees k h e) =
        let z = same_index v r i 43 (k + 1) a e in
        inl (inr (inr (inr (same_number_lem v r i 43 (k + 1) a e, omega arith))))

-- document 01's audit takes every accepted card
pub no_other : (bs : List ℕ) (r i : ℕ) → audit_of plain bs ≡ Refused r i → Known r i
no_other bs r i a = on (no_other_by plain bs r i a)
  where
    on : KnownBy r i → Known r i
    on (inl k) = k
    on (inr h) =
        let e : audit_of plain bs ≡ Refused 70 0 = a ∙ ap (λ (n : ℕ). Refused n i) h.0 ∙ ap (Refused 70) h.1 in
        let z : ◌≡◌ {A = Bool} true false = ((refused_70 plain bs).0 e).fails in
        let w : ◌≡◌ {A = ℕ} 0 1 = cc in absurd (omega arith)

-- within the limit the program and the C audit are the auditor
pub within_limit : (rules : Rules) (bs : List ℕ) → length bs ≤ limit → limited_audit_of rules bs ≡ audit_of rules bs
unfolding limited_audit_of
within_limit rules bs h = rw (le-ltb limit (length bs) h)

not_44 : (r i : ℕ) → r ≡ 44 → KnownBy r i → ⊥
not_44 r i h (inl (inl z)) = omega arith
not_44 r i h (inl (inr (inl z))) = omega arith
not_44 r i h (inl (inr (inr (inl z)))) = omega arith
not_44 r i h (inl (inr (inr (inr z)))) = omega arith
not_44 r i h (inr z) = omega arith

in_44 : (rules : Rules) (bs : List ℕ) (t : Bool) → ltb limit (length bs) ≡ t → cond t (Refused 44 0) (audit_of rules bs) ≡ Refused 44 0 → limit < length bs
in_44 rules bs true e a = ltb-true limit (length bs) e
in_44 rules bs false e a = absurd (not_44 44 0 refl (no_other_by rules bs 44 0 a))

pub refused_44 : (rules : Rules) (bs : List ℕ) → (limited_audit_of rules bs ≡ Refused 44 0) ↔ (limit < length bs)
unfolding limited_audit_of
refused_44 rules bs = (in_44 rules bs (ltb limit (length bs)) refl, λ h. rw (lt-ltb limit (length bs) h))

-- Demand 3: 'Whatever bytes B is handed, it accepts them exactly when they have 01's layout, their card is accepted and every call line agrees
-- with 01's steps for the calls up to it.' Of every comparison and card test.
use mathlib.Core.Path.{◌≡◌, refl, sym, ap, ◌∙◌}
use mathlib.Core.Bool.{Bool, true}
use mathlib.Core.List.{List, [], ◌∷◌, ◌++◌, append_assoc, append-nil}
use mathlib.Core.Logic.{◌↔◌}
use Prim.Native.Nat.{ℕ, ◌+◌}
use native.Mathlib.Omega.{arith}
use lib.ListN.{length}
use lib.Ieee.{Float}
use Rattle.card.specs.Extension.{Extension}
use Rattle.card.specs.declared.Card.{Card}
use Rattle.battery.specs.Battery.{fresh}
use Rattle.battery.specs.declared.Call.{Call}
use Rattle.sheet_records.specs.Cards.{card_at, extension_at}
use Rattle.sheet_lines.specs.Answers.{answer_at, same_number}
use Rattle.sheet_lines.proofs.Agreement.{agrees_more}
use Rattle.auditor.specs.Verdicts.{Verdict, Accepted, Refused}
use Rattle.auditor.specs.Rules.{Rules, plain, NoLooser}
use Rattle.auditor.specs.Audit.{audit_from, audit_of}
use Rattle.auditor.specs.Sheet.{Line, lines_bytes, steps_from, expected, AgreesAfter, Sheet}
use Rattle.auditor.specs.Cases.{Opened}
use Rattle.auditor.proofs.Turns.{audit_none, From}
use Rattle.auditor.proofs.Stepped.{Stepped, stepped}
use Rattle.auditor.proofs.Walks.{walk}
use Rattle.auditor.proofs.Opened.{fresh_own, audit_opened}
use Rattle.auditor.proofs.Outcomes.{Outcome, no_version_lem, no_card, not_taken, a_sheet, bad_line_lem, disagrees, card_taken, outcome}

-- a verdict is one thing only
pub not_refused : {A : Type 0} {r i n : ℕ} (v : Verdict) → v ≡ Refused r i → v ≡ Accepted n → A
not_refused v e f = let z : ◌≡◌ {A = ℕ} 0 1 = cc in absurd (omega arith)

same_count : (v : Verdict) (k n : ℕ) → v ≡ Accepted k → v ≡ Accepted n → k ≡ n
same_count v k n e f = cc

sheet_of_lem : (rules : Rules) (bs : List ℕ) (n : ℕ) → Outcome rules bs (audit_of rules bs) → audit_of rules bs ≡ Accepted n → Sheet rules bs n
sheet_of_lem rules bs n (no_version_lem h e) a = not_refused (audit_of rules bs) e a
sheet_of_lem rules bs n (no_card h e) a = not_refused (audit_of rules bs) e a
sheet_of_lem rules bs n (not_taken h e) a = not_refused (audit_of rules bs) e a
sheet_of_lem rules bs n (a_sheet k s e) a = rw (same_count (audit_of rules bs) k n e a) at s
sheet_of_lem rules bs n (bad_line_lem k h e) a = not_refused (audit_of rules bs) e a
sheet_of_lem rules bs n (disagrees k h e) a = not_refused (audit_of rules bs) e a

-- ---- a sheet's verdict

counted : (m n : ℕ) → m ≡ n → 0 + m ≡ n
counted m n e = omega arith

module _ (rules : Rules) (bs : List ℕ) (n : ℕ) (s : Sheet rules bs n) where
  -- its card, and the extension that it lists
  abbrev sheet_extension : Extension
  sheet_extension = extension_at s.version s.card

  abbrev sheet_card : Card
  sheet_card = card_at s.version s.card

  -- with more bytes after it
  pub then_opened : (r : List ℕ) → Opened (bs ++ r)
  then_opened r =
      record {
        version = s.version;
        known = s.layout.known;
        head = s.layout.head;
        card = s.card;
        rest = lines_bytes s.lines ++ r;
        bytes = rw s.layout.bytes (simp append_assoc);
        two = s.layout.two;
        counts = s.layout.counts;
        long = s.layout.long;
        accepted = s.accepted;
      }

  pub sheet_stepped : Stepped rules.same s.version sheet_extension sheet_card (fresh sheet_card) s.lines s.calls
  unfolding steps_from
  sheet_stepped = stepped rules.same s.version sheet_extension sheet_card [] s.lines s.calls s.layout.laid s.agreed

  -- the auditor comes to what follows a sheet
  pub sheet_walk : (r : List ℕ) → From rules.same s.version sheet_extension sheet_card (steps_from s.version (fresh sheet_card) s.calls) n r (audit_of rules (bs ++ r))
  unfolding then_opened
  sheet_walk r =
      let t = lines_bytes s.lines ++ r in
      let w =
      walk rules.same s.version sheet_extension sheet_card s.lines s.calls (length t) (fresh sheet_card) 0 r (fresh_own s.version s.card s.accepted) sheet_stepped (omega arith) in
      record {
        most = w.most;
        enough = w.enough;
        gives =
            audit_opened rules (bs ++ r) (then_opened r) ∙ card_taken rules s.version sheet_extension sheet_card t s.passes ∙ w.gives
            ∙ ap (λ (k : ℕ). audit_from rules.same s.version sheet_extension sheet_card w.most (steps_from s.version (fresh sheet_card) s.calls) k r)
            (counted (length s.lines) n s.count);
      }

  pub accepted : audit_of rules bs ≡ Accepted n
  accepted =
      let w = sheet_walk [] in
      ap (audit_of rules) (sym (append-nil bs)) ∙ w.gives
      ∙ audit_none rules.same s.version sheet_extension sheet_card w.most (steps_from s.version (fresh sheet_card) s.calls) n

pub exact : (rules : Rules) (bs : List ℕ) (n : ℕ) → (audit_of rules bs ≡ Accepted n) ↔ Sheet rules bs n
exact rules bs n = (sheet_of_lem rules bs n (outcome rules bs), accepted rules bs n)

-- ---- a sheet by a comparison that accepts no more than document 01's is a sheet of document 01

pub agreed_plain : (same : Float → Float → Bool) → ((x y : Float) → same x y ≡ true → same_number x y ≡ true) → (version : ℕ) (c : Card) (earlier : List Call) (ls : List Line) (calls : List Call)
    → AgreesAfter same version c earlier ls calls → AgreesAfter same_number version c earlier ls calls
agreed_plain same more version c earlier [] [] a = tt
agreed_plain same more version c earlier [] (call ∷ calls) a = absurd a
agreed_plain same more version c earlier (l ∷ ls) [] a = absurd a
agreed_plain same more version c earlier (l ∷ ls) (call ∷ calls) a = (
  agrees_more same same_number more (answer_at version c l.answer) (expected version c earlier call) a.0,
  agreed_plain same more version c (earlier ++ (call ∷ [])) ls calls a.1,
)

unfoldable pub plain_sheet : (rules : Rules) → NoLooser rules → (bs : List ℕ) (n : ℕ) → Sheet rules bs n → Sheet plain bs n
plain_sheet rules more bs n s =
    record {
      version = s.version;
      card = s.card;
      lines = s.lines;
      calls = s.calls;
      layout = s.layout;
      accepted = s.accepted;
      passes = refl;
      agreed = agreed_plain rules.same more s.version (card_at s.version s.card) [] s.lines s.calls s.agreed;
      count = s.count;
    }

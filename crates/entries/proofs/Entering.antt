-- What the line of an answer leaves, way by way through its tests; a record's layout.
use mathlib.Core.Path.{◌≡◌, sym, ap, ◌∙◌}
use mathlib.Core.List.{List}
use mathlib.Core.Bool.{true}
use Prim.Native.Nat.{ℕ, ◌≤◌, ◌<◌}
use borrow.Author.Tests.{eq-eqb, ne_eqb, le-leb, lt-leb, eqb-true, leb-true}
use lib.ListN.{length, take}
use lib.Dec.{leb, eqb}
use Rattle.logic.proofs.Branch.{three_tests}
use Rattle.codec.specs.Bytes.{over}
use Rattle.battery.specs.declared.Answer.{Answer}
use Rattle.sheet_records.specs.Cards.{card_length, refusal_at}
use Rattle.sheet_records.specs.Records.{record_length, record_bytes}
use Rattle.sheet_lines.specs.Lines.{line_size, line_bytes}
use Rattle.entries.specs.Entry.{After, unchanged, renewed, entered, line_after, record_laid}

-- ---- an entry's code

pub code_of : {a : After} (b : After) → a ≡ b → a.code ≡ b.code
code_of b e = ap (λ (x : After). x.code) e

-- what an entry that changes nothing leaves, by its code
pub unchanged_by : {a : After} {rec free : List ℕ} (n : ℕ) → a ≡ unchanged n rec free → a ≡ unchanged a.code rec free
unchanged_by {a} {rec} {free} n e = e ∙ ap (λ (k : ℕ). unchanged k rec free) (sym (code_of (unchanged n rec free) e))

-- ---- the line of an answer

module _ (version : ℕ) (rec call free : List ℕ) (a : Answer) where
  pub line_ten : a.refusal ≡ 10 → line_after version rec call free a ≡ unchanged 10 rec free
  unfolding line_after
  line_ten h = rw (eq-eqb a.refusal 10 h)

  module _ (t : a.refusal ≡ 10 → ⊥) where
    pub line_room : length free < line_size version a.battery.card (length call) → line_after version rec call free a ≡ unchanged 11 rec free
    unfolding line_after
    line_room h = rw (ne_eqb a.refusal 10 t, lt-leb (line_size version a.battery.card (length call)) (length free) h)

    module _ (r : line_size version a.battery.card (length call) ≤ length free) where
      pub line_entered : line_after version rec call free a ≡ entered version rec call free a
      unfolding line_after
      line_entered = rw (ne_eqb a.refusal 10 t, le-leb (line_size version a.battery.card (length call)) (length free) r)

      pub line_refused : (a.refusal ≡ 0 → ⊥)
          → line_after version rec call free a ≡ record { code = a.refusal; record' = rec; sheet = over (line_bytes version call a) free }
      unfolding line_after renewed
      line_refused h =
          rw (ne_eqb a.refusal 10 t, le-leb (line_size version a.battery.card (length call)) (length free) r, ne_eqb a.refusal 0 h)

      pub line_answered : a.refusal ≡ 0
          → line_after version rec call free a
          ≡ record { code = 0; record' = record_bytes version (take (card_length version rec) rec) a.battery; sheet = over (line_bytes version call a) free }
      unfolding line_after renewed
      line_answered h = rw (le-leb (line_size version a.battery.card (length call)) (length free) r, h)

-- ---- a record's layout

pub record LaidRecord (version : ℕ) (rec : List ℕ) : Type 0 where
  pub card_there : card_length version rec ≤ length rec
  pub card_accepted : refusal_at version rec ≡ 0
  pub long : length rec ≡ record_length version rec

module _ (version : ℕ) (rec : List ℕ) where
  pub record_laid_lem : record_laid version rec ≡ true → LaidRecord version rec
  unfolding record_laid
  record_laid_lem h =
      let w =
      three_tests (leb (card_length version rec) (length rec)) (eqb (refusal_at version rec) 0) (eqb (length rec) (record_length version rec)) h in
      record { card_there = leb-true _ _ w.0; card_accepted = eqb-true _ _ w.1; long = eqb-true _ _ w.2 }

  pub laid_record : LaidRecord version rec → record_laid version rec ≡ true
  unfolding record_laid
  laid_record l = rw (le-leb _ _ l.card_there, eq-eqb _ _ l.card_accepted, eq-eqb _ _ l.long)

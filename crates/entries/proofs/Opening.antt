-- What opening leaves, way by way through its tests.
use mathlib.Core.Path.{◌≡◌}
use mathlib.Core.Bool.{true, false}
use mathlib.Core.List.{List}
use Prim.Native.Nat.{ℕ, ◌≤◌, ◌<◌}
use borrow.Author.Tests.{eq-eqb, ne_eqb, le-leb, lt-leb}
use lib.ListN.{length}
use Rattle.refusals.specs.declared.Refusal.{Refusal}
use Rattle.refusals.specs.Number.{number}
use Rattle.refusals.proofs.Numbers.{number_not_0}
use Rattle.card.specs.Version.{known_version}
use Rattle.sheet_records.specs.Cards.{card_length, refusal_at}
use Rattle.sheet_records.specs.Records.{record_length}
use Rattle.sheet_lines.specs.Lines.{opening_length}
use Rattle.entries.specs.Entry.{After, unchanged, opened_with, open_known, of_version, open_of}

module _ (version : ℕ) (card rec free : List ℕ) where
  pub open_length : (length card ≡ card_length version card → ⊥) → open_known version card rec free ≡ unchanged 1 rec free
  unfolding open_known
  open_length h = rw (ne_eqb (length card) (card_length version card) h)

  module _ (l : length card ≡ card_length version card) where
    pub open_card : (refusal_at version card ≡ 0 → ⊥) → open_known version card rec free ≡ unchanged (refusal_at version card) rec free
    unfolding open_known
    open_card h = rw (eq-eqb (length card) (card_length version card) l, ne_eqb (refusal_at version card) 0 h)

    pub open_refused : (r : Refusal) → number r ≡ refusal_at version card → open_known version card rec free ≡ unchanged (number r) rec free
    unfolding open_known
    open_refused r e = rw (eq-eqb (length card) (card_length version card) l, ← e, number_not_0 r)

    module _ (a : refusal_at version card ≡ 0) where
      pub open_record : (length rec ≡ record_length version card → ⊥) → open_known version card rec free ≡ unchanged 10 rec free
      unfolding open_known
      open_record h =
          rw (eq-eqb (length card) (card_length version card) l, eq-eqb (refusal_at version card) 0 a, ne_eqb (length rec) (record_length version card) h)

      module _ (k : length rec ≡ record_length version card) where
        pub open_room : length free < opening_length version card → open_known version card rec free ≡ unchanged 11 rec free
        unfolding open_known
        open_room h =
            rw (eq-eqb (length card) (card_length version card) l, eq-eqb (refusal_at version card) 0 a, eq-eqb (length rec) (record_length version card) k, lt-leb (opening_length version card) (length free) h)

        pub opened : opening_length version card ≤ length free → open_known version card rec free ≡ opened_with version card free
        unfolding open_known
        opened h =
            rw (eq-eqb (length card) (card_length version card) l, eq-eqb (refusal_at version card) 0 a, eq-eqb (length rec) (record_length version card) k, le-leb (opening_length version card) (length free) h)

-- ---- the version, before all

module _ (version : ℕ) (rec free : List ℕ) (after : After) where
  pub version_known : known_version version ≡ true → of_version version rec free after ≡ after
  unfolding of_version
  version_known known = rw known

  pub version_unknown : known_version version ≡ false → of_version version rec free after ≡ unchanged 40 rec free
  unfolding of_version
  version_unknown unknown = rw unknown

module _ (version : ℕ) (card rec free : List ℕ) where
  pub open_known_lem : known_version version ≡ true → open_of version card rec free ≡ open_known version card rec free
  unfolding open_of
  open_known_lem known = version_known version rec free (open_known version card rec free) known

  pub open_unknown : known_version version ≡ false → open_of version card rec free ≡ unchanged 40 rec free
  unfolding open_of
  open_unknown unknown = version_unknown version rec free (open_known version card rec free) unknown

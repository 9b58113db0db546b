-- What the card of a record tells, once it is read and judged; and what decides of its battery.
use Rattle.std.specs.Prelude.{None, Option, Some}
use mathlib.Core.Path.{◌≡◌, refl, sym, ap, subst}
use mathlib.Core.Bool.{Bool, true, false, cond, ◌&&◌}
use mathlib.Core.List.{List}
use Prim.Native.Nat.{ℕ}
use borrow.Author.Tests.{eq-eqb}
use Rattle.card.specs.Card.{card_refusal}
use Rattle.card.specs.declared.Card.{Card}
use Rattle.battery.specs.Battery.{zones_finite, battery_accepted}
use Rattle.battery.specs.Ledger.{totals_of, totals_finite}
use Rattle.battery.specs.declared.Battery.{Battery}
use Rattle.sheet_records.specs.Cards.{card_at}
use Rattle.entries.specs.Entry.{record_laid, record_card}

-- of an accepted card and its count, zones and totals decide
pub finite_decides : (version : ℕ) (b : Battery) → card_refusal version b.card ≡ 0 → b.count ≡ b.card.layers
    → battery_accepted version b ≡ (zones_finite b.zones b.card.layers && totals_finite (totals_of b))
unfolding battery_accepted
finite_decides version b h k = rw (eq-eqb _ _ h, eq-eqb _ _ k)

abbrev IsGood : Option Card → Type 0
IsGood (Some c) = Unit
IsGood None = ⊥

abbrev card_or : Card → Option Card → Card
card_or d (Some c) = c
card_or d None = d

good_by : (l : Bool) (x c : Card) → cond l (Some x) None ≡ Some c → (l ≡ true) × (c ≡ x)
good_by true x c h = (refl, sym (ap (card_or x) h))
good_by false x c h = absurd (subst IsGood (sym h) tt)

bad_by : (l : Bool) (x : Card) → cond l (Some x) None ≡ None → l ≡ false
bad_by true x h = absurd (subst IsGood h tt)
bad_by false x h = refl

pub good_card : (version : ℕ) (rec : List ℕ) (c : Card) → record_card version rec ≡ Some c → (record_laid version rec ≡ true) × (c ≡ card_at version rec)
unfolding record_card
good_card version rec c h = good_by (record_laid version rec) (card_at version rec) c h

pub bad_card_lem : (version : ℕ) (rec : List ℕ) → record_card version rec ≡ None → record_laid version rec ≡ false
unfolding record_card
bad_card_lem version rec h = bad_by (record_laid version rec) (card_at version rec) h

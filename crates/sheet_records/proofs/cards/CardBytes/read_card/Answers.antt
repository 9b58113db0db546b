use Rattle.sheet_records.specs.Cards.{card_at}
use Rattle.sheet_records.proofs.cards.CardBytes.read_card.Goals as goal

pub returns : goal.returns
unfolding card_at
returns c = rw (← c.read_u16.ensures, ← c.read_u16-2.ensures, ← c.nth_f64.ensures, ← c.nth_f64-2.ensures, ← c.nth_f64-3.ensures, ← c.nth_f64-4.ensures, ← c.nth_f64-5.ensures, ← c.nth_f64-6.ensures, ← c.nth_f64-7.ensures, ← c.nth_f64-8.ensures, ← c.nth_f64-9.ensures, ← c.nth_f64-10.ensures, ← c.nth_f64-11.ensures, ← c.nth_f64-12.ensures, ← c.nth_f64-13.ensures, ← c.nth_f64-14.ensures, ← c.nth_f64-15.ensures, ← c.nth_f64-16.ensures, ← c.nth_f64-17.ensures, ← c.nth_f64-18.ensures, ← c.nth_f64-19.ensures)

-- How the code is lent a card's salts.
use Rattle.std.specs.Prelude.{◌≡◌, List, ◌∷◌, [], ℕ, Float}
use Rattle.zone.specs.Lent.{salts_in, Salted}
use Rattle.card.specs.Derived.{salt_of, salts_of}
use Rattle.card.specs.declared.Card.{Card}

-- the card's salt as figures
unfoldable pub figures_of : Card → List Float
figures_of card =
    let s = salt_of card in
    s.lower ∷ s.upper ∷ s.below ∷ s.during ∷ s.above ∷ []

-- figures lent with a step that are the card's salts, enough for its layers
abbrev pub SaltsLent : Card → List Float → ℕ → Type 0
SaltsLent card figures step = Salted figures step card.layers × (salts_in figures step ≡ salts_of card)

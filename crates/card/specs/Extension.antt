-- Document 02: what stands behind a card's fields, and what it is refused with: Four's services, Six's flag.
use Rattle.std.specs.Prelude.{ℕ, Bool, cond, ◌&&◌, List, leb, eqb}
use Rattle.refusals.specs.Refusals.{card_out_of_range}
use Rattle.card.specs.Card.{card_refusal}
use Rattle.card.specs.Services.{Service, services_ok, list_refusal}
use Rattle.card.specs.declared.Card.{Card}

pub record Extension : Type 0 where
  pub services : List Service
  -- 1 'sets a floor of 16 °C for standing losses'
  pub floor : ℕ

-- 'Another flag value is refused with 1'
unfoldable pub flag_ok : ℕ → Bool
flag_ok floor = leb floor 1

-- whether it sets a floor
unfoldable pub has_floor : Extension → Bool
has_floor extension = eqb extension.floor 1

-- neither is refused
unfoldable pub extension_ok : Extension → Bool
extension_ok extension = flag_ok extension.floor && services_ok extension.services

-- the refusal of a card with its extension: 1, the flag among its fields, then 2 to 4, and '61 .. after 4'; 0 for none
unfoldable pub full_refusal : ℕ → Card → Extension → ℕ
full_refusal version card extension =
    cond (flag_ok extension.floor)
    (cond (eqb (card_refusal version card) 0) (list_refusal extension.services) (card_refusal version card))
    card_out_of_range

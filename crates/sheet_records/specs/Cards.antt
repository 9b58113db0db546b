-- Document 01, 'Line 0: the card, 158 bytes', and document 02, Four and Six, the services after its fields and the flag after those. The version is the sheet's.
use Rattle.std.specs.Prelude.{ℕ, ◌+◌, ◌*◌, cond, List, [], get_or}
use Rattle.codec.specs.Bytes.{be_at, nth_f64}
use Rattle.card.specs.Version.{lists_services, sets_floor}
use Rattle.card.specs.Services.{Service, listed}
use Rattle.card.specs.Extension.{Extension, full_refusal}
use Rattle.card.specs.declared.Card.{Card}

-- 'a list after the card fields: a count byte'
abbrev pub count_place : ℕ
count_place = 158

-- 'then number (u16) and class (u8, ..)': the place of the i-th
abbrev pub service_place : ℕ → ℕ
service_place i = 159 + 3 * i

-- the place behind the services, where the flag stands that version 4 adds
abbrev pub flag_place : List ℕ → ℕ
flag_place bs = service_place (get_or bs count_place 0)

unfoldable pub flag_length : ℕ → ℕ
flag_length version = cond (sets_floor version) 1 0

-- the length of the card at the front of bs, by the version and the card's own bytes: 'line 0 has 159 + 3 × count bytes, whatever the count', and Six's flag is 'the
-- card's last byte'
unfoldable pub card_length : ℕ → List ℕ → ℕ
card_length version bs = cond (lists_services version) (flag_place bs + flag_length version) 158

-- the place of the first f64
abbrev pub card_numbers : ℕ
card_numbers = 6

-- 'In order: layers (u8), units (u16), simultaneous (u8), budget (u16), then 19 f64: ..'
unfoldable pub card_at : ℕ → List ℕ → Card
card_at version bs =
    record {
      layers = get_or bs 0 0;
      units = be_at bs 1 2;
      simultaneous = get_or bs 3 0;
      budget = be_at bs 4 2;
      substep = nth_f64 bs card_numbers 0;
      timestep = nth_f64 bs card_numbers 1;
      inlet = nth_f64 bs card_numbers 2;
      outlet = nth_f64 bs card_numbers 3;
      max = nth_f64 bs card_numbers 4;
      reference = nth_f64 bs card_numbers 5;
      lower = nth_f64 bs card_numbers 6;
      upper = nth_f64 bs card_numbers 7;
      below = nth_f64 bs card_numbers 8;
      during = nth_f64 bs card_numbers 9;
      above = nth_f64 bs card_numbers 10;
      velocity = nth_f64 bs card_numbers 11;
      diameter = nth_f64 bs card_numbers 12;
      a = nth_f64 bs card_numbers 13;
      b = nth_f64 bs card_numbers 14;
      flow = nth_f64 bs card_numbers 15;
      losses = nth_f64 bs card_numbers 16;
      start = nth_f64 bs card_numbers 17;
      power = nth_f64 bs card_numbers 18;
    }

-- the i-th service, and all that the card lists; none before version 3
unfoldable pub service_at : List ℕ → ℕ → Service
service_at bs i = record { number = be_at bs (service_place i) 2; class = get_or bs (service_place i + 2) 0 }

unfoldable pub services_at : ℕ → List ℕ → List Service
services_at version bs = cond (lists_services version) (listed (service_at bs) 0 (get_or bs count_place 0)) []

-- the flag; 0 before version 4
unfoldable pub floor_at : ℕ → List ℕ → ℕ
floor_at version bs = cond (sets_floor version) (get_or bs (flag_place bs) 0) 0

-- what stands behind the card's fields
abbrev pub extension_at : ℕ → List ℕ → Extension
extension_at version bs = record { services = services_at version bs; floor = floor_at version bs }

-- the refusal of the card at the front of bs, in its length: 1 to 4, then 61; 0 for none
unfoldable pub refusal_at : ℕ → List ℕ → ℕ
refusal_at version bs = full_refusal version (card_at version bs) (extension_at version bs)

-- A card's length and its extension, whatever the version: how long a card may be, and that both hang on its own bytes alone.
-- No other file opens card_length but the proof of its own function and the example by computation.
use mathlib.Core.Path.{◌≡◌, refl, sym, ap, ◌∙◌}
use mathlib.Core.Bool.{Bool, true, false, cond}
use mathlib.Core.List.{List, [], ◌++◌}
use Prim.Native.Nat.{ℕ, ◌+◌, ◌≤◌, ◌<◌}
use native.Mathlib.Omega.{arith}
use lib.ListN.{length, take, drop, get_or, get_or-append, take-append-drop}
use lib.Seq.{get_or-take, length-take-le}
use borrow.Author.Tests.{leb-true}
use lib.Dec.{leb}
use Rattle.logic.proofs.Tests.{and_true}
use Rattle.codec.specs.Bytes.{be}
use Rattle.codec.proofs.Places.{in_front}
use Rattle.card.specs.Version.{lists_services, sets_floor}
use Rattle.card.specs.Card.{card_refusal}
use Rattle.card.specs.Services.{Service, listed, most_services, rising_from, services_ok}
use Rattle.card.specs.Extension.{extension_ok}
use Rattle.card.proofs.Versions.{floor_lists}
use Rattle.card.proofs.Listed.{listed_length, entry_if, listed_same}
use Rattle.card.proofs.FullRefusal.{full_accepted, extension_parts}
use Rattle.sheet_records.specs.Cards.{count_place, service_place, flag_place, flag_length, card_length, card_at, service_at, services_at, floor_at, extension_at, refusal_at}

-- the flag has at most one byte, and one where there is a flag
flag_by : (t : Bool) → cond t 1 0 ≤ 1
flag_by true = omega arith
flag_by false = omega arith

pub flag_short : (version : ℕ) → flag_length version ≤ 1
unfolding flag_length
flag_short version = flag_by (sets_floor version)

flag_there : (version : ℕ) → sets_floor version ≡ true → flag_length version ≡ 1
unfolding flag_length
flag_there version t = rw t

-- with services or without
least_by : (t : Bool) (n m : ℕ) → 158 ≤ cond t (service_place n + m) 158
least_by true n m = omega arith
least_by false n m = omega arith

-- every card has the fields of the first version
pub card_least : (version : ℕ) (bs : List ℕ) → 158 ≤ card_length version bs
unfolding card_length
card_least version bs = least_by (lists_services version) (get_or bs count_place 0) (flag_length version)

pub card_fits : (version : ℕ) (bs : List ℕ) → card_length version bs ≤ length bs → 158 ≤ length bs
card_fits version bs h = let l = card_least version bs in omega arith

-- where services are listed, all of them are there
pub services_fit : (version : ℕ) (bs : List ℕ) → lists_services version ≡ true → card_length version bs ≤ length bs → service_place (get_or bs count_place 0) ≤ length bs
unfolding card_length
services_fit version bs t h =
    let k : flag_place bs + flag_length version ≤ length bs = rw t at h in
    omega (arith, k)

-- and the flag behind them, where there is one
flag_fits : (version : ℕ) (bs : List ℕ) → sets_floor version ≡ true → card_length version bs ≤ length bs → flag_place bs < length bs
unfolding card_length
flag_fits version bs t h =
    let k : flag_place bs + flag_length version ≤ length bs = rw (floor_lists version t) at h in
    omega (arith, k, flag_there version t)

-- what the services are
pub services_listed : (version : ℕ) (bs : List ℕ) → lists_services version ≡ true → services_at version bs ≡ listed (service_at bs) 0 (get_or bs count_place 0)
unfolding services_at
services_listed version bs t = rw t

pub services_none : (version : ℕ) (bs : List ℕ) → lists_services version ≡ false → services_at version bs ≡ []
unfolding services_at
services_none version bs t = rw t

pub services_count : (version : ℕ) (bs : List ℕ) → lists_services version ≡ true → length (services_at version bs) ≡ get_or bs count_place 0
services_count version bs t = ap length (services_listed version bs t) ∙ listed_length (service_at bs) 0 (get_or bs count_place 0)

-- one of them: where it lies, and what it is
pub service_there : (version : ℕ) (bs : List ℕ) (k : ℕ) → k < length (services_at version bs) → card_length version bs ≤ length bs → service_place (k + 1) ≤ length bs
unfolding services_at
service_there version bs k h fits =
    let e = entry_if (lists_services version) (service_at bs) (get_or bs count_place 0) k (record { number = 0; class = 0 }) h in
    omega (arith, e.1, services_fit version bs e.0 fits)

pub services_entry : (version : ℕ) (bs : List ℕ) (k : ℕ) (d : Service) → k < length (services_at version bs) → get_or (services_at version bs) k d ≡ service_at bs k
unfolding services_at
services_entry version bs k d h = (entry_if (lists_services version) (service_at bs) (get_or bs count_place 0) k d h).2

-- ---- the length hangs on the card's own bytes: none that follow them, and no others

-- and so does the place behind the services
place_front : (card r : List ℕ) → 158 < length card → flag_place (card ++ r) ≡ flag_place card
place_front card r h = ap service_place (get_or-append card r 0 count_place (omega arith))

length_by : (t : Bool) (m : ℕ) (card r : List ℕ) → cond t (flag_place card + m) 158 ≤ length card → cond t (flag_place (card ++ r) + m) 158 ≡ cond t (flag_place card + m) 158
length_by true m card r h = ap (λ (n : ℕ). n + m) (place_front card r (omega arith))
length_by false m card r h = refl

pub card_length_front : (version : ℕ) (card r : List ℕ) → card_length version card ≤ length card → card_length version (card ++ r) ≡ card_length version card
unfolding card_length
card_length_front version card r h = length_by (lists_services version) (flag_length version) card r h

cut_by : (t : Bool) (m : ℕ) (bs : List ℕ) → cond t (flag_place (take (cond t (flag_place bs + m) 158) bs) + m) 158 ≡ cond t (flag_place bs + m) 158
cut_by true m bs = ap (λ (n : ℕ). service_place n + m) (get_or-take (flag_place bs + m) bs count_place 0 (omega arith))
cut_by false m bs = refl

pub card_length_take : (version : ℕ) (bs : List ℕ) → card_length version bs ≤ length bs → card_length version (take (card_length version bs) bs) ≡ card_length version bs
unfolding card_length
card_length_take version bs h = cut_by (lists_services version) (flag_length version) bs

-- ---- and so do the services and the flag

service_front : (card r : List ℕ) (i n : ℕ) → i < n → service_place n ≤ length card → service_at (card ++ r) i ≡ service_at card i
unfolding service_at
service_front card r i n l h = λ j. record {
  number = ap be (in_front card r (service_place i) 2 (omega arith)) j;
  class = get_or-append card r 0 (service_place i + 2) (omega arith) j;
}

services_by : (t : Bool) (m : ℕ) (card r : List ℕ) → cond t (flag_place card + m) 158 ≤ length card
    → cond t (listed (service_at (card ++ r)) 0 (get_or (card ++ r) count_place 0)) [] ≡ cond t (listed (service_at card) 0 (get_or card count_place 0)) []
services_by true m card r h =
    let n = get_or card count_place 0 in
    ap (listed (service_at (card ++ r)) 0) (get_or-append card r 0 count_place (omega arith))
    ∙ listed_same (service_at (card ++ r)) (service_at card) 0 n (λ i l k. service_front card r i n (omega arith) (omega arith))
services_by false m card r h = refl

pub services_front : (version : ℕ) (card r : List ℕ) → card_length version card ≤ length card → services_at version (card ++ r) ≡ services_at version card
unfolding card_length services_at
services_front version card r h = services_by (lists_services version) (flag_length version) card r h

floor_by : (t : Bool) (card r : List ℕ) → (t ≡ true → flag_place card < length card) → cond t (get_or (card ++ r) (flag_place (card ++ r)) 0) 0 ≡ cond t (get_or card (flag_place card) 0) 0
floor_by true card r h =
    let k = h refl in
    ap (λ (n : ℕ). get_or (card ++ r) n 0) (place_front card r (omega arith)) ∙ get_or-append card r 0 (flag_place card) k
floor_by false card r h = refl

pub floor_front : (version : ℕ) (card r : List ℕ) → card_length version card ≤ length card → floor_at version (card ++ r) ≡ floor_at version card
unfolding floor_at
floor_front version card r h = floor_by (sets_floor version) card r (λ t. flag_fits version card t h)

pub extension_front : (version : ℕ) (card r : List ℕ) → card_length version card ≤ length card → extension_at version (card ++ r) ≡ extension_at version card
extension_front version card r h = λ i. record { services = services_front version card r h i; floor = floor_front version card r h i }

pub extension_take : (version : ℕ) (bs : List ℕ) → card_length version bs ≤ length bs → extension_at version (take (card_length version bs) bs) ≡ extension_at version bs
extension_take version bs h =
    let n = card_length version bs in
    let l : length (take n bs) ≡ n = length-take-le n bs h in
    let k : card_length version (take n bs) ≡ n = card_length_take version bs h in
    sym (extension_front version (take n bs) (drop n bs) (omega arith)) ∙ ap (extension_at version) (take-append-drop n bs)

-- ---- an accepted card

pub fields_accepted : (version : ℕ) (bs : List ℕ) → refusal_at version bs ≡ 0 → card_refusal version (card_at version bs) ≡ 0
unfolding refusal_at
fields_accepted version bs h = (full_accepted version (card_at version bs) (extension_at version bs) h).0

pub extension_accepted : (version : ℕ) (bs : List ℕ) → refusal_at version bs ≡ 0 → extension_ok (extension_at version bs) ≡ true
unfolding refusal_at
extension_accepted version bs h = (full_accepted version (card_at version bs) (extension_at version bs) h).1

pub services_accepted : (version : ℕ) (bs : List ℕ) → refusal_at version bs ≡ 0 → services_ok (services_at version bs) ≡ true
services_accepted version bs h = (extension_parts version (card_at version bs) (extension_at version bs) (extension_accepted version bs h)).1

below_by : (t : Bool) (m : ℕ) (bs : List ℕ) → m ≤ 1 → services_ok (cond t (listed (service_at bs) 0 (get_or bs count_place 0)) []) ≡ true → cond t (flag_place bs + m) 158 < 65536
unfolding services_ok
below_by true m bs k h =
    let n = get_or bs count_place 0 in
    let l = leb-true (length (listed (service_at bs) 0 n)) most_services (and_true (leb (length (listed (service_at bs) 0 n)) most_services) (rising_from 4 (listed (service_at bs) 0 n)) h).0 in
    omega (arith, l, listed_length (service_at bs) 0 n)
below_by false m bs k h = omega arith

-- line 0 says its length in two bytes
pub card_below : (version : ℕ) (bs : List ℕ) → refusal_at version bs ≡ 0 → card_length version bs < 65536
unfolding card_length services_at
card_below version bs h = below_by (lists_services version) (flag_length version) bs (flag_short version) (services_accepted version bs h)

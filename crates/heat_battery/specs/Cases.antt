-- Document 01, 'Who can cause a refusal': the case of each number that A's entries give, apart from what the entries compute.
use Rattle.std.specs.Prelude.{ℕ, ◌+◌, ◌*◌, ◌≤◌, ◌<◌, ◌≡◌, ◌⊎◌, List, true, false, length, get_or, Some}
use Rattle.std.specs.Float.{nan}
use Rattle.std.specs.Float.Ieee.{lt, le}
use Rattle.floats.specs.Constants.{max_relative, tolerance, rated_ambient}
use Rattle.floats.specs.Standins.{finite64, nearly_equal}
use Rattle.codec.specs.Bytes.{nth_f64}
use Rattle.card.specs.Card.{card_in_range, card_refusal}
use Rattle.card.specs.Version.{lists_services}
use Rattle.card.specs.Services.{BadServices}
use Rattle.card.specs.Extension.{Extension, full_refusal}
use Rattle.card.specs.declared.Card.{Card}
use Rattle.battery.specs.Call.{call_in_range}
use Rattle.battery.specs.declared.Call.{Call}
use Rattle.battery.specs.declared.Battery.{Battery}
use Rattle.sheet_records.specs.Cards.{count_place, card_length, card_at, service_at, floor_at, extension_at, refusal_at}
use Rattle.sheet_records.specs.Records.{record_length, record_of}
use Rattle.sheet_calls.specs.Calls.{call_of}
use Rattle.sheet_lines.specs.Lines.{opening_length, line_size}
use Rattle.sheet_calls.specs.Laid.{LaidCall}

-- ---- opening: 'There a card is its bytes as in line 0 (another length is 1)'

-- '1 a field not finite or out of range', and document 02, Six, of the flag: 'Another flag value is refused with 1'
abbrev pub OpenCase1 : ℕ → List ℕ → Type 0
OpenCase1 version card = (length card ≡ card_length version card → ⊥) ⊎ ((card_in_range (card_at version card) ≡ false) ⊎ (1 < floor_at version card))

-- a card of its length whose fields are in range, its flag among them
pub record InRange (version : ℕ) (card : List ℕ) : Type 0 where
  pub long : length card ≡ card_length version card
  pub fields : card_in_range (card_at version card) ≡ true
  pub flag : floor_at version card ≤ 1

-- '2 lower above upper'
pub record OpenCase2 (version : ℕ) (card : List ℕ) : Type 0 where
  pub in_range : InRange version card
  pub lower_above : lt (card_at version card).upper (card_at version card).lower ≡ true

-- '3 max at most 20'
pub record OpenCase3 (version : ℕ) (card : List ℕ) : Type 0 where
  pub in_range : InRange version card
  pub ordered : le (card_at version card).lower (card_at version card).upper ≡ true
  pub max_low : le (card_at version card).max rated_ambient ≡ true

-- '4 max below ref or nearly equal to it (epsilon 1e-10)'
pub record OpenCase4 (version : ℕ) (card : List ℕ) : Type 0 where
  pub in_range : InRange version card
  pub ordered : le (card_at version card).lower (card_at version card).upper ≡ true
  pub warm : lt rated_ambient (card_at version card).max ≡ true
  pub nothing_to_store :
      (lt (card_at version card).max (card_at version card).reference ≡ true)
      ⊎ (nearly_equal (card_at version card).max (card_at version card).reference tolerance max_relative ≡ true)

-- document 02, Four: '61, a count above 32, a list not rising, a number under 4 or an unknown class, after 4'
pub record OpenCase61 (version : ℕ) (card : List ℕ) : Type 0 where
  pub long : length card ≡ card_length version card
  pub fields : card_refusal version (card_at version card) ≡ 0
  pub flag : floor_at version card ≤ 1
  pub lists : lists_services version ≡ true
  pub list : BadServices (service_at card) (get_or card count_place 0)

-- 1 to 4 and 61 don't apply
pub record AcceptedBytes (version : ℕ) (card : List ℕ) : Type 0 where
  pub long : length card ≡ card_length version card
  pub accepted : refusal_at version card ≡ 0

-- 'another length of either is 10, on opening after 1 to 4'
pub record OpenCase10 (version : ℕ) (card rec : List ℕ) : Type 0 where
  pub card_good : AcceptedBytes version card
  pub other_length : length rec ≡ record_length version card → ⊥

-- '11 fewer free sheet bytes than the line needs (for line 0 the version byte too, after 1 to 4)'
pub record OpenCase11 (version : ℕ) (card rec free : List ℕ) : Type 0 where
  pub card_good : AcceptedBytes version card
  pub long : length rec ≡ record_length version card
  pub no_room : length free < opening_length version card

-- none of them
pub record Opens (version : ℕ) (card rec free : List ℕ) : Type 0 where
  pub card_good : AcceptedBytes version card
  pub long : length rec ≡ record_length version card
  pub room : opening_length version card ≤ length free

-- ---- a call

-- a battery handed in that 10 lets through: 'its card, zones and totals as in the lines'
pub record GoodRecord (version : ℕ) (rec : List ℕ) : Type 0 where
  pub card_there : card_length version rec ≤ length rec
  pub card_accepted : refusal_at version rec ≡ 0
  pub long : length rec ≡ record_length version rec
  pub zones : (i : ℕ) → i < (card_at version rec).layers → finite64 (nth_f64 rec (card_length version rec) i) ≡ true
  pub totals : (i : ℕ) → i < 5 → finite64 (nth_f64 rec (card_length version rec + 8 * (card_at version rec).layers) i) ≡ true

-- a call that 10 lets through, on a card with this extension: laid out as its kind, and its fields in their ranges
pub record GoodCall (version : ℕ) (extension : Extension) (card : Card) (call : List ℕ) : Type 0 where
  pub laid : LaidCall version call
  pub in_range : (asked : Call) → call_of version extension call ≡ Some asked → call_in_range version card asked ≡ true

-- '10 a call field not finite or out of range .., or a battery handed in whose card 1 to 4 refuse or whose zones or totals aren't finite', 61 'counted with 1 to 4'
pub data CallCase10 (version : ℕ) (rec call : List ℕ) : Type 0 where
  bad_record : (GoodRecord version rec → ⊥) → CallCase10 version rec call
  bad_call : (GoodCall version (extension_at version rec) (card_at version rec) call → ⊥) → CallCase10 version rec call

-- 'fewer free sheet bytes than the line needs. 10 before 11'
pub record CallCase11 (version : ℕ) (rec call free : List ℕ) : Type 0 where
  pub record_good : GoodRecord version rec
  pub call_good : GoodCall version (extension_at version rec) (card_at version rec) call
  pub no_room : length free < line_size version (card_at version rec) (length call)

-- neither 10 nor 11: the call gets a line
pub record GetsLine (version : ℕ) (rec call free : List ℕ) : Type 0 where
  pub record_good : GoodRecord version rec
  pub call_good : GoodCall version (extension_at version rec) (card_at version rec) call
  pub room : line_size version (card_at version rec) (length call) ≤ length free

-- one of 20 to 25: the call gets a line, and the call that was read is in the number's case (crates/engine/specs/Cases.antt)
pub record LineCase (Case : Battery → Call → Type 0) (version : ℕ) (rec call free : List ℕ) : Type 0 where
  pub gets_line : GetsLine version rec call free
  pub asked : Call
  pub read : call_of version (extension_at version rec) call ≡ Some asked
  pub case_of : Case (record_of version rec) asked

-- ---- a call on the caller's own record, without a sheet

-- a record that 10 lets through, with its extension; its count is its card's layers
pub record GoodOwn (version : ℕ) (extension : Extension) (battery : Battery) : Type 0 where
  pub card_accepted : full_refusal version battery.card extension ≡ 0
  pub count : battery.count ≡ battery.card.layers
  pub zones : (i : ℕ) → i < battery.card.layers → finite64 (get_or battery.zones i nan) ≡ true
  pub total : finite64 battery.total ≡ true
  pub pump : finite64 battery.pump ≡ true
  pub direct : finite64 battery.direct ≡ true
  pub charged : finite64 battery.charged ≡ true
  pub electric : finite64 battery.electric ≡ true

-- '10 a call field not finite or out of range .., or a battery handed in whose card 1 to 4 refuse or whose zones or totals aren't finite', 61 'counted with 1 to 4'
pub data OwnCase10 (version : ℕ) (extension : Extension) (battery : Battery) (call : List ℕ) : Type 0 where
  bad_own : (GoodOwn version extension battery → ⊥) → OwnCase10 version extension battery call
  bad_own_call : (GoodCall version extension battery.card call → ⊥) → OwnCase10 version extension battery call

-- one of 20 to 25
pub record OwnCase (Case : Battery → Call → Type 0) (version : ℕ) (extension : Extension) (battery : Battery) (call : List ℕ) : Type 0 where
  pub own_good : GoodOwn version extension battery
  pub call_good : GoodCall version extension battery.card call
  pub asked : Call
  pub read : call_of version extension call ≡ Some asked
  pub case_of : Case battery asked

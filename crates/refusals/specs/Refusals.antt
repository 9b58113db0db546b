-- Document 01, 'Who can cause a refusal': the numbers by name.
use Rattle.std.specs.Prelude.{ℕ}

abbrev pub answered : ℕ
answered = 0

-- ---- 'The card's author'

-- 'a field not finite or out of range'
abbrev pub card_out_of_range : ℕ
card_out_of_range = 1

-- 'lower above upper'
abbrev pub lower_above_upper : ℕ
lower_above_upper = 2

-- 'max at most 20'
abbrev pub max_too_low : ℕ
max_too_low = 3

-- 'max below ref or nearly equal to it'
abbrev pub nothing_to_store : ℕ
nothing_to_store = 4

-- document 02, Four: 'a count above 32, a list not rising, a number under 4 or an unknown class, after 4 and counted with 1 to 4 everywhere'
abbrev pub bad_services : ℕ
bad_services = 61

-- ---- 'The caller'

-- 'a call field not finite or out of range .., or a battery handed in whose card 1 to 4 refuse or whose zones or totals aren't finite'
abbrev pub bad_call : ℕ
bad_call = 10

-- 'fewer free sheet bytes than the line needs'
abbrev pub no_room : ℕ
no_room = 11

-- ---- 'The caller, as a line'

-- 'required above 1e-10 without return temperature'
abbrev pub no_return : ℕ
no_return = 20

-- 'committed, required above 1e-10, service type 0'
abbrev pub no_service : ℕ
no_service = 21

-- ---- 'The run, as a line'

-- 'the steps call for a substep after the card's budget of them is done'
abbrev pub over_budget : ℕ
over_budget = 22

-- 'after a substep a zone, outlet, delivered sum or charged energy is not finite, or a reported number or total isn't'
abbrev pub not_finite : ℕ
not_finite = 23

-- 'the logarithm's argument is not positive, normal and finite'
abbrev pub no_logarithm : ℕ
no_logarithm = 24

-- 'state of charge above 1.0 + 1e-10'
abbrev pub over_full : ℕ
over_full = 25

-- ---- 'The sheet's sender'

-- document 02, Three: 'a first byte that is missing or no known version'; the caller's too: 'an unknown one is 40 there, before all'
abbrev pub no_version : ℕ
no_version = 40

-- 'card line missing, of wrong length or refused'
abbrev pub bad_card : ℕ
bad_card = 41

-- 'call line cut short, of unknown kind, wrong length, ..'
abbrev pub bad_line : ℕ
bad_line = 42

-- 'an answer disagrees'
abbrev pub disagrees : ℕ
disagrees = 43

-- 'more than 65,536 bytes'
abbrev pub too_long : ℕ
too_long = 44

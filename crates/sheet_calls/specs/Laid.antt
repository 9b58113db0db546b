-- Which bytes are a call's, apart from the reader: refusals 10 and 42 speak of the others.
use Rattle.std.specs.Prelude.{ℕ, ◌+◌, ◌≤◌, ◌<◌, ◌≡◌, ◌⊎◌, List, length, get_or}
use Rattle.sheet_calls.specs.Calls.{call_length, fields_place, commit_place, control_place, return_place}

-- a mark 'other than 0 or 1', or 'nonzero bytes under an absent mark', is out
abbrev pub Marked : List ℕ → ℕ → Type 0
Marked bs at = ((get_or bs at 0 ≡ 0) × ((i : ℕ) → i < 8 → get_or bs (at + 1 + i) 0 ≡ 0)) ⊎ (get_or bs at 0 ≡ 1)

-- 'kind 1 to 7', its length, 'flags and marks 0 or 1'; the first byte is the kind
pub record LaidCall (version : ℕ) (bs : List ℕ) : Type 0 where
  pub from_one : 1 ≤ get_or bs 0 0
  pub to_seven : get_or bs 0 0 ≤ 7
  pub long : length bs ≡ call_length version (get_or bs 0 0)
  pub demand : get_or bs 0 0 ≡ 1 → (get_or bs (commit_place version) 0 ≤ 1) × (get_or bs (control_place version) 0 ≤ 1) × Marked bs (return_place version)
  pub flow_maximum : get_or bs 0 0 ≡ 7 → Marked bs fields_place

-- Demand 3 on accepted sheets, from their own bytes: directions, the floor of losses, and the charged total.
use Rattle.std.specs.Prelude.{ℕ, ◌<◌, ◌≡◌, Bool, true, cond, ◌&&◌, ◌||◌, List, [], ◌∷◌, eqb, get_or, Float}
use Rattle.std.specs.Float.{nan}
use Rattle.std.specs.Float.Ieee.{lt, le, eq}
use Rattle.floats.specs.F64.{◌⊕◌}
use Rattle.floats.specs.Constants.{room_temperature}
use Rattle.card.specs.declared.Card.{Card}
use Rattle.battery.specs.declared.Answer.{Answer}
use Rattle.sheet_calls.specs.Calls.{commit_place}
use Rattle.sheet_lines.specs.Answers.{answer_at}
use Rattle.auditor.specs.Sheet.{Line}

-- a line's kind, and what it shows
abbrev pub kind_in : Line → ℕ
kind_in line = get_or line.call 0 0

abbrev pub shown : ℕ → Card → Line → Answer
shown version card line = answer_at version card line.answer

abbrev pub zones_in : ℕ → Card → Line → ℕ → Float
zones_in version card line i = get_or (shown version card line).battery.zones i nan

-- 'a trial line is kind 1 with commit 0'
abbrev pub IsTrial : ℕ → Line → Type 0
IsTrial version line = (kind_in line ≡ 1) × (get_or line.call (commit_place version) 0 ≡ 0)

-- ---- Directions: 'Warmer, cooler and altered compare each zone, as f64, with the line before; on the first call line, with the start temperature.'

abbrev pub NoneWarmer : Card → (ℕ → Float) → (ℕ → Float) → Type 0
NoneWarmer card before after = (i : ℕ) → i < card.layers → le (after i) (before i) ≡ true

abbrev pub NoneCooler : Card → (ℕ → Float) → (ℕ → Float) → Type 0
NoneCooler card before after = (i : ℕ) → i < card.layers → le (before i) (after i) ≡ true

abbrev pub NoneAltered : Card → (ℕ → Float) → (ℕ → Float) → Type 0
NoneAltered card before after = (i : ℕ) → i < card.layers → eq (after i) (before i) ≡ true

-- 'no zone is warmer after a standing loss, none cooler after an electric charge, and none altered by a refused or trial line'
pub record Directed (version : ℕ) (card : Card) (line : Line) (before after : ℕ → Float) : Type 0 where
  pub loss : kind_in line ≡ 4 → NoneWarmer card before after
  pub electric : kind_in line ≡ 2 → NoneCooler card before after
  pub refused : ((shown version card line).refusal ≡ 0 → ⊥) → NoneAltered card before after
  pub trial : IsTrial version line → NoneAltered card before after

-- line after line, from the zones before the first
abbrev pub AllDirected : ℕ → Card → (ℕ → Float) → List Line → Type 0
AllDirected version card before [] = Unit
AllDirected version card before (l ∷ ls) = Directed version card l before (zones_in version card l) × AllDirected version card (zones_in version card l) ls

-- ---- Document 02, Six: no zone ends under the floor unless it was there, and then it stays

abbrev pub NoneUnder : Card → (ℕ → Float) → (ℕ → Float) → Type 0
NoneUnder card before after = (i : ℕ) → i < card.layers → lt (after i) room_temperature ≡ true → eq (after i) (before i) ≡ true

abbrev pub AllFloored : ℕ → Card → (ℕ → Float) → List Line → Type 0
AllFloored version card before [] = Unit
AllFloored version card before (l ∷ ls) = (kind_in l ≡ 4 → NoneUnder card before (zones_in version card l)) × AllFloored version card (zones_in version card l) ls

-- ---- Charged total: 'Charge lines are kinds 2 and 3'

unfoldable pub answered_charge : ℕ → Card → Line → Bool
answered_charge version card line = (eqb (kind_in line) 2 || eqb (kind_in line) 3) && eqb (shown version card line).refusal 0

-- the sum after a line: the line's energy, as written, is added where it is an answered charge line
unfoldable pub sum_after : ℕ → Card → Float → Line → Float
sum_after version card sum line = cond (answered_charge version card line) (sum ⊕ (shown version card line).energy) sum

-- 'On each of its call lines the charged total is the f64 sum, in line order, of the energies of the answered charge lines up to it', by f64 equality
abbrev pub AllSummed : ℕ → Card → Float → List Line → Type 0
AllSummed version card sum [] = Unit
AllSummed version card sum (l ∷ ls) = (eq (shown version card l).battery.charged (sum_after version card sum l) ≡ true) × AllSummed version card (sum_after version card sum l) ls

-- Lines that are laid and agree, seen from the battery in front of them.
use mathlib.Core.Path.{◌≡◌, refl, sym, ap, ◌∙◌}
use mathlib.Core.List.{List, [], ◌∷◌, ◌++◌}
use mathlib.Core.Bool.{Bool, true}
use Prim.Native.Nat.{ℕ}
use lib.Ieee.{Float}
use Rattle.card.specs.Extension.{Extension}
use Rattle.card.specs.declared.Card.{Card}
use Rattle.battery.specs.Battery.{fresh}
use Rattle.battery.specs.declared.Battery.{Battery}
use Rattle.battery.specs.declared.Call.{Call}
use Rattle.engine.specs.Steps.{step_of}
use Rattle.sheet_lines.specs.Answers.{answer_at, agrees}
use Rattle.auditor.specs.Sheet.{Line, Laid, AllLaid, steps_from, expected, AgreesAfter}

abbrev pub Stepped : (Float → Float → Bool) → ℕ → Extension → Card → Battery → List Line → List Call → Type 0
Stepped same version extension c b [] [] = Unit
Stepped same version extension c b [] (call ∷ calls) = ⊥
Stepped same version extension c b (l ∷ ls) [] = ⊥
Stepped same version extension c b (l ∷ ls) (call ∷ calls) =
    Laid version extension c l call
    × (agrees same (answer_at version c l.answer) (step_of version b call) ≡ true)
    × Stepped same version extension c (step_of version b call).battery ls calls

pub steps_then : (version : ℕ) (b : Battery) (calls : List Call) (call : Call)
    → steps_from version b (calls ++ (call ∷ [])) ≡ (step_of version (steps_from version b calls) call).battery
unfolding steps_from
steps_then version b [] call = refl
steps_then version b (first ∷ calls) call = steps_then version (step_of version b first).battery calls call

module _ (same : Float → Float → Bool) (version : ℕ) (extension : Extension) (c : Card) where
  abbrev at : List Call → Battery
  at earlier = steps_from version (fresh c) earlier

  pub stepped : (earlier : List Call) (ls : List Line) (calls : List Call) → AllLaid version extension c ls calls → AgreesAfter same version c earlier ls calls
      → Stepped same version extension c (at earlier) ls calls
  unfolding expected
  stepped earlier [] [] laid a = tt
  stepped earlier [] (call ∷ calls) laid a = absurd laid
  stepped earlier (l ∷ ls) [] laid a = absurd laid
  stepped earlier (l ∷ ls) (call ∷ calls) laid a = (
    laid.0,
    a.0,
    rw (steps_then version (fresh c) earlier call) at (stepped (earlier ++ (call ∷ [])) ls calls laid.1 a.1),
  )

  pub all_laid : (b : Battery) (ls : List Line) (calls : List Call) → Stepped same version extension c b ls calls → AllLaid version extension c ls calls
  all_laid b [] [] s = tt
  all_laid b [] (call ∷ calls) s = absurd s
  all_laid b (l ∷ ls) [] s = absurd s
  all_laid b (l ∷ ls) (call ∷ calls) s = (s.0, all_laid (step_of version b call).battery ls calls s.2)

  pub all_agree : (earlier : List Call) (b : Battery) (ls : List Line) (calls : List Call) → b ≡ at earlier → Stepped same version extension c b ls calls
      → AgreesAfter same version c earlier ls calls
  unfolding expected
  all_agree earlier b [] [] e s = tt
  all_agree earlier b [] (call ∷ calls) e s = absurd s
  all_agree earlier b (l ∷ ls) [] e s = absurd s
  all_agree earlier b (l ∷ ls) (call ∷ calls) e s = (
    rw (← e) s.1,
    all_agree (earlier ++ (call ∷ [])) (step_of version b call).battery ls calls
        (ap (λ (x : Battery). (step_of version x call).battery) e ∙ sym (steps_then version (fresh c) earlier call)) s.2,
  )

-- The auditor's own battery, and its walk over lines that are laid and agree.
use mathlib.Core.Path.{◌≡◌, refl, sym, ap, ◌∙◌}
use mathlib.Core.List.{List, [], ◌∷◌, ◌++◌, append_assoc}
use mathlib.Core.Bool.{Bool, true, false}
use mathlib.Core.Logic.{◌⊎◌, inl, inr}
use Prim.Native.Nat.{ℕ, zero, suc, ◌+◌, ◌≤◌}
use native.Mathlib.Nat.{add-zero}
use native.Mathlib.Omega.{arith}
use borrow.Author.Tests.{ne_eqb}
use lib.Dec.{T}
use lib.Ieee.{Float, fits, binary64}
use lib.ListN.{length}
use Rattle.card.specs.Card.{card_refusal}
use Rattle.card.specs.Extension.{Extension}
use Rattle.card.specs.declared.Card.{Card}
use Rattle.battery.specs.Battery.{fresh, GoodBattery}
use Rattle.battery.proofs.FreshGood.{fresh_good}
use Rattle.battery.specs.Call.{call_in_range}
use Rattle.battery.specs.Answer.{refused_with}
use Rattle.battery.specs.declared.Battery.{Battery}
use Rattle.battery.specs.declared.Call.{Call}
use Rattle.engine.specs.Steps.{step_of, advance_of}
use Rattle.engine.proofs.AdvanceKeeps.{advance_is_step, advance_keeps_good, advance_keeps_card}
use Rattle.engine.proofs.StepKeeps.{step_refusals, step_keeps_card, step_keeps_good}
use Rattle.sheet_lines.specs.Answers.{answer_at}
use Rattle.auditor.specs.Audit.{judge, audit_line, audit_from}
use Rattle.auditor.specs.Sheet.{Line, bytes_of, lines_bytes, Laid, steps_from}
use Rattle.auditor.proofs.Turns.{audit_some, From}
use Rattle.auditor.proofs.Stepped.{Stepped}
use Rattle.auditor.proofs.LaidLines.{line_long, answer_part_lem, following_part, line_call_lem}

-- the auditor's own battery: good, and its card the sheet's
pub record Own (version : ℕ) (c : Card) (b : Battery) : Type 0 where
  pub good : GoodBattery version b
  pub card : b.card ≡ c

pub own_fresh : (version : ℕ) (c : Card) → card_refusal version c ≡ 0 → T (fits binary64 c.start) → Own version c (fresh c)
unfolding fresh
own_fresh version c h f = record { good = fresh_good version c h f; card = refl }

module _ (version : ℕ) (c : Card) (b : Battery) (o : Own version c b) (call : Call) where
  pub next_own : Own version c (step_of version b call).battery
  next_own = record { good = step_keeps_good version b call o.good; card = step_keeps_card version b call ∙ o.card }

  pub advanced_own : Own version c (advance_of version b call).battery
  advanced_own = record { good = advance_keeps_good version b call o.good; card = advance_keeps_card version b call ∙ o.card }

  pub own_step : call_in_range version c call ≡ true → advance_of version b call ≡ step_of version b call
  own_step h = advance_is_step version b call o.good.accepted (ap (λ (x : Card). call_in_range version x call) o.card ∙ h)

  pub own_ten : call_in_range version c call ≡ false → (advance_of version b call).refusal ≡ 10
  unfolding advance_of refused_with
  own_ten h =
      let k : call_in_range version b.card call ≡ false = ap (λ (x : Card). call_in_range version x call) o.card ∙ h in
      rw (o.good.accepted, k)

  pub not_ten : (step_of version b call).refusal ≡ 10 → ⊥
  not_ten e = on (step_refusals version b call)
    where
      on : ((step_of version b call).refusal ≡ 0) ⊎ ((20 ≤ (step_of version b call).refusal) × ((step_of version b call).refusal ≤ 25)) → ⊥
      on (inl z) = omega arith
      on (inr z) = omega arith

-- ---- the walk over lines that are laid and agree, to what lies after them

pub one_line : (same : Float → Float → Bool) (version : ℕ) (extension : Extension) (c : Card) (most : ℕ) (b : Battery) (k : ℕ) (l : Line) (call : Call) (r : List ℕ) → Own version c b → Laid version extension c l call
    → audit_from same version extension c (suc most) b k (bytes_of l ++ r)
    ≡ judge same k (answer_at version c l.answer) (step_of version b call) (λ next. audit_from same version extension c most next (k + 1) r)
unfolding audit_line
one_line same version extension c most b k l call r o h =
    let some : 1 ≤ length (bytes_of l ++ r) = omega (arith, line_long version extension c l call h r) in
    audit_some same version extension c most b k (bytes_of l ++ r) some
    ∙ rw (line_call_lem version extension c l call h r, answer_part_lem version extension c l call h r, following_part version extension c l call h r, own_step version c b o call h.in_range)

pub own_after : (version : ℕ) (c : Card) (calls : List Call) (b : Battery) → Own version c b → Own version c (steps_from version b calls)
unfolding steps_from
own_after version c [] b o = o
own_after version c (call ∷ calls) b o = own_after version c calls (step_of version b call).battery (next_own version c b o call)

pub walk : (same : Float → Float → Bool) (version : ℕ) (extension : Extension) (c : Card) (ls : List Line) (calls : List Call) (most : ℕ) (b : Battery) (k : ℕ) (r : List ℕ) → Own version c b → Stepped same version extension c b ls calls
    → length (lines_bytes ls ++ r) ≤ most → From same version extension c (steps_from version b calls) (k + length ls) r (audit_from same version extension c most b k (lines_bytes ls ++ r))
unfolding steps_from judge
walk same version extension c [] [] most b k r o s h = record { most = most; enough = h; gives = ap (λ (m : ℕ). audit_from same version extension c most b m r) (sym (add-zero k)) }
walk same version extension c [] (call ∷ calls) most b k r o s h = absurd s
walk same version extension c (l ∷ ls) [] most b k r o s h = absurd s
walk same version extension c (l ∷ ls) (call ∷ calls) zero b k r o s h =
    let e : (bytes_of l ++ lines_bytes ls) ++ r ≡ bytes_of l ++ (lines_bytes ls ++ r) = append_assoc (bytes_of l) (lines_bytes ls) r in
    absurd (omega (arith, ap length e, line_long version extension c l call s.0 (lines_bytes ls ++ r)))
walk same version extension c (l ∷ ls) (call ∷ calls) (suc most) b k r o s h =
    let t = lines_bytes ls ++ r in
    let e : (bytes_of l ++ lines_bytes ls) ++ r ≡ bytes_of l ++ t = append_assoc (bytes_of l) (lines_bytes ls) r in
    let less : length t ≤ most = omega (arith, ap length e, line_long version extension c l call s.0 t) in
    let w = walk same version extension c ls calls most (step_of version b call).battery (k + 1) r (next_own version c b o call) s.2 less in
    let m : k + 1 + length ls ≡ k + suc (length ls) = omega arith in
    record {
      most = w.most;
      enough = w.enough;
      gives =
          ap (audit_from same version extension c (suc most) b k) e ∙ one_line same version extension c most b k l call t o s.0
          ∙ rw (ne_eqb (step_of version b call).refusal 10 (not_ten version c b o call), s.1)
          (w.gives ∙ ap (λ (n : ℕ). audit_from same version extension c w.most (steps_from version (step_of version b call).battery calls) n r) m);
    }

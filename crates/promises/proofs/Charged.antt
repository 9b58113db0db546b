-- Demand 3: 'On each of its call lines the charged total is the f64 sum, in line order, of the energies of the answered charge lines up to it.'
use mathlib.Core.Path.{◌≡◌, refl, sym, ap₂, ◌∙◌}
use mathlib.Core.List.{List, [], ◌∷◌}
use mathlib.Core.Bool.{Bool, true, false, cond, ◌&&◌}
use Prim.Native.Nat.{ℕ}
use borrow.Author.Tests.{eqb-true}
use lib.Dec.{T, eqb}
use lib.Ieee.{Float, binary64, of_bits, eq}
use lib.Ieee.Bits.{is_true}
use Rattle.floats.specs.F64.{◌⊕◌}
use Rattle.floats.specs.Constants.{zero}
use Rattle.floats.proofs.Parts.{number}
use Rattle.floats.proofs.Order.{eq_sym, eq_trans}
use Rattle.floats.proofs.SumLaws.{add_respects}
use Rattle.card.specs.Extension.{Extension}
use Rattle.card.specs.declared.Card.{Card}
use Rattle.logic.proofs.Tests.{and_true, no_both}
use Rattle.battery.specs.Battery.{fresh}
use Rattle.battery.specs.Kinds.{is_charge}
use Rattle.battery.specs.declared.Battery.{Battery}
use Rattle.battery.specs.declared.Call.{Call}
use Rattle.battery.specs.declared.Answer.{Answer}
use Rattle.engine.specs.Steps.{step_of}
use Rattle.engine.proofs.StepKeeps.{charge_adds_energy, charged_stays}
use Rattle.sheet_records.specs.Cards.{card_at, extension_at}
use Rattle.sheet_lines.specs.Answers.{same_number, agrees}
use Rattle.auditor.specs.Rules.{Rules, plain, NoLooser}
use Rattle.auditor.specs.Sheet.{Line, Laid, Sheet}
use Rattle.promises.specs.Claims.{shown, answered_charge, sum_after, AllSummed}
use Rattle.auditor.proofs.Stepped.{Stepped}
use Rattle.auditor.proofs.Walks.{Own, next_own}
use Rattle.auditor.proofs.Opened.{fresh_own}
use Rattle.auditor.proofs.Exact.{sheet_stepped, plain_sheet}
use Rattle.auditor.proofs.ReadCalls.{read_charge}
use Rattle.promises.proofs.Shown.{shown_refusal, shown_energy, shown_charged, charged_number}

module _ (version : ℕ) (extension : Extension) (c : Card) (b : Battery) (o : Own version c b) (sum : Float) (same : T (eq sum b.charged)) (l : Line) (call : Call) (laid : Laid version extension c l call)
    (a : agrees same_number (shown version c l) (step_of version b call) ≡ true) where
  abbrev own : Answer
  own = step_of version b call

  charges : answered_charge version c l ≡ (is_charge call && eqb own.refusal 0)
  unfolding answered_charge
  charges = ap₂ (λ (x : Bool) (r : ℕ). x && eqb r 0) (sym (read_charge version extension l.call call laid.reads)) (shown_refusal version c l own a)

  -- the sum on the sheet is the steps' total
  by_charge : (t : Bool) → (is_charge call && eqb own.refusal 0) ≡ t → T (eq (cond t (sum ⊕ (shown version c l).energy) sum) own.battery.charged)
  by_charge true h =
      let p = and_true (is_charge call) (eqb own.refusal 0) h in
      let e : own.battery.charged ≡ b.charged ⊕ own.energy = charge_adds_energy version b call p.0 (eqb-true own.refusal 0 p.1) in
      let n : T (number (b.charged ⊕ own.energy)) = rw e at (charged_number version b call o.good) in
      rw e
      (eq_sym (b.charged ⊕ own.energy) (sum ⊕ (shown version c l).energy)
      (add_respects binary64 b.charged sum own.energy (shown version c l).energy (eq_sym sum b.charged same) (eq_sym (shown version c l).energy own.energy (shown_energy version c l own a)) n))
  by_charge false h = rw (charged_stays version b call (λ p q. no_both (sym (rw (p, q)) ∙ h))) same

  pub kept : T (eq (sum_after version c sum l) own.battery.charged)
  unfolding sum_after
  kept = rw charges (by_charge (is_charge call && eqb own.refusal 0) refl)

  pub summed : eq (shown version c l).battery.charged (sum_after version c sum l) ≡ true
  summed =
      is_true (eq (shown version c l).battery.charged (sum_after version c sum l))
      (eq_trans (shown version c l).battery.charged own.battery.charged (sum_after version c sum l) (shown_charged version c l own a) (eq_sym (sum_after version c sum l) own.battery.charged kept))

all_summed : (version : ℕ) (extension : Extension) (c : Card) (ls : List Line) (calls : List Call) (b : Battery) → Own version c b → (sum : Float) → T (eq sum b.charged) → Stepped same_number version extension c b ls calls → AllSummed version c sum ls
all_summed version extension c [] [] b o sum same s = tt
all_summed version extension c [] (call ∷ calls) b o sum same s = absurd s
all_summed version extension c (l ∷ ls) [] b o sum same s = absurd s
all_summed version extension c (l ∷ ls) (call ∷ calls) b o sum same s = (
  summed version extension c b o sum same l call s.0 s.1,
  all_summed version extension c ls calls (step_of version b call).battery (next_own version c b o call) (sum_after version c sum l) (kept version extension c b o sum same l call s.0 s.1) s.2,
)

total : (bs : List ℕ) (n : ℕ) (s : Sheet plain bs n) → AllSummed s.version (card_at s.version s.card) zero s.lines
unfolding fresh of_bits eq
total bs n s =
    let c = card_at s.version s.card in
    all_summed s.version (extension_at s.version s.card) c s.lines s.calls (fresh c) (fresh_own s.version s.card s.accepted) zero tt (sheet_stepped plain bs n s)

-- 'The charged sum starts at 0'
pub charged_total : (rules : Rules) → NoLooser rules → (bs : List ℕ) (n : ℕ) (s : Sheet rules bs n) → AllSummed s.version (card_at s.version s.card) zero s.lines
unfolding plain_sheet
charged_total rules more bs n s = total bs n (plain_sheet rules more bs n s)

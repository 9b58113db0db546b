-- A call: each of 20 to 25 is given exactly in its case.
use Rattle.std.specs.Prelude.{Some}
use mathlib.Core.Path.{◌≡◌, sym, ap, ◌∙◌}
use mathlib.Core.Logic.{◌↔◌}
use mathlib.Core.List.{List}
use mathlib.Core.Bool.{true}
use Prim.Native.Nat.{ℕ, ◌≤◌}
use native.Mathlib.Omega.{arith}
use Rattle.card.specs.Version.{known_version}
use Rattle.card.specs.declared.Card.{Card}
use Rattle.battery.specs.Call.{call_in_range}
use Rattle.battery.specs.declared.Battery.{Battery}
use Rattle.battery.specs.declared.Call.{Call}
use Rattle.engine.specs.Steps.{step_of}
use Rattle.engine.specs.Cases.{Case20, Case21, Case22, Case23, Case24, Case25}
use Rattle.engine.proofs.StepCases.{step_20, step_21, step_22, step_23, step_24, step_25}
use Rattle.sheet_records.specs.Cards.{extension_at}
use Rattle.sheet_records.specs.Records.{record_of}
use Rattle.sheet_calls.specs.Calls.{call_of}
use Rattle.entries.specs.Entry.{After, unchanged, entered}
use Rattle.entries.proofs.Entering.{code_of}
use Rattle.heat_battery.specs.Entries.{entry_of}
use Rattle.heat_battery.specs.Cases.{GetsLine, LineCase}
use Rattle.heat_battery.proofs.Finite.{record_card_lem}
use Rattle.heat_battery.proofs.CallCases.{CallWay, ten, eleven, line, call_way, gets_step}

module _ (version : ℕ) (known : known_version version ≡ true) (rec call free : List ℕ) where
  abbrev b : Battery
  b = record_of version rec

  abbrev o : After
  o = entry_of version rec call free

  -- a call that gets a line is in range
  in_range : GetsLine version rec call free → (c : Call) → call_of version (extension_at version rec) call ≡ Some c → call_in_range version b.card c ≡ true
  in_range x c k = ap (λ (y : Card). call_in_range version y c) (record_card_lem version rec) ∙ x.call_good.in_range c k

  -- a number that the steps give in its case
  line_is : (n : ℕ) → 20 ≤ n → (Case : Battery → Call → Type 0) → ((c : Call) → call_in_range version b.card c ≡ true → ((step_of version b c).refusal ≡ n) ↔ Case b c)
      → ((entry_of version rec call free).code ≡ n) ↔ LineCase Case version rec call free
  line_is n l Case given = (on (call_way version known rec call free), back)
    where
      on : CallWay version rec call free o → o.code ≡ n → LineCase Case version rec call free
      on (ten x e) h = let m = code_of (unchanged 10 rec free) e in absurd (omega arith)
      on (eleven x e) h = let m = code_of (unchanged 11 rec free) e in absurd (omega arith)
      on (line x c k e) h =
          record {
            gets_line = x;
            asked = c;
            read = k;
            case_of = (given c (in_range x c k)).0 (sym (code_of (entered version rec call free (step_of version b c)) e) ∙ h);
          }

      back : LineCase Case version rec call free → o.code ≡ n
      back y =
          code_of (entered version rec call free (step_of version b y.asked)) (gets_step version known rec call free y.gets_line y.asked y.read)
          ∙ (given y.asked (in_range y.gets_line y.asked y.read)).1 y.case_of

  pub call_20 : ((entry_of version rec call free).code ≡ 20) ↔ LineCase Case20 version rec call free
  call_20 = line_is 20 (omega arith) Case20 (step_20 version b)

  pub call_21 : ((entry_of version rec call free).code ≡ 21) ↔ LineCase Case21 version rec call free
  call_21 = line_is 21 (omega arith) Case21 (step_21 version b)

  pub call_22 : ((entry_of version rec call free).code ≡ 22) ↔ LineCase Case22 version rec call free
  call_22 = line_is 22 (omega arith) Case22 (step_22 version b)

  pub call_23 : ((entry_of version rec call free).code ≡ 23) ↔ LineCase (Case23 version) version rec call free
  call_23 = line_is 23 (omega arith) (Case23 version) (step_23 version b)

  pub call_24 : ((entry_of version rec call free).code ≡ 24) ↔ LineCase Case24 version rec call free
  call_24 = line_is 24 (omega arith) Case24 (step_24 version b)

  pub call_25 : ((entry_of version rec call free).code ≡ 25) ↔ LineCase Case25 version rec call free
  call_25 = line_is 25 (omega arith) Case25 (step_25 version b)

-- A call on the caller's own record: 10 and 20 to 25 are given exactly in their cases, and no other number.
use Rattle.std.specs.Prelude.{None, Option, Some}
use mathlib.Core.Path.{◌≡◌, refl, sym, ap, ◌∙◌}
use mathlib.Core.Logic.{◌⊎◌, ◌↔◌, inl, inr}
use mathlib.Core.List.{List}
use mathlib.Core.Bool.{Bool, true, false, ◌&&◌}
use Prim.Native.Nat.{ℕ, ◌≤◌}
use native.Mathlib.Omega.{arith}
use Rattle.logic.proofs.Tests.{no_both, true_and}
use Rattle.card.specs.Version.{known_version}
use Rattle.card.specs.Extension.{Extension, extension_ok}
use Rattle.card.proofs.FullRefusal.{full_accepted, accepted_full}
use Rattle.battery.specs.declared.Battery.{Battery}
use Rattle.battery.specs.declared.Call.{Call}
use Rattle.battery.specs.declared.Answer.{Answer}
use Rattle.battery.specs.Answer.{refused_with}
use Rattle.battery.specs.Battery.{battery_accepted}
use Rattle.battery.specs.Ledger.{totals_finite}
use Rattle.battery.proofs.Accepted.{accepted_battery, battery_accepted_lem}
use Rattle.battery.proofs.AnswerLaws.{finite_totals}
use Rattle.battery.proofs.Zones.{zones_finite_at, zones_finite_of}
use Rattle.battery.specs.Call.{call_in_range}
use Rattle.engine.specs.Steps.{step_of, advance_of}
use Rattle.engine.specs.Cases.{Case20, Case21, Case22, Case23, Case24, Case25}
use Rattle.engine.proofs.Promises.{refused_number}
use Rattle.engine.proofs.StepKeeps.{step_refusals}
use Rattle.engine.proofs.AdvanceKeeps.{advance_is_step}
use Rattle.engine.proofs.StepCases.{step_20, step_21, step_22, step_23, step_24, step_25}
use Rattle.sheet_calls.specs.Calls.{call_of}
use Rattle.sheet_calls.proofs.CallLaws.{same_call, no_call}
use Rattle.sheet_calls.proofs.CallExact.{call_laid, laid_call}
use Rattle.own_record.specs.Record.{shown_of, advanced_by, advance_read, advanced_of}
use Rattle.own_record.proofs.Answered.{not_accepted_extended, accepted_extended}
use Rattle.own_record.proofs.OwnRecordLaws.{own_known}
use Rattle.heat_battery.specs.Cases.{GoodCall, GoodOwn, OwnCase10, bad_own, bad_own_call, OwnCase}
use Rattle.heat_battery.proofs.CallCases.{not_ten}

and_false : (a : Bool) → (a && false) ≡ false
and_false true = refl
and_false false = refl

-- ---- a record that 10 lets through

module _ (version : ℕ) (extension : Extension) (b : Battery) where
  own_good : extension_ok extension ≡ true → battery_accepted version b ≡ true → GoodOwn version extension b
  own_good ok h =
      let a = accepted_battery version b h in
      let t = finite_totals b a.totals in
      record {
        card_accepted = accepted_full version b.card extension a.card ok;
        count = a.count;
        zones = zones_finite_at b.zones b.card.layers a.zones;
        total = t.total;
        pump = t.pump;
        direct = t.direct;
        charged = t.charged;
        electric = t.electric;
      }

  good_extended : GoodOwn version extension b → extension_ok extension ≡ true
  good_extended g = (full_accepted version b.card extension g.card_accepted).1

  good_own : GoodOwn version extension b → battery_accepted version b ≡ true
  good_own g =
      battery_accepted_lem version b
      (record {
        card = (full_accepted version b.card extension g.card_accepted).0;
        count = g.count;
        zones = zones_finite_of b.zones b.card.layers g.zones;
        totals = unfold totals_finite in true_and g.total (true_and g.pump (true_and g.direct (true_and g.charged g.electric)));
      })

-- ---- which way a call goes, by its number

data OwnWay (version : ℕ) (extension : Extension) (b : Battery) (call : List ℕ) (n : ℕ) : Type 0 where
  own_ten : OwnCase10 version extension b call → n ≡ 10 → OwnWay version extension b call n
  own_step : GoodOwn version extension b → GoodCall version extension b.card call → (c : Call) → call_of version extension call ≡ Some c → call_in_range version b.card c ≡ true → n ≡ (step_of version b c).refusal
      → OwnWay version extension b call n

module _ (version : ℕ) (known : known_version version ≡ true) (extension : Extension) (b : Battery) (call : List ℕ) where
  abbrev n : ℕ
  n = (advanced_of version extension b call).shown.refusal

  -- the number of a call that is read, where the extension is accepted
  extended_number : extension_ok extension ≡ true → n ≡ (advance_read version b (call_of version extension call)).refusal
  unfolding advanced_of advanced_by shown_of
  extended_number ok = ap (λ (a : Answer). a.refusal) (own_known version extension b call known ∙ accepted_extended version extension b call ok)

  refused_extension : extension_ok extension ≡ false → n ≡ 10
  unfolding advanced_of advanced_by shown_of
  refused_extension bad =
      ap (λ (a : Answer). a.refusal) (own_known version extension b call known ∙ not_accepted_extended version extension b call (rw bad (and_false (battery_accepted version b)))) ∙ refused_number 10 b

  number : extension_ok extension ≡ true → (c : Call) → call_of version extension call ≡ Some c → n ≡ (advance_of version b c).refusal
  unfolding advance_read
  number ok c e = extended_number ok ∙ ap (λ (r : Option Call). (advance_read version b r).refusal) e

  bad_number : extension_ok extension ≡ true → call_of version extension call ≡ None → n ≡ 10
  unfolding advance_read refused_with
  bad_number ok e = extended_number ok ∙ ap (λ (r : Option Call). (advance_read version b r).refusal) e

  refused_ten : extension_ok extension ≡ true → (c : Call) → call_of version extension call ≡ Some c → (battery_accepted version b && call_in_range version b.card c) ≡ false → n ≡ 10
  unfolding advance_of refused_with
  refused_ten ok c e h = number ok c e ∙ ap (λ (a : Answer). a.refusal) (let r : advance_of version b c ≡ refused_with 10 b = rw h in r)

  good_call : (c : Call) → call_of version extension call ≡ Some c → call_in_range version b.card c ≡ true → GoodCall version extension b.card call
  good_call c e h = record { laid = call_laid version extension call c e; in_range = λ d k. rw (same_call (call_of version extension call) e k) h }

  by_tests : extension_ok extension ≡ true → (c : Call) → call_of version extension call ≡ Some c → (p q : Bool) → battery_accepted version b ≡ p → call_in_range version b.card c ≡ q → OwnWay version extension b call n
  by_tests ok c e true true h k = own_step (own_good version extension b ok h) (good_call c e k) c e k (number ok c e ∙ ap (λ (a : Answer). a.refusal) (advance_is_step version b c h k))
  by_tests ok c e true false h k = own_ten (bad_own_call (λ g. no_both (sym (g.in_range c e) ∙ k))) (refused_ten ok c e (rw (h, k)))
  by_tests ok c e false q h k = own_ten (bad_own (λ g. no_both (sym (good_own version extension b g) ∙ h))) (refused_ten ok c e (rw h))

  by_call : extension_ok extension ≡ true → (r : Option Call) → call_of version extension call ≡ r → OwnWay version extension b call n
  by_call ok None e = own_ten (bad_own_call (λ g. no_call (call_of version extension call) e (laid_call version extension call g.laid).1)) (bad_number ok e)
  by_call ok (Some c) e = by_tests ok c e (battery_accepted version b) (call_in_range version b.card c) refl refl

  by_extension : (ok : Bool) → extension_ok extension ≡ ok → OwnWay version extension b call n
  by_extension true ok = by_call ok (call_of version extension call) refl
  by_extension false bad = own_ten (bad_own (λ g. no_both (sym (good_extended version extension b g) ∙ bad))) (refused_extension bad)

  way : OwnWay version extension b call n
  way = by_extension (extension_ok extension) refl

  no_case : GoodOwn version extension b → GoodCall version extension b.card call → OwnCase10 version extension b call → ⊥
  no_case g k (bad_own h) = h g
  no_case g k (bad_own_call h) = h k

  pub own_10 : ((advanced_of version extension b call).shown.refusal ≡ 10) ↔ OwnCase10 version extension b call
  own_10 = (on way, back way)
    where
      on : OwnWay version extension b call n → n ≡ 10 → OwnCase10 version extension b call
      on (own_ten x e) h = x
      on (own_step g k c e r m) h = absurd ((not_ten (step_of version b c).refusal (step_refusals version b c)).0 (sym m ∙ h))

      back : OwnWay version extension b call n → OwnCase10 version extension b call → n ≡ 10
      back (own_ten x e) h = e
      back (own_step g k c e r m) h = absurd (no_case g k h)

  -- a number that the steps give in its case
  own_is : (m : ℕ) → 20 ≤ m → (Case : Battery → Call → Type 0) → ((c : Call) → call_in_range version b.card c ≡ true → ((step_of version b c).refusal ≡ m) ↔ Case b c)
      → ((advanced_of version extension b call).shown.refusal ≡ m) ↔ OwnCase Case version extension b call
  own_is m l Case given = (on way, back way)
    where
      on : OwnWay version extension b call n → n ≡ m → OwnCase Case version extension b call
      on (own_ten x e) h = absurd (omega arith)
      on (own_step g k c e r s) h = record { own_good = g; call_good = k; asked = c; read = e; case_of = (given c r).0 (sym s ∙ h) }

      back : OwnWay version extension b call n → OwnCase Case version extension b call → n ≡ m
      back (own_ten x e) y = absurd (no_case y.own_good y.call_good x)
      back (own_step g k c e r s) y = s ∙ (given c r).1 (rw (same_call (call_of version extension call) y.read e) y.case_of)

  pub own_20 : ((advanced_of version extension b call).shown.refusal ≡ 20) ↔ OwnCase Case20 version extension b call
  own_20 = own_is 20 (omega arith) Case20 (step_20 version b)

  pub own_21 : ((advanced_of version extension b call).shown.refusal ≡ 21) ↔ OwnCase Case21 version extension b call
  own_21 = own_is 21 (omega arith) Case21 (step_21 version b)

  pub own_22 : ((advanced_of version extension b call).shown.refusal ≡ 22) ↔ OwnCase Case22 version extension b call
  own_22 = own_is 22 (omega arith) Case22 (step_22 version b)

  pub own_23 : ((advanced_of version extension b call).shown.refusal ≡ 23) ↔ OwnCase (Case23 version) version extension b call
  own_23 = own_is 23 (omega arith) (Case23 version) (step_23 version b)

  pub own_24 : ((advanced_of version extension b call).shown.refusal ≡ 24) ↔ OwnCase Case24 version extension b call
  own_24 = own_is 24 (omega arith) Case24 (step_24 version b)

  pub own_25 : ((advanced_of version extension b call).shown.refusal ≡ 25) ↔ OwnCase Case25 version extension b call
  own_25 = own_is 25 (omega arith) Case25 (step_25 version b)

  pub own_codes : ((advanced_of version extension b call).shown.refusal ≡ 10) ⊎ (((advanced_of version extension b call).shown.refusal ≡ 0)
      ⊎ ((20 ≤ (advanced_of version extension b call).shown.refusal) × ((advanced_of version extension b call).shown.refusal ≤ 25)))
  own_codes = on way
    where
      on : OwnWay version extension b call n → (n ≡ 10) ⊎ ((n ≡ 0) ⊎ ((20 ≤ n) × (n ≤ 25)))
      on (own_ten x e) = inl e
      on (own_step g k c e r m) = inr (rw m (step_refusals version b c))

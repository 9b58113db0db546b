-- The time of a hydronic run on an accepted card is finite: at most 65,535 substeps of at most 3,600 s, and a fractional one whose heat is finite.
use Rattle.std.specs.Prelude.{None}
use mathlib.Core.Path.{◌≡◌, refl, subst}
use mathlib.Core.Logic.{inl, inr}
use mathlib.Core.Bool.{true}
use Prim.Native.Nat.{ℕ, zero, suc, ◌+◌, ◌-◌, ◌*◌, ◌^◌, ◌≤◌}
use native.Mathlib.Omega.{arith}
use lib.Dec.{T}
use lib.IntN.{pos}
use lib.Ieee.{Float, binary64, add, le, fits, of_bits, of_int}
use lib.Ieee.Fits.{and_i, add-fits, mul-fits}
use lib.Ieee.Bits.{is_true, of_bits-fits}
use lib.Ieee.Scale.{finite}
use Rattle.logic.proofs.Tests.{and_true}
use Rattle.floats.specs.F64.{◌⊕◌}
use Rattle.floats.specs.Constants as Constants
use Rattle.floats.specs.Constants.{hour}
use Rattle.floats.specs.Standins.{finite64}
use Rattle.floats.proofs.Compare.{le_of_eq}
use Rattle.floats.proofs.Finite.{between_finite}
use Rattle.floats.proofs.Integer.{of_int_mono, of_int_finite, of_int_add}
use Rattle.floats.proofs.Operands.{aside, small_beside}
use Rattle.floats.proofs.Order.{le_refl, le_trans, finite_number}
use Rattle.floats.proofs.Range.{add_range}
use Rattle.zone.specs.declared.Salt.{Salt}
use Rattle.zone.specs.Layer.{salt_at}
use Rattle.card.specs.Card.{times_in_range, card_refusal}
use Rattle.card.specs.Derived.{salts_of}
use Rattle.card.specs.Ranges.{tenth, is_substep, is_timestep}
use Rattle.card.proofs.Accepted.{accepted, accepted_layers, accepted_budget}
use Rattle.card.proofs.Within.{within_low, within_high}
use Rattle.battery.specs.declared.Battery.{Battery}
use Rattle.battery.specs.declared.Hydronic.{Hydronic}
use Rattle.substep.specs.declared.Substep.{Substep}
use Rattle.substep.proofs.Seconds.{seconds_finite}
use Rattle.runs.specs.Runs.{end_refusal}
use Rattle.runs.specs.Hydronic.{wet_input, fraction_seconds, whole_substeps}
use Rattle.runs.specs.Charge.{hydronic_task}
use Rattle.runs.specs.declared.HydronicTask.{HydronicTask}
use Rattle.engine.specs.Budget.{hydronic_task_of, hydronic_run_of}
use Rattle.engine.specs.Faults.{heat_of, absorbed_with, fraction_input}
use Rattle.engine.specs.Times.{added_up, after_turns, whole_after, fraction_after, TimeRun}
use Rattle.engine.proofs.Ends.{hydronic_run_count}
use Rattle.engine.proofs.Times.{hydronic_from, hydronic_run_time}

-- ---- the sum of whole substeps

abbrev bound : ℕ → Float
bound n = of_int binary64 (pos n)

-- 0 and 3,600 as whole numbers
nothing : T (le Constants.zero (bound 0)) × T (finite Constants.zero) × T (le Constants.zero (Constants.zero ⊕ Constants.zero)) × T (le Constants.zero tenth)
unfolding of_bits of_int le add
nothing = (tt, tt, tt, tt)

an_hour : hour ≡ bound 3600
unfolding of_bits of_int
an_hour = refl

module _ (s : Float) (low : T (le Constants.zero s)) (high : T (le s hour)) where
  -- from 0 to 3,600 for each substep
  record Summed (n : ℕ) : Type 0 where
    least : T (le Constants.zero (added_up s n))
    most : T (le (added_up s n) (bound (3600 * n)))
    held : T (fits binary64 (added_up s n))

  one_more : (n : ℕ) → 3600 * n + 3600 ≤ 2 ^ 53 → Summed n → Summed (suc n)
  unfolding added_up
  one_more n l h =
      let m : 3600 * n + 3600 ≡ 3600 * suc n = omega arith in
      let r =
      add_range binary64 Constants.zero (added_up s n) (bound (3600 * n)) Constants.zero s (bound 3600) nothing.1 (of_int_finite binary64 (3600 * n) (omega arith)) nothing.1 (of_int_finite binary64 3600 (omega arith))
      h.least h.most low (subst (λ (x : Float). T (le s x)) an_hour high) in
      record {
        least = le_trans Constants.zero (Constants.zero ⊕ Constants.zero) (added_up s n ⊕ s) nothing.2 r.0;
        most = rw (← m) (le_trans (added_up s n ⊕ s) (add binary64 (bound (3600 * n)) (bound 3600)) (bound (3600 * n + 3600)) r.1 (le_of_eq _ _ (of_int_add binary64 (3600 * n) 3600 (omega arith) (omega arith))));
        held = add-fits binary64 (added_up s n) s;
      }

  summed : (n : ℕ) → n ≤ 65535 → Summed n
  unfolding added_up
  summed zero l = record { least = le_refl Constants.zero (finite_number Constants.zero nothing.1); most = nothing.0; held = of_bits-fits binary64 0 }
  summed (suc n) l = one_more n (omega arith) (summed n (omega arith))

-- ---- the run

module _ (version : ℕ) (b : Battery) (w : Hydronic) (good : card_refusal version b.card ≡ 0) where
  abbrev x : HydronicTask
  x = hydronic_task_of b w

  abbrev salts : ℕ → Salt
  salts = salt_at (salts_of b.card)

  abbrev s : Float
  s = b.card.substep

  substep_is : is_substep s ≡ true
  unfolding times_in_range
  substep_is = (and_true (is_substep s) (is_timestep b.card.timestep) (accepted version b.card good).times).0

  low : T (le Constants.zero s)
  unfolding is_substep
  low = le_trans Constants.zero tenth s nothing.3 (within_low tenth hour s substep_is)

  high : T (le s hour)
  unfolding is_substep
  high = within_high tenth hour s substep_is

  -- the substeps are within the budget
  few : (hydronic_run_of b w).part.substeps ≤ 65535
  unfolding hydronic_task
  few =
      let n = hydronic_run_count x salts (whole_substeps x) 0 (hydronic_from b w) (omega arith) in
      let m = (accepted_budget version b.card good).1 in
      omega arith

  whole_finite : (n : ℕ) → n ≤ 65535 → T (finite64 (added_up s n))
  unfolding finite64
  whole_finite n l =
      let h = summed s low high n l in
      and_i (fits binary64 (added_up s n)) (finite (added_up s n)) h.held (between_finite Constants.zero (added_up s n) (bound (3600 * n)) nothing.1 (of_int_finite binary64 (3600 * n) (omega arith)) h.least h.most)

  module _ (n : ℕ) where
    abbrev u : Substep
    u = whole_after x salts (hydronic_from b w) n

    abbrev seconds : Float
    seconds = fraction_seconds x (absorbed_with (after_turns x salts (hydronic_from b w) n).part u) (heat_of u)

    -- the seconds of a fractional substep that works
    fraction_finite : (fraction_after x salts (hydronic_from b w) n).fault ≡ None → T (finite64 seconds)
    unfolding finite64 hydronic_task wet_input fraction_seconds
    fraction_finite h =
        let l = accepted_layers version b.card good in
        let p : b.card.layers ≡ suc (b.card.layers - 1) = omega arith in
        and_i (fits binary64 seconds) (finite seconds) (mul-fits binary64 _ _)
        (seconds_finite x.card x.pcm salts (fraction_input x (after_turns x salts (hydronic_from b w) n).part u) (after_turns x salts (hydronic_from b w) n).zones refl (b.card.layers - 1) p l.1 h)

    beside_finite : n ≤ 65535 → T (finite64 seconds) → T (finite64 (added_up s n ⊕ seconds))
    unfolding finite64
    beside_finite l h =
        let m = summed s low high n l in
        and_i (fits binary64 (added_up s n ⊕ seconds)) (finite (added_up s n ⊕ seconds)) (add-fits binary64 (added_up s n) seconds)
        (small_beside (added_up s n) seconds m.least (le_trans (added_up s n) (bound (3600 * n)) aside m.most (of_int_mono binary64 (3600 * n) 268435456 (omega arith))) h)

  pub time_finite : end_refusal (hydronic_run_of b w).part.end ≡ 0 → finite64 (hydronic_run_of b w).part.state.time ≡ true
  time_finite h = on (hydronic_run_time b w h)
    where
      on : TimeRun x salts (hydronic_from b w) (hydronic_run_of b w).part → finite64 (hydronic_run_of b w).part.state.time ≡ true
      on (inl t) = rw t.time (is_true _ (unfold hydronic_task in whole_finite (hydronic_run_of b w).part.substeps few))
      on (inr t) =
          let c = t.count in
          let l = few in
          rw t.time (is_true _ (unfold hydronic_task in beside_finite t.earlier (omega arith) (fraction_finite t.earlier t.worked)))

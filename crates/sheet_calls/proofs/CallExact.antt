-- A call's bytes are read exactly when they are laid out as document 01 says.
use Rattle.std.specs.Prelude.{Option, Some}
use mathlib.Core.Path.{◌≡◌, refl, sym, ap, ◌∙◌}
use mathlib.Core.List.{List}
use mathlib.Core.Bool.{Bool, true, cond, ◌&&◌}
use mathlib.Core.Logic.{◌⊎◌, inl, inr}
use Prim.Native.Nat.{ℕ, ◌+◌, ◌≤◌, ◌<◌}
use native.Mathlib.Decide.{ℕ_discrete, dec_lt}
use native.Mathlib.Omega.{arith}
use borrow.Author.Tests.{eqb-true, eq-eqb, ne_eqb, leb-true, le-leb}
use lib.Dec.{leb, eqb}
use lib.ListN.{length, take, drop, get_or, length-take, get_or-eq_default}
use lib.Seq.{get_or-take, get_or-drop}
use Rattle.codec.specs.Bytes.{be, be_at, f64_at, nth_f64}
use Rattle.codec.proofs.Places.{zero_bytes, zero_number}
use Rattle.logic.proofs.Tests.{and_true, true_and}
use Rattle.card.specs.Extension.{Extension, has_floor}
use Rattle.battery.specs.declared.Call.{Call}
use Rattle.battery.specs.declared.Call.TheVariants.{DemandEnergy, ChargeElectric, ChargeHydronic, HeatLoss, CloseTimestep, ReadStateOfCharge, ChargeEnergyDemand}
use Rattle.battery.specs.Kinds.{kind_of}
use Rattle.sheet_calls.specs.Calls.{call_length, commit_place, control_place, return_place, fields_place, mark_ok, given_at, demand_at, demand_call, hydronic_at, charge_demand_call, bare_call, demand_class, call_by, call_of}
use Rattle.sheet_calls.specs.Laid.{Marked, LaidCall}
use Rattle.sheet_calls.proofs.CallLaws.{test_good, call_length_lem, call_kind}

-- ---- marks

-- the byte at a place of eight
eighth : (bs : List ℕ) (at i : ℕ) → i < 8 → get_or (take 8 (drop at bs)) i 0 ≡ get_or bs (at + i) 0
eighth bs at i h = get_or-take 8 (drop at bs) i 0 h ∙ get_or-drop at bs i 0

by_mark : (m n : ℕ) → cond (eqb m 0) (eqb n 0) (eqb m 1) ≡ true → ((m ≡ 0) × (n ≡ 0)) ⊎ (m ≡ 1)
by_mark m n h = on (ℕ_discrete m 0)
  where
    on : Dec (m ≡ 0) → ((m ≡ 0) × (n ≡ 0)) ⊎ (m ≡ 1)
    on (yes e) = inl (e, eqb-true n 0 (rw (eq-eqb m 0 e) at h))
    on (no ne) = inr (eqb-true m 1 (rw (ne_eqb m 0 ne) at h))

pub marked : (bs : List ℕ) (at : ℕ) → mark_ok bs at ≡ true → Marked bs at
unfolding mark_ok
marked bs at h = on (by_mark (get_or bs at 0) (be_at bs (at + 1) 8) h)
  where
    on : ((get_or bs at 0 ≡ 0) × (be_at bs (at + 1) 8 ≡ 0)) ⊎ (get_or bs at 0 ≡ 1) → Marked bs at
    on (inl k) = inl (k.0, λ i l. sym (eighth bs (at + 1) i l) ∙ zero_bytes (take 8 (drop (at + 1) bs)) k.1 i)
    on (inr k) = inr k

pub mark_ok_lem : (bs : List ℕ) (at : ℕ) → Marked bs at → mark_ok bs at ≡ true
unfolding mark_ok
mark_ok_lem bs at (inl h) =
    let z : be (take 8 (drop (at + 1) bs)) ≡ 0 = zero_number (take 8 (drop (at + 1) bs)) (λ i. on i (dec_lt i 8)) in
    rw (eq-eqb (get_or bs at 0) 0 h.0, z)
  where
    on : (i : ℕ) → Dec (i < 8) → get_or (take 8 (drop (at + 1) bs)) i 0 ≡ 0
    on i (yes l) = eighth bs (at + 1) i l ∙ h.1 i l
    on i (no l) = get_or-eq_default (take 8 (drop (at + 1) bs)) 0 (simp length-take (omega arith))
mark_ok_lem bs at (inr h) = rw h

-- ---- calls

kind_known : (c : Call) → (1 ≤ kind_of c) × (kind_of c ≤ 7)
unfolding kind_of
kind_known (DemandEnergy d) = omega arith
kind_known (ChargeElectric power target) = omega arith
kind_known (ChargeHydronic h) = omega arith
kind_known (HeatLoss floor) = omega arith
kind_known CloseTimestep = omega arith
kind_known ReadStateOfCharge = omega arith
kind_known (ChargeEnergyDemand most target) = omega arith

Flags : ℕ → List ℕ → Type 0
Flags version bs = (get_or bs (commit_place version) 0 ≤ 1) × (get_or bs (control_place version) 0 ≤ 1) × Marked bs (return_place version)

flags : (version class : ℕ) (bs : List ℕ) (c : Call) → demand_call version class bs ≡ Some c → Flags version bs
unfolding demand_call Flags
flags version class bs c h =
    let a = leb (get_or bs (commit_place version) 0) 1 in
    let b = leb (get_or bs (control_place version) 0) 1 in
    let t = (test_good (a && (b && mark_ok bs (return_place version))) (Some (DemandEnergy (demand_at version class bs))) c h).0 in
    let p = and_true a (b && mark_ok bs (return_place version)) t in
    let q = and_true b (mark_ok bs (return_place version)) p.1 in
    (leb-true (get_or bs (commit_place version) 0) 1 p.0, leb-true (get_or bs (control_place version) 0) 1 q.0, marked bs (return_place version) q.1)

most : (version : ℕ) (bs : List ℕ) (c : Call) → charge_demand_call version bs ≡ Some c → Marked bs fields_place
unfolding charge_demand_call
most version bs c h =
    marked bs fields_place (test_good (mark_ok bs fields_place) (Some (ChargeEnergyDemand (given_at bs fields_place) (f64_at bs 10))) c h).0

-- bytes that are read are laid out
pub call_laid : (version : ℕ) (extension : Extension) (bs : List ℕ) (c : Call) → call_of version extension bs ≡ Some c → LaidCall version bs
unfolding call_of call_by Flags
call_laid version extension bs c h =
    let k = get_or bs 0 0 in
    let class = demand_class version extension.services k bs in
    let floor = has_floor extension in
    let r : call_by version k class floor bs ≡ Some c = (test_good (eqb (length bs) (call_length version k)) (call_by version k class floor bs) c h).1 in
    let e = call_kind version extension bs c h in
    record {
      from_one = omega (arith, (kind_known c).0, e);
      to_seven = omega (arith, (kind_known c).1, e);
      long = call_length_lem version extension bs c h;
      demand = λ q. flags version class bs c (ap (λ (n : ℕ). call_by version n class floor bs) (sym q) ∙ r);
      flow_maximum = λ q. most version bs c (ap (λ (n : ℕ). call_by version n class floor bs) (sym q) ∙ r);
    }

-- what holds of 1 to 7
seven : (P : ℕ → Type 0) → P 1 → P 2 → P 3 → P 4 → P 5 → P 6 → P 7 → (k : ℕ) → 1 ≤ k → k ≤ 7 → P k
seven P p₁ p₂ p₃ p₄ p₅ p₆ p₇ k h l = on (ℕ_discrete k 1) (ℕ_discrete k 2) (ℕ_discrete k 3) (ℕ_discrete k 4) (ℕ_discrete k 5) (ℕ_discrete k 6)
  where
    on : Dec (k ≡ 1) → Dec (k ≡ 2) → Dec (k ≡ 3) → Dec (k ≡ 4) → Dec (k ≡ 5) → Dec (k ≡ 6) → P k
    on (yes e) b c d f g = rw e p₁
    on (no a) (yes e) c d f g = rw e p₂
    on (no a) (no b) (yes e) d f g = rw e p₃
    on (no a) (no b) (no c) (yes e) f g = rw e p₄
    on (no a) (no b) (no c) (no d) (yes e) g = rw e p₅
    on (no a) (no b) (no c) (no d) (no f) (yes e) = rw e p₆
    on (no a) (no b) (no c) (no d) (no f) (no g) = let e : k ≡ 7 = omega arith in rw e p₇

-- some call is read
abbrev pub IsRead : Option Call → Type 0
IsRead r = (c : Call) × (r ≡ Some c)

by_kind : (version class : ℕ) (floor : Bool) (bs : List ℕ) (k : ℕ) → 1 ≤ k → k ≤ 7 → (k ≡ 1 → Flags version bs) → (k ≡ 7 → Marked bs fields_place) → IsRead (call_by version k class floor bs)
unfolding call_by bare_call demand_call charge_demand_call Flags
by_kind version class floor bs =
    seven (λ (k : ℕ). (k ≡ 1 → Flags version bs) → (k ≡ 7 → Marked bs fields_place) → IsRead (call_by version k class floor bs))
    (λ d m. (
      DemandEnergy (demand_at version class bs),
      rw (true_and (le-leb (get_or bs (commit_place version) 0) 1 (d refl).0) (true_and (le-leb (get_or bs (control_place version) 0) 1 (d refl).1) (mark_ok_lem bs (return_place version) (d refl).2))),
    ))
    (λ d m. (ChargeElectric (nth_f64 bs fields_place 0) (nth_f64 bs fields_place 1), refl))
    (λ d m. (ChargeHydronic (hydronic_at version bs), refl))
    (λ d m. (HeatLoss floor, refl))
    (λ d m. (CloseTimestep, refl))
    (λ d m. (ReadStateOfCharge, refl))
    (λ d m. (ChargeEnergyDemand (given_at bs fields_place) (f64_at bs 10), rw (mark_ok_lem bs fields_place (m refl))))

-- bytes that are laid out are read
pub laid_call : (version : ℕ) (extension : Extension) (bs : List ℕ) → LaidCall version bs → IsRead (call_of version extension bs)
unfolding call_of Flags
laid_call version extension bs l =
    let r = by_kind version (demand_class version extension.services (get_or bs 0 0) bs) (has_floor extension) bs (get_or bs 0 0) l.from_one l.to_seven l.demand l.flow_maximum in
    (r.0, rw (eq-eqb (length bs) (call_length version (get_or bs 0 0)) l.long) r.1)

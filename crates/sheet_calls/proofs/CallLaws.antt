-- What the bytes of a call tell: its length and its kind.
use Rattle.std.specs.Prelude.{None, Option, Some}
use mathlib.Core.Path.{◌≡◌, refl, sym, ap, ◌∙◌}
use mathlib.Core.List.{List}
use mathlib.Core.Bool.{Bool, true, false, cond, ◌&&◌}
use Prim.Native.Nat.{ℕ}
use native.Mathlib.Omega.{arith}
use borrow.Author.Tests.{eqb-true, eq-eqb}
use lib.Dec.{leb, eqb}
use lib.ListN.{length, get_or}
use Rattle.codec.specs.Bytes.{f64_at, nth_f64}
use Rattle.card.specs.Extension.{Extension, has_floor}
use Rattle.battery.specs.declared.Call.{Call}
use Rattle.battery.specs.declared.Call.TheVariants.{DemandEnergy, ChargeElectric, ChargeHydronic, HeatLoss, CloseTimestep, ReadStateOfCharge, ChargeEnergyDemand}
use Rattle.battery.specs.Kinds.{kind_of}
use Rattle.sheet_calls.specs.Calls.{commit_place, control_place, return_place, call_length, mark_ok, given_at, demand_at, demand_call, hydronic_at, charge_demand_call, bare_call, demand_class, call_by, call_of}

-- a read call is one call, or bad
pub same_call : {c d : Call} (r : Option Call) → r ≡ Some c → r ≡ Some d → d ≡ c
same_call r h k = cc

pub no_call : {A : Type 0} {c : Call} (r : Option Call) → r ≡ None → r ≡ Some c → A
no_call r h k = let z : ◌≡◌ {A = ℕ} 0 1 = cc in absurd (omega arith)

-- a test before a good call holds
pub test_good : (t : Bool) (r : Option Call) (c : Call) → cond t r None ≡ Some c → (t ≡ true) × (r ≡ Some c)
test_good true r c h = (refl, h)
test_good false r c h = no_call None refl h

-- one of two, by a test
either : (t : Bool) (x y : Option Call) (c : Call) (P : Type 0) → (t ≡ true → x ≡ Some c → P) → (y ≡ Some c → P) → cond t x y ≡ Some c → P
either true x y c P h k e = h refl e
either false x y c P h k e = k e

pub call_length_lem : (version : ℕ) (extension : Extension) (bs : List ℕ) (c : Call) → call_of version extension bs ≡ Some c → length bs ≡ call_length version (get_or bs 0 0)
unfolding call_of
call_length_lem version extension bs c h =
    let k = get_or bs 0 0 in
    eqb-true (length bs) (call_length version k) (test_good (eqb (length bs) (call_length version k)) (call_by version k (demand_class version extension.services k bs) (has_floor extension) bs) c h).0

-- bytes of their kind's length are read by that kind
pub call_by_lem : (version : ℕ) (extension : Extension) (bs : List ℕ) → length bs ≡ call_length version (get_or bs 0 0)
    → call_of version extension bs ≡ call_by version (get_or bs 0 0) (demand_class version extension.services (get_or bs 0 0) bs) (has_floor extension) bs
unfolding call_of
call_by_lem version extension bs e = rw (eq-eqb (length bs) (call_length version (get_or bs 0 0)) e)

-- a read call's kind
read_kind : Option Call → ℕ
read_kind (Some c) = kind_of c
read_kind None = 0

module _ (version kind class : ℕ) (floor : Bool) (bs : List ℕ) (c : Call) where
  is : (r : Option Call) (k : ℕ) → read_kind r ≡ k → eqb kind k ≡ true → r ≡ Some c → kind_of c ≡ kind
  unfolding read_kind
  is r k q t e = sym (ap read_kind e) ∙ q ∙ sym (eqb-true kind k t)

  bare_kind : bare_call version kind floor ≡ Some c → kind_of c ≡ kind
  unfolding bare_call kind_of read_kind
  bare_kind =
      let s₆ = cond (eqb kind 6) (Some ReadStateOfCharge) None in
      let s₅ = cond (eqb kind 5) (Some CloseTimestep) s₆ in
      let P : Type 0 = kind_of c ≡ kind in
      either (eqb kind 4) (Some (HeatLoss floor)) s₅ c P (is (Some (HeatLoss floor)) 4 refl)
      (either (eqb kind 5) (Some CloseTimestep) s₆ c P (is (Some CloseTimestep) 5 refl)
      (either (eqb kind 6) (Some ReadStateOfCharge) None c P (is (Some ReadStateOfCharge) 6 refl) (no_call None refl)))

  kind_by : call_by version kind class floor bs ≡ Some c → kind_of c ≡ kind
  unfolding call_by demand_call charge_demand_call kind_of read_kind
  kind_by =
      let d = leb (get_or bs (commit_place version) 0) 1 && (leb (get_or bs (control_place version) 0) 1 && mark_ok bs (return_place version)) in
      let r₁ = Some (DemandEnergy (demand_at version class bs)) in
      let r₂ = Some (ChargeElectric (nth_f64 bs 1 0) (nth_f64 bs 1 1)) in
      let r₃ = Some (ChargeHydronic (hydronic_at version bs)) in
      let r₇ = Some (ChargeEnergyDemand (given_at bs 1) (f64_at bs 10)) in
      let s₇ = cond (eqb kind 7) (cond (mark_ok bs 1) r₇ None) (bare_call version kind floor) in
      let s₃ = cond (eqb kind 3) r₃ s₇ in
      let s₂ = cond (eqb kind 2) r₂ s₃ in
      let P : Type 0 = kind_of c ≡ kind in
      either (eqb kind 1) (cond d r₁ None) s₂ c P (λ t e. is r₁ 1 refl t (test_good d r₁ c e).1)
      (either (eqb kind 2) r₂ s₃ c P (is r₂ 2 refl)
      (either (eqb kind 3) r₃ s₇ c P (is r₃ 3 refl)
      (either (eqb kind 7) (cond (mark_ok bs 1) r₇ None) (bare_call version kind floor) c P (λ t e. is r₇ 7 refl t (test_good (mark_ok bs 1) r₇ c e).1) bare_kind)))

-- the first byte is the kind
pub call_kind : (version : ℕ) (extension : Extension) (bs : List ℕ) (c : Call) → call_of version extension bs ≡ Some c → kind_of c ≡ get_or bs 0 0
unfolding call_of
call_kind version extension bs c h =
    let k = get_or bs 0 0 in
    let class = demand_class version extension.services k bs in
    kind_by version k class (has_floor extension) bs c (test_good (eqb (length bs) (call_length version k)) (call_by version k class (has_floor extension) bs) c h).1

-- Where a demand's fields stand, and how long a call is, whatever the version. No other law opens commit_place or call_length but Unknown's and examples by computation.
use mathlib.Core.Path.{◌≡◌, refl, ap}
use mathlib.Core.Bool.{Bool, true, false, cond}
use Prim.Native.Nat.{ℕ, ◌+◌, ◌≤◌, ◌<◌}
use native.Mathlib.Omega.{arith}
use lib.Dec.{eqb}
use Rattle.card.specs.Version.{lists_services}
use Rattle.sheet_calls.specs.declared.kind.Kind.{Kind}
use Rattle.sheet_calls.specs.declared.kind.Kind.TheVariants.{DemandEnergy, ChargeElectric, ChargeHydronic, HeatLoss, CloseTimestep, ReadStateOfCharge, ChargeEnergyDemand}
use Rattle.sheet_calls.specs.Kinds.{kind_number}
use Rattle.sheet_calls.specs.Calls.{fields_place, commit_place, return_place, call_length}

-- the flags follow the type, within a byte or two
place_by : (t : Bool) → (1 < cond t 3 2) × (cond t 3 2 ≤ 3)
place_by true = omega arith
place_by false = omega arith

pub commit_place_lem : (version : ℕ) → (fields_place < commit_place version) × (commit_place version ≤ 3)
unfolding commit_place
commit_place_lem version = place_by (lists_services version)

-- the bytes of each kind with fields
pub demand_length : (version : ℕ) → call_length version 1 ≡ return_place version + 9
unfolding call_length
demand_length version = refl

pub demand_fits : (version n : ℕ) → call_length version 1 ≤ n → (fields_place < commit_place version) × (return_place version + 9 ≤ n)
demand_fits version n h = let l = demand_length version in ((commit_place_lem version).0, omega arith)

-- a demand's type is there
pub demand_long : (version kind n : ℕ) → kind ≡ 1 → call_length version kind ≤ n → 29 ≤ n
demand_long version kind n e h =
    let p = (commit_place_lem version).0 in
    let l = demand_length version in
    let k = ap (call_length version) e in
    omega arith

pub electric_length : (version : ℕ) → call_length version 2 ≡ 17
unfolding call_length
electric_length version = refl

-- its numbers are there
pub electric_long : (version kind n : ℕ) → kind ≡ 2 → call_length version kind ≤ n → 17 ≤ n
electric_long version kind n e h =
    let l = electric_length version in
    let k = ap (call_length version) e in
    omega arith

pub hydronic_length : (version : ℕ) → call_length version 3 ≡ 73
unfolding call_length
hydronic_length version = refl

pub charge_demand_length : (version : ℕ) → call_length version 7 ≡ 18
unfolding call_length
charge_demand_length version = refl

-- no call is longer than a hydronic one
short_by : (n : ℕ) → n ≤ 73 → (a b c d e f g : Bool) → cond a n (cond b 17 (cond c 73 (cond d 1 (cond e 1 (cond f 1 (cond g 18 0)))))) ≤ 73
short_by n h true b c d e f g = h
short_by n h false true c d e f g = omega arith
short_by n h false false true d e f g = omega arith
short_by n h false false false true e f g = omega arith
short_by n h false false false false true f g = omega arith
short_by n h false false false false false true g = omega arith
short_by n h false false false false false false true = omega arith
short_by n h false false false false false false false = omega arith

pub call_short : (version kind : ℕ) → call_length version kind ≤ 73
unfolding call_length
call_short version kind =
    let p = (commit_place_lem version).1 in
    short_by (return_place version + 9) (omega arith) (eqb kind 1) (eqb kind 2) (eqb kind 3) (eqb kind 4) (eqb kind 5) (eqb kind 6) (eqb kind 7)

-- no call of a kind is empty
pub call_long : (version : ℕ) (kind : Kind) → 1 ≤ call_length version (kind_number kind)
unfolding call_length
call_long version DemandEnergy = omega arith
call_long version ChargeElectric = omega arith
call_long version ChargeHydronic = omega arith
call_long version HeatLoss = omega arith
call_long version CloseTimestep = omega arith
call_long version ReadStateOfCharge = omega arith
call_long version ChargeEnergyDemand = omega arith

-- What a line's bytes tell of its call, and that a card read from bytes holds numbers of binary64.
use Rattle.std.specs.Prelude.{Option, Some}
use mathlib.Core.Path.{◌≡◌, refl, sym, ap, ◌∙◌}
use mathlib.Core.List.{List}
use mathlib.Core.Bool.{false, ◌&&◌, ◌||◌}
use Prim.Native.Nat.{ℕ}
use native.Mathlib.Omega.{arith}
use lib.Dec.{T, leb, eqb}
use lib.ListN.{length, take, drop, get_or}
use lib.Ieee.{Float, binary64, fits}
use lib.Ieee.Bits.{of_bits-fits}
use Rattle.codec.specs.Bytes.{be, f64_of, f64_at}
use Rattle.card.specs.Extension.{Extension, has_floor}
use Rattle.card.specs.Fits.{CardFits}
use Rattle.battery.specs.Kinds.{kind_of, is_charge}
use Rattle.battery.specs.declared.Demand.{Demand}
use Rattle.battery.specs.declared.Call.{Call}
use Rattle.battery.specs.declared.Call.TheVariants.{DemandEnergy, ChargeElectric, ChargeHydronic, HeatLoss, CloseTimestep, ReadStateOfCharge, ChargeEnergyDemand}
use Rattle.sheet_records.specs.Cards.{card_at}
use Rattle.sheet_calls.specs.Calls.{call_length, commit_place, control_place, return_place, mark_ok, demand_class, demand_at, demand_call, bare_call, call_by, call_of}
use Rattle.sheet_calls.proofs.CallLaws.{test_good, call_kind, same_call}

-- ---- numbers

held : (bs : List ℕ) (at : ℕ) → T (fits binary64 (f64_at bs at))
unfolding f64_of
held bs at = of_bits-fits binary64 (be (take 8 (drop at bs)))

pub card_held : (version : ℕ) (bs : List ℕ) → CardFits (card_at version bs)
unfolding card_at
card_held version bs =
    record {
      substep = held bs 6;
      timestep = held bs 14;
      inlet = held bs 22;
      outlet = held bs 30;
      max = held bs 38;
      reference = held bs 46;
      lower = held bs 54;
      upper = held bs 62;
      below = held bs 70;
      during = held bs 78;
      above = held bs 86;
      velocity = held bs 94;
      diameter = held bs 102;
      a = held bs 110;
      b = held bs 118;
      flow = held bs 126;
      losses = held bs 134;
      start = held bs 142;
      power = held bs 150;
    }

-- ---- kinds

other : {A : Type 0} (m n : ℕ) → (m ≡ n → ⊥) → m ≡ n → A
other m n h e = absurd (h e)

-- a call that is an electric charge, with its fields
pub record IsElectric (call : Call) : Type 0 where
  pub power : Float
  pub target : Float
  pub is : call ≡ ChargeElectric power target

electric_call : (call : Call) → kind_of call ≡ 2 → IsElectric call
unfolding kind_of
electric_call (DemandEnergy d) h = other 1 2 (λ z. omega arith) h
electric_call (ChargeElectric power target) h = record { power = power; target = target; is = refl }
electric_call (ChargeHydronic w) h = other 3 2 (λ z. omega arith) h
electric_call (HeatLoss floor) h = other 4 2 (λ z. omega arith) h
electric_call CloseTimestep h = other 5 2 (λ z. omega arith) h
electric_call ReadStateOfCharge h = other 6 2 (λ z. omega arith) h
electric_call (ChargeEnergyDemand most target) h = other 7 2 (λ z. omega arith) h

charge_kinds : (call : Call) → is_charge call ≡ (eqb (kind_of call) 2 || eqb (kind_of call) 3)
unfolding kind_of is_charge
charge_kinds (DemandEnergy d) = refl
charge_kinds (ChargeElectric power target) = refl
charge_kinds (ChargeHydronic w) = refl
charge_kinds (HeatLoss floor) = refl
charge_kinds CloseTimestep = refl
charge_kinds ReadStateOfCharge = refl
charge_kinds (ChargeEnergyDemand most target) = refl

-- ---- from the bytes
module _ (version : ℕ) (extension : Extension) (bs : List ℕ) (call : Call) (h : call_of version extension bs ≡ Some call) where
  -- what its kind reads, on its card
  by_kind : call_by version (get_or bs 0 0) (demand_class version extension.services (get_or bs 0 0) bs) (has_floor extension) bs ≡ Some call
  unfolding call_of
  by_kind =
      let kind = get_or bs 0 0 in
      (test_good (eqb (length bs) (call_length version kind)) (call_by version kind (demand_class version extension.services kind bs) (has_floor extension) bs) call h).1

  -- a standing loss has a floor where the card sets one
  pub read_loss : get_or bs 0 0 ≡ 4 → call ≡ HeatLoss (has_floor extension)
  unfolding call_by bare_call
  read_loss k =
      let g : ◌≡◌ {A = Option Call} (Some (HeatLoss (has_floor extension))) (Some call) =
      ap (λ (n : ℕ). call_by version n (demand_class version extension.services n bs) (has_floor extension) bs) (sym k) ∙ by_kind in
      same_call (Some (HeatLoss (has_floor extension))) refl g

  pub read_electric : get_or bs 0 0 ≡ 2 → IsElectric call
  read_electric k = electric_call call (call_kind version extension bs call h ∙ k)

  pub read_charge : is_charge call ≡ (eqb (get_or bs 0 0) 2 || eqb (get_or bs 0 0) 3)
  read_charge = charge_kinds call ∙ ap (λ (k : ℕ). eqb k 2 || eqb k 3) (call_kind version extension bs call h)

  -- a trial is a demand that is not committed
  pub read_trial : get_or bs 0 0 ≡ 1 → get_or bs (commit_place version) 0 ≡ 0 → (d : Demand) × (call ≡ DemandEnergy d) × (d.commit ≡ false)
  unfolding call_by demand_call demand_at
  read_trial k c =
      let class = demand_class version extension.services (get_or bs 0 0) bs in
      let d = demand_at version class bs in
      let q : demand_call version class bs ≡ Some call = ap (λ (n : ℕ). call_by version n class (has_floor extension) bs) (sym k) ∙ by_kind in
      let t = leb (get_or bs (commit_place version) 0) 1 && (leb (get_or bs (control_place version) 0) 1 && mark_ok bs (return_place version)) in
      let g : ◌≡◌ {A = Option Call} (Some (DemandEnergy d)) (Some call) = (test_good t (Some (DemandEnergy d)) call q).1 in
      (d, same_call (Some (DemandEnergy d)) refl g, ap (λ (n : ℕ). eqb n 1) c)

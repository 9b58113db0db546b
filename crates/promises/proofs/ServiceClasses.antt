-- The class of a number by an accepted list of services, and of a demand by its bytes.
use Rattle.card.specs.Extension.{has_floor}
use Rattle.std.specs.Prelude.{None, Option, Some}
use Prim.Native.Nat.{ℕ, zero, suc, ◌+◌, ◌≤◌, ◌<◌}
use mathlib.Core.Path.{◌≡◌, refl, sym, ap, ◌∙◌}
use mathlib.Core.Bool.{Bool, true, false, cond, ◌&&◌}
use mathlib.Core.List.{List}
use native.Mathlib.Decide.{ℕ_discrete}
use native.Mathlib.Omega.{arith}
use borrow.Author.Tests.{eq-eqb, ne_eqb, leb-true}
use lib.Dec.{leb, eqb}
use lib.ListN.{length, get_or}
use Rattle.logic.proofs.Tests.{and_true}
use Rattle.codec.specs.Bytes.{be_at}
use Rattle.card.specs.Version.{lists_services}
use Rattle.card.specs.Services.{Service, listed, most_services, service_ok, rising_from, services_ok, listed_class, class_of}
use Rattle.card.proofs.ServicesCase.{services_exactly}
use Rattle.card.proofs.ServiceClass.{own_type, above_type, class_small}
use Rattle.battery.specs.declared.Demand.{Demand}
use Rattle.battery.specs.declared.Call.{Call}
use Rattle.battery.specs.declared.Call.TheVariants.{DemandEnergy, ChargeElectric, ChargeHydronic, HeatLoss, CloseTimestep, ReadStateOfCharge, ChargeEnergyDemand}
use Rattle.battery.specs.Kinds.{kind_of}
use Rattle.sheet_calls.specs.Calls.{commit_place, control_place, return_place, call_length, mark_ok, demand_class, demand_at, demand_call, call_by, call_of}
use Rattle.sheet_calls.proofs.CallLaws.{test_good, call_kind}
use Rattle.promises.specs.Requests.{ServiceClasses, DemandsAreClassed}

-- ---- by an accepted list

module _ (service : ℕ → Service) where
  -- the first entry's number isn't under the least one, and the others are above it
  low : (least k n : ℕ) → rising_from least (listed service k n) ≡ true → (j : ℕ) → k ≤ j → j < k + n → least ≤ (service j).number
  unfolding rising_from listed service_ok
  low least k zero h j l m = absurd (omega arith)
  low least k (suc n) h j l m =
      let p = and_true (service_ok least (service k)) (rising_from (suc (service k).number) (listed service (suc k) n)) h in
      let o : least ≤ (service k).number = leb-true least (service k).number (and_true (leb least (service k).number) (leb 1 (service k).class && leb (service k).class 3) p.0).0 in
      elim (ℕ_discrete j k) [
        | yes e ↦ rw e o
        | no ne ↦ (let r = low (suc (service k).number) (suc k) n p.1 j (omega arith) (omega arith) in omega (arith, r, o))
      ]

  at_its_place : (least k n : ℕ) → rising_from least (listed service k n) ≡ true → (j : ℕ) → k ≤ j → j < k + n → listed_class (listed service k n) (service j).number ≡ (service j).class
  unfolding rising_from listed listed_class
  at_its_place least k zero h j l m = absurd (omega arith)
  at_its_place least k (suc n) h j l m =
      let p = and_true (service_ok least (service k)) (rising_from (suc (service k).number) (listed service (suc k) n)) h in
      elim (ℕ_discrete j k) [
        | yes e ↦ rw (e, eq-eqb (service k).number (service k).number refl) refl
        | no ne ↦
            (let r = low (suc (service k).number) (suc k) n p.1 j (omega arith) (omega arith) in
            rw (ne_eqb (service k).number (service j).number (λ q. omega (arith, r, q))) (at_its_place (suc (service k).number) (suc k) n p.1 j (omega arith) (omega arith)))
      ]

  not_there : (k n number : ℕ) → ((j : ℕ) → k ≤ j → j < k + n → (service j).number ≡ number → ⊥) → listed_class (listed service k n) number ≡ 0
  unfolding listed listed_class
  not_there k zero number h = refl
  not_there k (suc n) number h =
      rw (ne_eqb (service k).number number (h k (omega arith) (omega arith))) (not_there (suc k) n number (λ j l m. h j (omega arith) (omega arith)))

  pub classes : (count : ℕ) → services_ok (listed service 0 count) ≡ true
      → ((number : ℕ) → number ≤ 3 → class_of (listed service 0 count) number ≡ number)
      × ((i : ℕ) → i < count → class_of (listed service 0 count) (service i).number ≡ (service i).class)
      × ((number : ℕ) → 3 < number → ((i : ℕ) → i < count → (service i).number ≡ number → ⊥) → class_of (listed service 0 count) number ≡ 0)
      × ((number : ℕ) → class_of (listed service 0 count) number ≤ 3)
  unfolding services_ok
  classes count ok =
      let l = listed service 0 count in
      let r = (and_true (leb (length l) most_services) (rising_from 4 l) ok).1 in (
        own_type l,
        λ i h. above_type l (service i).number (omega (arith, low 4 0 count r i (omega arith) (omega arith))) ∙ at_its_place 4 0 count r i (omega arith) (omega arith),
        λ number h n. above_type l number h ∙ not_there 0 count number (λ j a b. n j (omega arith)),
        λ number. class_small l number ok,
      )

by_test : (t : Bool) (P : Type 0) → (t ≡ true → P) → (t ≡ false → P) → P
by_test true P f g = f refl
by_test false P f g = g refl

pub service_classes : ServiceClasses
service_classes service count good =
    classes service count (by_test (services_ok (listed service 0 count)) (services_ok (listed service 0 count) ≡ true) (λ e. e) (λ e. absurd (good ((services_exactly service count).0 e))))

-- ---- by its bytes

service_in : Call → ℕ
service_in (DemandEnergy d) = d.service
service_in (ChargeElectric power target) = 0
service_in (ChargeHydronic h) = 0
service_in (HeatLoss floor) = 0
service_in CloseTimestep = 0
service_in ReadStateOfCharge = 0
service_in (ChargeEnergyDemand most target) = 0

read_service : Option Call → ℕ
read_service (Some call) = service_in call
read_service None = 0

demand_class_lem : (version class : ℕ) (bs : List ℕ) (demand : Demand) → demand_call version class bs ≡ Some (DemandEnergy demand) → demand.service ≡ class
unfolding demand_call demand_at read_service service_in
demand_class_lem version class bs demand h =
    sym (ap read_service (test_good (leb (get_or bs (commit_place version) 0) 1 && (leb (get_or bs (control_place version) 0) 1 && mark_ok bs (return_place version))) (Some (DemandEnergy (demand_at version class bs))) (DemandEnergy demand) h).1)

pub demands_are_classed : DemandsAreClassed
unfolding call_of call_by demand_class kind_of
demands_are_classed version extension call demand h =
    let k = get_or call 0 0 in
    let class = demand_class version extension.services k call in
    let floor = has_floor extension in
    let e : 1 ≡ k = call_kind version extension call (DemandEnergy demand) h in
    let r : call_by version k class floor call ≡ Some (DemandEnergy demand) = (test_good (eqb (length call) (call_length version k)) (call_by version k class floor call) (DemandEnergy demand) h).1 in
    let q : demand_call version class call ≡ Some (DemandEnergy demand) = ap (λ (n : ℕ). call_by version n class floor call) e ∙ r in
    let c : class ≡ cond (lists_services version) (class_of extension.services (be_at call 1 2)) (get_or call 1 0) = ap (λ (n : ℕ). demand_class version extension.services n call) (sym e) in
    demand_class_lem version class call demand q ∙ c

-- Document 01, 'Kinds': a call's bytes, and refusal 10's tests of them. Ranges are the battery's.
use Rattle.std.specs.Prelude.{ℕ, ◌+◌, List, Bool, cond, ◌&&◌, leb, eqb, length, get_or, Option, Some, None, Float}
use Rattle.codec.specs.Bytes.{be_at, f64_at, nth_f64}
use Rattle.card.specs.Version.{lists_services}
use Rattle.card.specs.Services.{Service, class_of}
use Rattle.card.specs.Extension.{Extension, has_floor}
use Rattle.battery.specs.declared.Demand.{Demand}
use Rattle.battery.specs.declared.Hydronic.{Hydronic}
use Rattle.battery.specs.declared.Call.TheVariants.{DemandEnergy, ChargeElectric, ChargeHydronic, HeatLoss, CloseTimestep, ReadStateOfCharge, ChargeEnergyDemand}
use Rattle.battery.specs.declared.Call.{Call}

-- a mark is 0 or 1, and 'an absent value has zero bytes'
unfoldable pub mark_ok : List ℕ → ℕ → Bool
mark_ok bs at = cond (eqb (get_or bs at 0) 0) (eqb (be_at bs (at + 1) 8) 0) (eqb (get_or bs at 0) 1)

-- a mark and a value
unfoldable pub given_at : List ℕ → ℕ → Option Float
given_at bs at = cond (eqb (get_or bs at 0) 0) None (Some (f64_at bs (at + 1)))

-- the place of the first field
abbrev pub fields_place : ℕ
fields_place = 1

-- the place of a demand's first flag, after its type, which has two bytes from version 3 on; those of its second flag, its numbers and its return mark
unfoldable pub commit_place : ℕ → ℕ
commit_place version = cond (lists_services version) 3 2

abbrev pub control_place : ℕ → ℕ
control_place version = commit_place version + 1

abbrev pub demand_numbers : ℕ → ℕ
demand_numbers version = commit_place version + 2

abbrev pub return_place : ℕ → ℕ
return_place version = commit_place version + 18

-- the bytes of a call of a kind, the kind's own included; 0 where there is no such kind
unfoldable pub call_length : ℕ → ℕ → ℕ
call_length version kind =
    cond (eqb kind 1) (return_place version + 9)
    (cond (eqb kind 2) 17
    (cond (eqb kind 3) 73
    (cond (eqb kind 4) 1
    (cond (eqb kind 5) 1
    (cond (eqb kind 6) 1
    (cond (eqb kind 7) 18 0))))))

-- the class of a demand's type, by the services that the card lists; 0 for another kind. Document 02, Four: 'In version 3 the type field has two bytes; 0 to 3
-- keep their meaning, and each number above 3 has a class in a list'
unfoldable pub demand_class : ℕ → List Service → ℕ → List ℕ → ℕ
demand_class version services kind bs =
    cond (eqb kind 1) (cond (lists_services version) (class_of services (be_at bs fields_place 2)) (get_or bs fields_place 0)) 0

-- '1 demand: type, commit, control on (u8 each), required, start, return mark and temperature', its type by its class
unfoldable pub demand_at : ℕ → ℕ → List ℕ → Demand
demand_at version class bs =
    record {
      service = class;
      commit = eqb (get_or bs (commit_place version) 0) 1;
      control = eqb (get_or bs (control_place version) 0) 1;
      required = nth_f64 bs (demand_numbers version) 0;
      start = nth_f64 bs (demand_numbers version) 1;
      feed = given_at bs (return_place version);
    }

unfoldable pub demand_call : ℕ → ℕ → List ℕ → Option Call
demand_call version class bs =
    cond (leb (get_or bs (commit_place version) 0) 1 && (leb (get_or bs (control_place version) 0) 1 && mark_ok bs (return_place version)))
    (Some (DemandEnergy (demand_at version class bs))) None

-- '3 hydronic: inlet, hours, flow, target, limit, hex a, hex b, velocity, diameter'
unfoldable pub hydronic_at : ℕ → List ℕ → Hydronic
hydronic_at version bs =
    record {
      inlet = nth_f64 bs fields_place 0;
      hours = nth_f64 bs fields_place 1;
      flow = nth_f64 bs fields_place 2;
      target = nth_f64 bs fields_place 3;
      limit = nth_f64 bs fields_place 4;
      a = nth_f64 bs fields_place 5;
      b = nth_f64 bs fields_place 6;
      velocity = nth_f64 bs fields_place 7;
      diameter = nth_f64 bs fields_place 8;
    }

-- '7 charge energy demand: mark and flow maximum, target'
unfoldable pub charge_demand_call : ℕ → List ℕ → Option Call
charge_demand_call version bs = cond (mark_ok bs fields_place) (Some (ChargeEnergyDemand (given_at bs fields_place) (f64_at bs 10))) None

-- '4 standing loss', with the card's floor or none, '5 close timestep', '6 state of charge': no fields
unfoldable pub bare_call : ℕ → ℕ → Bool → Option Call
bare_call version kind floor = cond (eqb kind 4) (Some (HeatLoss floor)) (cond (eqb kind 5) (Some CloseTimestep) (cond (eqb kind 6) (Some ReadStateOfCharge) None))

-- the fields of a kind, with a demand's class, and whether a standing loss has a floor; '2 electric: power, target'
unfoldable pub call_by : ℕ → ℕ → ℕ → Bool → List ℕ → Option Call
call_by version kind class floor bs =
    cond (eqb kind 1) (demand_call version class bs)
    (cond (eqb kind 2) (Some (ChargeElectric (nth_f64 bs fields_place 0) (nth_f64 bs fields_place 1)))
    (cond (eqb kind 3) (Some (ChargeHydronic (hydronic_at version bs)))
    (cond (eqb kind 7) (charge_demand_call version bs) (bare_call version kind floor))))

-- the kind that a call's bytes begin with, or 0, which is no kind, where they have another length than its calls
unfoldable pub kind_of : ℕ → List ℕ → ℕ
kind_of version bs = cond (eqb (length bs) (call_length version (get_or bs 0 0))) (get_or bs 0 0) 0

-- a call's bytes on a card with this extension; bad ones are of another length, of an unknown kind, with a flag or mark other than 0 or 1, or with nonzero bytes under an absent mark
unfoldable pub call_of : ℕ → Extension → List ℕ → Option Call
call_of version extension bs =
    let kind = get_or bs 0 0 in
    cond (eqb (length bs) (call_length version kind)) (call_by version kind (demand_class version extension.services kind bs) (has_floor extension) bs) None

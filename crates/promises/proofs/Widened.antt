-- How a call is read in two versions: of types 0 to 3 in the layouts of versions 2 and 3 as the same call, whatever services are listed; and what reads the flag.
use Rattle.std.specs.Prelude.{None}
use Prim.Native.Nat.{ℕ, ◌≤◌}
use mathlib.Core.Path.{◌≡◌, refl, sym, ap, ◌∙◌}
use mathlib.Core.Bool.{Bool, cond}
use mathlib.Core.List.{List, [], ◌∷◌}
use native.Mathlib.Decide.{ℕ_discrete}
use native.Mathlib.Omega.{arith}
use borrow.Author.Tests.{eq-eqb, ne_eqb}
use lib.Dec.{eqb}
use lib.ListN.{length, get_or}
use Rattle.codec.specs.Bytes.{be, be_at}
use Rattle.card.specs.Version.{lists_services}
use Rattle.card.specs.Services.{Service, class_of}
use Rattle.card.specs.Extension.{Extension, has_floor}
use Rattle.card.proofs.ServiceClass.{own_type}
use Rattle.sheet_calls.specs.Calls.{commit_place, call_length, mark_ok, given_at, demand_class, demand_at, demand_call, hydronic_at, charge_demand_call, bare_call, call_by, call_of}
use Rattle.promises.specs.TwoVersions.{widened}
use Rattle.promises.specs.Requests.{OnlyLossesHaveAFloor}

-- a demand's fields, one place further on
fields_moved : (class : ℕ) (fields : List ℕ) → demand_call 3 class (1 ∷ 0 ∷ fields) ≡ demand_call 2 class (1 ∷ fields)
unfolding demand_call demand_at commit_place lists_services mark_ok given_at
fields_moved class fields = refl

-- its type
type_read : (services : List Service) (type : ℕ) (rest : List ℕ) → type ≤ 3 → demand_class 3 services 1 (1 ∷ 0 ∷ type ∷ rest) ≡ type
unfolding demand_class lists_services be
type_read services type rest h = let e : be_at (1 ∷ 0 ∷ type ∷ rest) 1 2 ≡ type = omega arith in ap (class_of services) e ∙ own_type services type h

type_byte : (services : List Service) (type : ℕ) (rest : List ℕ) → demand_class 2 services 1 (1 ∷ type ∷ rest) ≡ type
unfolding demand_class lists_services
type_byte services type rest = refl

-- ---- a demand

demand_lengths : (call_length 3 1 ≡ 30) × (call_length 2 1 ≡ 29)
unfolding call_length commit_place lists_services
demand_lengths = (refl, refl)

demand_by_lem : (extension other : Extension) (fields : List ℕ) → get_or fields 0 0 ≤ 3 → length fields ≡ 28
    → call_by 3 1 (demand_class 3 extension.services 1 (1 ∷ 0 ∷ fields)) (has_floor extension) (1 ∷ 0 ∷ fields) ≡ call_by 2 1 (demand_class 2 other.services 1 (1 ∷ fields)) (has_floor other) (1 ∷ fields)
unfolding call_by
demand_by_lem extension other [] h l = absurd (omega arith)
demand_by_lem extension other (type ∷ rest) h l =
    ap (λ (c : ℕ). demand_call 3 c (1 ∷ 0 ∷ type ∷ rest)) (type_read extension.services type rest h) ∙ fields_moved type (type ∷ rest)
    ∙ sym (ap (λ (c : ℕ). demand_call 2 c (1 ∷ type ∷ rest)) (type_byte other.services type rest))

demand_same : (extension other : Extension) (fields : List ℕ) → get_or fields 0 0 ≤ 3 → call_of 3 extension (1 ∷ 0 ∷ fields) ≡ call_of 2 other (1 ∷ fields)
unfolding call_of
demand_same extension other fields h = on (ℕ_discrete (length fields) 28)
  where
    on : Dec (length fields ≡ 28)
        → cond (eqb (length (1 ∷ 0 ∷ fields)) (call_length 3 1)) (call_by 3 1 (demand_class 3 extension.services 1 (1 ∷ 0 ∷ fields)) (has_floor extension) (1 ∷ 0 ∷ fields)) None
        ≡ cond (eqb (length (1 ∷ fields)) (call_length 2 1)) (call_by 2 1 (demand_class 2 other.services 1 (1 ∷ fields)) (has_floor other) (1 ∷ fields)) None
    on (yes e) =
        rw (eq-eqb (length (1 ∷ 0 ∷ fields)) (call_length 3 1) (omega (arith, e, demand_lengths.0)), eq-eqb (length (1 ∷ fields)) (call_length 2 1) (omega (arith, e, demand_lengths.1)))
        (demand_by_lem extension other fields h e)
    on (no ne) =
        rw (ne_eqb (length (1 ∷ 0 ∷ fields)) (call_length 3 1) (λ e. ne (omega (arith, e, demand_lengths.0))), ne_eqb (length (1 ∷ fields)) (call_length 2 1) (λ e. ne (omega (arith, e, demand_lengths.1)))) refl

-- ---- every other kind has the same bytes, and reads the flag alone

length_same : (kind : ℕ) → (kind ≡ 1 → ⊥) → call_length 3 kind ≡ call_length 2 kind
unfolding call_length
length_same kind ne = rw (ne_eqb kind 1 ne)

class_same : (extension other : Extension) (kind : ℕ) (bs : List ℕ) → (kind ≡ 1 → ⊥) → demand_class 3 extension.services kind bs ≡ demand_class 2 other.services kind bs
unfolding demand_class
class_same extension other kind bs ne = rw (ne_eqb kind 1 ne)

floor_same : (extension other : Extension) → extension.floor ≡ other.floor → has_floor extension ≡ has_floor other
unfolding has_floor
floor_same extension other f = rw f

by_same : (kind class : ℕ) (floor : Bool) (bs : List ℕ) → (kind ≡ 1 → ⊥) → call_by 3 kind class floor bs ≡ call_by 2 kind class floor bs
unfolding call_by hydronic_at charge_demand_call bare_call
by_same kind class floor bs ne = rw (ne_eqb kind 1 ne)

other_same : (extension other : Extension) (kind : ℕ) (fields : List ℕ) → (kind ≡ 1 → ⊥) → extension.floor ≡ other.floor → call_of 3 extension (kind ∷ fields) ≡ call_of 2 other (kind ∷ fields)
unfolding call_of
other_same extension other kind fields ne f =
    rw (length_same kind ne, class_same extension other kind (kind ∷ fields) ne, floor_same extension other f, by_same kind (demand_class 2 other.services kind (kind ∷ fields)) (has_floor other) (kind ∷ fields) ne)

-- ---- any bytes

pub widened_read : (extension other : Extension) → extension.floor ≡ other.floor → (call : List ℕ) → (get_or call 0 0 ≡ 1 → get_or call 1 0 ≤ 3) → call_of 3 extension (widened call) ≡ call_of 2 other call
widened_read extension other f [] h = unfold widened call_of call_length call_by bare_call in refl
widened_read extension other f (kind ∷ fields) h = on (ℕ_discrete kind 1)
  where
    on : Dec (kind ≡ 1) → call_of 3 extension (widened (kind ∷ fields)) ≡ call_of 2 other (kind ∷ fields)
    on (yes e) = unfold widened in rw (eq-eqb kind 1 e, e) (demand_same extension other fields (h e))
    on (no ne) = unfold widened in rw (ne_eqb kind 1 ne) (other_same extension other kind fields ne f)

-- ---- versions 3 and 4 have one layout

pub same_layout : (extension : Extension) (call : List ℕ) → call_of 4 extension call ≡ call_of 3 extension call
unfolding call_of call_length commit_place lists_services call_by demand_class demand_call demand_at hydronic_at charge_demand_call bare_call
same_layout extension call = refl

-- ---- the flag is read by a standing loss alone

pub only_losses_read_it : OnlyLossesHaveAFloor
unfolding call_of call_by bare_call
only_losses_read_it version extension call ne = rw (ne_eqb (get_or call 0 0) 4 ne)

-- The kind of a call's bytes: they are as many as it needs, and what they are by it is what they are.
use Rattle.std.specs.Prelude.{None, Option}
use Prim.Native.Nat.{ℕ, ◌≤◌}
use mathlib.Core.Bool.{Bool, true, false, cond}
use mathlib.Core.List.{List, [], ◌∷◌}
use mathlib.Core.Path.{◌≡◌, refl, sym, ◌∙◌, ap}
use native.Mathlib.Omega.{arith}
use borrow.Author.Tests.{eqb-true, ne_eqb}
use lib.Dec.{eqb}
use lib.ListN.{length, get_or}
use Rattle.card.specs.Extension.{Extension, has_floor}
use Rattle.sheet_calls.specs.Calls.{call_length, bare_call, demand_class, call_by, kind_of, call_of}
use Rattle.sheet_calls.specs.Kinds.{NoKind}
use Rattle.battery.specs.declared.Call.{Call}

enough : (version kind n : ℕ) (fits : Bool) → eqb n (call_length version kind) ≡ fits → call_length version (cond fits kind 0) ≤ n
unfolding call_length
enough version kind n true e = let e2 = eqb-true n (call_length version kind) e in omega arith
enough version kind n false e = omega arith

pub kind_fits : (version : ℕ) (bs : List ℕ) → call_length version (kind_of version bs) ≤ length bs
unfolding kind_of
kind_fits version bs = enough version (get_or bs 0 0) (length bs) _ refl

-- a byte that is no kind is none's
same : (t : Bool) (k : ℕ) → k ≡ 0 → 0 ≡ cond t k 0
same true k e = sym e
same false k e = refl

pub kind_unknown : (version : ℕ) (bs : List ℕ) (byte : ℕ) → byte ≡ get_or bs 0 0 → NoKind byte → 0 ≡ kind_of version bs
unfolding kind_of
kind_unknown version [] byte e u = same (eqb 0 (call_length version 0)) 0 refl
kind_unknown version (b ∷ bs) byte e u = rw (← e, u.length_0 version, ne_eqb (length (b ∷ bs)) 0 (λ z. absurd (omega arith)))

-- kind 0 is no call
by_kind_lem : ℕ → Extension → List ℕ → ℕ → Option Call
by_kind_lem version extension bs kind = call_by version kind (demand_class version extension.services kind bs) (has_floor extension) bs

no_kind : (version kind : ℕ) (extension : Extension) (bs : List ℕ) (fits : Bool) → by_kind_lem version extension bs (cond fits kind 0) ≡ cond fits (by_kind_lem version extension bs kind) None
unfolding by_kind_lem call_by bare_call
no_kind version kind extension bs true = refl
no_kind version kind extension bs false = refl

by_kind : (version : ℕ) (extension : Extension) (bs : List ℕ) → by_kind_lem version extension bs (kind_of version bs) ≡ call_of version extension bs
unfolding by_kind_lem kind_of call_of
by_kind version extension bs = no_kind version (get_or bs 0 0) extension bs (eqb (length bs) (call_length version (get_or bs 0 0)))

pub read_by_kind : (version : ℕ) (extension : Extension) (bs : List ℕ) (kind class : ℕ) (floor : Bool) (read : Option Call) → kind ≡ kind_of version bs
    → class ≡ demand_class version extension.services kind bs → floor ≡ has_floor extension → read ≡ call_by version kind class floor bs → read ≡ call_of version extension bs
unfolding by_kind_lem
read_by_kind version extension bs kind class floor read e c g f =
    f ∙ ap (λ (t : Bool). call_by version kind class t bs) g ∙ ap (λ (k : ℕ). call_by version kind k (has_floor extension) bs) c ∙ ap (by_kind_lem version extension bs) e ∙ by_kind version extension bs

-- where no kind is read, no call is
pub none_by_kind : (version : ℕ) (extension : Extension) (bs : List ℕ) → 0 ≡ kind_of version bs → call_of version extension bs ≡ None
unfolding by_kind_lem call_by bare_call
none_by_kind version extension bs e = sym (by_kind version extension bs) ∙ ap (by_kind_lem version extension bs) (sym e)

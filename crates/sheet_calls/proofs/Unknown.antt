-- What a byte that is no kind gives.
use Rattle.std.specs.Prelude.{None}
use Prim.Native.Nat.{ℕ, ◌≤◌, ◌<◌}
use native.Mathlib.Decide.{ℕ_discrete}
use native.Mathlib.Omega.{arith}
use mathlib.Core.Logic.{◌⊎◌, inl, inr}
use mathlib.Core.Bool.{Bool}
use mathlib.Core.List.{List}
use mathlib.Core.Path.{◌≡◌}
use borrow.Author.Tests.{ne_eqb}
use Rattle.card.specs.Services.{Service}
use Rattle.sheet_calls.specs.Calls.{call_length, demand_class, bare_call, call_by}
use Rattle.sheet_calls.specs.Kinds.{NoKind}

module _ (byte : ℕ) (outside : (byte ≡ 0) ⊎ (7 < byte)) where
  apart : (k : ℕ) → 1 ≤ k → k ≤ 7 → byte ≡ k → ⊥
  apart k h l e = on outside
    where
      on : (byte ≡ 0) ⊎ (7 < byte) → ⊥
      on (inl z) = absurd (omega arith)
      on (inr g) = absurd (omega arith)

  length_0 : (version : ℕ) → call_length version byte ≡ 0
  unfolding call_length
  length_0 version =
      rw (ne_eqb byte 1 (apart 1 (omega arith) (omega arith)), ne_eqb byte 2 (apart 2 (omega arith) (omega arith)), ne_eqb byte 3 (apart 3 (omega arith) (omega arith)), ne_eqb byte 4 (apart 4 (omega arith) (omega arith)), ne_eqb byte 5 (apart 5 (omega arith) (omega arith)), ne_eqb byte 6 (apart 6 (omega arith) (omega arith)), ne_eqb byte 7 (apart 7 (omega arith) (omega arith)))

  class_0 : (version : ℕ) (services : List Service) (bs : List ℕ) → demand_class version services byte bs ≡ 0
  unfolding demand_class
  class_0 version services bs = rw (ne_eqb byte 1 (apart 1 (omega arith) (omega arith)))

  no_call : (version class : ℕ) (floor : Bool) (bs : List ℕ) → call_by version byte class floor bs ≡ None
  unfolding call_by bare_call
  no_call version class floor bs =
      rw (ne_eqb byte 1 (apart 1 (omega arith) (omega arith)), ne_eqb byte 2 (apart 2 (omega arith) (omega arith)), ne_eqb byte 3 (apart 3 (omega arith) (omega arith)), ne_eqb byte 4 (apart 4 (omega arith) (omega arith)), ne_eqb byte 5 (apart 5 (omega arith) (omega arith)), ne_eqb byte 6 (apart 6 (omega arith) (omega arith)), ne_eqb byte 7 (apart 7 (omega arith) (omega arith)))

  pub no_kind : NoKind byte
  no_kind = record { outside = outside; length_0 = length_0; class_0 = class_0; no_call = no_call }

-- a byte that is none of the seven is no kind
pub none_of_7 : (byte : ℕ) → (byte ≡ 1 → ⊥) → (byte ≡ 2 → ⊥) → (byte ≡ 3 → ⊥) → (byte ≡ 4 → ⊥) → (byte ≡ 5 → ⊥) → (byte ≡ 6 → ⊥) → (byte ≡ 7 → ⊥) → NoKind byte
none_of_7 byte n₁ n₂ n₃ n₄ n₅ n₆ n₇ = no_kind byte (on (ℕ_discrete byte 0))
  where
    on : Dec (byte ≡ 0) → (byte ≡ 0) ⊎ (7 < byte)
    on (yes e) = inl e
    on (no n₀) = inr (omega arith)

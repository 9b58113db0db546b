-- What a function passes by value, and the zones that lie beside it.
use Rattle.std.specs.Prelude.{◌≡◌, List, ℕ, Float}

pub record Zoned (A : Type 0) : Type 0 where
  pub part : A
  pub zones : List Float

abbrev pub zoned : {A : Type 0} → A → List Float → Zoned A
zoned part zones = record { part = part; zones = zones }

-- What a function hands out, and the zones that it leaves, are the definition's; one that is refused may leave any zones, since they are shown nowhere.
abbrev pub AsDefined : {A : Type 0} → ℕ → A → List Float → Zoned A → Type 0
AsDefined refusal r zones d = (r ≡ d.part) × (refusal ≡ 0 → zones ≡ d.zones)

-- beside the same zones
abbrev pub on_part : {A B : Type 0} → (A → B) → Zoned A → Zoned B
on_part f s = zoned (f s.part) s.zones

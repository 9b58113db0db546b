-- Document 01, 'Kinds': the number of each, which is its byte, and what a byte that is no kind gives.
use Rattle.std.specs.Prelude.{ℕ, ◌≡◌, ◌<◌, ◌⊎◌, Bool, List, Option, Some, None, Result, MatchResult}
use Rattle.card.specs.Services.{Service}
use Rattle.sheet_calls.specs.declared.kind.Kind.{Kind}
use Rattle.sheet_calls.specs.declared.kind.Kind.TheVariants.{DemandEnergy, ChargeElectric, ChargeHydronic, HeatLoss, CloseTimestep, ReadStateOfCharge, ChargeEnergyDemand}
use Rattle.sheet_calls.specs.declared.kind.UnknownKind.{UnknownKind}
use Rattle.sheet_calls.specs.Calls.{call_length, demand_class, call_by}

abbrev pub kind_number : Kind → ℕ
kind_number DemandEnergy = 1
kind_number ChargeElectric = 2
kind_number ChargeHydronic = 3
kind_number HeatLoss = 4
kind_number CloseTimestep = 5
kind_number ReadStateOfCharge = 6
kind_number ChargeEnergyDemand = 7

-- 0 is no kind
abbrev pub kind_number_or_0 : Option Kind → ℕ
kind_number_or_0 (Some kind) = kind_number kind
kind_number_or_0 None = 0

-- a byte that is no kind: its calls have no bytes and no class, and none is read
pub record NoKind (byte : ℕ) : Type 0 where
  pub outside : (byte ≡ 0) ⊎ (7 < byte)
  pub length_0 : (version : ℕ) → call_length version byte ≡ 0
  pub class_0 : (version : ℕ) (services : List Service) (bs : List ℕ) → demand_class version services byte bs ≡ 0
  pub no_call : (version class : ℕ) (floor : Bool) (bs : List ℕ) → call_by version byte class floor bs ≡ None

-- a byte is read as the kind with its number, or as none where no kind has it
abbrev pub Decodes : ℕ → Result Kind UnknownKind → Type 0
Decodes byte r = MatchResult r (λ kind. kind_number kind ≡ byte) (λ e. (e.0 ≡ byte) × NoKind byte)

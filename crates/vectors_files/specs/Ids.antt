-- The ids' numbers in VECTORS.md.
use Rattle.std.specs.Prelude.{◌≡◌, ◌≢◌, ℕ, Result, MatchResult}
use Rattle.vectors_files.specs.declared.ids.Id.{Id}
use Rattle.vectors_files.specs.declared.ids.Id.TheVariants.{Finite, NearlyEqual, MaxZero, Min, Square, Sum2, Ln, Truncate, LayerEnergy, SocToTemp, StateOfCharge, EnergyRequired, NewTemperature, Simultaneous, Viscosity, Reynolds, HeatTransfer, Outlet, ZoneProperties, Card, Lowest, Substep, ChargeEnergyDemand, Start, Call}
use Rattle.vectors_files.specs.declared.ids.UnknownId.{UnknownId}

abbrev pub number_of : Id → ℕ
number_of Finite = 1
number_of NearlyEqual = 2
number_of MaxZero = 3
number_of Min = 4
number_of Square = 5
number_of Sum2 = 6
number_of Ln = 7
number_of Truncate = 8
number_of LayerEnergy = 20
number_of SocToTemp = 21
number_of StateOfCharge = 22
number_of EnergyRequired = 23
number_of NewTemperature = 24
number_of Simultaneous = 25
number_of Viscosity = 26
number_of Reynolds = 27
number_of HeatTransfer = 28
number_of Outlet = 29
number_of ZoneProperties = 30
number_of Card = 31
number_of Lowest = 32
number_of Substep = 40
number_of ChargeEnergyDemand = 41
number_of Start = 50
number_of Call = 51

-- the id with this number, or the number where no id has it
abbrev pub Decodes : ℕ → Result Id UnknownId → Type 0
Decodes number r = MatchResult r (λ id. number_of id ≡ number) (λ e. (e.0 ≡ number) × ((id : Id) → number_of id ≢ number))

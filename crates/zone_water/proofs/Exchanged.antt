-- What a zone exchanges in the two modes without a logarithm.
use mathlib.Core.Path.{◌≡◌, refl}
use lib.Dec.{T}
use lib.Ieee.{Float, le}
use Rattle.floats.specs.Constants.{zero}
use Rattle.floats.specs.Standins.{finite64}
use Rattle.floats.proofs.Standins.{max_zero_nonneg}
use Rattle.zone.specs.Good.{GoodSalt}
use Rattle.zone.specs.Heat.{kj}
use Rattle.zone.specs.declared.Kilojoules.{Kilojoules}
use Rattle.zone.specs.declared.Salt.{Salt}
use Rattle.std.specs.Prelude.{Option}
use Rattle.zone_update.specs.Update.{zone_update}
use Rattle.zone_update.proofs.Floors as Floors
use Rattle.zone_update.proofs.Floors.{GoodFloor}
use Rattle.zone_water.specs.Water.{zone_properties}
use Rattle.zone_water.specs.declared.Mode.TheVariants.{OnlyCharging, Losses}
use Rattle.zone_water.specs.declared.Shared.{Shared}

-- in charging alone the water takes nothing
pub charging_alone_exchanges_nothing : (x : Shared) (t inlet : Float) (q : Kilojoules) → (zone_properties OnlyCharging x t inlet q).energy ≡ kj zero
unfolding zone_properties
charging_alone_exchanges_nothing x t inlet q = refl

-- a standing loss never warms a zone, whatever the floor, the surroundings, the rated losses and the charger's heat
pub loss_never_warms :
    (lowest : Option Float) → GoodFloor lowest → (s : Salt) → GoodSalt s → (t : Float) → T (finite64 t) → (x : Shared) (inlet : Float) (q : Kilojoules) →
    T (le (zone_update lowest s t (zone_properties (Losses lowest) x t inlet q).energy).temperature t)
unfolding zone_properties
loss_never_warms lowest f s g t F x inlet q = Floors.loss_never_warms s g t F _ lowest f (max_zero_nonneg _)

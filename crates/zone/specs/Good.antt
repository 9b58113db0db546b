-- What an accepted card gives of a zone's salt. The laws of a zone's directions ask no more.
use Rattle.std.specs.Prelude.{T}
use Rattle.std.specs.Float.Ieee.{lt, le}
use Rattle.floats.specs.Constants.{zero}
use Rattle.floats.specs.Standins.{finite64}
use Rattle.zone.specs.declared.Salt.{Salt}

-- finite numbers of binary64, the melting range in its order, capacities above 0
pub record GoodSalt (salt : Salt) : Type 0 where
  pub lower_finite : T (finite64 salt.lower)
  pub upper_finite : T (finite64 salt.upper)
  pub below_finite : T (finite64 salt.below)
  pub during_finite : T (finite64 salt.during)
  pub above_finite : T (finite64 salt.above)
  pub ordered : T (le salt.lower salt.upper)
  pub below_positive : T (lt zero salt.below)
  pub during_positive : T (lt zero salt.during)
  pub above_positive : T (lt zero salt.above)

-- A card whose floats are numbers of binary64, as every card read from bytes has them. A test of ranges alone does not tell it.
use Rattle.std.specs.Prelude.{T}
use Rattle.std.specs.Float.{binary64}
use Rattle.std.specs.Float.Ieee.{fits}
use Rattle.card.specs.declared.Card.{Card}

pub record CardFits (card : Card) : Type 0 where
  pub substep : T (fits binary64 card.substep)
  pub timestep : T (fits binary64 card.timestep)
  pub inlet : T (fits binary64 card.inlet)
  pub outlet : T (fits binary64 card.outlet)
  pub max : T (fits binary64 card.max)
  pub reference : T (fits binary64 card.reference)
  pub lower : T (fits binary64 card.lower)
  pub upper : T (fits binary64 card.upper)
  pub start : T (fits binary64 card.start)
  pub below : T (fits binary64 card.below)
  pub during : T (fits binary64 card.during)
  pub above : T (fits binary64 card.above)
  pub velocity : T (fits binary64 card.velocity)
  pub diameter : T (fits binary64 card.diameter)
  pub a : T (fits binary64 card.a)
  pub b : T (fits binary64 card.b)
  pub flow : T (fits binary64 card.flow)
  pub losses : T (fits binary64 card.losses)
  pub power : T (fits binary64 card.power)

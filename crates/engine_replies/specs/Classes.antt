-- Document 01: the class of a service type, and the running hours that it counts.
use Rattle.std.specs.Prelude.{ℕ, Bool, true, false, cond, eqb, Float}
use Rattle.floats.specs.F64.{◌⊕◌}
use Rattle.card.specs.declared.Card.{Card}
use Rattle.engine_replies.specs.declared.totals.ServiceClass.{ServiceClass}
use Rattle.engine_replies.specs.declared.totals.ServiceClass.TheVariants.{Combi, Regular, Space, Direct}

-- 'type (u8: 0 combi, 1 regular, 2 space, 3 direct)'; of a listed number the reader gives the class
unfoldable pub service_class : Card → ℕ → ServiceClass
service_class card service = cond (eqb service 1) Regular (cond (eqb service 2) Space (cond (eqb service 3) Direct Combi))

-- the Rust has no running time for a combi
unfoldable pub unserved : ServiceClass → Bool
unserved Combi = true
unserved Regular = false
unserved Space = false
unserved Direct = false

unfoldable pub pump_after : ServiceClass → Float → Float → Float
pump_after Combi pump hours = pump
pump_after Regular pump hours = pump ⊕ hours
pump_after Space pump hours = pump ⊕ hours
pump_after Direct pump hours = pump

unfoldable pub direct_after : ServiceClass → Float → Float → Float
direct_after Combi direct hours = direct
direct_after Regular direct hours = direct
direct_after Space direct hours = direct
direct_after Direct direct hours = direct ⊕ hours

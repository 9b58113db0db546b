-- Document 01, module 4: viscosity, Reynolds number, heat transfer, outlet and `get_zone_properties`. Factors in the Rust's order.
use Rattle.std.specs.Prelude.{pos, Float, Option, Some, None}
use Rattle.std.specs.Float.{binary64}
use Rattle.std.specs.Float.Ieee.{of_bits, of_int}
use Rattle.floats.specs.F64.{◌⊕◌, ◌⊖◌, ◌⊗◌, ◌⊘◌}
use Rattle.floats.specs.Constants.{zero, one, two, minute, thousand, hour}
use Rattle.floats.specs.Standins.{square, max_zero}
use Rattle.floats.specs.Ln.{ln}
use Rattle.zone.specs.Heat.{kj}
use Rattle.zone.specs.declared.Kilojoules.{Kilojoules}
use Rattle.zone_water.specs.declared.Mode.{Mode}
use Rattle.zone_water.specs.declared.Mode.TheVariants.{OnlyCharging, Losses, Normal}
use Rattle.zone_water.specs.declared.Shared.{Shared}
use Rattle.zone_water.specs.declared.Transfer.{Transfer}
use Rattle.zone_water.specs.declared.ZoneProperties.{ZoneProperties}

-- water: 1 kg/l, and 4,184 J/(kg K) in kWh/(kg K); times `hour` it is in kJ/(kg K)
abbrev pub density : Float
density = one

abbrev pub heat_capacity : Float
heat_capacity = of_bits binary64 0x40B0580000000000 ⊘ of_bits binary64 0x414B774000000000

-- the viscosity's coefficients: 0.000000000145238, 0.0000000248238, 0.000001432
abbrev pub viscosity2 : Float
viscosity2 = of_bits binary64 0x3DE3F61B9AF8E0B0

abbrev pub viscosity1 : Float
viscosity1 = of_bits binary64 0x3E5AA783A1B83CE0

abbrev pub viscosity0 : Float
viscosity0 = of_bits binary64 0x3EB80664A6A65014

-- `calculate_water_kinematic_viscosity_m2_per_s`, at the mean of inlet and outlet
unfoldable pub kinematic_viscosity : Float → Float → Float
kinematic_viscosity inlet outlet =
    let mean = (inlet ⊕ outlet) ⊘ two in
    viscosity2 ⊗ square mean ⊖ viscosity1 ⊗ mean ⊕ viscosity0

-- `calculate_reynold_number_at_1_l_per_min`
unfoldable pub reynold_number : Float → Float → Float → Float
reynold_number viscosity velocity diameter = (velocity ⊗ diameter) ⊘ viscosity

-- litres a minute as kilograms a second
unfoldable pub mass_flow : Float → Float
mass_flow flow = (flow ⊘ minute) ⊗ density

-- `calculate_heat_transfer_kw_per_k`, with the logarithm's refusal
unfoldable pub transfer_of : Float → Float → Option Float → Option Float
transfer_of a b (Some l) = Some ((a ⊗ l ⊕ b) ⊘ thousand)
transfer_of a b None = None

unfoldable pub heat_transfer : Float → Float → Float → Float → Option Float
heat_transfer a b flow reynold = transfer_of a b (ln (reynold ⊗ flow))

-- document 02, Two: 'each counted where it is computed'
unfoldable pub counted_transfer : Float → Float → Float → Float → Transfer
counted_transfer a b flow reynold = record { value = heat_transfer a b flow reynold; logarithms = 1 }

-- `calculate_outlet_temp_c`
unfoldable pub outlet_temp : Float → Float → Float → Float → Float
outlet_temp transfer t inlet mass =
    (two ⊗ transfer ⊗ t ⊖ transfer ⊗ inlet ⊕ two ⊗ mass ⊗ heat_capacity ⊗ hour ⊗ inlet)
    ⊘ (two ⊗ mass ⊗ heat_capacity ⊗ hour ⊕ transfer)

-- `get_zone_properties`: the heat that a zone at t gives up and its outlet, with the water's temperature at the zone and the charger's heat left.
-- Only the normal mode uses the heat transfer, and so the logarithm, which is taken before the zones: a zone takes none of its own
unfoldable pub zone_properties : Mode → Shared → Float → Float → Kilojoules → ZoneProperties
zone_properties OnlyCharging shared t inlet left = record { energy = kj zero; outlet = zero; logarithms = 0 }
zone_properties (Losses lowest) shared t inlet left =
    record { energy = kj (max_zero (left.0 ⊘ of_int binary64 (pos shared.layers) ⊗ (t ⊖ shared.inlet) ⊘ shared.rated)); outlet = zero; logarithms = 0 }
zone_properties Normal shared t inlet left =
    record {
      energy = kj (heat_capacity ⊗ hour ⊗ shared.mass ⊗ (outlet_temp shared.transfer t inlet shared.mass ⊖ inlet) ⊗ shared.seconds);
      outlet = outlet_temp shared.transfer t inlet shared.mass;
      logarithms = 0;
    }

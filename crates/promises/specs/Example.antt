-- One card, one buffer and one list of calls, so that the promises speak of something: document 01's points on one layer that starts at 40 °C.
use Rattle.std.specs.Prelude.{ℕ, ◌+◌, List, [], ◌∷◌, ◌++◌, length, replicate}
use Rattle.codec.specs.Bytes.{be_bytes}

-- an f64 by its bits
abbrev num : ℕ → List ℕ
num bits = be_bytes 8 bits

-- what stands behind the card's fields in the newest version: one service, 12, for space, and the flag
abbrev pub example_list : ℕ → List ℕ
example_list flag = 1 ∷ 0 ∷ 12 ∷ 2 ∷ flag ∷ []

-- layers 1, units 1, simultaneous 0, budget 1000; substep 20 s, timestep 1 h; initial inlet 10, estimated outlet 53, max 80, ref 0, lower 48, upper 56;
-- below 4, during 32, above 2; velocity 0.1, diameter 10, a 0, b 1000, flow 6, losses 0.25, start 40, power 0
abbrev pub example_card : List ℕ → List ℕ
example_card list =
    1 ∷ 0 ∷ 1 ∷ 0 ∷ 3 ∷ 232 ∷ (num 0x4034000000000000 ++ num 0x3FF0000000000000
    ++ num 0x4024000000000000 ++ num 0x404A800000000000 ++ num 0x4054000000000000 ++ num 0 ++ num 0x4048000000000000 ++ num 0x404C000000000000
    ++ num 0x4010000000000000 ++ num 0x4040000000000000 ++ num 0x4000000000000000
    ++ num 0x3FB999999999999A ++ num 0x4024000000000000 ++ num 0 ++ num 0x408F400000000000 ++ num 0x4018000000000000 ++ num 0x3FD0000000000000 ++ num 0x4044000000000000 ++ num 0 ++ list)

-- the record of the card with one zone, at these bits, and charged totals at these
abbrev pub record_at : List ℕ → ℕ → ℕ → List ℕ
record_at list zone charged = example_card list ++ num zone ++ num 0 ++ num 0 ++ num 0 ++ num charged ++ num charged

-- a fresh battery, at 40 °C
abbrev pub fresh_record : List ℕ → List ℕ
fresh_record list = record_at list 0x4044000000000000 0

-- what opening writes: the version and line 0
abbrev pub example_opening : ℕ → List ℕ → List ℕ
example_opening version list = version ∷ (be_bytes 2 (158 + length list) ++ example_card list)

-- an electric charge of 0.08 kW to level 1: answered, the zone at 56 °C, 0.08 kWh charged
abbrev pub example_charge : List ℕ
example_charge = 2 ∷ (num 0x3FB47AE147AE147B ++ num 0x3FF0000000000000)

abbrev pub charge_line : List ℕ
charge_line =
    be_bytes 2 95 ++ example_charge ++ (0 ∷ num 0x3FB47AE147AE147B) ++ replicate 9 0 ++ num 0 ++ be_bytes 4 1
    ++ num 0x404C000000000000 ++ num 0 ++ num 0 ++ num 0 ++ num 0x3FB47AE147AE147B ++ num 0x3FB47AE147AE147B

abbrev pub charged_record : List ℕ → List ℕ
charged_record list = record_at list 0x404C000000000000 0x3FB47AE147AE147B

-- a demand for 1 kWh without return temperature: refused with 20, zone and totals as before
abbrev pub example_demand : List ℕ
example_demand = 1 ∷ 1 ∷ 1 ∷ 0 ∷ (num 0x3FF0000000000000 ++ num 0 ++ replicate 9 0)

-- in the newest version a committed one for the service 13, which isn't listed, with return temperature 10: refused with 21
abbrev pub unlisted_demand : List ℕ
unlisted_demand = 1 ∷ 0 ∷ 13 ∷ 1 ∷ 0 ∷ (num 0x3FF0000000000000 ++ num 0 ++ (1 ∷ num 0x4024000000000000))

abbrev pub refused_line : List ℕ → ℕ → List ℕ
refused_line demand refusal =
    be_bytes 2 (length demand + 78) ++ demand ++ (refusal ∷ num 0) ++ replicate 9 0 ++ num 0 ++ be_bytes 4 0
    ++ num 0x404C000000000000 ++ num 0 ++ num 0 ++ num 0 ++ num 0x3FB47AE147AE147B ++ num 0x3FB47AE147AE147B

-- the sheet of the two
abbrev pub example_sheet : ℕ → List ℕ → List ℕ → ℕ → List ℕ
example_sheet version list demand refusal = example_opening version list ++ charge_line ++ refused_line demand refusal

-- a standing loss at document 01's point 76 °C, in the newest version: with this energy the zone ends here
abbrev pub point_record : ℕ → ℕ → List ℕ
point_record flag zone = record_at (example_list flag) zone 0

abbrev pub loss_line : ℕ → ℕ → List ℕ
loss_line energy zone =
    be_bytes 2 79 ++ (4 ∷ 0 ∷ num energy) ++ replicate 9 0 ++ num 0 ++ be_bytes 4 1 ++ num zone ++ num 0 ++ num 0 ++ num 0 ++ num 0 ++ num 0

-- What document 02's requests promise beside the demands, each under its sentence; what they change of a demand is said there (Promises.antt). Each is a theorem of
-- crates/promises/proofs/Promises.antt under the same name.
use Rattle.std.specs.Prelude.{ℕ, ◌<◌, ◌≤◌, ◌≡◌, cond, List, [], ◌∷◌, ◌++◌, get_or, Float, Some}
use Rattle.floats.specs.Constants.{zero}
use Rattle.codec.specs.Bytes.{be_at}
use Rattle.zone.specs.declared.Salt.{Salt}
use Rattle.zone.specs.Layer.{salt_at}
use Rattle.card.specs.Version.{shows_hydronic_time, lists_services}
use Rattle.card.specs.Services.{Service, listed, BadServices, class_of}
use Rattle.card.specs.Extension.{Extension}
use Rattle.card.specs.Derived.{salts_of}
use Rattle.card.specs.Card.{card_refusal}
use Rattle.card.specs.declared.Card.{Card}
use Rattle.card.specs.declared.HeatBatteryPcm.{HeatBatteryPcm}
use Rattle.battery.specs.declared.Battery.{Battery}
use Rattle.battery.specs.declared.Hydronic.{Hydronic}
use Rattle.battery.specs.declared.Call.{Call}
use Rattle.battery.specs.declared.Demand.{Demand}
use Rattle.battery.specs.declared.Call.TheVariants.{DemandEnergy, ChargeHydronic}
use Rattle.substep.specs.Substep.{logarithms_of, process_heat_battery_zones}
use Rattle.substep.specs.declared.SubstepInput.{SubstepInput}
use Rattle.substep.specs.declared.Fault.TheVariants.{Logarithm}
use Rattle.runs.specs.Zoned.{zoned}
use Rattle.runs.specs.Charge.{hydronic_start, wet_of}
use Rattle.engine.specs.Steps.{step_of}
use Rattle.engine.specs.Budget.{hydronic_task_of, hydronic_run_of}
use Rattle.engine.specs.Times.{TimeRun, with_time}
use Rattle.sheet_records.specs.Cards.{card_at, floor_at}
use Rattle.sheet_calls.specs.Calls.{call_of}
use Rattle.entries.specs.Entry.{open_of}
use Rattle.heat_battery.specs.Lists.{ListedCall, AllGiven}
use Rattle.auditor.specs.Rules.{Rules, NoLooser}
use Rattle.auditor.specs.Sheet.{Sheet}
use Rattle.promises.specs.Claims.{AllFloored}
use Rattle.promises.specs.TwoVersions.{in_three, in_four, FirstTypes, NoEleven, answers_of, opened_record, opened_rest}

-- Two: 'Each substep not stopped by 24 hands out the logarithms it took, each counted where it is computed: 1 where it takes any, else 0.' Only
-- the mode with water, of demands and hydronic charges, takes one
abbrev pub LogarithmsCounted : Type 0
LogarithmsCounted =
    (card : Card) (pcm : HeatBatteryPcm) (salts : ℕ → Salt) (input : SubstepInput) (zones : List Float)
    → ((process_heat_battery_zones card pcm salts input zones).fault ≡ Some Logarithm → ⊥)
    → (process_heat_battery_zones card pcm salts input zones).logarithms ≡ logarithms_of input.mode

-- Three: 'From sheet version 2 its time is the f64 sum, in order, of the substeps run, one whose outlet ends the loop too; where the limit ends the run with a replayed
-- substep, substep × fraction replaces the last one.' Every answered hydronic charge shows so much, and in version 1 it shows 0
abbrev pub HydronicTime : Type 0
HydronicTime =
    (version : ℕ) (battery : Battery) (hydronic : Hydronic) → (step_of version battery (ChargeHydronic hydronic)).refusal ≡ 0
    → ((step_of version battery (ChargeHydronic hydronic)).time ≡ cond (shows_hydronic_time version) (hydronic_run_of battery hydronic).part.state.time zero)
    × TimeRun (hydronic_task_of battery hydronic) (salt_at (salts_of battery.card)) (zoned (hydronic_start battery.card (wet_of hydronic)) battery.zones) (hydronic_run_of battery hydronic).part

-- 'Running totals don't change', answered or refused
abbrev pub RunningTotalsStay : Type 0
RunningTotalsStay =
    (version : ℕ) (battery : Battery) (hydronic : Hydronic)
    → ((step_of version battery (ChargeHydronic hydronic)).battery.total ≡ battery.total) × ((step_of version battery (ChargeHydronic hydronic)).battery.pump ≡ battery.pump)
    × ((step_of version battery (ChargeHydronic hydronic)).battery.direct ≡ battery.direct)

-- and nothing else depends on the version: in two of them a hydronic charge on an accepted card is answered or refused alike but for its time, and every other call in all
abbrev pub OnlyTheTimeDiffers : Type 0
OnlyTheTimeDiffers =
    (version other : ℕ) (battery : Battery)
    → (card_refusal version battery.card ≡ 0 → (hydronic : Hydronic)
    → step_of version battery (ChargeHydronic hydronic) ≡ with_time (step_of version battery (ChargeHydronic hydronic)).time (step_of other battery (ChargeHydronic hydronic)))
    × ((call : Call) → ((hydronic : Hydronic) → call ≡ ChargeHydronic hydronic → ⊥) → step_of version battery call ≡ step_of other battery call)

-- Four: '0 to 3 keep their meaning, and each number above 3 has a class in a list'; 'a demand for an unlisted number is 21, under 21's conditions', as one of type 0 is,
-- and a trial of it runs; every number is in range
abbrev pub ServiceClasses : Type 0
ServiceClasses =
    (service : ℕ → Service) (count : ℕ) → (BadServices service count → ⊥)
    → ((number : ℕ) → number ≤ 3 → class_of (listed service 0 count) number ≡ number)
    × ((i : ℕ) → i < count → class_of (listed service 0 count) (service i).number ≡ (service i).class)
    × ((number : ℕ) → 3 < number → ((i : ℕ) → i < count → (service i).number ≡ number → ⊥) → class_of (listed service 0 count) number ≡ 0)
    × ((number : ℕ) → class_of (listed service 0 count) number ≤ 3)

-- from version 3 on that is the class that a demand has, of a number of two bytes after its kind; before, it is the byte there
abbrev pub DemandsAreClassed : Type 0
DemandsAreClassed =
    (version : ℕ) (extension : Extension) (call : List ℕ) (demand : Demand) → call_of version extension call ≡ Some (DemandEnergy demand)
    → demand.service ≡ cond (lists_services version) (class_of extension.services (be_at call 1 2)) (get_or call 1 0)

-- 'A run that uses only types 0 to 3, with 11 nowhere, gives equal answers in versions 2 and 3': any card that opens a sheet of version 2, with any bytes behind it that
-- open one of version 3, and any calls whatsoever of version 2, given in both layouts
abbrev pub EqualAnswers : Type 0
EqualAnswers =
    (fields list rec₂ free₂ rec₃ free₃ : List ℕ) (calls : List ListedCall) → (open_of 2 fields rec₂ free₂).code ≡ 0 → (open_of 3 (fields ++ list) rec₃ free₃).code ≡ 0
    → AllGiven 2 calls → FirstTypes calls
    → NoEleven (opened_record 2 fields rec₂ free₂) (opened_rest 2 fields rec₂ free₂) calls
    → NoEleven (opened_record 3 (fields ++ list) rec₃ free₃) (opened_rest 3 (fields ++ list) rec₃ free₃) (in_three calls)
    → answers_of (opened_record 2 fields rec₂ free₂) (opened_rest 2 fields rec₂ free₂) calls
    ≡ answers_of (opened_record 3 (fields ++ list) rec₃ free₃) (opened_rest 3 (fields ++ list) rec₃ free₃) (in_three calls)

-- Six: 'A loss stops at room temperature.' In each accepted sheet whose card's flag is 1, a zone that is under 16 °C after a standing loss was as it is before it. (That no
-- zone is warmer is said in Promises.antt, of every version.)
abbrev pub LossesStop : Type 0
LossesStop =
    (rules : Rules) → NoLooser rules → (bs : List ℕ) (n : ℕ) (sheet : Sheet rules bs n) → floor_at sheet.version sheet.card ≡ 1
    → AllFloored sheet.version (card_at sheet.version sheet.card) (λ i. (card_at sheet.version sheet.card).start) sheet.lines

-- 'a flag, the card's last byte, sets a floor of 16 °C for standing losses', and for nothing else: a call of another kind is read as on a card without it, and the steps know
-- the flag from the call alone
abbrev pub OnlyLossesHaveAFloor : Type 0
OnlyLossesHaveAFloor =
    (version : ℕ) (extension : Extension) (call : List ℕ) → (get_or call 0 0 ≡ 4 → ⊥) → call_of version extension call ≡ call_of version (record { services = extension.services; floor = 0 }) call

-- 'With the flag 0 the rest is 0 and the oracle is matched as before': any card that opens a sheet of version 3 and, with the flag 0 behind it, one of version 4, and any calls
-- whatsoever
abbrev pub EqualWithoutFloor : Type 0
EqualWithoutFloor =
    (card rec₃ free₃ rec₄ free₄ : List ℕ) (calls : List ListedCall) → (open_of 3 card rec₃ free₃).code ≡ 0 → (open_of 4 (card ++ (0 ∷ [])) rec₄ free₄).code ≡ 0 → AllGiven 3 calls
    → NoEleven (opened_record 3 card rec₃ free₃) (opened_rest 3 card rec₃ free₃) calls
    → NoEleven (opened_record 4 (card ++ (0 ∷ [])) rec₄ free₄) (opened_rest 4 (card ++ (0 ∷ [])) rec₄ free₄) (in_four calls)
    → answers_of (opened_record 3 card rec₃ free₃) (opened_rest 3 card rec₃ free₃) calls
    ≡ answers_of (opened_record 4 (card ++ (0 ∷ [])) rec₄ free₄) (opened_rest 4 (card ++ (0 ∷ [])) rec₄ free₄) (in_four calls)

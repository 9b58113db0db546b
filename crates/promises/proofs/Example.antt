-- The example is opened, answered, refused and accepted, by computation: the line `unfolding` names the definitions that are computed.
use Prim.Native.Nat.{ℕ, ◌+◌}
use mathlib.Core.Path.{◌≡◌, refl}
use mathlib.Core.List.{List, [], ◌∷◌}
use lib.ListN.{length, replicate}
use lib.Ieee.{of_bits, to_bits, of_int, add, sub, mul, div, neg, lt, le, eq, fits}
use Rattle.floats.specs.Standins.{finite64, magnitude, larger, nearly_equal, max_zero, min}
use Rattle.floats.specs.Sum2.{sum2_step, sum2_after, sum2}
use Rattle.codec.specs.Bytes.{be, be_bytes, f64_of, f64_bytes, over}
use Rattle.zone.specs.Heat.{kilowatt_hours, kilojoules}
use Rattle.zone.specs.Layer.{layer_energy_stored, temp_at, soc_to_temp, zone_energy_required}
use Rattle.card.specs.Ranges.{within, is_substep, is_timestep, is_temperature, is_capacity, is_velocity, is_diameter, is_coefficient, is_flow, is_power}
use Rattle.zone_update.specs.Update.{delivering_from_above, delivering, retrieving_from_below, retrieving, new_zone_temperature, floored, zone_update}
use Rattle.zone_charging.specs.Charging.{counted, charging_withdrawn, charging_added, zone_simultaneous_charging}
use Rattle.zone_water.specs.Water.{zone_properties}
use Rattle.card.specs.Version.{oldest_version, newest_version, known_version, shows_hydronic_time, lists_services, sets_floor}
use Rattle.card.specs.Services.{listed, service_ok, rising_from, services_ok, list_refusal, listed_class, class_of}
use Rattle.card.specs.Extension.{flag_ok, has_floor, full_refusal}
use Rattle.card.specs.Card.{counts_in_range, times_in_range, temperatures_in_range, capacities_in_range, exchanger_in_range, powers_in_range, card_in_range, card_verdict, verdict_number, card_refusal}
use Rattle.card.specs.Derived.{salt_of, salts_of, derived}
use Rattle.battery.specs.Answer.{refused_with, plain_answer, numbers_finite, answer_finite}
use Rattle.battery.specs.Battery.{fresh_zones, fresh, zones_finite, battery_accepted}
use Rattle.battery.specs.Ledger.{totals_finite}
use Rattle.battery.specs.Call.{is_level, is_given_temperature, demand_in_range, call_in_range}
use Rattle.substep.specs.Substep.{outcome_of, zone_index, zone_charge, lowest_of, counted_energy, zone_step, zone_at, zones_after, zone_transfer, common_of, charger_heat, progress_from, progress_finite, progress_fault, substep_from, with_transfer, process_heat_battery_zones}
use Rattle.runs.specs.Charge.{electric_input, electric_ended, charge_electric, charge_battery, loss_floor, loss_input, loss_ended, battery_heat_loss}
use Rattle.runs.specs.Runs.{fault_end, end_refusal, time_available}
use Rattle.engine_replies.specs.Classes.{service_class, unserved}
use Rattle.engine_replies.specs.Replies.{checked, unless_refused, charged_battery, charged_time, cooled_battery, run_answer}
use Rattle.engine.specs.Steps.{demand_given, demand_from, demand_energy, charge, heat_loss, step_of, advance_of}
use Rattle.sheet_calls.specs.Calls.{commit_place, call_length, mark_ok, given_at, demand_class, demand_at, demand_call, bare_call, call_by, call_of}
use Rattle.sheet_records.specs.Cards.{flag_length, card_length, card_at, service_at, services_at, floor_at, refusal_at}
use Rattle.sheet_records.specs.Records.{zones_at, zones_bytes, totals_bytes, state_length, state_at, state_bytes, record_length, record_of, record_bytes}
use Rattle.sheet_lines.specs.Answers.{head_length, answer_length, answer_at, head_bytes, answer_bytes, marks_ok, same_number, same_zones, same_totals, agrees}
use Rattle.sheet_lines.specs.Lines.{line_length, line_size, line_bytes, opening_length, opening_bytes}
use Rattle.entries.specs.Entry.{open_known, of_version, open_of, renewed, line_after, record_laid}
use Rattle.sheet_lines.specs.Front.{call_part, answer_part, following, head_ok, line_call}
use Rattle.auditor.specs.Audit.{judge, audit_line, audit_from, card_line_ok, audit_lines, audit_card, audit_of}
use Rattle.auditor.specs.Rules.{plain}
use Rattle.heat_battery.specs.Entries.{entry_read, entry_known, entry_of}
use Rattle.auditor.specs.Verdicts.{Accepted}
use Rattle.promises.specs.Example.{example_list, example_card, fresh_record, example_opening, example_charge, charge_line, charged_record, example_demand, unlisted_demand, refused_line, example_sheet, point_record, loss_line}

-- A opens with this card and these bytes behind its fields; the first call is answered and the second refused, and they write these bytes; B accepts the sheet
abbrev Works : ℕ → List ℕ → List ℕ → ℕ → Type 0
Works version list demand refusal =
    (open_of version (example_card list) (replicate (206 + length list) 0) (replicate (161 + length list) 0) ≡ record { code = 0; record' = fresh_record list; sheet = example_opening version list })
    × (entry_of version (fresh_record list) example_charge (replicate 97 0) ≡ record { code = 0; record' = charged_record list; sheet = charge_line })
    × (entry_of version (charged_record list) demand (replicate (length demand + 80) 0) ≡ record { code = refusal; record' = charged_record list; sheet = refused_line demand refusal })
    × (audit_of plain (example_sheet version list demand refusal) ≡ Accepted 2)

pub example : Works oldest_version [] example_demand 20 × Works newest_version (example_list 1) unlisted_demand 21
unfolding known_version shows_hydronic_time lists_services sets_floor listed service_ok rising_from services_ok list_refusal flag_ok full_refusal listed_class class_of service_at services_at flag_length floor_at refusal_at demand_class has_floor charged_time finite64 magnitude larger nearly_equal max_zero sum2_step sum2_after sum2 be be_bytes f64_of f64_bytes over kilowatt_hours kilojoules layer_energy_stored temp_at soc_to_temp zone_energy_required within is_substep is_timestep is_temperature is_capacity is_velocity is_diameter is_coefficient is_flow is_power retrieving_from_below retrieving new_zone_temperature zone_update counted charging_withdrawn charging_added zone_simultaneous_charging zone_properties counts_in_range times_in_range temperatures_in_range capacities_in_range exchanger_in_range powers_in_range card_in_range card_verdict verdict_number card_refusal salt_of salts_of derived refused_with plain_answer numbers_finite answer_finite fresh_zones fresh zones_finite totals_finite battery_accepted is_level is_given_temperature demand_in_range call_in_range zone_index zone_charge lowest_of counted_energy zone_step zone_at zones_after zone_transfer common_of charger_heat progress_from progress_finite progress_fault outcome_of substep_from with_transfer process_heat_battery_zones electric_input electric_ended charge_electric charge_battery fault_end end_refusal time_available checked unless_refused charged_battery run_answer demand_given demand_from service_class unserved demand_energy charge step_of advance_of commit_place call_length mark_ok given_at demand_at demand_call call_by call_of card_length card_at zones_at zones_bytes totals_bytes state_length state_at state_bytes record_length record_of record_bytes head_length answer_length answer_at head_bytes answer_bytes marks_ok same_number same_zones same_totals agrees line_length line_size line_bytes opening_length opening_bytes open_known of_version open_of renewed line_after record_laid call_part answer_part following head_ok line_call judge audit_line audit_from card_line_ok audit_lines audit_card audit_of entry_read entry_known entry_of of_bits to_bits of_int add sub mul div neg lt le eq fits
example = ((refl, refl, refl, refl), (refl, refl, refl, refl))

-- document 02, Six: 'Point 76 °C in document 01 ends at -103 °C', with 0.25 kWh; with the flag 1 it ends at 16 °C, and 0.11777777777777777 kWh are lost
pub point_with_floor :
    (entry_of newest_version (point_record 0 0x4053000000000000) (4 ∷ []) (replicate 81 0) ≡ record { code = 0; record' = point_record 0 0xC059C00000000000; sheet = loss_line 0x3FD0000000000000 0xC059C00000000000 })
    × (entry_of newest_version (point_record 1 0x4053000000000000) (4 ∷ []) (replicate 81 0) ≡ record { code = 0; record' = point_record 1 0x4030000000000000; sheet = loss_line 0x3FBE26AF37C048D1 0x4030000000000000 })
unfolding known_version shows_hydronic_time lists_services sets_floor listed service_ok rising_from services_ok list_refusal flag_ok full_refusal listed_class class_of service_at services_at flag_length floor_at refusal_at demand_class has_floor charged_time finite64 magnitude larger nearly_equal max_zero min sum2_step sum2_after sum2 be be_bytes f64_of f64_bytes over kilowatt_hours kilojoules layer_energy_stored temp_at soc_to_temp zone_energy_required within is_substep is_timestep is_temperature is_capacity is_velocity is_diameter is_coefficient is_flow is_power retrieving_from_below retrieving delivering_from_above delivering new_zone_temperature floored zone_update counted charging_withdrawn charging_added zone_simultaneous_charging zone_properties counts_in_range times_in_range temperatures_in_range capacities_in_range exchanger_in_range powers_in_range card_in_range card_verdict verdict_number card_refusal salt_of salts_of derived refused_with plain_answer numbers_finite answer_finite fresh_zones fresh zones_finite totals_finite battery_accepted is_level is_given_temperature demand_in_range call_in_range zone_index zone_charge lowest_of counted_energy zone_step zone_at zones_after zone_transfer common_of charger_heat progress_from progress_finite progress_fault outcome_of substep_from with_transfer process_heat_battery_zones loss_floor loss_input loss_ended battery_heat_loss fault_end end_refusal time_available checked unless_refused cooled_battery run_answer demand_given demand_from service_class unserved demand_energy heat_loss step_of advance_of commit_place call_length mark_ok given_at demand_at demand_call bare_call call_by call_of card_length card_at zones_at zones_bytes totals_bytes state_length state_at state_bytes record_length record_of record_bytes head_length answer_length answer_at head_bytes answer_bytes marks_ok same_number same_zones same_totals agrees line_length line_size line_bytes opening_length opening_bytes open_known of_version open_of renewed line_after record_laid call_part answer_part following head_ok line_call judge audit_line audit_from card_line_ok audit_lines audit_card audit_of entry_read entry_known entry_of of_bits to_bits of_int add sub mul div neg lt le eq fits
point_with_floor = (refl, refl)

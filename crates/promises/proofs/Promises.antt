-- The promises are kept. Each is proved where its words are; here it is put under its name.
use mathlib.Core.Path.{refl}
use Rattle.substep.proofs.Logarithms.{logarithms_taken}
use Rattle.sheet_lines.proofs.Agreement.{same_number_self}
use Rattle.auditor.specs.Rules.{plain}
use Rattle.engine.proofs.Times.{hydronic_time, running_stays}
use Rattle.engine.proofs.Versions.{hydronic_alike, others_equal}
use Rattle.heat_battery.proofs.OpenCases.{open_1, open_2, open_3, open_4, open_61, open_10, open_11}
use Rattle.heat_battery.proofs.CallCases.{call_10, call_11}
use Rattle.heat_battery.proofs.CallNumbers.{call_20, call_21, call_22, call_23, call_24, call_25}
use Rattle.heat_battery.proofs.OwnCases.{own_10, own_20, own_21, own_22, own_23, own_24, own_25}
use Rattle.heat_battery.proofs.AnyVersion as any
use Rattle.heat_battery.proofs.EqualSteps.{sheet_equal_to_steps}
use Rattle.own_record.specs.Record.{extension_of, own_advanced}
use Rattle.own_record.proofs.OwnRecordLaws.{refused_record_stays, places_above_stay}
use Rattle.auditor.specs.Audit.{limited_audit_of}
use Rattle.auditor.proofs.Exact.{exact}
use Rattle.auditor.proofs.Refusals.{refused_40, refused_41, refused_42, refused_43, refused_44, refused_70, no_other}
use Rattle.auditor.proofs.Words.{verdict_given, plain_given, same_verdict, word_accepts}
use Rattle.auditor.proofs.Fields.{fields_accept, fields_refuse, fields_word}
use Rattle.promises.proofs.Directions.{directions, losses_stop}
use Rattle.promises.proofs.Charged.{charged_total}
use Rattle.promises.specs.Promises.{OpeningNumbers, CallNumbers, OwnRecordNumbers, AuditVerdicts, AuditorVerdicts, RefusedOpeningChangesNothing, CallWithoutLineChangesNothing, RefusalLineLeavesTheRecord, RefusedOwnRecordStays, PlacesAboveTheCountStay, ExtensionStays, EqualToTheSteps, Opening, AcceptsAList, AcceptsAListByRules, ExactlyWhen, ExactlyWhenInC, WordTellsTheVerdict, ExactlyWhenOfAnyLength, FieldsTellTheVerdict, BothAuditsAgree, ZonesMoveTheRightWay, ChargedTotalAddsUp, OpeningRefusals, CallRefusals, OwnRecordRefusals, AuditRefusals, FortyExactlyWhenUnknown}
use Rattle.promises.specs.Requests.{LogarithmsCounted, HydronicTime, RunningTotalsStay, OnlyTheTimeDiffers, ServiceClasses, DemandsAreClassed, EqualAnswers, LossesStop, OnlyLossesHaveAFloor, EqualWithoutFloor}
use Rattle.promises.proofs.Numbers.{among_call, among_own}
use Rattle.promises.proofs.AList.{a_list}
use Rattle.promises.proofs.ServiceClasses.{service_classes, demands_are_classed}
use Rattle.promises.proofs.TwoVersions.{equal_answers, equal_without_floor}
use Rattle.promises.proofs.Widened.{only_losses_read_it}

pub opening_numbers : OpeningNumbers
opening_numbers = any.open_numbers

pub call_numbers : CallNumbers
call_numbers version rec call free = among_call _ (any.call_numbers version rec call free)

pub own_record_numbers : OwnRecordNumbers
unfolding own_advanced
own_record_numbers version own call = among_own _ (any.own_numbers version (extension_of version own) own.battery call)

pub audit_verdicts : AuditVerdicts
audit_verdicts = plain_given

pub auditor_verdicts : AuditorVerdicts
auditor_verdicts = no_other

pub refused_opening_changes_nothing : RefusedOpeningChangesNothing
refused_opening_changes_nothing = any.refused_opening_stays

pub call_without_line_changes_nothing : CallWithoutLineChangesNothing
call_without_line_changes_nothing = any.call_without_line_stays

pub refusal_line_leaves_the_record : RefusalLineLeavesTheRecord
refusal_line_leaves_the_record = any.refusal_line_stays

pub refused_own_record_stays : RefusedOwnRecordStays
refused_own_record_stays = refused_record_stays

pub places_above_the_count_stay : PlacesAboveTheCountStay
places_above_the_count_stay = places_above_stay

pub extension_stays : ExtensionStays
unfolding own_advanced
extension_stays version own call = (refl, refl, refl, refl)

pub equal_to_the_steps : EqualToTheSteps
equal_to_the_steps = sheet_equal_to_steps

pub opening : Opening
opening = any.opens_exactly

pub accepts_a_list : AcceptsAList
accepts_a_list version card rec free calls = a_list plain same_number_self version card rec free calls refl

pub accepts_a_list_by_rules : AcceptsAListByRules
accepts_a_list_by_rules = a_list

pub exactly_when : ExactlyWhen
exactly_when = exact

pub exactly_when_in_c : ExactlyWhenInC
exactly_when_in_c = word_accepts

pub word_tells_the_verdict : WordTellsTheVerdict
word_tells_the_verdict rules bs cs = same_verdict (limited_audit_of rules bs) (limited_audit_of rules cs) (verdict_given rules bs) (verdict_given rules cs)

pub exactly_when_of_any_length : ExactlyWhenOfAnyLength
exactly_when_of_any_length = fields_accept

pub fields_tell_the_verdict : FieldsTellTheVerdict
fields_tell_the_verdict = fields_refuse

pub both_audits_agree : BothAuditsAgree
both_audits_agree = fields_word

pub zones_move_the_right_way : ZonesMoveTheRightWay
zones_move_the_right_way = directions

pub charged_total_adds_up : ChargedTotalAddsUp
charged_total_adds_up = charged_total

pub forty_exactly_when_unknown : FortyExactlyWhenUnknown
unfolding own_advanced
forty_exactly_when_unknown version = (any.open_40 version, any.call_40 version, λ own call. any.own_40 version (extension_of version own) own.battery call)

pub opening_refusals : OpeningRefusals
opening_refusals version known card rec free =
    (open_1 version known card rec free, open_2 version known card rec free, open_3 version known card rec free, open_4 version known card rec free, open_61 version known card rec free, open_10 version known card rec free, open_11 version known card rec free)

pub call_refusals : CallRefusals
call_refusals version known rec call free = (
  call_10 version known rec call free,
  call_11 version known rec call free,
  call_20 version known rec call free,
  call_21 version known rec call free,
  call_22 version known rec call free,
  call_23 version known rec call free,
  call_24 version known rec call free,
  call_25 version known rec call free,
)

pub own_record_refusals : OwnRecordRefusals
unfolding own_advanced
own_record_refusals version known own call =
    let s = extension_of version own in
    let b = own.battery in
    (own_10 version known s b call, own_20 version known s b call, own_21 version known s b call, own_22 version known s b call, own_23 version known s b call, own_24 version known s b call, own_25 version known s b call)

pub audit_refusals : AuditRefusals
audit_refusals rules bs k =
    (refused_40 rules bs, refused_41 rules bs, refused_70 rules bs, refused_42 rules bs k, refused_43 rules bs k, refused_44 rules bs)

pub logarithms_counted : LogarithmsCounted
logarithms_counted = logarithms_taken

pub hydronic_time_shown : HydronicTime
hydronic_time_shown = hydronic_time

pub running_totals_stay : RunningTotalsStay
running_totals_stay = running_stays

pub only_the_time_differs : OnlyTheTimeDiffers
only_the_time_differs version other battery = (hydronic_alike version other battery, others_equal version other battery)

pub service_classes_are : ServiceClasses
service_classes_are = service_classes

pub demands_are_of_their_class : DemandsAreClassed
demands_are_of_their_class = demands_are_classed

pub equal_answers_given : EqualAnswers
equal_answers_given = equal_answers

pub losses_stop_at_the_floor : LossesStop
losses_stop_at_the_floor = losses_stop

pub only_losses_have_a_floor : OnlyLossesHaveAFloor
only_losses_have_a_floor = only_losses_read_it

pub equal_answers_without_floor : EqualWithoutFloor
equal_answers_without_floor = equal_without_floor

-- An alert with a fault is set aside, and one without is taken.
use Rattle.std.proofs.Common.{◌≡◌, Some, Err}
use Rattle.std.proofs.lemmas.Result.{on_ok_weaker}
use Rattle.timetable.specs.Seen.{seen}
use Rattle.reverse_alerts.specs.Taken.{verdict}
use Rattle.reverse_alerts.proofs.ProgressLemmas.{told, verdict_by}
use Rattle.reverse_alerts.proofs.SituationLemmas.{aside_report, aside_text}
use Rattle.reverse_alerts.proofs.writing.Writing.take_alert.Goals as goal

pub add-requires-clause-told : goal.add-requires-clause-told
add-requires-clause-told c = told c.args.id.now c.args.alert.now c.in_ok-named.named c.in-None.ensures

pub returns-in-Some-clause-text : goal.returns-in-Some-clause-text
returns-in-Some-clause-text c =
    let table = seen c.args.table.now in
    let is : Err c.in-Some.fault ≡ verdict table c.args.id.now c.args.alert.now =
    verdict_by table c.args.id.now c.args.alert.now c.in_ok-named.named (Some c.in-Some.fault) c.in_ok-named.ensures.named c.in-Some.ensures in
    on_ok_weaker c.set_aside.result (λ e. aside_text _ table c.args.moment _ c.in-Some.fault _ _ is c.in_ok-named.ensures.text) c.set_aside.ensures

pub returns-in-Some-clause-report : goal.returns-in-Some-clause-report
returns-in-Some-clause-report c =
    let table = seen c.args.table.now in
    let is : Err c.in-Some.fault ≡ verdict table c.args.id.now c.args.alert.now =
    verdict_by table c.args.id.now c.args.alert.now c.in_ok-named.named (Some c.in-Some.fault) c.in_ok-named.ensures.named c.in-Some.ensures in
    on_ok_weaker c.set_aside.result (λ e. aside_report c.args.number _ c.in-Some.fault _ _ _ _ is c.in_ok-named.ensures.report e) c.set_aside.ensures

use Rattle.std.proofs.Common.{◌∙◌, sym}
use Rattle.timetable.specs.Seen.{seen}
use Rattle.journey_model.specs.Dated.{run_of}
use Rattle.propagation.proofs.PlaceLemmas.{events-say, place-fault}
use Rattle.propagation.proofs.placing.scheduled_says.Goals as goal

pub returns-in-Ok : goal.returns-in-Ok
returns-in-Ok c =
    let table = seen c.args.table.now in
    events-say (run_of table c.args.dated.now) c.args.number c.args.position c.args.update.now
    c.scheduled_at-scheduled.result c.in-Ok.place c.says_by_events.result c.requires.scheduled
    (c.scheduled_at-scheduled.ensures table) (sym c.in-Ok.is ∙ c.place_of.ensures)
    (rw c.planned_at.ensures.value at c.says_by_events.ensures)

pub returns-in-Err : goal.returns-in-Err
returns-in-Err c =
    let table = seen c.args.table.now in
    place-fault (run_of table c.args.dated.now) c.args.number c.args.position c.args.update.now
    c.scheduled_at-scheduled.result c.in-Err.fault c.requires.scheduled
    (c.scheduled_at-scheduled.ensures table) (sym c.in-Err.is ∙ c.place_of.ensures)

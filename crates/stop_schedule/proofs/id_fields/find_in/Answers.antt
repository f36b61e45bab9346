use Rattle.timetable.proofs.IdLemmas.{at-place}
use Rattle.stop_schedule.proofs.id_fields.find_in.Goals as goal

pub returns-in-Some-clause-at : goal.returns-in-Some-clause-at
returns-in-Some-clause-at c =
    rw (← c.in-Some.ensures.cases.0) (at-place c.args.ids.now c.find.result c.in-Some.id.now c.find.ensures.place)

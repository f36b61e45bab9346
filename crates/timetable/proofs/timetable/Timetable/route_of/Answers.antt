use Rattle.timetable.proofs.IdLemmas.{id-at-has-bytes, id-at-is-short}
use Rattle.timetable.proofs.timetable.Timetable.route_of.Goals as goal

pub returns-clause-shortest : goal.returns-clause-shortest
returns-clause-shortest c = id-at-has-bytes c.args.self.now.routes _ c.at.result.now c.at.ensures.ids c.at.ensures.value

pub returns-clause-longest : goal.returns-clause-longest
returns-clause-longest c = id-at-is-short c.args.self.now.routes _ c.at.result.now c.at.ensures.ids c.at.ensures.value

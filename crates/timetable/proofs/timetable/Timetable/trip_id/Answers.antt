use Rattle.timetable.proofs.IdLemmas.{id-at-has-bytes, id-at-is-short, place-of-id-at}
use Rattle.timetable.proofs.timetable.Timetable.trip_id.Goals as goal

pub returns-clause-shortest : goal.returns-clause-shortest
returns-clause-shortest c =
    id-at-has-bytes c.args.self.now.trips c.args.trip.0 c.at.result.now c.at.ensures.ids c.at.ensures.value

pub returns-clause-longest : goal.returns-clause-longest
returns-clause-longest c =
    id-at-is-short c.args.self.now.trips c.args.trip.0 c.at.result.now c.at.ensures.ids c.at.ensures.value

pub returns-clause-found : goal.returns-clause-found
returns-clause-found c =
    place-of-id-at c.args.self.now.trips c.args.trip.0 c.at.result.now c.at.ensures.ids c.at.ensures.value

use Rattle.std.proofs.Common.{◌∙◌}
use Rattle.timetable.specs.Seen.{seen}
use Rattle.journey_model.specs.Dated.{run_of}
use Rattle.propagation.proofs.UpdateLemmas.{said_stops}
use Rattle.propagation.proofs.updates.stops_said.Goals as goal

pub returns : goal.returns
returns c =
    let table = seen c.args.table.now in
    said_stops (run_of table c.args.dated.now) c.args.update.now c.in_ok-placed.placed c.in_ok-readings.readings
    (rw c.as_slice.ensures.same at c.in_ok-placed.ensures)
    (λ updates rising same. c.in_ok-readings.ensures table updates rising (c.as_slice-2.ensures.same ∙ same))

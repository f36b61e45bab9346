use Rattle.std.proofs.Common.{◌∙◌}
use Rattle.stop_schedule.specs.Rising.{IsBetween}
use Rattle.stop_schedule.proofs.SequenceLemmas.{not-between, placed-at}
use Rattle.stop_schedule.proofs.trip_stops.insert.Goals as goal

pub returns-in-Ok : goal.returns-in-Ok
returns-in-Ok c = λ rising.
    let stops = c.args.stops.now.items in
    let stop = c.args.stop.now in
    let between : IsBetween stops stop.sequence c.in-Some.place =
    (rw c.as_slice.ensures.value at c.in-Some.ensures.place) rising in (
      not-between stops stop.sequence c.in-Some.place between,
      c.in-Ok.ensures.items ∙ placed-at stops stop c.in-Some.place between,
    )

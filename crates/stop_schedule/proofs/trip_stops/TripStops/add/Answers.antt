use Rattle.std.proofs.Common.{◌≡◌, ◌∙◌, true}
use Rattle.stop_schedule.specs.TripStops.{stops_kept}
use Rattle.stop_schedule.proofs.TripStopLemmas.{places-after}
use Rattle.stop_schedule.proofs.trip_stops.TripStops.add.Goals as goal

pub returns-then-branch : goal.returns-then-branch
returns-then-branch c = λ rising.
    let added : c.in_ok-append_brief.field-0 ≡ true = c.if-branch.true in
    let places = places-after c.args.stop.now (stops_kept c.args.self.now)
    (c.in_ok-append_brief.ensures.less added rising) in
    (places.0, (rw added at c.in_ok-append_brief.ensures.added) ∙ places.1)

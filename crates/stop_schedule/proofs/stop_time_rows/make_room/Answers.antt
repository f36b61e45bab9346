use Rattle.std.proofs.Common.{◌∙◌, ap}
use Rattle.std.proofs.Math.Seq.{map-set_same}
use Rattle.stop_schedule.specs.TripStops.{stops_kept}
use Rattle.stop_schedule.proofs.stop_time_rows.make_room.Goals as goal

pub returns-in-Some : goal.returns-in-Some
returns-in-Some c =
    map-set_same stops_kept c.args.by_trip.now.items c.args.trip c.make_room.new.self c.in-Some.held.now
    (c.make_room.ensures ∙ ap stops_kept c.in-Some.ensures.value)

use Rattle.std.proofs.Common.{ap, is_some, sym}
use Rattle.timetable.proofs.IdLemmas.{has-at, place-of-id-at}
use Rattle.stop_schedule.specs.Sheet.{nth}
use Rattle.stop_schedule.proofs.KnownLemmas.{known-fits}
use Rattle.stop_schedule.proofs.StopStep.{loaded-row}
use Rattle.stop_schedule.proofs.stop_time_rows.known_row.Goals as goal

pub returns-in-Some-clause-known : goal.returns-in-Some-clause-known
returns-in-Some-clause-known c =
    let trips = c.args.trips.now in
    let stops = c.args.stops.now in
    let row = c.args.sheet.now.row in
    let ids = c.in_ok-trip.ensures in
    let fields = c.in-Some.ensures in
    let stop = c.in_ok-trip.stop in
    let loaded = c.in-Some.loaded in
    record {
      ids = ids.trips;
      fits = known-fits trips stops row c.args.number c.in_ok-trip.trip stop ids.trips ids.stops ids.trip ids.stop
          (ap is_some fields.sequence)
          fields.arrival fields.departure fields.counted.0;
      trip_at = ids.trip;
      of_stop = has-at stops stop (nth 2 row) ids.stop;
      loaded_is = loaded-row stops row c.args.number loaded.row loaded.sequence loaded.stop.0 loaded.times
          fields.counted.1 (sym fields.sequence)
          (rw fields.counted.2 (sym (place-of-id-at stops stop (nth 2 row) ids.stops ids.stop))) fields.times;
    }

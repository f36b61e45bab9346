-- One stop more.
use Rattle.std.proofs.Common.{◌≡◌, ◌+◌, ◌<◌, arith, drop, get_or, length}
use Rattle.std.proofs.lemmas.List.{drop_more}
use Rattle.std.proofs.lemmas.Option.{slice_get-get_or}
use Rattle.timetable.specs.declared.stop_row.StopRow.{StopRow}
use Rattle.journey_model.specs.Places as spec
use Rattle.journey_model.specs.TripRuns.{run_over}
use Rattle.journey_model.specs.declared.readings.StopReading.TheVariants.{Absent}
use Rattle.siri_calls.proofs.Written.WrittenTimes.{placed_at}
use Rattle.siri_calls.proofs.long_places.places_size.Goals as goal

no_row : StopRow
no_row = record { sequence = 0; stop = record { 0 = 0 }; arrival = 0; departure = 0 }

pub reading_size-bytes-requires : goal.reading_size-bytes-requires
unfolding no_row
reading_size-bytes-requires c =
    let stops = c.args.run.now.dated.stops.now in
    let readings = c.args.readings.now in
    let position = c.loop-position.position in
    let within : position < length stops = omega arith in
    let within_readings : position < length readings = omega arith in
    placed_at (run_over c.args.run.now) stops readings position (get_or stops position no_row) (get_or readings position Absent) c.requires.placed
    (slice_get-get_or stops position no_row within) (slice_get-get_or readings position Absent within_readings)

pub loop-position-preserved : goal.loop-position-preserved
unfolding no_row
loop-position-preserved c =
    let ids = c.args.run.now.table.now.stops in
    let stops = c.args.run.now.dated.stops.now in
    let readings = c.args.readings.now in
    let position = c.loop-position.position in
    let within : position < length stops = omega arith in
    let within_readings : position < length readings = omega arith in
    let all : c.loop-position.bytes
    + (spec.reading_size ids (get_or stops position no_row) (get_or readings position Absent)
    + spec.readings_size ids (drop (position + 1) stops) (drop (position + 1) readings)) ≡ spec.readings_size ids stops readings
    = rw (drop_more stops position no_row within, drop_more readings position Absent within_readings) at c.loop-position.invariant.all in
    record {
      all = omega (arith, all, c.reading_size-bytes.ensures.value);
      few = omega (arith, c.loop-position.invariant.few, c.reading_size-bytes.ensures.small);
    }

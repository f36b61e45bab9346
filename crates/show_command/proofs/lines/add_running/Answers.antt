-- The readings are one for each stop of the trip on its day, and its stops are the timetable's.
use Rattle.std.proofs.Common.{◌≡◌, length, subst, true}
use Rattle.timetable.specs.Stops.{are_known}
use Rattle.journey_model.specs.Schedules.{Schedule}
use Rattle.journey_model.proofs.NearLemmas.{as_many}
use Rattle.show_command.proofs.LineLemmas.{known_held, moments, near_dated, stops_dated}
use Rattle.show_command.proofs.lines.add_running.Goals as goal

pub add_stops-requires-clause-each : goal.add_stops-requires-clause-each
add_stops-requires-clause-each c =
    let schedule = c.args.context.now in
    let one = c.args.one.now in
    let dated = c.in-Some.dated in
    as_many dated.start dated.stops.now c.args.readings.now
    (near_dated schedule one.trip.0 one.day one.reading c.args.readings.now schedule.table dated c.requires.fits
    c.requires.reading c.in-Some.ensures.value)

pub add_stops-requires-clause-known : goal.add_stops-requires-clause-known
add_stops-requires-clause-known c =
    let schedule = c.args.context.now in
    let one = c.args.one.now in
    let table = c.context.inside.table.now in
    let stops = stops_dated schedule one.trip.0 one.day one.reading schedule.table c.in-Some.dated c.requires.fits
    c.in-Some.ensures.value in
    let known = known_held table.trips table.routes table.stops table.carried.items table.stop_rows.items one.trip.0
    table.in_range in
    rw stops (subst (λ (lent : Schedule). are_known (length table.stops) (lent.table.stops_of one.trip.0) ≡ true)
    c.context.view_is known)

pub add_stops-requires-clause-moments : goal.add_stops-requires-clause-moments
add_stops-requires-clause-moments c =
    let schedule = c.args.context.now in
    let one = c.args.one.now in
    let dated = c.in-Some.dated in
    moments dated.start dated.stops.now c.args.readings.now dated.day_start dated.timed
    (near_dated schedule one.trip.0 one.day one.reading c.args.readings.now schedule.table dated c.requires.fits
    c.requires.reading c.in-Some.ensures.value)

-- the bytes so far and those of the other stops are all
use Rattle.std.proofs.Common.{◌≡◌, ◌+◌, ◌*◌, ◌≤◌, drop}
use Rattle.journey_model.specs.Places.{readings_size}
use Rattle.timetable.specs.Limits.{id_limit}
use Rattle.siri_calls.proofs.long_places.places_size.Given as goal

abbrev pub invariant-loop-position : goal.invariant-loop-position
invariant-loop-position l = record {
  all : l.bytes + readings_size l.run.table.now.stops (drop l.position l.run.dated.stops.now) (drop l.position l.readings)
      ≡ readings_size l.run.table.now.stops l.run.dated.stops.now l.readings;
  few : l.bytes ≤ id_limit * l.position;
}

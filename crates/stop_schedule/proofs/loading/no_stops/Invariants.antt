use Rattle.std.proofs.Common.{◌≡◌, [], map, replicate}
use Rattle.stop_schedule.specs.TripStops.{stops_kept}
use Rattle.stop_schedule.proofs.loading.no_stops.Given as goal

abbrev pub invariant-loop : goal.invariant-loop
invariant-loop l = map stops_kept l.by_trip.items ≡ replicate l.counter []

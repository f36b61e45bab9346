-- what is made so far is made of the trips of the places so far
use Rattle.std.proofs.Common.{map}
use Rattle.stop_schedule.specs.TripStops.{stops_kept}
use Rattle.stop_schedule.specs.Carrying.{Carries, carried_to}
use Rattle.stop_schedule.proofs.assembling.carried_trips.Given as goal

abbrev pub invariant-loop-place : goal.invariant-loop-place
invariant-loop-place l =
    Carries l.all (carried_to (record {
      ids = l.trips.ids;
      routes = l.trips.routes.items;
      services = l.trips.services.items;
      carried = l.carried;
      by_trip = map stops_kept l.by_trip;
    }) l.place)

use Rattle.std.proofs.Common.{◌≡◌, ◌+◌, ◌++◌, drop}
use Rattle.stop_schedule.specs.TripStops.{all_expanded, brief_stops}
use Rattle.stop_schedule.proofs.trip_stops.spread.Given as goal

-- the stops so far, and the others, are all
abbrev pub invariant-loop-place : goal.invariant-loop-place
invariant-loop-place l =
    l.into.items ++ all_expanded (l.held.row + l.place) l.held.minute (drop l.place l.held.stops.items)
    ≡ l.fn.into.items ++ brief_stops l.held

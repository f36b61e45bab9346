use Rattle.std.proofs.Common.{◌≡◌, ◌++◌, drop}
use Rattle.stop_schedule.specs.StopTimes.{filled, filled_from}
use Rattle.stop_schedule.proofs.stop_times.push_filled.Given as goal

-- the stops so far, and the others with their times, are all
abbrev pub invariant-loop-place : goal.invariant-loop-place
invariant-loop-place l = l.into.items ++ filled_from l.stops l.place (drop l.place l.stops) ≡ l.fn.into.items
    ++ filled l.stops

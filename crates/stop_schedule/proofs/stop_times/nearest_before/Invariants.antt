use Rattle.std.proofs.Common.{◌≡◌, ◌+◌, length, reverse}
use Rattle.stop_schedule.specs.StopTimes.{nearest}
use Rattle.stop_schedule.proofs.NearestLemmas.{further}
use Rattle.stop_schedule.proofs.stop_times.nearest_before.Given as goal

abbrev pub invariant-loop-rest : goal.invariant-loop-rest
invariant-loop-rest l = record {
  away : l.away + length l.rest ≡ length l.stops;
  found : nearest (reverse l.stops) ≡ further l.away (nearest (reverse l.rest));
}

abbrev pub decreases-loop-rest : goal.decreases-loop-rest
decreases-loop-rest l = length l.rest

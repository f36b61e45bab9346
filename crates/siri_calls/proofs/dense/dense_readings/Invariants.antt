-- the readings so far, and those of the other stops by the other calls
use Rattle.std.proofs.Common.{◌≡◌, ◌-◌, ◌++◌, true, map, drop, length}
use Rattle.std.specs.List.{range_with_len}
use Rattle.siri_calls.specs.Judged as spec
use Rattle.siri_calls.specs.MatchedCalls.{placed_call, rise_from}
use Rattle.journey_model.specs.TripRuns.{run_over}
use Rattle.siri_calls.proofs.dense.dense_readings.Given as goal

abbrev pub invariant-loop-position : goal.invariant-loop-position
invariant-loop-position l = record {
  whole : l.readings ++ map (spec.dense (run_over l.run) (map placed_call (drop l.next l.placed))) (range_with_len l.position (length l.run.dated.stops.now - l.position))
      ≡ spec.all_dense (run_over l.run) (map placed_call l.placed);
  rising : rise_from l.position (map placed_call (drop l.next l.placed)) ≡ true;
}

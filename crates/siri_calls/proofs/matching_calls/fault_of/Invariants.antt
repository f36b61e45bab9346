-- the fault of all calls is that of the others
use Rattle.std.proofs.Common.{◌≡◌, drop}
use Rattle.siri_calls.specs.Judged.{numbered, stops_named}
use Rattle.siri_calls.specs.MatchedCalls.{unplaced}
use Rattle.siri_calls.specs.Seen.{calls_of}
use Rattle.journey_model.specs.TripRuns.{run_over}
use Rattle.siri_calls.proofs.matching_calls.fault_of.Given as goal

abbrev pub invariant-loop-index : goal.invariant-loop-index
invariant-loop-index l =
    unplaced l.late (stops_named (run_over l.run) (numbered 0 (calls_of l.calls)))
    ≡ unplaced l.late (stops_named (run_over l.run) (numbered l.index (calls_of (drop l.index l.calls))))

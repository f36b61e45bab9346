-- the calls so far have their places
use Rattle.std.proofs.Common.{drop, map}
use Rattle.siri_calls.specs.Judged.{numbered}
use Rattle.siri_calls.specs.MatchedCalls.{placed_call}
use Rattle.siri_calls.specs.Seen.{calls_of}
use Rattle.journey_model.specs.TripRuns.{run_over}
use Rattle.siri_calls.proofs.PlacedLemmas.{SoFar}
use Rattle.siri_calls.proofs.matching_calls.placed_calls.Given as goal

abbrev pub invariant-loop-index : goal.invariant-loop-index
invariant-loop-index l =
    SoFar (run_over l.run) (numbered 0 (calls_of l.calls)) (numbered l.index (calls_of (drop l.index l.calls))) l.after (map placed_call l.placed.items)

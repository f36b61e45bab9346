-- the fault of all calls is that of the others
use Rattle.std.proofs.Common.{◌≡◌, drop, map}
use Rattle.siri_calls.specs.Judged as spec
use Rattle.siri_calls.specs.MatchedCalls.{placed_call}
use Rattle.journey_model.specs.TripRuns.{run_over}
use Rattle.siri_calls.proofs.delays.delays_fault.Given as goal

abbrev pub invariant-loop-one : goal.invariant-loop-one
invariant-loop-one l =
    spec.delays_fault (run_over l.run) (map placed_call l.placed)
    ≡ spec.delays_fault (run_over l.run) (map placed_call (drop l.one-index l.placed))

-- the calls so far, and after them the text of the others
use Rattle.std.proofs.Common.{◌≡◌, ◌+◌, ◌++◌, false, drop, nat_lt}
use Rattle.siri_calls.specs.Written.DeliveryTree.{stop_readings}
use Rattle.siri_calls.specs.Written.DeliveryTexts.{calls_text}
use Rattle.journey_model.specs.TripRuns.{run_over}
use Rattle.siri_calls.proofs.writing.calls.put_calls.Given as goal

abbrev pub invariant-loop-position : goal.invariant-loop-position
invariant-loop-position l =
    l.out ++ calls_text (nat_lt 0 l.position) (run_over l.run) (l.position + 1) (drop l.position l.run.dated.stops.now) (drop l.position (stop_readings (run_over l.run) l.reading))
    ≡ l.fn.out ++ calls_text false (run_over l.run) 1 l.run.dated.stops.now (stop_readings (run_over l.run) l.reading)

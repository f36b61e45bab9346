-- The positions of calls rise, and their stops are of the stations of the stops there.
use Rattle.std.proofs.Common.{◌∙◌, ap, length, map}
use Rattle.siri_calls.specs.MatchedCalls.{placed_call}
use Rattle.siri_calls.specs.Seen.{calls_of}
use Rattle.journey_model.specs.TripRuns.{run_over}
use Rattle.siri_calls.proofs.OrderLemmas.{calls-rise}
use Rattle.siri_calls.proofs.ServableLemmas.{dense-many, dense-places}
use Rattle.siri_calls.proofs.judging.stops_read.Goals as goal

pub dense_readings-requires : goal.dense_readings-requires
dense_readings-requires c =
    rw c.as_slice-2.ensures.value (calls-rise (run_over c.args.run.now) (calls_of c.args.calls.now) (map placed_call c.in_ok-placed.placed.items) c.in_ok-placed.ensures.found)

pub places_size-requires-clause-many : goal.places_size-requires-clause-many
places_size-requires-clause-many c =
    let placed = map placed_call c.as_slice-2.result.now in
    ap length (c.as_slice-3.ensures.same ∙ c.in_ok-readings.ensures) ∙ dense-many (run_over c.args.run.now) placed

pub places_size-requires-clause-placed : goal.places_size-requires-clause-placed
places_size-requires-clause-placed c =
    let placed = map placed_call c.in_ok-placed.placed.items in
    let readings = rw c.as_slice-2.ensures.value at c.in_ok-readings.ensures in
    rw (c.as_slice-3.ensures.same, readings) (dense-places (run_over c.args.run.now) (calls_of c.args.calls.now) placed c.in_ok-placed.ensures.found)

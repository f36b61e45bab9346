-- What is left begins with the call at hand.
use Rattle.std.proofs.Common.{◌∙◌, ap, drop, option_map, arith, ◌+◌}
use Rattle.siri_calls.specs.Judged.{numbered, stops_named}
use Rattle.siri_calls.specs.MatchedCalls.{unplaced}
use Rattle.siri_calls.specs.Seen.{call_of, calls_of}
use Rattle.journey_model.specs.TripRuns.{run_over}
use Rattle.siri_calls.proofs.PlacedLemmas.{left_at, passed_over}
use Rattle.siri_calls.proofs.matching_calls.fault_of.Goals as goal

pub loop-index-preserved : goal.loop-index-preserved
loop-index-preserved c =
    let run = run_over c.args.run.now in
    let i = c.loop-index.index in
    c.loop-index.invariant
    ∙ ap (λ left. unplaced c.args.late (stops_named run (numbered i (calls_of left)))) (left_at c.args.calls.now i c.index-calls-index.result (omega arith) c.index-calls-index.is)
    ∙ passed_over run c.args.late i (option_map call_of c.index-calls-index.result) (calls_of (drop (i + 1) c.args.calls.now)) c.if-is_unknown.ensures

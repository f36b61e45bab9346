use Rattle.std.proofs.Common.{List, ℕ, Result, ◌++◌, map, take}
use Rattle.std.specs.List.{flat_map}
use Rattle.journey_model.specs.Records.{Recorded}
use Rattle.journey_model.specs.declared.fault.Fault.{Fault}
use Rattle.siri_calls.specs.Frame.{items_below}
use Rattle.siri_calls.specs.Shown.{place_of}
use Rattle.siri_calls.specs.Verdicts.{verdict}
use Rattle.siri_calls.proofs.delivery.take_frames.Given as goal

abbrev pub invariant-loop-frame : goal.invariant-loop-frame
invariant-loop-frame g l =
    (first : g.row.T.Denot) (earlier : List (Result (Recorded × ℕ) Fault)) → g.T.TakesJourneys.has_taken l.context first l.fn.taker earlier
    → g.T.TakesJourneys.has_taken l.context first l.taker
    (earlier ++ map (verdict l.context) (flat_map items_below (map place_of (take l.frame-index l.frames))))

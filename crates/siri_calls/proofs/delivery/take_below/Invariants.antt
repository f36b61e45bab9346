use Rattle.std.proofs.Common.{List, ℕ, Result, ◌++◌, map, take}
use Rattle.journey_model.specs.Records.{Recorded}
use Rattle.journey_model.specs.declared.fault.Fault.{Fault}
use Rattle.json_tree.specs.Trees.{view}
use Rattle.siri_calls.specs.Frame.{item_place}
use Rattle.siri_calls.specs.Shown.{place_of}
use Rattle.siri_calls.specs.Verdicts.{verdict}
use Rattle.siri_calls.proofs.delivery.take_below.Given as goal

abbrev pub invariant-loop-tree : goal.invariant-loop-tree
invariant-loop-tree g l =
    (first : g.row.T.Denot) (earlier : List (Result (Recorded × ℕ) Fault)) → g.T.TakesJourneys.has_taken l.context first l.fn.taker earlier
    → g.T.TakesJourneys.has_taken l.context first l.taker
    (earlier ++ map (λ tree. verdict l.context (item_place (place_of l.frame) (view tree))) (take l.tree-index l.trees))

use Rattle.std.proofs.Common.{List, ℕ, Result, ◌++◌, map, take}
use Rattle.journey_model.specs.declared.fault.Fault.{Fault}
use Rattle.journey_model.specs.declared.situation.Situation.{Situation}
use Rattle.json_tree.specs.Trees.{view}
use Rattle.siri_situations.specs.Situations.{verdict}
use Rattle.siri_situations.proofs.delivery.take_group.Given as goal

abbrev pub invariant-loop-tree : goal.invariant-loop-tree
invariant-loop-tree g l =
    (first : g.row.T.Denot) (earlier : List (Result (Situation × ℕ) Fault)) → g.T.TakesSituations.has_taken l.context first l.fn.taker earlier
    → g.T.TakesSituations.has_taken l.context first l.taker (earlier ++ map (λ tree. verdict l.context (view tree)) (take l.tree-index l.trees))

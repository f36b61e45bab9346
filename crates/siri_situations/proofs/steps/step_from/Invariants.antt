use Rattle.std.proofs.Common.{drop}
use Rattle.siri_situations.specs.Shown.{all_seen}
use Rattle.siri_situations.specs.Steps.{gather, trees_at}
use Rattle.siri_situations.proofs.Gathers.{SoFar}
use Rattle.siri_situations.proofs.steps.step_from.Given as goal

abbrev pub invariant-loop-tree : goal.invariant-loop-tree
invariant-loop-tree l =
    SoFar (trees_at l.step) (gather (trees_at l.step) (all_seen l.trees)) (all_seen l.found.items) (all_seen (drop l.tree-index l.trees))

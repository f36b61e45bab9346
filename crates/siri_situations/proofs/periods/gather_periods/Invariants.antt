use Rattle.std.proofs.Common.{map, drop}
use Rattle.json_tree.specs.Trees.{view}
use Rattle.siri_situations.specs.Periods.{period}
use Rattle.siri_situations.specs.Steps.{gather}
use Rattle.siri_situations.proofs.Gathers.{SoFar}
use Rattle.siri_situations.proofs.periods.gather_periods.Given as goal

abbrev pub invariant-loop-tree : goal.invariant-loop-tree
invariant-loop-tree l = SoFar (period l.zone) (gather (period l.zone) (map view l.trees)) l.found (map view (drop l.tree-index l.trees))

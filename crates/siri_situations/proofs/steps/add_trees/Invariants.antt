use Rattle.std.proofs.Common.{◌≡◌, ◌++◌, map, drop}
use Rattle.json_tree.specs.Trees.{view}
use Rattle.siri_situations.specs.Shown.{all_seen}
use Rattle.siri_situations.proofs.steps.add_trees.Given as goal

abbrev pub invariant-loop-tree : goal.invariant-loop-tree
invariant-loop-tree l = all_seen l.found.items ++ map view (drop l.tree-index l.trees) ≡ all_seen l.fn.found.items ++ map view l.trees

use Rattle.std.proofs.Common.{◌++◌, map, drop}
use Rattle.gw_base.specs.Chains.{ok_map}
use Rattle.json_tree.specs.Trees.{view}
use Rattle.siri_calls.specs.Calls.{calls}
use Rattle.siri_calls.specs.Seen.{calls_of}
use Rattle.siri_calls.proofs.CallLemmas.{SoFar}
use Rattle.siri_calls.proofs.call_reading.add_calls.Given as goal

abbrev pub invariant-loop-tree : goal.invariant-loop-tree
invariant-loop-tree l =
    SoFar l.zone (ok_map (λ rest. calls_of l.fn.found.items ++ rest) (calls l.zone (map view l.trees))) (calls_of l.found.items) (map view (drop l.tree-index l.trees))

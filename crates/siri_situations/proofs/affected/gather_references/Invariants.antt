use Rattle.std.proofs.Common.{◌++◌, drop}
use Rattle.gw_base.specs.Chains.{ok_map}
use Rattle.timetable.specs.Seen.{seen}
use Rattle.siri_situations.specs.Affected.{reference}
use Rattle.siri_situations.specs.Shown.{all_seen}
use Rattle.siri_situations.specs.Steps.{gather}
use Rattle.siri_situations.proofs.Gathers.{SoFar}
use Rattle.siri_situations.proofs.affected.gather_references.Given as goal

abbrev pub invariant-loop-tree : goal.invariant-loop-tree
invariant-loop-tree l =
    SoFar (reference l.kind (seen l.table)) (ok_map (λ rest. l.fn.found ++ rest) (gather (reference l.kind (seen l.table)) (all_seen l.trees)))
    l.found (all_seen (drop l.tree-index l.trees))

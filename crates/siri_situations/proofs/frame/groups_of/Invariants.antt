use Rattle.std.proofs.Common.{map, drop}
use Rattle.json_tree.specs.Trees.{view}
use Rattle.siri_situations.specs.Frame.{group}
use Rattle.siri_situations.specs.Shown.{all_seen}
use Rattle.siri_situations.specs.Steps.{gather}
use Rattle.siri_situations.proofs.Gathers.{SoFar}
use Rattle.siri_situations.proofs.frame.groups_of.Given as goal

abbrev pub invariant-loop-delivery : goal.invariant-loop-delivery
invariant-loop-delivery l =
    SoFar group (gather group (map view l.deliveries)) (all_seen l.found.items) (map view (drop l.delivery-index l.deliveries))

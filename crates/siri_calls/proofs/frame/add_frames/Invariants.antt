use Rattle.std.proofs.Common.{◌≡◌, ◌++◌, map, drop}
use Rattle.json_tree.specs.Trees.{view}
use Rattle.siri_calls.specs.Frame.{frame_place, delivery_place}
use Rattle.siri_calls.specs.Shown.{places_of}
use Rattle.siri_calls.proofs.frame.add_frames.Given as goal

abbrev pub invariant-loop-tree : goal.invariant-loop-tree
invariant-loop-tree l =
    places_of l.found.items ++ map (frame_place (delivery_place (view l.service) (view l.delivery))) (map view (drop l.tree-index l.trees))
    ≡ places_of l.fn.found.items ++ map (frame_place (delivery_place (view l.service) (view l.delivery))) (map view l.trees)

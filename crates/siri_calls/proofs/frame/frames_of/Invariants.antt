use Rattle.std.proofs.Common.{map, drop}
use Rattle.json_tree.specs.Trees.{view}
use Rattle.siri_calls.specs.Frame.{frames_of, delivery_place}
use Rattle.siri_calls.specs.Shown.{places_of}
use Rattle.siri_calls.proofs.FrameLemmas.{SoFar}
use Rattle.siri_calls.proofs.frame.frames_of.Given as goal

abbrev pub invariant-loop-delivery : goal.invariant-loop-delivery
invariant-loop-delivery l =
    SoFar (frames_of (map (delivery_place (view l.service)) (map view l.deliveries))) (places_of l.found.items)
    (map (delivery_place (view l.service)) (map view (drop l.delivery-index l.deliveries)))

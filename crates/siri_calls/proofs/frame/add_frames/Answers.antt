use Rattle.std.proofs.Common.{◌≡◌, ◌∙◌, sym, drop, []}
use Rattle.std.proofs.lemmas.List.{append-nil, drop_all}
use Rattle.json_tree.specs.Trees.{view}
use Rattle.siri_calls.specs.Frame.{delivery_place}
use Rattle.siri_calls.specs.Shown.{places_of}
use Rattle.siri_calls.proofs.FrameLemmas.{frames_there, frames_wrong}
use Rattle.siri_calls.proofs.frame.add_frames.Goals as goal

pub returns-then-not-are_objects-clause-fault : goal.returns-then-not-are_objects-clause-fault
returns-then-not-are_objects-clause-fault c =
    frames_wrong (delivery_place (view c.args.service.now) (view c.args.delivery.now)) c.repeated_under-trees.result.now c.repeated_under-trees.ensures
    (sym c.are_objects.ensures ∙ c.if-not-are_objects.true)

pub returns-clause-found : goal.returns-clause-found
returns-clause-found c =
    let trees = c.repeated_under-trees.result.now in
    let new = places_of c.loop-tree.found.items in
    let done : drop c.loop-tree.tree-index trees ≡ [] = drop_all c.loop-tree.tree-index trees c.loop-tree-test.false in
    frames_there (delivery_place (view c.args.service.now) (view c.args.delivery.now)) trees _ new c.repeated_under-trees.ensures
    (sym c.are_objects.ensures ∙ c.if-not-are_objects.false) (sym (append-nil new) ∙ (rw done at c.loop-tree.invariant))

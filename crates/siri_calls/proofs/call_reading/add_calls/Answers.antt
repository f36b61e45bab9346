use Rattle.std.proofs.Common.{◌≡◌, ◌∙◌, ◌+◌, ◌∷◌, sym, ap, map, drop, option_map}
use Rattle.std.proofs.lemmas.List.{drop_more, map-append}
use Rattle.json_tree.specs.Trees.{view}
use Rattle.siri_calls.specs.Seen.{call_of, calls_of}
use Rattle.siri_calls.proofs.CallLemmas.{one_more}
use Rattle.siri_calls.proofs.call_reading.add_calls.Goals as goal

pub loop-tree-preserved : goal.loop-tree-preserved
loop-tree-preserved c =
    let i = c.loop-tree.tree-index in
    let trees = c.args.trees.now in
    let left : drop i trees ≡ c.tree-item.result ∷ drop (i + 1) trees =
    drop_more trees i c.tree-item.result c.loop-tree-test.true ∙ ap (λ y. y ∷ drop (i + 1) trees) (sym c.tree-item.is) in
    let h = one_more c.args.zone.now _ (calls_of c.loop-tree.found.items) (view c.tree-item.result) (map view (drop (i + 1) trees)) (option_map call_of c.in_ok-call.call)
    c.in_ok-call.ensures (rw left at c.loop-tree.invariant) in
    rw (c.in_ok-push.ensures.items, map-append) h

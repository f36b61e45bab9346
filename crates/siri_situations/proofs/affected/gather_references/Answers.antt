use Rattle.std.proofs.Common.{◌≡◌, ◌∙◌, ◌+◌, ◌∷◌, sym, ap, drop}
use Rattle.std.proofs.lemmas.List.{drop_more}
use Rattle.timetable.specs.Seen as table_seen
use Rattle.siri_situations.specs.Affected.{reference}
use Rattle.siri_situations.specs.Shown.{all_seen, seen}
use Rattle.siri_situations.specs.Steps.{gather}
use Rattle.siri_situations.proofs.Gathers.{one_added, refused}
use Rattle.siri_situations.proofs.affected.gather_references.Goals as goal

pub loop-tree-preserved : goal.loop-tree-preserved
loop-tree-preserved c =
    let i = c.loop-tree.tree-index in
    let trees = c.args.trees.now in
    let left : drop i trees ≡ c.tree-item.result ∷ drop (i + 1) trees =
    drop_more trees i c.tree-item.result c.loop-tree-test.true ∙ ap (λ y. y ∷ drop (i + 1) trees) (sym c.tree-item.is) in
    one_added _ _ c.loop-tree.found _ (seen c.tree-item.result) (all_seen (drop (i + 1) trees)) c.in_default.ensures.found (rw left at c.loop-tree.invariant)

pub returns-in-Err-clause-fault : goal.returns-in-Err-clause-fault
returns-in-Err-clause-fault c =
    let i = c.loop-tree.tree-index in
    let trees = c.args.trees.now in
    let left : drop i trees ≡ c.tree-item.result ∷ drop (i + 1) trees =
    drop_more trees i c.tree-item.result c.loop-tree-test.true ∙ ap (λ y. y ∷ drop (i + 1) trees) (sym c.tree-item.is) in
    let read = reference c.args.kind (table_seen.seen c.args.table.now) in
    refused read (gather read (all_seen trees)) c.args.found.now c.loop-tree.found (seen c.tree-item.result) (all_seen (drop (i + 1) trees)) c.in-Err.fault c.in-Err.ensures.fault
    (rw left at c.loop-tree.invariant)

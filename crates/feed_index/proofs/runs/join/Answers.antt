use Rattle.std.proofs.Common.{take, drop, arith}
use Rattle.feed_index.specs.declared.row.Row.{Row}
use Rattle.feed_index.proofs.HeldLemmas.{held_moved}
use Rattle.feed_index.proofs.RisingLemmas.{rising_all}
use Rattle.feed_index.proofs.StepLemmas.{kept}
use Rattle.feed_index.proofs.TakeLemmas.{merged_entries}
use Rattle.feed_index.proofs.runs.join.Goals as goal

pub returns-clause-held : goal.returns-clause-held
returns-clause-held g c =
    let moved = rw c.deref_mut.ensures.value at c.merge_runs.ensures.moved in
    λ spans h. rw (kept c.merge_runs.new.rows c.args.rows.now.items c.args.rows.now.len (omega arith) (omega arith)) (held_moved c.args.rows.now.items c.merge_runs.new.rows spans moved h)

pub returns-clause-sorted : goal.returns-clause-sorted
returns-clause-sorted g c =
    let merged = rw c.deref_mut.ensures.value at c.merge_runs.ensures.merged in
    rw (kept c.merge_runs.new.rows c.args.rows.now.items c.args.rows.now.len (omega arith) (omega arith), merged)
    (rising_all (λ (row : Row _ _). row.key) g.met.K.Ord.total (take c.args.front c.args.rows.now.items) (drop c.args.front c.args.rows.now.items) c.requires.staged.front_rises)

pub returns-clause-entries : goal.returns-clause-entries
returns-clause-entries g c =
    let merged = rw c.deref_mut.ensures.value at c.merge_runs.ensures.merged in
    λ spans. rw (kept c.merge_runs.new.rows c.args.rows.now.items c.args.rows.now.len (omega arith) (omega arith))
    (merged_entries g.met.K.Ord.total spans c.args.rows.now.items c.merge_runs.new.rows c.args.front merged)

use Rattle.std.proofs.Common.{◌-◌, ◌≤◌, take, drop, length}
use Rattle.std.specs.Prelude.{IsPermutation}
use Rattle.feed_index.proofs.RunLemmas.{Runs}
use Rattle.feed_index.proofs.runs.merge_runs.Given as goal

abbrev pub invariant-runs : goal.invariant-runs
invariant-runs g l = record {
  runs : Runs (λ row. row.key) g.K.Ord.cmp l.rows (take l.fn.front l.fn.rows) (drop l.fn.front l.fn.rows) l.front l.end;
  within : l.end ≤ length l.rows;
  moved : IsPermutation l.fn.rows l.rows;
}

abbrev pub decreases-runs : goal.decreases-runs
decreases-runs g l = l.end - l.front

use Rattle.std.proofs.Common.{◌≡◌, ◌≤◌, ◌+◌, IsSome, vec_len, vec_capacity}
use Rattle.std.specs.Prelude.{reverse}
use Rattle.std.specs.List.{AllByRecursion}
use Rattle.span_pool.specs.Spans.{bytes_of, live_bytes}
use Rattle.feed_index.specs.Entries.{put_all, total}
use Rattle.feed_index.specs.Rows.{AreHeld, entries_of}
use Rattle.feed_index.specs.Staged.{RowsAreStaged, gathered}
use Rattle.feed_index.proofs.merge.merge_rows.Given as goal

abbrev pub invariant-items : goal.invariant-items
invariant-items g l = record {
  held : AreHeld l.rows.items l.pool.spans;
  staged : RowsAreStaged g.K.Ord.cmp l.rows.items l.pool l.front;
  within : l.front ≤ vec_len l.rows;
  live : AllByRecursion (λ row. IsSome (bytes_of l.from.spans row.slot)) l.items.items;
  entries : put_all g.K.Ord.cmp (gathered g.K.Ord.cmp l.rows.items l.pool.spans l.front) (entries_of l.from.spans (reverse l.items.items)) ≡ put_all g.K.Ord.cmp (entries_of l.fn.pool.spans l.fn.rows.items) (entries_of l.from.spans l.fn.items.items);
  len : vec_len l.rows + vec_len l.items ≤ vec_len l.fn.rows + vec_len l.fn.items;
  capacity : vec_capacity l.rows ≡ vec_capacity l.fn.rows;
  never_falls : l.fn.pool.dead ≤ l.pool.dead;
  sums : l.pool.dead + live_bytes l.pool.spans + total (entries_of l.from.spans l.items.items) ≡ l.fn.pool.dead + live_bytes l.fn.pool.spans + total (entries_of l.from.spans l.fn.items.items);
  spare_bytes : l.fn.pool.spare_bytes + total (entries_of l.from.spans l.items.items) ≤ l.pool.spare_bytes + total (entries_of l.from.spans l.fn.items.items);
  spare_spans : l.fn.pool.spare_spans + vec_len l.items ≤ l.pool.spare_spans + vec_len l.fn.items;
}

abbrev pub decreases-items : goal.decreases-items
decreases-items g l = vec_len l.items

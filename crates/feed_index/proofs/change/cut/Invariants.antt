use Rattle.std.proofs.Common.{◌≡◌, ◌≤◌, ◌+◌, ◌-◌, ◌++◌, take, drop, vec_len, vec_capacity}
use Rattle.span_pool.specs.Spans.{live_bytes}
use Rattle.feed_index.specs.Rows.{AreHeld, entries_of}
use Rattle.feed_index.proofs.change.cut.Given as goal

abbrev pub invariant-loop-i : goal.invariant-loop-i
invariant-loop-i g l = record {
  held : AreHeld l.rows.items l.pool.spans;
  entries : entries_of l.pool.spans l.rows.items ≡ drop l.n (entries_of l.fn.pool.spans l.fn.rows.items) ++ take (l.n - l.i) (entries_of l.fn.pool.spans l.fn.rows.items);
  len : vec_len l.rows + l.i ≡ vec_len l.fn.rows;
  capacity : vec_capacity l.rows ≡ vec_capacity l.fn.rows;
  never_falls : l.fn.pool.dead ≤ l.pool.dead;
  sums : l.pool.dead + live_bytes l.pool.spans ≡ l.fn.pool.dead + live_bytes l.fn.pool.spans;
  spare_bytes : l.fn.pool.spare_bytes ≤ l.pool.spare_bytes;
  spare_spans : l.fn.pool.spare_spans ≤ l.pool.spare_spans;
}

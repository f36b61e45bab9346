use Rattle.std.proofs.Common.{◌≡◌, ◌≤◌, take}
use Rattle.feed_index.specs.Chosen.{Sends, chosen}
use Rattle.feed_index.specs.Rows.{entries_of}
use Rattle.feed_index.proofs.write.gather_rows.Given as goal

abbrev pub invariant-loop-row : goal.invariant-loop-row
invariant-loop-row g l = record {
  sent : Sends (g.S.Sink.told l.fn.sink) (g.S.Sink.told l.sink) l.gathered.items (chosen (g.C.Choice.test l.choice) (take l.row-index (entries_of l.pool.spans l.rows)));
  never_falls : g.S.Sink.faults l.fn.sink ≤ g.S.Sink.faults l.sink;
  others : g.S.Sink.beside l.sink ≡ g.S.Sink.beside l.fn.sink;
}

use Rattle.std.proofs.Common.{◌≡◌, ◌≤◌, ◌<◌, ◌+◌, ◌-◌, length}
use Rattle.door_talk.specs.Requests.{HasRead}
use Rattle.door_talk.proofs.heads.read_head.Given as goal

abbrev pub invariant-loop-count : goal.invariant-loop-count
invariant-loop-count g l = record {
  room : length l.piece ≡ length l.fn.piece;
  some : 0 < l.left;
  left : l.left + length l.reader ≡ 16384;
  reads : HasRead (g.D.Sink.beside l.fn.door) (g.D.Sink.beside l.door) l.reader;
  output : g.D.Sink.told l.door ≡ g.D.Sink.told l.fn.door;
  never_falls : g.D.Sink.faults l.fn.door ≤ g.D.Sink.faults l.door;
}

abbrev pub decreases-loop-count : goal.decreases-loop-count
decreases-loop-count g l = 16384 - length l.reader

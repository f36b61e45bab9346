use Rattle.std.proofs.Common.{◌≡◌, ◌≤◌, ◌+◌, ◌-◌, ℕ, List, length}
use Rattle.door_talk.specs.Bodies.{StandsOn}
use Rattle.door_talk.specs.Requests.{HasRead}
use Rattle.door_talk.proofs.bodies.read_body.Given as goal

abbrev pub invariant-loop-done : goal.invariant-loop-done
invariant-loop-done g l = record {
  room : length l.piece ≡ length l.fn.piece;
  within : l.done ≤ l.size;
  taken : g.B.TakesBody.taken l.taker ≡ l.done;
  reads : (bytes : List ℕ) × HasRead (g.D.Sink.beside l.fn.door) (g.D.Sink.beside l.door) bytes
      × StandsOn (g.B.TakesBody.stands l.fn.over l.fn.taker) (g.B.TakesBody.stands l.fn.over l.taker) bytes × (l.came + length bytes ≡ l.done);
  output : g.D.Sink.told l.door ≡ g.D.Sink.told l.fn.door;
  never_falls : g.D.Sink.faults l.fn.door ≤ g.D.Sink.faults l.door;
}

abbrev pub decreases-loop-done : goal.decreases-loop-done
decreases-loop-done g l = l.size - l.done

use Rattle.std.proofs.Common.{◌≡◌, ◌≤◌, take}
use Rattle.feed_reading.specs.Faults as faults
use Rattle.feed_reading.specs.Pieces.{Listed}
use Rattle.feed_reading.proofs.finder.pieces.first_tag.Given as goal

-- a piece has this tag, and none of those so far a lesser one
abbrev pub invariant-loop-piece : goal.invariant-loop-piece
invariant-loop-piece l = record {
  here : (p : faults.Piece) × Listed l.pieces p × (l.first ≡ p.tag);
  least : (p : faults.Piece) → Listed (take l.piece-index l.pieces) p → l.first ≤ p.tag;
}

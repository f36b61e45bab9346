use Rattle.std.proofs.Common.{take}
use Rattle.std.specs.List.{AllByRecursion}
use Rattle.feed_reading.specs.Pieces.{NoneStands}
use Rattle.feed_reading.proofs.finder.pieces.any_holds.Given as goal

-- none stands in the pieces so far
abbrev pub invariant-loop-piece : goal.invariant-loop-piece
invariant-loop-piece l = AllByRecursion (NoneStands l.number) (take l.piece-index l.pieces)

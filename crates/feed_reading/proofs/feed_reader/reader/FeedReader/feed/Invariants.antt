-- The reader stands for the bytes so far, of which no entity ended in the piece.
use Rattle.std.proofs.Common.{length, ◌-◌, ◌≡◌, ◌≢◌, ◌++◌, ◌+◌, ◌≤◌, ℕ, List, take}
use Rattle.std.specs.Prelude.{None}
use Rattle.gw_base.specs.declared.messages.Entity.{Entity}
use Rattle.feed_reading.specs.FeedPieces.{StandsFor}
use Rattle.feed_reading.proofs.feed_reader.reader.FeedReader.feed.Given as goal

abbrev pub invariant-loop-used : goal.invariant-loop-used
invariant-loop-used l = record {
  within : l.used ≤ length l.piece;
  taken : l.self.taken ≡ l.initial.self.taken + l.used;
  at_fault : l.initial.self.fault ≢ None → l.self.fault ≢ None;
  stands : (bytes : List ℕ) (given : List Entity) → StandsFor l.initial.self bytes given
      → StandsFor l.self (bytes ++ take l.used l.piece) given;
}

abbrev pub decreases-loop-used : goal.decreases-loop-used
decreases-loop-used l = length l.piece - l.used

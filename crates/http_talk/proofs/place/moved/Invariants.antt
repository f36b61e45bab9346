-- What is left comes to what the whole comes to.
use Rattle.std.proofs.Common.{◌≡◌, ◌+◌, length}
use Rattle.http_talk.specs.Places as places
use Rattle.http_talk.proofs.place.moved.Given as goal

abbrev pub invariant-loop-byte : goal.invariant-loop-byte
invariant-loop-byte l = record {
  same : places.scanned l.at l.count l.rest ≡ places.scanned l.fn.place 0 l.bytes;
  counted : l.count + length l.rest ≡ length l.bytes;
}

abbrev pub decreases-loop-byte : goal.decreases-loop-byte
decreases-loop-byte l = length l.rest

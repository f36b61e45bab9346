use Rattle.std.proofs.Common.{◌≡◌, vec_capacity}
use Rattle.span_pool.proofs.PackLemmas.{IsPacking}
use Rattle.span_pool.proofs.packing.pack.Given as goal

abbrev pub invariant-loop-slot : goal.invariant-loop-slot
invariant-loop-slot l = record {
  packing : IsPacking l.in_use l.initial.bytes.items l.initial.places.items l.bytes.items l.places.items l.slot-index l.end;
  bytes_room : vec_capacity l.bytes ≡ vec_capacity l.initial.bytes;
  places_room : vec_capacity l.places ≡ vec_capacity l.initial.places;
}

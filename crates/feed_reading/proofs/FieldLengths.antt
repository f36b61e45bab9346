-- How long fields are at most.
use Rattle.std.proofs.Common.{ℕ, ◌+◌, ◌*◌, ◌^◌, ◌<◌, ◌≤◌, List, ◌++◌, length, length-append, arith}
use Rattle.wire_fields.specs.Spelling.{varint, bytes_field}
use Rattle.wire_fields.proofs.Varints.{length-varint_10}

-- a tag and a length have at most ten bytes each
pub length-bytes_field : (number : ℕ) (body : List ℕ) → number < 2 ^ 29 → length body < 2 ^ 64
    → length (bytes_field number body) ≤ length body + 20
length-bytes_field number body small short =
    let tag : length (varint (number * 8 + 2)) ≤ 10 = length-varint_10 _ (omega arith) in
    let len : length (varint (length body)) ≤ 10 = length-varint_10 _ short in
    omega (
      arith,
      length-append (varint (number * 8 + 2) ++ varint (length body)) body,
      length-append (varint (number * 8 + 2)) (varint (length body)),
    )

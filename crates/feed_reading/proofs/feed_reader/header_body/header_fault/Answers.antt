-- The first fault of a body is the earlier one of where it breaks and of its texts.
use Rattle.std.specs.Prelude.{map}
use Rattle.feed_reading.specs.Pieces.{piece_of}
use Rattle.feed_reading.proofs.Bodies.{header_least}
use Rattle.feed_reading.proofs.feed_reader.header_body.header_fault.Goals as goal

pub returns : goal.returns
returns c =
    rw c.earlier.ensures
    (header_least (piece_of c.args.piece.now) (map piece_of c.in_ok-versions.versions) c.break_of.result
    c.first_no_text.result (rw c.from_ref.ensures.value at c.in_ok-versions.ensures) c.break_of.ensures
    (rw c.as_slice.ensures.same at c.first_no_text.ensures))

-- What is written is the header of a full dataset without entities.
use Rattle.std.proofs.Common.{◌<◌, ◌^◌, arith}
use Rattle.std.proofs.lemmas.Int.{ints}
use Rattle.std.specs.Prelude.{unsigned_abs}
use Rattle.feed_messages.proofs.Headers.{means_header}
use Rattle.feed_messages.proofs.writing.header_bytes.Goals as goal

pub returns-clause-means : goal.returns-clause-means
returns-clause-means c =
    let small : unsigned_abs c.args.moment < 2 ^ 64 = omega (arith, ints) in
    rw c.header_bytes.ensures.written (means_header c.args.moment small)

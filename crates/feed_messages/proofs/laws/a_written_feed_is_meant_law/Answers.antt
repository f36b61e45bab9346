use Rattle.std.proofs.Common.{◌<◌, ◌^◌, arith}
use Rattle.std.proofs.lemmas.Int.{ints}
use Rattle.std.specs.Prelude.{unsigned_abs}
use Rattle.feed_messages.proofs.Meant.{means_feed}
use Rattle.feed_messages.proofs.ReadAgain.{each_meant}
use Rattle.feed_messages.proofs.laws.a_written_feed_is_meant_law.Goals as goal

pub returns : goal.returns
returns c = λ moment entities is writable.
    let small : unsigned_abs moment < 2 ^ 64 = omega (arith, ints) in
    means_feed moment entities small (each_meant entities writable)

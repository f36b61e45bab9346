-- A feed of short entities has no fault, and the bytes mean no other feed.
use Rattle.std.proofs.Common.{◌≡◌}
use Rattle.std.proofs.lemmas.Result.{IfOk-weaker}
use Rattle.feed_reading.specs.Tables.{MeansFeed}
use Rattle.feed_reading.proofs.OneMeaning.{one_feed}
use Rattle.feed_reading.proofs.ShortEntities.{means_short, short_has_no_fault}
use Rattle.feed_reading.proofs.reading.read_feed.Goals as goal

pub returns-in-Ok : goal.returns-in-Ok
returns-in-Ok c =
    let means = means_short c.args.bytes.now c.in-Ok.feed c.in-Ok.ensures in
    record {
      means = means;
      no_fault = short_has_no_fault c.args.bytes.now c.in-Ok.feed c.in-Ok.ensures;
      only = λ other h. one_feed c.args.bytes.now c.in-Ok.feed other means h;
      fault = tt;
    }

pub returns-in-Err-Meaningless-clause-only : goal.returns-in-Err-Meaningless-clause-only
returns-in-Err-Meaningless-clause-only c = λ other h.
    IfOk-weaker c.checked_feed.result (λ feed. MeansFeed c.args.bytes.now feed) (λ feed. feed ≡ other)
    (λ feed k. one_feed c.args.bytes.now feed other k h) c.checked_feed.ensures.means

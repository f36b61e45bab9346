-- What is written within the limit is read again.
use Rattle.feed_reading.specs.Tables.{full_dataset}
use Rattle.feed_messages.proofs.ReadAgain.{answers_it, written_short_feed}
use Rattle.feed_messages.proofs.reading.read_feed.Goals as goal

pub returns-clause-again : goal.returns-clause-again
returns-clause-again c = λ moment entities is readable same.
    answers_it c.args.bytes.now (full_dataset moment entities) c.read_feed.result
    (written_short_feed c.args.bytes.now moment entities is readable same)
    c.read_feed.ensures.means c.read_feed.ensures.fault

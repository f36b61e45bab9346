use Rattle.feed_reading.proofs.OneMeaning.{one_feed}
use Rattle.feed_reading.proofs.laws.the_feed_is_one_law.Goals as goal

pub returns : goal.returns
returns c = one_feed

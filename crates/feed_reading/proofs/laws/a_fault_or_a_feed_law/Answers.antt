use Rattle.feed_reading.proofs.Deciding.{fault_or_feed}
use Rattle.feed_reading.proofs.laws.a_fault_or_a_feed_law.Goals as goal

pub returns : goal.returns
returns c = fault_or_feed

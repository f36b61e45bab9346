use Rattle.feed_reading.proofs.Building.{means_more}
use Rattle.feed_reading.proofs.laws.an_entity_is_added_law.Goals as goal

pub returns : goal.returns
returns c = means_more

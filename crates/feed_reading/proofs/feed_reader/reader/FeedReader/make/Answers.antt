-- It stands for no bytes.
use Rattle.feed_reading.proofs.FeedReading.{nothing_yet}
use Rattle.feed_reading.proofs.feed_reader.reader.FeedReader.make.Goals as goal

pub returns-clause-stands : goal.returns-clause-stands
returns-clause-stands c =
    nothing_yet c.make.result c.new.result c.make.ensures.stands c.make.ensures.between c.new.ensures.empty

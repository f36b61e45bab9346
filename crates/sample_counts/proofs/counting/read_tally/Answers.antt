-- What is read of the feed says of each trip what the feed says.
use Rattle.journey_model.specs.FeedReadings.{given_all, last_reading, readings}
use Rattle.propagation.specs.Feeds.{IsServable}
use Rattle.sample_counts.specs.Counts.{made_day}
use Rattle.sample_counts.proofs.Merging.{all_of, reading_says}
use Rattle.sample_counts.proofs.counting.read_tally.Goals as goal

pub sum_of-requires : goal.sum_of-requires
sum_of-requires c =
    rw c.as_slice.ensures.same
    (all_of (IsServable c.args.context.now) c.in_ok-reading.reading.journeys c.in_ok-reading.ensures.servable)

pub returns : goal.returns
returns c =
    let counted = rw c.as_slice.ensures.same at c.sum_of.ensures in
    counted (λ trip. last_reading trip made_day (given_all (readings c.args.context.now c.args.feed.now)))
    (reading_says c.args.context.now c.args.feed.now c.in_ok-reading.reading c.requires c.in_ok-reading.ensures)

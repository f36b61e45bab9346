-- Each part goes on by one field.
use Rattle.feed_reading.proofs.quick.feeds.FeedPartsParts.take.Goals as goal

pub returns : goal.returns
returns c = λ fields known. record {
  header = c.in_ok-add_body.ensures fields known.header;
  entities = c.in_ok-add_entity.ensures fields known.entities;
}

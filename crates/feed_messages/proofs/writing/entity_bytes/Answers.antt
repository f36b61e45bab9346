-- What is written can be written, so it means the entity.
use Rattle.feed_messages.proofs.Meant.{answers_meant}
use Rattle.feed_messages.proofs.writing.entity_bytes.Goals as goal

pub returns-clause-means : goal.returns-clause-means
returns-clause-means c =
    answers_meant c.args.entity.now c.entity_bytes.result c.entity_bytes.ensures.written
    c.entity_bytes.ensures.writable

-- Which entities that are written are read again.
use Rattle.std.specs.Prelude.{◌≤◌, length}
use Rattle.gw_base.specs.declared.messages.Entity.{Entity}
use Rattle.feed_writing.specs.Sound.{IsSoundEntity}
use Rattle.feed_writing.specs.Written.{feed_entity}
use Rattle.feed_reading.specs.Limits.{entity_limit}

-- its numbers fit their types and its texts are UTF-8, as those of each entity in memory are, and its body has no more
-- bytes than one has at most, so that it isn't too long to be read
pub record IsReadable (entity : Entity) : Type 0 where
  pub sound : IsSoundEntity entity
  pub short : length (feed_entity entity) ≤ entity_limit

-- Which entities can be written.
use Rattle.std.specs.Prelude.{◌<◌, ◌^◌, length}
use Rattle.gw_base.specs.declared.messages.Entity.{Entity}
use Rattle.feed_writing.specs.Sound.{IsSoundEntity}
use Rattle.feed_writing.specs.Written.{written}

-- its numbers fit their types and its texts are UTF-8, as those of each entity in memory are, and its bytes can be
-- counted in 64 bits
pub record IsWritable (entity : Entity) : Type 0 where
  pub sound : IsSoundEntity entity
  pub counted : length (written entity) < 2 ^ 64

-- The bytes are those of the situation's message.
use Rattle.alert_map.proofs.AlertLemmas.{made, meant}
use Rattle.alert_map.proofs.entities.alert_entity.Goals as goal

pub returns-clause-bytes : goal.returns-clause-bytes
returns-clause-bytes c = made c.entity_bytes.result c.in_ok-entity.entity _ c.in_ok-entity.ensures c.entity_bytes.ensures.written

pub returns-clause-is_entity : goal.returns-clause-is_entity
returns-clause-is_entity c = rw c.in_ok-entity.ensures at c.entity_bytes.ensures.means

pub returns-clause-means : goal.returns-clause-means
returns-clause-means c = meant c.entity_bytes.result c.in_ok-entity.entity _ c.in_ok-entity.ensures c.entity_bytes.ensures.means

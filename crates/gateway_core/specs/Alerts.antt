-- The alerts of situations in a feed (GTFS Realtime reference, FeedEntity, Alert).
use Rattle.std.specs.Prelude.{ℕ, List, [], ◌∷◌, if◌then◌else◌}
use Rattle.gw_base.specs.declared.messages.Entity.{Entity}
use Rattle.timetable.specs.Table.{Table}
use Rattle.journey_model.specs.declared.situation.Situation.{Situation}
use Rattle.alert_map.specs.Alerts.{alert_message, entity_body_len}

-- the most bytes of the body of an alert's entity
abbrev pub alert_limit : ℕ
alert_limit = 65536

-- how many bytes the body of the entity of a situation's alert has
abbrev pub alert_len : Table → Situation → ℕ
alert_len table one = entity_body_len (alert_message table one)

-- the entities of a situation: that of its alert, or none where it isn't served
abbrev pub alerts : Table → Situation → List Entity
alerts table one = if one.served then alert_message table one ∷ [] else []

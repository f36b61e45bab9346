-- How messages of GTFS Realtime 2.0 are written: fields in rising number, the shortest varints, and nothing for a
-- field that is missing, but for those that are always written (GTFS Realtime reference; protobuf encoding).
use Rattle.std.specs.Prelude.{◌==◌, Bool, ℕ, ℤ, List, [], ◌∷◌, ◌++◌, codes, if◌then◌else◌, Option, Some, None, unsigned_abs}
use Rattle.std.specs.List.{flat_map}
use Rattle.std.specs.Int.{w64, cast_unsigned}
use Rattle.wire_fields.specs.Spelling.{varint_field, bytes_field}
use Rattle.gw_base.specs.declared.messages.Alert.{Alert}
use Rattle.gw_base.specs.declared.messages.Entity.{Entity}
use Rattle.gw_base.specs.declared.messages.Event.{Event}
use Rattle.gw_base.specs.declared.messages.Period.{Period}
use Rattle.gw_base.specs.declared.messages.Selector.{Selector}
use Rattle.gw_base.specs.declared.messages.StopUpdate.{StopUpdate}
use Rattle.gw_base.specs.declared.messages.Translation.{Translation}
use Rattle.gw_base.specs.declared.messages.TripDescriptor.{TripDescriptor}
use Rattle.gw_base.specs.declared.messages.TripUpdate.{TripUpdate}

-- nothing for a missing field
abbrev pub if_there : {X : Type 0} → (X → List ℕ) → Option X → List ℕ
if_there spelled None = []
if_there spelled (Some x) = spelled x

-- a signed number, as an int32, an int64 or an enum has it: in 64 bits of two's complement
abbrev pub signed_field : ℕ → ℤ → List ℕ
signed_field number value = varint_field number (cast_unsigned w64 value)

abbrev pub trip_descriptor : TripDescriptor → List ℕ
trip_descriptor trip =
    if_there (bytes_field 1) trip.trip_id ++ if_there (bytes_field 3) trip.start_date
    ++ signed_field 4 trip.relation ++ if_there (bytes_field 5) trip.route_id

abbrev pub stop_time_event : Event → List ℕ
stop_time_event event = if_there (signed_field 1) event.delay ++ if_there (signed_field 2) event.time

-- a stop's relation of 0 isn't written
abbrev pub relation_field : ℤ → List ℕ
relation_field relation = if unsigned_abs relation == 0 then [] else signed_field 5 relation

-- the id of the stop that is assigned
abbrev pub stop_time_properties : List ℕ → List ℕ
stop_time_properties assigned = bytes_field 1 assigned

abbrev pub stop_time_update : StopUpdate → List ℕ
stop_time_update update =
    if_there (varint_field 1) update.sequence
    ++ if_there (λ event. bytes_field 2 (stop_time_event event)) update.arrival
    ++ if_there (λ event. bytes_field 3 (stop_time_event event)) update.departure
    ++ if_there (bytes_field 4) update.stop_id
    ++ relation_field update.relation
    ++ if_there (λ assigned. bytes_field 6 (stop_time_properties assigned)) update.assigned

abbrev pub trip_update : TripUpdate → List ℕ
trip_update update =
    bytes_field 1 (trip_descriptor update.trip)
    ++ flat_map (λ stop. bytes_field 2 (stop_time_update stop)) update.updates
    ++ if_there (varint_field 4) update.timestamp

abbrev pub time_range : Period → List ℕ
time_range period = if_there (varint_field 1) period.start ++ if_there (varint_field 2) period.end

abbrev pub entity_selector : Selector → List ℕ
entity_selector selector =
    if_there (bytes_field 1) selector.agency_id ++ if_there (bytes_field 2) selector.route_id
    ++ if_there (λ trip. bytes_field 4 (trip_descriptor trip)) selector.trip
    ++ if_there (bytes_field 5) selector.stop_id

abbrev pub translation : Translation → List ℕ
translation text = bytes_field 1 text.text ++ if_there (bytes_field 2) text.language

-- a text in several languages, which isn't written where there is none
abbrev pub translated_string : List Translation → List ℕ
translated_string translations = flat_map (λ text. bytes_field 1 (translation text)) translations

abbrev pub translated_field : ℕ → List Translation → List ℕ
translated_field number [] = []
translated_field number (first ∷ others) = bytes_field number (translated_string (first ∷ others))

abbrev pub alert : Alert → List ℕ
alert a =
    flat_map (λ period. bytes_field 1 (time_range period)) a.periods
    ++ flat_map (λ selector. bytes_field 5 (entity_selector selector)) a.selectors
    ++ signed_field 6 a.cause ++ signed_field 7 a.effect
    ++ translated_field 10 a.header ++ translated_field 11 a.description

-- `is_deleted` is written only where it is true
abbrev pub deleted_field : Bool → List ℕ
deleted_field deleted = if deleted then varint_field 2 1 else []

abbrev pub feed_entity : Entity → List ℕ
feed_entity entity =
    bytes_field 1 entity.id
    ++ deleted_field entity.deleted
    ++ if_there (λ update. bytes_field 3 (trip_update update)) entity.trip_update
    ++ if_there (λ a. bytes_field 5 (alert a)) entity.alert

-- an entity as a field of its feed
abbrev pub written : Entity → List ℕ
written entity = bytes_field 2 (feed_entity entity)

-- a feed's header, of version 2.0, a full dataset, made at that second since 1970
abbrev pub feed_header : ℕ → List ℕ
feed_header timestamp = bytes_field 1 (codes "2.0") ++ varint_field 2 0 ++ varint_field 3 timestamp

-- the header of that moment as the first field of its feed
abbrev pub header : ℤ → List ℕ
header moment = bytes_field 1 (feed_header (unsigned_abs moment))

-- a feed of these entities that is made at that moment
abbrev pub written_feed : ℤ → List Entity → List ℕ
written_feed moment entities = header moment ++ flat_map written entities

-- No entity of the served feed is too long: that of a journey has a few hundred bytes for each of its stops at most.
use Rattle.std.proofs.Common.{◌≡◌, ◌≤◌, ◌<◌, ◌+◌, ◌*◌, ◌/◌, ◌%◌, ◌++◌, ◌∷◌, ◌&&◌, ◌==◌, ℕ, ℤ, zero, suc, List, [], Bool, true, false, length, length-append, Option, Some, None, refl, sym, ap, subst, arith}
use Rattle.std.proofs.lemmas.Bool.{and_parts, leb-true}
use Rattle.std.proofs.lemmas.Slice.Zip.{length-zip}
use Rattle.std.specs.Prelude.{codes, nat_le, nat_lt, if◌then◌else◌, unsigned_abs}
use Rattle.std.specs.List.{AllByRecursion, flat_map, list_all, zip}
use Rattle.std.specs.Str.{is_utf8}
use Rattle.std.specs.Int.{w64, cast_unsigned}
use Rattle.gw_base.specs.declared.messages.Entity.{Entity}
use Rattle.gw_base.specs.declared.messages.Event.{Event}
use Rattle.gw_base.specs.declared.messages.StopUpdate.{StopUpdate}
use Rattle.gw_base.specs.declared.messages.TripDescriptor.{TripDescriptor}
use Rattle.gw_base.proofs.Elements.{all_append}
use Rattle.wire_fields.specs.Spelling.{bytes_field, seven_bits_each, varint, varint_field}
use Rattle.service_day.specs.DayTexts.{compact_text}
use Rattle.timetable.specs.Ids.{are_distinct, has_id_len, is_id}
use Rattle.timetable.specs.Limits.{id_limit, stop_limit}
use Rattle.timetable.specs.Sound.{IsSound}
use Rattle.timetable.specs.Stops.{are_known, are_rising, are_timed}
use Rattle.timetable.specs.Table.{Table}
use Rattle.timetable.specs.declared.numbers.StopNo.{StopNo}
use Rattle.timetable.specs.declared.stop_row.StopRow.{StopRow}
use Rattle.journey_model.specs.Ids.{id_of}
use Rattle.journey_model.specs.Records.{Recorded}
use Rattle.journey_model.specs.Runs.{Run}
use Rattle.journey_model.specs.Schedules.{IsServable, Schedule, run_from}
use Rattle.journey_model.specs.declared.readings.JourneyReading.{JourneyReading}
use Rattle.journey_model.specs.declared.readings.JourneyReading.TheVariants.{Cancelled, Stops}
use Rattle.journey_model.specs.declared.readings.StopReading.{StopReading}
use Rattle.journey_model.specs.declared.readings.StopReading.TheVariants.{Absent, Skipped, Timed}
use Rattle.journey_model.specs.declared.situation.Situation.{Situation}
use Rattle.feed_writing.specs.Written.{feed_entity, if_there, relation_field, signed_field, stop_time_event, stop_time_properties, stop_time_update, trip_descriptor, trip_update}
use Rattle.feed_reading.specs.Limits.{entity_limit}
use Rattle.sparse_planner.specs.Shortest.{assigned, event, needs_update, shortest, update, updates_from}
use Rattle.alert_map.specs.Alerts.{alert_message}
use Rattle.latest_store.specs.Entities.{descriptor, is_silent, message, messages}
use Rattle.latest_store.proofs.EntityLemmas.{messages_none, messages_one}
use Rattle.gateway_core.specs.Alerts.{alerts}
use Rattle.gateway_core.specs.Feeds.{entities_of}
use Rattle.gateway_core.specs.Standing.{IsAlertServed}
use Rattle.gateway_core.proofs.LeastLemmas.{on_a_day}

-- ---- fields

seven_bits_len : (most number : ℕ) → length (seven_bits_each most number) ≤ most
unfolding seven_bits_each
seven_bits_len zero number = omega arith
seven_bits_len (suc most) number = by (nat_lt number 128) (seven_bits_len most (number / 128))
  where
    by : (b : Bool) → length (seven_bits_each most (number / 128)) ≤ most
        → length (if b then number ∷ [] else (number % 128 + 128) ∷ seven_bits_each most (number / 128)) ≤ suc most
    by true rest = omega arith
    by false rest = omega (arith, rest)

varint_len : (number : ℕ) → length (varint number) ≤ 10
unfolding varint
varint_len number = seven_bits_len 10 number

bytes_len : (number : ℕ) (body : List ℕ) → length (bytes_field number body) ≤ 20 + length body
bytes_len number body =
    omega (
      arith,
      varint_len (number * 8 + 2),
      varint_len (length body),
      length-append (varint (number * 8 + 2) ++ varint (length body)) body,
      length-append (varint (number * 8 + 2)) (varint (length body)),
    )

number_len : (number value : ℕ) → length (varint_field number value) ≤ 20
number_len number value =
    omega (arith, varint_len (number * 8), varint_len value, length-append (varint (number * 8)) (varint value))

there_len : {X : Type 0} (spelled : X → List ℕ) (most : ℕ) → ((x : X) → length (spelled x) ≤ most) → (it : Option X) → length (if_there spelled it) ≤ most
there_len spelled most each None = omega arith
there_len spelled most each (Some x) = each x

-- ---- the update of a stop

event_len : (one : Event) → length (stop_time_event one) ≤ 40
event_len one =
    omega (
      arith,
      there_len (signed_field 1) 20 (λ value. number_len 1 (cast_unsigned w64 value)) one.delay,
      there_len (signed_field 2) 20 (λ value. number_len 2 (cast_unsigned w64 value)) one.time,
      length-append (if_there (signed_field 1) one.delay) (if_there (signed_field 2) one.time),
    )

event_field_len : (number : ℕ) (one : Event) → length (bytes_field number (stop_time_event one)) ≤ 60
event_field_len number one = omega (arith, bytes_len number (stop_time_event one), event_len one)

relation_len : (relation : ℤ) → length (relation_field relation) ≤ 20
relation_len relation = by (unsigned_abs relation == 0)
  where
    by : (b : Bool) → length (if b then [] else signed_field 5 relation) ≤ 20
    by true = omega arith
    by false = number_len 5 (cast_unsigned w64 relation)

id_len : (ids : List (List ℕ)) (number : ℕ) → list_all is_id ids ≡ true → length (id_of ids number) ≤ id_limit
id_len [] number all = omega arith
id_len (id ∷ ids) zero all =
    let parts = and_parts (is_id id) (list_all is_id ids) all in
    let long = and_parts (has_id_len id) (is_utf8 id) parts.0 in
    leb-true (length id) id_limit (and_parts (nat_le 1 (length id)) (nat_le (length id) id_limit) long.0).1
id_len (id ∷ ids) (suc number) all = id_len ids number (and_parts (is_id id) (list_all is_id ids) all).1

id_field_len : (id : List ℕ) → length id ≤ id_limit → length (bytes_field 6 (stop_time_properties id)) ≤ 240
id_field_len id short = omega (arith, short, bytes_len 6 (stop_time_properties id), bytes_len 1 id)

assigned_len : (ids : List (List ℕ)) (row : StopRow) (place : StopNo) → list_all is_id ids ≡ true
    → length (if_there (λ id. bytes_field 6 (stop_time_properties id)) (assigned ids row place)) ≤ 240
assigned_len ids row place all = by (place.0 == row.stop.0)
  where
    by : (b : Bool) → length (if_there (λ id. bytes_field 6 (stop_time_properties id)) (if b then None else Some (id_of ids place.0))) ≤ 240
    by true = omega arith
    by false = id_field_len (id_of ids place.0) (id_len ids place.0 all)

-- the update of a stop without an id of its own
parts_len : (one : StopUpdate) → one.stop_id ≡ None → length (if_there (λ id. bytes_field 6 (stop_time_properties id)) one.assigned) ≤ 240 → length (stop_time_update one) ≤ 400
parts_len one none places =
    let first = if_there (varint_field 1) one.sequence in
    let second = if_there (λ event. bytes_field 2 (stop_time_event event)) one.arrival in
    let third = if_there (λ event. bytes_field 3 (stop_time_event event)) one.departure in
    let fourth = if_there (bytes_field 4) one.stop_id in
    let fifth = relation_field one.relation in
    let sixth = if_there (λ id. bytes_field 6 (stop_time_properties id)) one.assigned in
    omega (
      arith,
      places,
      there_len (varint_field 1) 20 (number_len 1) one.sequence,
      there_len (λ event. bytes_field 2 (stop_time_event event)) 60 (event_field_len 2) one.arrival,
      there_len (λ event. bytes_field 3 (stop_time_event event)) 60 (event_field_len 3) one.departure,
      ap (λ (it : Option (List ℕ)). length (if_there (bytes_field 4) it)) none,
      relation_len one.relation,
      length-append ((((first ++ second) ++ third) ++ fourth) ++ fifth) sixth,
      length-append (((first ++ second) ++ third) ++ fourth) fifth,
      length-append ((first ++ second) ++ third) fourth,
      length-append (first ++ second) third,
      length-append first second,
    )

update_len : (run : Run) (row : StopRow) (reading : StopReading) → list_all is_id run.ids ≡ true → length (stop_time_update (update run row reading)) ≤ 400
update_len run row Absent all = parts_len (update run row Absent) refl (omega arith)
update_len run row Skipped all = parts_len (update run row Skipped) refl (omega arith)
update_len run row (Timed arrival departure place) all = parts_len (update run row (Timed arrival departure place)) refl (assigned_len run.ids row place all)

-- ---- all updates of a trip

abbrev written_updates : List StopUpdate → List ℕ
written_updates updates = flat_map (λ stop. bytes_field 2 (stop_time_update stop)) updates

updates_len : (run : Run) (before stops : List (StopRow × StopReading)) → list_all is_id run.ids ≡ true → length (written_updates (updates_from run before stops)) ≤ 420 * length stops
updates_len run before [] all = omega arith
updates_len run before (stop ∷ stops) all = by (needs_update run.start before stop) (updates_len run (before ++ stop ∷ []) stops all)
  where
    by : (b : Bool) → length (written_updates (updates_from run (before ++ stop ∷ []) stops)) ≤ 420 * length stops
        → length (written_updates ((if b then update run stop.0 stop.1 ∷ [] else []) ++ updates_from run (before ++ stop ∷ []) stops)) ≤ 420 * suc (length stops)
    by true rest =
        omega (
          arith,
          rest,
          update_len run stop.0 stop.1 all,
          bytes_len 2 (stop_time_update (update run stop.0 stop.1)),
          length-append (bytes_field 2 (stop_time_update (update run stop.0 stop.1))) (written_updates (updates_from run (before ++ stop ∷ []) stops)),
        )
    by false rest = omega (arith, rest)

shortest_len : (run : Run) (reading : JourneyReading) → list_all is_id run.ids ≡ true → length run.stops ≤ stop_limit → length (written_updates (shortest run reading)) ≤ 105000
shortest_len run Cancelled all few = omega arith
shortest_len run (Stops readings) all few =
    omega (arith, few, updates_len run [] (zip run.stops readings) all, length-zip run.stops readings)

-- ---- the entity of a journey

date_len : (day : ℤ) → length (compact_text day) ≡ 8
unfolding compact_text
date_len day = refl

trip_len : (date trip_id : List ℕ) (reading : JourneyReading) → length date ≡ 8 → length trip_id ≤ id_limit → length (trip_descriptor (descriptor date trip_id reading)) ≤ 268
trip_len date trip_id reading eight short =
    let trip = descriptor date trip_id reading in
    omega (
      arith,
      eight,
      short,
      bytes_len 1 trip_id,
      bytes_len 3 date,
      number_len 4 (cast_unsigned w64 trip.relation),
      length-append ((bytes_field 1 trip_id ++ bytes_field 3 date) ++ signed_field 4 trip.relation) [],
      length-append (bytes_field 1 trip_id ++ bytes_field 3 date) (signed_field 4 trip.relation),
      length-append (bytes_field 1 trip_id) (bytes_field 3 date),
    )

entity_len : (date trip_id : List ℕ) (trip : TripDescriptor) (updates : List StopUpdate) (at : ℕ) → length date ≡ 8 → length trip_id ≤ id_limit → length (trip_descriptor trip) ≤ 268 → length (written_updates updates) ≤ 105000
    → length (feed_entity (record { id = date ++ codes ":" ++ trip_id; deleted = false; trip_update = Some (record { trip = trip; updates = updates; timestamp = Some at }); alert = None })) ≤ entity_limit
entity_len date trip_id trip updates at eight short descriptor_short updates_short =
    let id = date ++ codes ":" ++ trip_id in
    let first = bytes_field 1 (trip_descriptor trip) in
    let second = written_updates updates in
    let third = varint_field 4 at in
    let body = (first ++ second) ++ third in
    omega (
      arith,
      eight,
      short,
      descriptor_short,
      updates_short,
      length-append (date ++ codes ":") trip_id,
      length-append date (codes ":"),
      bytes_len 1 (trip_descriptor trip),
      number_len 4 at,
      length-append (first ++ second) third,
      length-append first second,
      bytes_len 3 body,
      bytes_len 1 id,
      length-append ((bytes_field 1 id ++ []) ++ bytes_field 3 body) [],
      length-append (bytes_field 1 id ++ []) (bytes_field 3 body),
      length-append (bytes_field 1 id) [],
    )

abbrev pub IsShort : Entity → Type 0
IsShort entity = length (feed_entity entity) ≤ entity_limit

few_stops : (table : Table) (trip : ℕ) → IsSound table → trip < length table.trips → length (table.stops_of trip) ≤ stop_limit
few_stops table trip sound within =
    let stops = table.stops_of trip in
    leb-true (length stops) stop_limit
    (and_parts (nat_le (length stops) stop_limit) (are_rising stops && (are_known (length table.stops) stops && are_timed stops)) (sound.stops_of trip within)).0

message_short : (schedule : Schedule) (one : Recorded) → IsSound schedule.table → (its : IsServable schedule one.trip one.day one.reading) → IsShort (message (id_of schedule.table.trips one.trip) its.run one)
message_short schedule one sound its =
    let table = schedule.table in
    let ids = (and_parts (list_all is_id table.stops) (are_distinct table.stops) sound.stops).0 in
    let trip_ids = (and_parts (list_all is_id table.trips) (are_distinct table.trips) sound.trips).0 in
    let short = id_len table.trips one.trip trip_ids in
    let P : Run → Type 0 = λ run. length (written_updates (shortest run one.reading)) ≤ 105000 in
    entity_len (compact_text one.day) (id_of table.trips one.trip) (descriptor (compact_text one.day) (id_of table.trips one.trip) one.reading) (shortest its.run one.reading) (unsigned_abs one.at.0)
    (date_len one.day) short (trip_len (compact_text one.day) (id_of table.trips one.trip) one.reading (date_len one.day) short)
    (on_a_day table one.trip its.run _ P its.on_day (λ start. shortest_len (run_from table one.trip start) one.reading ids (few_stops table one.trip sound its.trip_in)))

-- ---- all entities of a feed

messages_short : (schedule : Schedule) (one : Recorded) → IsSound schedule.table → (its : IsServable schedule one.trip one.day one.reading) → AllByRecursion IsShort (messages schedule one)
messages_short schedule one sound its = by (is_silent one.reading) refl
  where
    by : (b : Bool) → is_silent one.reading ≡ b → AllByRecursion IsShort (messages schedule one)
    by true silent = subst (λ (l : List Entity). AllByRecursion IsShort l) (sym (messages_none schedule one its.run its.on_day silent)) tt
    by false silent = subst (λ (l : List Entity). AllByRecursion IsShort l) (sym (messages_one schedule one its.run its.on_day silent)) (message_short schedule one sound its, tt)

records_short : (schedule : Schedule) (records : List Recorded) → IsSound schedule.table → AllByRecursion (λ one. IsServable schedule one.trip one.day one.reading) records → AllByRecursion IsShort (flat_map (messages schedule) records)
records_short schedule [] sound servable = tt
records_short schedule (one ∷ others) sound servable =
    all_append IsShort (messages schedule one) (flat_map (messages schedule) others) (messages_short schedule one sound servable.0) (records_short schedule others sound servable.1)

alerts_short : (table : Table) (situations : List Situation) → AllByRecursion (IsAlertServed table) situations → AllByRecursion IsShort (flat_map (alerts table) situations)
alerts_short table [] good = tt
alerts_short table (one ∷ others) good = by one.served (alerts_short table others good.1)
  where
    by : (served : Bool) → AllByRecursion IsShort (flat_map (alerts table) others)
        → AllByRecursion IsShort ((if served then alert_message table one ∷ [] else []) ++ flat_map (alerts table) others)
    by true rest = (omega (arith, good.0.short), rest)
    by false rest = rest

pub entities_short : (schedule : Schedule) (records : List Recorded) (situations : List Situation) → IsSound schedule.table → AllByRecursion (λ one. IsServable schedule one.trip one.day one.reading) records
    → AllByRecursion (IsAlertServed schedule.table) situations → AllByRecursion IsShort (entities_of schedule records situations)
entities_short schedule records situations sound servable good =
    all_append IsShort (flat_map (messages schedule) records) (flat_map (alerts schedule.table) situations)
    (records_short schedule records sound servable) (alerts_short schedule.table situations good)

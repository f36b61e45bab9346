-- Bytes have no fault exactly where they mean a feed and no entity is too long: table by table.
use Rattle.std.proofs.Common.{ℕ, ℤ, pos, ◌%◌, ◌^◌, List, [], ◌∷◌, length, refl, inl, inr, arith}
use Rattle.std.specs.Prelude.{Option, Some, None, option_map, unwrap_or, not, ◌==◌, false}
use Rattle.std.specs.List.{last_or}
use Rattle.std.specs.Int.{w32, w64, cast_signed}
use Rattle.gw_base.specs.declared.messages.Feed.{Feed}
use Rattle.gw_base.specs.declared.required.Required.TheVariants as names
use Rattle.wire_fields.specs.Grammar.{WireField}
use Rattle.wire_fields.proofs.Existence.{decided}
use Rattle.feed_reading.specs.declared.fault.FeedFault.{FeedFault}
use Rattle.feed_reading.specs.declared.fault.FeedFault.TheVariants.{EntityTooLong, Wire, NotText, MissingField, Memory}
use Rattle.feed_reading.specs.Meaning.{numbers, bodies}
use Rattle.feed_reading.specs.Tables.{OfTripDescriptor, OfStopTimeEvent, OfStopTimeProperties, OfStopTimeUpdate, OfTripUpdate, OfTimeRange, OfEntitySelector, OfTranslation, OfTranslatedString, OfAlert, OfFeedEntity, header_of, OfFeedHeader, OfFeedMessage, MeansFeed}
use Rattle.feed_reading.specs.Known.{trip_known, event_known, properties_known, stop_known, update_known, period_known, selector_known, translation_known, string_known, alert_known, entity_known, header_known, feed_known}
use Rattle.feed_reading.specs.Faults.{whole, IsLongAt, IsTooLong, HasFault}
use Rattle.feed_reading.proofs.PieceSets.{same_turned, one_listed, faults_same}
use Rattle.feed_reading.proofs.WholeMessages.{one_whole, whole_not_torn, not_missing, held_not_missing, texts_read, texts_clean, last_there, text_there, Reads, Clean, message_read, required_read, messages_read, message_clean, message_not_missing, messages_clean}

-- the numbers of fields that have no faults
abbrev number_of : ℕ → List WireField → Option ℕ
number_of number fields = last_or None (numbers number fields)

abbrev enum_of : ℕ → ℤ → List WireField → ℤ
enum_of number default fields =
    unwrap_or (option_map (λ n. cast_signed w32 (n % 2 ^ 32)) (number_of number fields)) default

abbrev text_of : ℕ → List WireField → Option (List ℕ)
text_of number fields = last_or None (bodies number fields)

-- ---- what has no fault is read

read_event : Reads event_known OfStopTimeEvent
read_event end piece pieces fields w none = (
  record {
    delay = option_map (λ n. cast_signed w32 (n % 2 ^ 32)) (number_of 1 fields);
    time = option_map (cast_signed w64) (number_of 2 fields);
  },
  record { delay = refl; time = refl },
)

read_period : Reads period_known OfTimeRange
read_period end piece pieces fields w none =
    (record { start = number_of 1 fields; end = number_of 2 fields }, record { start = refl; end = refl })

read_trip : Reads trip_known OfTripDescriptor
read_trip end piece pieces fields w none = (
  record {
    trip_id = text_of 1 fields;
    start_date = text_of 3 fields;
    relation = enum_of 4 (pos 0) fields;
    route_id = text_of 5 fields;
  },
  record {
    trip_id = (texts_read 1 (piece ∷ pieces) fields w (λ f x. none f (inl (inl x))), refl);
    start_date = (texts_read 3 (piece ∷ pieces) fields w (λ f x. none f (inr (inl (inl x)))), refl);
    schedule_relationship = refl;
    route_id = (texts_read 5 (piece ∷ pieces) fields w (λ f x. none f (inr (inr (inl (inl x))))), refl);
  },
)

read_properties : Reads properties_known OfStopTimeProperties
read_properties end piece pieces fields w none =
    (text_of 1 fields, (texts_read 1 (piece ∷ pieces) fields w (λ f x. none f (inl (inl x))), refl))

read_stop : Reads stop_known OfStopTimeUpdate
read_stop end piece pieces fields w none =
    let arrival = message_read event_known OfStopTimeEvent read_event end 2 (piece ∷ pieces) fields w
    (λ f x. none f (inl (inl x))) in
    let departure =
    message_read event_known OfStopTimeEvent read_event end 3 (piece ∷ pieces) fields w
    (λ f x. none f (inr (inl (inl x)))) in
    let properties =
    message_read properties_known OfStopTimeProperties read_properties end 6 (piece ∷ pieces) fields w
    (λ f x. none f (inr (inr (inr (inl (inl x)))))) in (
      record {
        sequence = option_map (λ n. n % 2 ^ 32) (number_of 1 fields);
        arrival = arrival.0;
        departure = departure.0;
        stop_id = text_of 4 fields;
        relation = enum_of 5 (pos 0) fields;
        assigned = unwrap_or properties.0 None;
      },
      record {
        stop_sequence = refl;
        arrival = arrival.1;
        departure = departure.1;
        stop_id = (texts_read 4 (piece ∷ pieces) fields w (λ f x. none f (inr (inr (inl (inl x))))), refl);
        schedule_relationship = refl;
        stop_time_properties = record { found = properties.0; message = properties.1; same = refl };
      },
    )

read_update : Reads update_known OfTripUpdate
read_update end piece pieces fields w none =
    let trip = required_read trip_known OfTripDescriptor read_trip end 1 names.Trip piece pieces fields w
    (λ f x. none f (inl (inl x))) (λ f x. none f (inl (inr x))) in
    let updates = messages_read stop_known OfStopTimeUpdate read_stop end 2 (piece ∷ pieces) fields w
    (λ f x. none f (inr (inl x))) in (
      record { trip = trip.0; updates = updates.0; timestamp = number_of 4 fields },
      record { trip = trip.1; stop_time_update = updates.1; timestamp = refl },
    )

read_selector : Reads selector_known OfEntitySelector
read_selector end piece pieces fields w none =
    let trip = message_read trip_known OfTripDescriptor read_trip end 4 (piece ∷ pieces) fields w
    (λ f x. none f (inr (inr (inl (inl x))))) in (
      record {
        agency_id = text_of 1 fields;
        route_id = text_of 2 fields;
        trip = trip.0;
        stop_id = text_of 5 fields;
      },
      record {
        agency_id = (texts_read 1 (piece ∷ pieces) fields w (λ f x. none f (inl (inl x))), refl);
        route_id = (texts_read 2 (piece ∷ pieces) fields w (λ f x. none f (inr (inl (inl x)))), refl);
        trip = trip.1;
        stop_id = (texts_read 5 (piece ∷ pieces) fields w (λ f x. none f (inr (inr (inr (inl (inl x)))))), refl);
      },
    )

read_translation : Reads translation_known OfTranslation
read_translation end piece pieces fields w none =
    let text = last_there (bodies 1 fields)
    (not_missing 1 end names.Text piece pieces fields w (λ f x. none f (inl (inr x)))) in (
      record { text = text.0; language = text_of 2 fields },
      record {
        text = (texts_read 1 (piece ∷ pieces) fields w (λ f x. none f (inl (inl x))), text.1);
        language = (texts_read 2 (piece ∷ pieces) fields w (λ f x. none f (inr (inl (inl x)))), refl);
      },
    )

read_string : Reads string_known OfTranslatedString
read_string end piece pieces fields w none =
    messages_read translation_known OfTranslation read_translation end 1 (piece ∷ pieces) fields w
    (λ f x. none f (inl x))

read_alert : Reads alert_known OfAlert
read_alert end piece pieces fields w none =
    let periods = messages_read period_known OfTimeRange read_period end 1 (piece ∷ pieces) fields w
    (λ f x. none f (inl x)) in
    let selectors =
    messages_read selector_known OfEntitySelector read_selector end 5 (piece ∷ pieces) fields w
    (λ f x. none f (inr (inl x))) in
    let header = message_read string_known OfTranslatedString read_string end 10 (piece ∷ pieces) fields w
    (λ f x. none f (inr (inr (inl (inl x))))) in
    let description =
    message_read string_known OfTranslatedString read_string end 11 (piece ∷ pieces) fields w
    (λ f x. none f (inr (inr (inr (inl (inl x)))))) in (
      record {
        periods = periods.0;
        selectors = selectors.0;
        cause = enum_of 6 (pos 1) fields;
        effect = enum_of 7 (pos 8) fields;
        header = unwrap_or header.0 [];
        description = unwrap_or description.0 [];
      },
      record {
        active_period = periods.1;
        informed_entity = selectors.1;
        cause = refl;
        effect = refl;
        header_text = record { found = header.0; message = header.1; same = refl };
        description_text = record { found = description.0; message = description.1; same = refl };
      },
    )

pub read_entity : Reads entity_known OfFeedEntity
read_entity end piece pieces fields w none =
    let id = last_there (bodies 1 fields)
    (not_missing 1 end names.Id piece pieces fields w (λ f x. none f (inl (inr x)))) in
    let update = message_read update_known OfTripUpdate read_update end 3 (piece ∷ pieces) fields w
    (λ f x. none f (inr (inl (inl x)))) in
    let alert = message_read alert_known OfAlert read_alert end 5 (piece ∷ pieces) fields w
    (λ f x. none f (inr (inr (inl (inl x))))) in (
      record {
        id = id.0;
        deleted = unwrap_or (option_map (λ n. not (n == 0)) (number_of 2 fields)) false;
        trip_update = update.0;
        alert = alert.0;
      },
      record {
        id = (texts_read 1 (piece ∷ pieces) fields w (λ f x. none f (inl (inl x))), id.1);
        is_deleted = refl;
        trip_update = update.1;
        alert = alert.1;
      },
    )

read_header : Reads header_known OfFeedHeader
read_header end piece pieces fields w none =
    let version = last_there (bodies 1 fields)
    (not_missing 1 end names.GtfsRealtimeVersion piece pieces fields w (λ f x. none f (inl (inr x)))) in (
      record { version = version.0; incrementality = enum_of 2 (pos 0) fields; timestamp = number_of 3 fields },
      record {
        gtfs_realtime_version = (texts_read 1 (piece ∷ pieces) fields w (λ f x. none f (inl (inl x))), version.1);
        incrementality = refl;
        timestamp = refl;
      },
    )

read_feed : Reads feed_known OfFeedMessage
read_feed end piece pieces fields w none =
    let header = required_read header_known OfFeedHeader read_header end 1 names.Header piece pieces fields w
    (λ f x. none f (inl (inl x))) (λ f x. none f (inl (inr x))) in
    let entities = messages_read entity_known OfFeedEntity read_entity end 2 (piece ∷ pieces) fields w
    (λ f x. none f (inr (inl x))) in (
      record {
        version = header.0.version;
        incrementality = header.0.incrementality;
        timestamp = header.0.timestamp;
        entities = entities.0;
      },
      record {
        header = header.1;
        entity = entities.1;
      },
    )

-- ---- what is read has no fault

clean_event : Clean event_known OfStopTimeEvent
clean_event end pieces fields m w t f x = x

clean_period : Clean period_known OfTimeRange
clean_period end pieces fields m w t f x = x

clean_trip : Clean trip_known OfTripDescriptor
clean_trip end pieces fields m w t f (inl (inl x)) = texts_clean 1 pieces fields w t.trip_id.0 f x
clean_trip end pieces fields m w t f (inl (inr x)) = x
clean_trip end pieces fields m w t f (inr (inl (inl x))) = texts_clean 3 pieces fields w t.start_date.0 f x
clean_trip end pieces fields m w t f (inr (inl (inr x))) = x
clean_trip end pieces fields m w t f (inr (inr (inl (inl x)))) = texts_clean 5 pieces fields w t.route_id.0 f x
clean_trip end pieces fields m w t f (inr (inr (inl (inr x)))) = x
clean_trip end pieces fields m w t f (inr (inr (inr x))) = x

clean_properties : Clean properties_known OfStopTimeProperties
clean_properties end pieces fields m w t f (inl (inl x)) = texts_clean 1 pieces fields w t.0 f x
clean_properties end pieces fields m w t f (inl (inr x)) = x
clean_properties end pieces fields m w t f (inr x) = x

clean_stop : Clean stop_known OfStopTimeUpdate
clean_stop end pieces fields m w t f (inl (inl x)) =
    message_clean event_known OfStopTimeEvent clean_event end 2 pieces fields m.arrival w t.arrival f x
clean_stop end pieces fields m w t f (inl (inr x)) = x
clean_stop end pieces fields m w t f (inr (inl (inl x))) =
    message_clean event_known OfStopTimeEvent clean_event end 3 pieces fields m.departure w t.departure f x
clean_stop end pieces fields m w t f (inr (inl (inr x))) = x
clean_stop end pieces fields m w t f (inr (inr (inl (inl x)))) = texts_clean 4 pieces fields w t.stop_id.0 f x
clean_stop end pieces fields m w t f (inr (inr (inl (inr x)))) = x
clean_stop end pieces fields m w t f (inr (inr (inr (inl (inl x))))) =
    message_clean properties_known OfStopTimeProperties clean_properties end 6 pieces fields
    t.stop_time_properties.found w t.stop_time_properties.message f x
clean_stop end pieces fields m w t f (inr (inr (inr (inl (inr x))))) = x
clean_stop end pieces fields m w t f (inr (inr (inr (inr x)))) = x

clean_update : Clean update_known OfTripUpdate
clean_update end pieces fields m w t f (inl (inl x)) =
    message_clean trip_known OfTripDescriptor clean_trip end 1 pieces fields (Some m.trip) w t.trip f x
clean_update end pieces fields m w t f (inl (inr x)) =
    message_not_missing OfTripDescriptor end 1 (Some names.Trip) pieces fields _ w t.trip f x
clean_update end pieces fields m w t f (inr (inl x)) =
    messages_clean stop_known OfStopTimeUpdate clean_stop end 2 pieces fields m.updates w t.stop_time_update f x
clean_update end pieces fields m w t f (inr (inr x)) = x

clean_selector : Clean selector_known OfEntitySelector
clean_selector end pieces fields m w t f (inl (inl x)) = texts_clean 1 pieces fields w t.agency_id.0 f x
clean_selector end pieces fields m w t f (inl (inr x)) = x
clean_selector end pieces fields m w t f (inr (inl (inl x))) = texts_clean 2 pieces fields w t.route_id.0 f x
clean_selector end pieces fields m w t f (inr (inl (inr x))) = x
clean_selector end pieces fields m w t f (inr (inr (inl (inl x)))) =
    message_clean trip_known OfTripDescriptor clean_trip end 4 pieces fields m.trip w t.trip f x
clean_selector end pieces fields m w t f (inr (inr (inl (inr x)))) = x
clean_selector end pieces fields m w t f (inr (inr (inr (inl (inl x))))) = texts_clean 5 pieces fields w t.stop_id.0 f x
clean_selector end pieces fields m w t f (inr (inr (inr (inl (inr x))))) = x
clean_selector end pieces fields m w t f (inr (inr (inr (inr x)))) = x

clean_translation : Clean translation_known OfTranslation
clean_translation end pieces fields m w t f (inl (inl x)) = texts_clean 1 pieces fields w t.text.0 f x
clean_translation end pieces fields m w t f (inl (inr x)) =
    held_not_missing 1 end (Some names.Text) pieces fields w (text_there (bodies 1 fields) _ t.text.1) f x
clean_translation end pieces fields m w t f (inr (inl (inl x))) = texts_clean 2 pieces fields w t.language.0 f x
clean_translation end pieces fields m w t f (inr (inl (inr x))) = x
clean_translation end pieces fields m w t f (inr (inr x)) = x

clean_string : Clean string_known OfTranslatedString
clean_string end pieces fields m w t f (inl x) =
    messages_clean translation_known OfTranslation clean_translation end 1 pieces fields m w t f x
clean_string end pieces fields m w t f (inr x) = x

clean_alert : Clean alert_known OfAlert
clean_alert end pieces fields m w t f (inl x) =
    messages_clean period_known OfTimeRange clean_period end 1 pieces fields m.periods w t.active_period f x
clean_alert end pieces fields m w t f (inr (inl x)) =
    messages_clean selector_known OfEntitySelector clean_selector end 5 pieces fields m.selectors w t.informed_entity
    f x
clean_alert end pieces fields m w t f (inr (inr (inl (inl x)))) =
    message_clean string_known OfTranslatedString clean_string end 10 pieces fields t.header_text.found w
    t.header_text.message f x
clean_alert end pieces fields m w t f (inr (inr (inl (inr x)))) = x
clean_alert end pieces fields m w t f (inr (inr (inr (inl (inl x))))) =
    message_clean string_known OfTranslatedString clean_string end 11 pieces fields t.description_text.found w
    t.description_text.message f x
clean_alert end pieces fields m w t f (inr (inr (inr (inl (inr x))))) = x
clean_alert end pieces fields m w t f (inr (inr (inr (inr x)))) = x

clean_entity : Clean entity_known OfFeedEntity
clean_entity end pieces fields m w t f (inl (inl x)) = texts_clean 1 pieces fields w t.id.0 f x
clean_entity end pieces fields m w t f (inl (inr x)) =
    held_not_missing 1 end (Some names.Id) pieces fields w (text_there (bodies 1 fields) _ t.id.1) f x
clean_entity end pieces fields m w t f (inr (inl (inl x))) =
    message_clean update_known OfTripUpdate clean_update end 3 pieces fields m.trip_update w t.trip_update f x
clean_entity end pieces fields m w t f (inr (inl (inr x))) = x
clean_entity end pieces fields m w t f (inr (inr (inl (inl x)))) =
    message_clean alert_known OfAlert clean_alert end 5 pieces fields m.alert w t.alert f x
clean_entity end pieces fields m w t f (inr (inr (inl (inr x)))) = x
clean_entity end pieces fields m w t f (inr (inr (inr x))) = x

clean_header : Clean header_known OfFeedHeader
clean_header end pieces fields m w t f (inl (inl x)) = texts_clean 1 pieces fields w t.gtfs_realtime_version.0 f x
clean_header end pieces fields m w t f (inl (inr x)) =
    held_not_missing 1 end (Some names.GtfsRealtimeVersion) pieces fields w
    (text_there (bodies 1 fields) _ t.gtfs_realtime_version.1) f x
clean_header end pieces fields m w t f (inr x) = x

clean_feed : Clean feed_known OfFeedMessage
clean_feed end pieces fields m w t f (inl (inl x)) =
    message_clean header_known OfFeedHeader clean_header end 1 pieces fields (Some (header_of m)) w t.header f x
clean_feed end pieces fields m w t f (inl (inr x)) =
    message_not_missing OfFeedHeader end 1 (Some names.Header) pieces fields _ w t.header f x
clean_feed end pieces fields m w t f (inr (inl x)) =
    messages_clean entity_known OfFeedEntity clean_entity end 2 pieces fields m.entities w t.entity f x
clean_feed end pieces fields m w t f (inr (inr x)) = x

-- ---- the feed

none_long : (bytes : List ℕ) → ((f : FeedFault) → ¬ HasFault bytes f) → (at : ℕ) → ¬ IsLongAt bytes at
none_long bytes none at h = none (EntityTooLong at) (inl h)

pub meant_without_fault : (bytes : List ℕ) → ((f : FeedFault) → ¬ HasFault bytes f)
    → ((feed : Feed) × MeansFeed bytes feed) × ((at : ℕ) → ¬ IsLongAt bytes at)
meant_without_fault bytes none =
    elim (decided bytes) [
      | inl read ↦ (
        (let m = read_feed (length bytes) (whole bytes) [] read.0 (one_whole (whole bytes) read.0 read.1)
            (λ f x. none f (inr
            (inr (faults_same feed_known (length bytes) (same_turned (one_listed (whole bytes))) f x)))) in
            (m.0, record { fields = read.0; read = read.1; table = m.1 })),
        none_long bytes none,
      )
      | inr broken ↦ absurd
          (none (Wire (record { at = broken.0; kind = broken.1 })) (inr (inl (broken.0, broken.2, omega arith))))
    ]

pub not_long : (bytes : List ℕ) → ((at : ℕ) → ¬ IsLongAt bytes at) → (f : FeedFault) → IsTooLong bytes f → ⊥
not_long bytes none (EntityTooLong at) h = none at h
not_long bytes none (Wire fault) h = h
not_long bytes none (NotText at) h = h
not_long bytes none (MissingField at name) h = h
not_long bytes none Memory h = h

pub no_fault_where_meant : (bytes : List ℕ) (feed : Feed) → MeansFeed bytes feed → ((at : ℕ) → ¬ IsLongAt bytes at)
    → (f : FeedFault) → ¬ HasFault bytes f
no_fault_where_meant bytes feed h none f (inl x) = not_long bytes none f x
no_fault_where_meant bytes feed h none f (inr (inl x)) =
    whole_not_torn (whole bytes ∷ []) h.fields (one_whole (whole bytes) h.fields h.read) f (whole bytes) (inl refl) x
no_fault_where_meant bytes feed h none f (inr (inr x)) =
    clean_feed (length bytes) (whole bytes ∷ []) h.fields feed (one_whole (whole bytes) h.fields h.read) h.table f
    (faults_same feed_known (length bytes) (one_listed (whole bytes)) f x)

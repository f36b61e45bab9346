-- Bytes have at most one meaning.
use Rattle.std.proofs.Common.{◌≡◌, ℕ, List, [], ◌∷◌, refl, sym, ap, subst, ◌∙◌}
use Rattle.std.specs.Prelude.{Option, Some, None, unwrap_or}
use Rattle.std.specs.List.{AllZip}
use Rattle.gw_base.specs.declared.messages.Feed.{Feed}
use Rattle.gw_base.specs.declared.messages.Translation.{Translation}
use Rattle.wire_fields.specs.Grammar.{WireField}
use Rattle.wire_fields.proofs.Broken.{fields_once}
use Rattle.feed_reading.specs.Meaning.{Means, IsJoined}
use Rattle.feed_reading.specs.Tables.{OfTripDescriptor, OfStopTimeEvent, OfStopTimeProperties, IsAssigned, OfStopTimeUpdate, OfTripUpdate, OfTimeRange, OfEntitySelector, OfTranslation, OfTranslatedString, AreTranslations, OfAlert, OfFeedEntity, header_of, OfFeedHeader, OfFeedMessage, MeansFeed}

-- of fields the table holds for at most one message
abbrev Determines : {M : Type 0} → (List WireField → M → Type 0) → Type 0
Determines {M} Table = (fields : List WireField) (a b : M) → Table fields a → Table fields b → a ≡ b

one_meaning : {M : Type 0} (Table : List WireField → M → Type 0) → Determines Table → (bytes : List ℕ) (a b : M)
    → Means Table bytes a → Means Table bytes b → a ≡ b
one_meaning Table one bytes a b h k =
    one h.fields a b h.table
    (subst (λ fields. Table fields b) (sym (fields_once bytes h.fields k.fields h.read k.read)) k.table)

one_joined : {M : Type 0} (Table : List WireField → M → Type 0) → Determines Table
    → (bodies : List (List ℕ)) (a b : Option M) → IsJoined Table bodies a → IsJoined Table bodies b → a ≡ b
one_joined Table one [] None None h k = refl
one_joined Table one [] None (Some b) h k = absurd k
one_joined Table one [] (Some a) b h k = absurd h
one_joined Table one (body ∷ others) None b h k = absurd h
one_joined Table one (body ∷ others) (Some a) None h k = absurd k
one_joined Table one (body ∷ others) (Some a) (Some b) h k = ap Some (one_meaning Table one _ a b h k)

one_list : {M : Type 0} (Table : List WireField → M → Type 0) → Determines Table
    → (bodies : List (List ℕ)) (xs ys : List M) → AllZip (Means Table) bodies xs → AllZip (Means Table) bodies ys
    → xs ≡ ys
one_list Table one [] [] [] h k = refl
one_list Table one [] [] (b ∷ ys) h k = absurd k
one_list Table one [] (a ∷ xs) ys h k = absurd h
one_list Table one (body ∷ others) [] ys h k = absurd h
one_list Table one (body ∷ others) (a ∷ xs) [] h k = absurd k
one_list Table one (body ∷ others) (a ∷ xs) (b ∷ ys) h k =
    λ i. one_meaning Table one body a b h.0 k.0 i ∷ one_list Table one others xs ys h.1 k.1 i

some_is : {M : Type 0} (d x y : M) → ◌≡◌ {A = Option M} (Some x) (Some y) → x ≡ y
some_is d x y e = ap (λ o. unwrap_or o d) e

one_trip_descriptor : Determines OfTripDescriptor
one_trip_descriptor fields a b h k = λ i. record {
  trip_id = (h.trip_id.1 ∙ sym k.trip_id.1) i;
  start_date = (h.start_date.1 ∙ sym k.start_date.1) i;
  relation = (h.schedule_relationship ∙ sym k.schedule_relationship) i;
  route_id = (h.route_id.1 ∙ sym k.route_id.1) i;
}

one_event : Determines OfStopTimeEvent
one_event fields a b h k = λ i. record { delay = (h.delay ∙ sym k.delay) i; time = (h.time ∙ sym k.time) i }

one_properties : Determines OfStopTimeProperties
one_properties fields a b h k = h.1 ∙ sym k.1

one_assigned : (number : ℕ) → Determines (IsAssigned number)
one_assigned number fields a b h k =
    h.same ∙ ap (λ (o : Option (Option (List ℕ))). unwrap_or o None)
    (one_joined OfStopTimeProperties one_properties _ h.found k.found h.message.1 k.message.1) ∙ sym k.same

one_stop_update : Determines OfStopTimeUpdate
one_stop_update fields a b h k = λ i. record {
  sequence = (h.stop_sequence ∙ sym k.stop_sequence) i;
  arrival = one_joined OfStopTimeEvent one_event _ a.arrival b.arrival h.arrival.1 k.arrival.1 i;
  departure = one_joined OfStopTimeEvent one_event _ a.departure b.departure h.departure.1 k.departure.1 i;
  stop_id = (h.stop_id.1 ∙ sym k.stop_id.1) i;
  relation = (h.schedule_relationship ∙ sym k.schedule_relationship) i;
  assigned = one_assigned 6 fields a.assigned b.assigned h.stop_time_properties k.stop_time_properties i;
}

one_trip_update : Determines OfTripUpdate
one_trip_update fields a b h k = λ i. record {
  trip = some_is a.trip a.trip b.trip
      (one_joined OfTripDescriptor one_trip_descriptor _ (Some a.trip) (Some b.trip) h.trip.1 k.trip.1) i;
  updates = one_list OfStopTimeUpdate one_stop_update _ a.updates b.updates h.stop_time_update k.stop_time_update i;
  timestamp = (h.timestamp ∙ sym k.timestamp) i;
}

one_period : Determines OfTimeRange
one_period fields a b h k = λ i. record { start = (h.start ∙ sym k.start) i; end = (h.end ∙ sym k.end) i }

one_selector : Determines OfEntitySelector
one_selector fields a b h k = λ i. record {
  agency_id = (h.agency_id.1 ∙ sym k.agency_id.1) i;
  route_id = (h.route_id.1 ∙ sym k.route_id.1) i;
  trip = one_joined OfTripDescriptor one_trip_descriptor _ a.trip b.trip h.trip.1 k.trip.1 i;
  stop_id = (h.stop_id.1 ∙ sym k.stop_id.1) i;
}

one_translation : Determines OfTranslation
one_translation fields a b h k = λ i. record {
  text = some_is a.text a.text b.text (h.text.1 ∙ sym k.text.1) i;
  language = (h.language.1 ∙ sym k.language.1) i;
}

one_translated_string : Determines OfTranslatedString
one_translated_string fields a b h k = one_list OfTranslation one_translation _ a b h k

one_translations : (number : ℕ) → Determines (AreTranslations number)
one_translations number fields a b h k =
    h.same ∙ ap (λ (o : Option (List Translation)). unwrap_or o [])
    (one_joined OfTranslatedString one_translated_string _ h.found k.found h.message.1 k.message.1) ∙ sym k.same

one_alert : Determines OfAlert
one_alert fields a b h k = λ i. record {
  periods = one_list OfTimeRange one_period _ a.periods b.periods h.active_period k.active_period i;
  selectors = one_list OfEntitySelector one_selector _ a.selectors b.selectors h.informed_entity k.informed_entity i;
  cause = (h.cause ∙ sym k.cause) i;
  effect = (h.effect ∙ sym k.effect) i;
  header = one_translations 10 fields a.header b.header h.header_text k.header_text i;
  description = one_translations 11 fields a.description b.description h.description_text k.description_text i;
}

one_entity : Determines OfFeedEntity
one_entity fields a b h k = λ i. record {
  id = some_is a.id a.id b.id (h.id.1 ∙ sym k.id.1) i;
  deleted = (h.is_deleted ∙ sym k.is_deleted) i;
  trip_update = one_joined OfTripUpdate one_trip_update _ a.trip_update b.trip_update h.trip_update.1 k.trip_update.1 i;
  alert = one_joined OfAlert one_alert _ a.alert b.alert h.alert.1 k.alert.1 i;
}

one_header : Determines OfFeedHeader
one_header fields a b h k = λ i. record {
  version = some_is a.version a.version b.version (h.gtfs_realtime_version.1 ∙ sym k.gtfs_realtime_version.1) i;
  incrementality = (h.incrementality ∙ sym k.incrementality) i;
  timestamp = (h.timestamp ∙ sym k.timestamp) i;
}

one_message : Determines OfFeedMessage
one_message fields a b h k =
    let header : header_of a ≡ header_of b =
    some_is (header_of a) (header_of a) (header_of b)
    (one_joined OfFeedHeader one_header _ (Some (header_of a)) (Some (header_of b)) h.header.1 k.header.1) in
    λ i. record {
      version = (header i).version;
      incrementality = (header i).incrementality;
      timestamp = (header i).timestamp;
      entities = one_list OfFeedEntity one_entity _ a.entities b.entities h.entity k.entity i;
    }

-- bytes mean at most one feed
pub one_feed : (bytes : List ℕ) (a b : Feed) → MeansFeed bytes a → MeansFeed bytes b → a ≡ b
one_feed = one_meaning OfFeedMessage one_message

-- What is written means what it was written from, message by message.
use Rattle.std.proofs.Common.{◌≡◌, ◌==◌, ℕ, ℤ, pos, negsuc, ◌%◌, ◌^◌, ◌<◌, Bool, true, false, List, [], ◌∷◌, ◌++◌, length, map, refl, sym, ap, subst, ◌∙◌, arith, suc, eqb-true, append_assoc}
use Rattle.std.proofs.lemmas.Int.{to_z-of_z}
use Rattle.std.proofs.lemmas.List.{append-nil}
use Rattle.std.proofs.Math.Nat.{mod-eq_of_lt}
use Rattle.std.specs.Prelude.{Result, Ok, Err, IfOk, OnOk, Option, Some, None, option_map, unwrap_or, IfSome, IsUtf8, FitsSigned, unsigned_abs, not, if◌then◌else◌}
use Rattle.std.specs.List.{filter_map, last_or, flat_map, AllByRecursion, AllZip}
use Rattle.std.specs.Int.{w32, w64, cast_signed, cast_unsigned}
use Rattle.gw_base.specs.declared.messages.Alert.{Alert}
use Rattle.gw_base.specs.declared.messages.Entity.{Entity}
use Rattle.gw_base.specs.declared.messages.Event.{Event}
use Rattle.gw_base.specs.declared.messages.Period.{Period}
use Rattle.gw_base.specs.declared.messages.Selector.{Selector}
use Rattle.gw_base.specs.declared.messages.StopUpdate.{StopUpdate}
use Rattle.gw_base.specs.declared.messages.Translation.{Translation}
use Rattle.gw_base.specs.declared.messages.TripDescriptor.{TripDescriptor}
use Rattle.gw_base.specs.declared.messages.TripUpdate.{TripUpdate}
use Rattle.wire_fields.specs.Grammar.{Payload, Varint, Bytes, WireField}
use Rattle.feed_reading.specs.Meaning.{number_in, body_in, numbers, bodies, IsUint64, IsUint32, IsInt64, IsInt32, IsEnum, IsBool, IsText, Means, IsJoined, AreBodies, IsMessage, AreMessages}
use Rattle.feed_reading.specs.Tables.{OfTripDescriptor, OfStopTimeEvent, OfStopTimeProperties, IsAssigned, OfStopTimeUpdate, OfTripUpdate, OfTimeRange, OfEntitySelector, OfTranslation, OfTranslatedString, AreTranslations, OfAlert, OfFeedEntity, MeansFeed, MeansEntity, full_dataset}
use Rattle.feed_writing.specs.Writable.{IsWritable}
use Rattle.feed_writing.specs.Written.{trip_descriptor, stop_time_event, stop_time_properties, stop_time_update, trip_update, time_range, entity_selector, translation, translated_string, alert, feed_entity, written, header}
use Rattle.feed_writing.specs.Sound.{IsSoundTrip, IsSoundEvent, IsSoundStop, IsSoundUpdate, IsSoundPeriod, IsSoundSelector, IsSoundTranslation, IsSoundAlert, IsSoundEntity}
use Rattle.feed_reading.proofs.Building.{one_body, means_more}
use Rattle.feed_messages.proofs.Headers.{means_header}
use Rattle.feed_messages.proofs.Parts.{fields_of, held_by, held_parts, number_part, signed_part, body_part, relation_part, deleted_part, found_in, Builds, then_built, builds_body, builds_optional_body, builds_optional_text, builds_bodies, builds_optional_number, builds_signed, builds_optional_signed, builds_relation, builds_deleted, builds_translations}
use Rattle.feed_reading.proofs.ShortBodies.{countable_bodies}

-- ---- texts and numbers

text_from : (text : Option (List ℕ)) → IfSome text IsUtf8
    → AllByRecursion IsUtf8 (filter_map body_in (body_part text ++ []))
    × (text ≡ last_or None (filter_map body_in (body_part text ++ [])))
text_from None utf8 = (tt, refl)
text_from (Some text) utf8 = ((utf8, tt), refl)

text_is : (parts : List (ℕ × List Payload)) (number : ℕ) (text : Option (List ℕ))
    → held_by number parts ≡ body_part text ++ [] → IfSome text IsUtf8 → IsText number (fields_of parts) text
text_is parts number text e utf8 =
    subst (λ (bodies : List (List ℕ)). AllByRecursion IsUtf8 bodies × (text ≡ last_or None bodies))
    (sym (held_parts body_in number parts ∙ ap (filter_map body_in) e)) (text_from text utf8)

last_is : (value : Option ℕ) → last_or None (filter_map number_in (number_part value ++ [])) ≡ value
last_is None = refl
last_is (Some value) = refl

last_number : (parts : List (ℕ × List Payload)) (number : ℕ) (value : Option ℕ)
    → held_by number parts ≡ number_part value ++ [] → last_or None (numbers number (fields_of parts)) ≡ value
last_number parts number value e = ap (last_or None) (held_parts number_in number parts ∙ ap (filter_map number_in) e)
    ∙ last_is value

uint64_is : (parts : List (ℕ × List Payload)) (number : ℕ) (value : Option ℕ)
    → held_by number parts ≡ number_part value ++ [] → IsUint64 number (fields_of parts) value
uint64_is parts number value e = sym (last_number parts number value e)

low_bits : (value : Option ℕ) → IfSome value (λ n. n < 2 ^ 32) → value ≡ option_map (λ n. n % 2 ^ 32) value
low_bits None small = refl
low_bits (Some value) small = ap Some (sym (mod-eq_of_lt small))

uint32_is : (parts : List (ℕ × List Payload)) (number : ℕ) (value : Option ℕ)
    → held_by number parts ≡ number_part value ++ [] → IfSome value (λ n. n < 2 ^ 32)
    → IsUint32 number (fields_of parts) value
uint32_is parts number value e small = low_bits value small
    ∙ ap (option_map (λ n. n % 2 ^ 32)) (sym (last_number parts number value e))

low_cast : (z : ℤ) → FitsSigned w32 z → cast_unsigned w64 z % 2 ^ 32 ≡ cast_unsigned w32 z
low_cast (pos n) fits = let small = fits.sfits in omega arith
low_cast (negsuc n) fits = let small = fits.sfits in omega arith

back_32 : (z : ℤ) → FitsSigned w32 z → cast_signed w32 (cast_unsigned w64 z % 2 ^ 32) ≡ z
back_32 z fits = ap (cast_signed w32) (low_cast z fits) ∙ to_z-of_z w32 z fits

signed_32 : (value : Option ℤ) → IfSome value (FitsSigned w32)
    → value ≡ option_map (λ n. cast_signed w32 (n % 2 ^ 32)) (option_map (cast_unsigned w64) value)
signed_32 None fits = refl
signed_32 (Some z) fits = ap Some (sym (back_32 z fits))

signed_64 : (value : Option ℤ) → IfSome value (FitsSigned w64)
    → value ≡ option_map (cast_signed w64) (option_map (cast_unsigned w64) value)
signed_64 None fits = refl
signed_64 (Some z) fits = ap Some (sym (to_z-of_z w64 z fits))

int32_is : (parts : List (ℕ × List Payload)) (number : ℕ) (value : Option ℤ)
    → held_by number parts ≡ signed_part value ++ [] → IfSome value (FitsSigned w32)
    → IsInt32 number (fields_of parts) value
int32_is parts number value e fits =
    signed_32 value fits ∙ ap (option_map (λ n. cast_signed w32 (n % 2 ^ 32)))
    (sym (last_number parts number (option_map (cast_unsigned w64) value) e))

int64_is : (parts : List (ℕ × List Payload)) (number : ℕ) (value : Option ℤ)
    → held_by number parts ≡ signed_part value ++ [] → IfSome value (FitsSigned w64)
    → IsInt64 number (fields_of parts) value
int64_is parts number value e fits = signed_64 value fits
    ∙ ap (option_map (cast_signed w64)) (sym (last_number parts number (option_map (cast_unsigned w64) value) e))

enum_is : (parts : List (ℕ × List Payload)) (number : ℕ) (default z : ℤ)
    → held_by number parts ≡ Varint (cast_unsigned w64 z) ∷ [] → FitsSigned w32 z
    → IsEnum number default (fields_of parts) z
enum_is parts number default z e fits =
    sym (back_32 z fits) ∙ ap (λ (n : Option ℕ). unwrap_or (option_map (λ n. cast_signed w32 (n % 2 ^ 32)) n) default)
    (sym (last_number parts number (Some (cast_unsigned w64 z)) e))

-- a relation of 0 isn't written, and is the default
relation_cases : (b : Bool) (z : ℤ) → (b ≡ true → z ≡ pos 0) → FitsSigned w32 z
    → z ≡ unwrap_or
    (option_map (λ n. cast_signed w32 (n % 2 ^ 32))
    (last_or None (filter_map number_in ((if b then [] else Varint (cast_unsigned w64 z) ∷ []) ++ [])))) (pos 0)
relation_cases true z zero fits = zero refl
relation_cases false z zero fits = sym (back_32 z fits)

abs_zero : (z : ℤ) → (unsigned_abs z == 0) ≡ true → z ≡ pos 0
abs_zero (pos n) e = ap pos (eqb-true n 0 e)
abs_zero (negsuc n) e = let d = eqb-true (suc n) 0 e in absurd (omega arith)

relation_is : (parts : List (ℕ × List Payload)) (z : ℤ) → held_by 5 parts ≡ relation_part z ++ [] → FitsSigned w32 z
    → IsEnum 5 (pos 0) (fields_of parts) z
relation_is parts z e fits =
    relation_cases (unsigned_abs z == 0) z (abs_zero z) fits
    ∙ ap (λ (ns : List ℕ). unwrap_or (option_map (λ n. cast_signed w32 (n % 2 ^ 32)) (last_or None ns)) (pos 0))
    (sym (held_parts number_in 5 parts ∙ ap (filter_map number_in) e))

deleted_cases : (b : Bool)
    → b ≡ unwrap_or (option_map (λ n. not (n == 0)) (last_or None (filter_map number_in (deleted_part b ++ [])))) false
deleted_cases true = refl
deleted_cases false = refl

deleted_is : (parts : List (ℕ × List Payload)) (b : Bool) → held_by 2 parts ≡ deleted_part b ++ []
    → IsBool 2 (fields_of parts) b
deleted_is parts b e =
    deleted_cases b ∙ ap (λ (ns : List ℕ). unwrap_or (option_map (λ n. not (n == 0)) (last_or None ns)) false)
    (sym (held_parts number_in 2 parts ∙ ap (filter_map number_in) e))

-- ---- messages in messages

-- what is written of each sound message means it, if a length can count it
abbrev Meant : {M : Type 0} → (List WireField → M → Type 0) → (M → List ℕ) → (M → Type 0) → Type 0
Meant {M} Table spelled Sound = (m : M) → Sound m → length (spelled m) < 2 ^ 64 → Means Table (spelled m) m

joined_from : {M : Type 0} (Table : List WireField → M → Type 0) (spelled : M → List ℕ) (Sound : M → Type 0)
    → Meant Table spelled Sound → (message : Option M) → IfSome message Sound
    → AllByRecursion (λ body. length body < 2 ^ 64) (filter_map body_in (body_part (option_map spelled message) ++ []))
    → AreBodies (filter_map body_in (body_part (option_map spelled message) ++ []))
    × IsJoined Table (filter_map body_in (body_part (option_map spelled message) ++ [])) message
joined_from Table spelled Sound means None sound short = (tt, tt)
joined_from Table spelled Sound means (Some m) sound short =
    let meant = means m sound short.0 in (((meant.fields, meant.read), tt), one_body Table (spelled m) m meant)

message_is : {M : Type 0} (Table : List WireField → M → Type 0) (spelled : M → List ℕ) (Sound : M → Type 0)
    → Meant Table spelled Sound → (parts : List (ℕ × List Payload)) (number : ℕ) (message : Option M)
    → held_by number parts ≡ body_part (option_map spelled message) ++ [] → IfSome message Sound
    → AllByRecursion (λ body. length body < 2 ^ 64) (bodies number (fields_of parts))
    → IsMessage Table number (fields_of parts) message
message_is Table spelled Sound means parts number message e sound short =
    let same : bodies number (fields_of parts) ≡ filter_map body_in (body_part (option_map spelled message) ++ []) =
    held_parts body_in number parts ∙ ap (filter_map body_in) e in
    subst (λ (bodies : List (List ℕ)). AreBodies bodies × IsJoined Table bodies message) (sym same)
    (joined_from Table spelled Sound means message sound
    (subst (λ (bodies : List (List ℕ)). AllByRecursion (λ body. length body < 2 ^ 64) bodies) same short))

listed_from : {M : Type 0} (Table : List WireField → M → Type 0) (spelled : M → List ℕ) (Sound : M → Type 0)
    → Meant Table spelled Sound → (messages : List M) → AllByRecursion Sound messages
    → AllByRecursion (λ body. length body < 2 ^ 64) (filter_map body_in (map (λ m. Bytes (spelled m)) messages ++ []))
    → AllZip (Means Table) (filter_map body_in (map (λ m. Bytes (spelled m)) messages ++ [])) messages
listed_from Table spelled Sound means [] sound short = tt
listed_from Table spelled Sound means (m ∷ messages) sound short =
    (means m sound.0 short.0, listed_from Table spelled Sound means messages sound.1 short.1)

messages_are : {M : Type 0} (Table : List WireField → M → Type 0) (spelled : M → List ℕ) (Sound : M → Type 0)
    → Meant Table spelled Sound → (parts : List (ℕ × List Payload)) (number : ℕ) (messages : List M)
    → held_by number parts ≡ map (λ m. Bytes (spelled m)) messages ++ [] → AllByRecursion Sound messages
    → AllByRecursion (λ body. length body < 2 ^ 64) (bodies number (fields_of parts))
    → AreMessages Table number (fields_of parts) messages
messages_are Table spelled Sound means parts number messages e sound short =
    let same : bodies number (fields_of parts) ≡ filter_map body_in (map (λ m. Bytes (spelled m)) messages ++ []) =
    held_parts body_in number parts ∙ ap (filter_map body_in) e in
    subst (λ (bodies : List (List ℕ)). AllZip (Means Table) bodies messages) (sym same)
    (listed_from Table spelled Sound means messages sound
    (subst (λ (bodies : List (List ℕ)). AllByRecursion (λ body. length body < 2 ^ 64) bodies) same short))

-- ---- the messages

wider : (z : ℤ) → FitsSigned w32 z → FitsSigned w64 z
wider z fits = let small = fits.sfits in record { sfits = omega arith }

wider_some : (z : Option ℤ) → IfSome z (FitsSigned w32) → IfSome z (FitsSigned w64)
wider_some None fits = tt
wider_some (Some z) fits = wider z fits

larger_some : (n : Option ℕ) → IfSome n (λ n. n < 2 ^ 32) → IfSome n (λ n. n < 2 ^ 64)
larger_some None small = tt
larger_some (Some n) small = omega arith

trip_parts : TripDescriptor → List (ℕ × List Payload)
trip_parts trip = (1, body_part trip.trip_id) ∷ (3, body_part trip.start_date)
    ∷ (4, Varint (cast_unsigned w64 trip.relation) ∷ []) ∷ (5, body_part trip.route_id) ∷ []

pub means_trip : Meant OfTripDescriptor trip_descriptor IsSoundTrip
unfolding trip_parts
means_trip trip sound short =
    let built : Builds (trip_descriptor trip) (trip_parts trip) =
    then_built (then_built
    (then_built (builds_optional_text 1 trip.trip_id (omega arith) (omega arith))
    (builds_optional_text 3 trip.start_date (omega arith) (omega arith)))
    (builds_signed 4 trip.relation (omega arith) (omega arith) (wider trip.relation sound.relation)))
    (builds_optional_text 5 trip.route_id (omega arith) (omega arith)) in
    record {
      fields = fields_of (trip_parts trip);
      read = built.read short;
      table = record {
        trip_id = text_is (trip_parts trip) 1 trip.trip_id refl sound.trip_id;
        start_date = text_is (trip_parts trip) 3 trip.start_date refl sound.start_date;
        schedule_relationship = enum_is (trip_parts trip) 4 (pos 0) trip.relation refl sound.relation;
        route_id = text_is (trip_parts trip) 5 trip.route_id refl sound.route_id;
      };
    }

event_parts : Event → List (ℕ × List Payload)
event_parts event = (1, signed_part event.delay) ∷ (2, signed_part event.time) ∷ []

means_event : Meant OfStopTimeEvent stop_time_event IsSoundEvent
unfolding event_parts
means_event event sound short =
    let built : Builds (stop_time_event event) (event_parts event) =
    then_built (builds_optional_signed 1 event.delay (omega arith) (omega arith) (wider_some event.delay sound.delay))
    (builds_optional_signed 2 event.time (omega arith) (omega arith) sound.time) in
    record {
      fields = fields_of (event_parts event);
      read = built.read short;
      table = record {
        delay = int32_is (event_parts event) 1 event.delay refl sound.delay;
        time = int64_is (event_parts event) 2 event.time refl sound.time;
      };
    }

properties_parts : List ℕ → List (ℕ × List Payload)
properties_parts assigned = (1, body_part (Some assigned)) ∷ []

means_properties : (assigned : List ℕ) → IsUtf8 assigned → length (stop_time_properties assigned) < 2 ^ 64
    → Means OfStopTimeProperties (stop_time_properties assigned) (Some assigned)
unfolding properties_parts
means_properties assigned utf8 short = record {
  fields = fields_of (properties_parts assigned);
  read = (builds_optional_text 1 (Some assigned) (omega arith) (omega arith)).read short;
  table = text_is (properties_parts assigned) 1 (Some assigned) refl utf8;
}

-- what is found of the properties that are written of an assigned stop, and of none
properties_found : Option (List ℕ) → Option (Option (List ℕ))
properties_found None = None
properties_found (Some assigned) = Some (Some assigned)

found_says : (assigned : Option (List ℕ)) → assigned ≡ unwrap_or (properties_found assigned) None
unfolding properties_found
found_says None = refl
found_says (Some assigned) = refl

properties_from : (assigned : Option (List ℕ)) → IfSome assigned IsUtf8
    → AllByRecursion (λ body. length body < 2 ^ 64)
    (filter_map body_in (body_part (option_map stop_time_properties assigned) ++ []))
    → AreBodies (filter_map body_in (body_part (option_map stop_time_properties assigned) ++ []))
    × IsJoined OfStopTimeProperties (filter_map body_in (body_part (option_map stop_time_properties assigned) ++ []))
    (properties_found assigned)
unfolding properties_found
properties_from None sound short = (tt, tt)
properties_from (Some assigned) sound short =
    let meant = means_properties assigned sound short.0 in (
      ((meant.fields, meant.read), tt),
      one_body OfStopTimeProperties (stop_time_properties assigned) (Some assigned) meant,
    )

assigned_is : (parts : List (ℕ × List Payload)) (number : ℕ) (assigned : Option (List ℕ))
    → held_by number parts ≡ body_part (option_map stop_time_properties assigned) ++ [] → IfSome assigned IsUtf8
    → AllByRecursion (λ body. length body < 2 ^ 64) (bodies number (fields_of parts))
    → IsAssigned number (fields_of parts) assigned
assigned_is parts number assigned e sound short =
    let same : bodies number (fields_of parts)
    ≡ filter_map body_in (body_part (option_map stop_time_properties assigned) ++ []) =
    held_parts body_in number parts ∙ ap (filter_map body_in) e in
    record {
      found = properties_found assigned;
      message = subst (λ (bodies : List (List ℕ)). AreBodies bodies
          × IsJoined OfStopTimeProperties bodies (properties_found assigned)) (sym same)
          (properties_from assigned sound
          (subst (λ (bodies : List (List ℕ)). AllByRecursion (λ body. length body < 2 ^ 64) bodies) same short));
      same = found_says assigned;
    }

stop_parts : StopUpdate → List (ℕ × List Payload)
stop_parts update =
    (1, number_part update.sequence) ∷ (2, body_part (option_map stop_time_event update.arrival))
    ∷ (3, body_part (option_map stop_time_event update.departure))
    ∷ (4, body_part update.stop_id) ∷ (5, relation_part update.relation)
    ∷ (6, body_part (option_map stop_time_properties update.assigned)) ∷ []

means_stop : Meant OfStopTimeUpdate stop_time_update IsSoundStop
unfolding stop_parts
means_stop update sound short =
    let events =
    then_built (then_built
    (builds_optional_number 1 update.sequence (omega arith) (omega arith)
    (larger_some update.sequence sound.sequence))
    (builds_optional_body 2 stop_time_event update.arrival (omega arith) (omega arith)))
    (builds_optional_body 3 stop_time_event update.departure (omega arith) (omega arith)) in
    let built : Builds (stop_time_update update) (stop_parts update) =
    then_built (then_built (then_built events (builds_optional_text 4 update.stop_id (omega arith) (omega arith)))
    (builds_relation update.relation (wider update.relation sound.relation)))
    (builds_optional_body 6 stop_time_properties update.assigned (omega arith) (omega arith)) in
    let read = built.read short in
    record {
      fields = fields_of (stop_parts update);
      read = read;
      table = record {
        stop_sequence = uint32_is (stop_parts update) 1 update.sequence refl sound.sequence;
        arrival = message_is OfStopTimeEvent stop_time_event IsSoundEvent means_event (stop_parts update) 2
            update.arrival refl sound.arrival
            (countable_bodies 2 (fields_of (stop_parts update)) (stop_time_update update) read short);
        departure = message_is OfStopTimeEvent stop_time_event IsSoundEvent means_event (stop_parts update) 3
            update.departure refl sound.departure
            (countable_bodies 3 (fields_of (stop_parts update)) (stop_time_update update) read short);
        stop_id = text_is (stop_parts update) 4 update.stop_id refl sound.stop_id;
        schedule_relationship = relation_is (stop_parts update) update.relation refl sound.relation;
        stop_time_properties = assigned_is (stop_parts update) 6 update.assigned refl sound.assigned
            (countable_bodies 6 (fields_of (stop_parts update)) (stop_time_update update) read short);
      };
    }

update_parts : TripUpdate → List (ℕ × List Payload)
update_parts update = (1, Bytes (trip_descriptor update.trip) ∷ [])
    ∷ (2, map (λ stop. Bytes (stop_time_update stop)) update.updates) ∷ (4, number_part update.timestamp) ∷ []

means_update : Meant OfTripUpdate trip_update IsSoundUpdate
unfolding update_parts
means_update update sound short =
    let built : Builds (trip_update update) (update_parts update) =
    then_built (then_built (builds_body 1 (trip_descriptor update.trip) (omega arith) (omega arith))
    (builds_bodies 2 stop_time_update update.updates (omega arith) (omega arith)))
    (builds_optional_number 4 update.timestamp (omega arith) (omega arith) sound.timestamp) in
    let read = built.read short in
    record {
      fields = fields_of (update_parts update);
      read = read;
      table = record {
        trip = message_is OfTripDescriptor trip_descriptor IsSoundTrip means_trip (update_parts update) 1
            (Some update.trip) refl sound.trip
            (countable_bodies 1 (fields_of (update_parts update)) (trip_update update) read short);
        stop_time_update =
            messages_are OfStopTimeUpdate stop_time_update IsSoundStop means_stop (update_parts update) 2
            update.updates refl sound.updates
            (countable_bodies 2 (fields_of (update_parts update)) (trip_update update) read short);
        timestamp = uint64_is (update_parts update) 4 update.timestamp refl;
      };
    }

period_parts : Period → List (ℕ × List Payload)
period_parts period = (1, number_part period.start) ∷ (2, number_part period.end) ∷ []

means_period : Meant OfTimeRange time_range IsSoundPeriod
unfolding period_parts
means_period period sound short =
    let built : Builds (time_range period) (period_parts period) =
    then_built (builds_optional_number 1 period.start (omega arith) (omega arith) sound.start)
    (builds_optional_number 2 period.end (omega arith) (omega arith) sound.end) in
    record {
      fields = fields_of (period_parts period);
      read = built.read short;
      table = record {
        start = uint64_is (period_parts period) 1 period.start refl;
        end = uint64_is (period_parts period) 2 period.end refl;
      };
    }

selector_parts : Selector → List (ℕ × List Payload)
selector_parts selector =
    (1, body_part selector.agency_id) ∷ (2, body_part selector.route_id)
    ∷ (4, body_part (option_map trip_descriptor selector.trip)) ∷ (5, body_part selector.stop_id) ∷ []

means_selector : Meant OfEntitySelector entity_selector IsSoundSelector
unfolding selector_parts
means_selector selector sound short =
    let built : Builds (entity_selector selector) (selector_parts selector) =
    then_built (then_built
    (then_built (builds_optional_text 1 selector.agency_id (omega arith) (omega arith))
    (builds_optional_text 2 selector.route_id (omega arith) (omega arith)))
    (builds_optional_body 4 trip_descriptor selector.trip (omega arith) (omega arith)))
    (builds_optional_text 5 selector.stop_id (omega arith) (omega arith)) in
    let read = built.read short in
    record {
      fields = fields_of (selector_parts selector);
      read = read;
      table = record {
        agency_id = text_is (selector_parts selector) 1 selector.agency_id refl sound.agency_id;
        route_id = text_is (selector_parts selector) 2 selector.route_id refl sound.route_id;
        trip = message_is OfTripDescriptor trip_descriptor IsSoundTrip means_trip (selector_parts selector) 4
            selector.trip refl sound.trip
            (countable_bodies 4 (fields_of (selector_parts selector)) (entity_selector selector) read short);
        stop_id = text_is (selector_parts selector) 5 selector.stop_id refl sound.stop_id;
      };
    }

translation_parts : Translation → List (ℕ × List Payload)
translation_parts text = (1, Bytes text.text ∷ []) ∷ (2, body_part text.language) ∷ []

means_translation : Meant OfTranslation translation IsSoundTranslation
unfolding translation_parts
means_translation text sound short =
    let built : Builds (translation text) (translation_parts text) =
    then_built (builds_body 1 text.text (omega arith) (omega arith))
    (builds_optional_text 2 text.language (omega arith) (omega arith)) in
    record {
      fields = fields_of (translation_parts text);
      read = built.read short;
      table = record {
        text = text_is (translation_parts text) 1 (Some text.text) refl sound.text;
        language = text_is (translation_parts text) 2 text.language refl sound.language;
      };
    }

string_parts : List Translation → List (ℕ × List Payload)
string_parts texts = (1, map (λ text. Bytes (translation text)) texts) ∷ []

means_string : Meant OfTranslatedString translated_string (AllByRecursion IsSoundTranslation)
unfolding string_parts
means_string texts sound short =
    let built : Builds (translated_string texts) (string_parts texts) =
    builds_bodies 1 translation texts (omega arith) (omega arith) in
    let read = built.read short in
    record {
      fields = fields_of (string_parts texts);
      read = read;
      table = messages_are OfTranslation translation IsSoundTranslation means_translation (string_parts texts) 1 texts
          refl sound (countable_bodies 1 (fields_of (string_parts texts)) (translated_string texts) read short);
    }

sound_found : (texts : List Translation) → AllByRecursion IsSoundTranslation texts
    → IfSome (found_in texts) (AllByRecursion IsSoundTranslation)
sound_found [] sound = tt
sound_found (text ∷ texts) sound = sound

found_same : (texts : List Translation) → texts ≡ unwrap_or (found_in texts) []
found_same [] = refl
found_same (text ∷ texts) = refl

translations_are : (parts : List (ℕ × List Payload)) (number : ℕ) (texts : List Translation)
    → held_by number parts ≡ body_part (option_map translated_string (found_in texts)) ++ []
    → AllByRecursion IsSoundTranslation texts
    → AllByRecursion (λ body. length body < 2 ^ 64) (bodies number (fields_of parts))
    → AreTranslations number (fields_of parts) texts
translations_are parts number texts e sound short = record {
  found = found_in texts;
  message = message_is OfTranslatedString translated_string (AllByRecursion IsSoundTranslation) means_string parts
      number (found_in texts) e (sound_found texts sound) short;
  same = found_same texts;
}

alert_parts : Alert → List (ℕ × List Payload)
alert_parts a =
    (1, map (λ period. Bytes (time_range period)) a.periods)
    ∷ (5, map (λ selector. Bytes (entity_selector selector)) a.selectors)
    ∷ (6, Varint (cast_unsigned w64 a.cause) ∷ []) ∷ (7, Varint (cast_unsigned w64 a.effect) ∷ [])
    ∷ (10, body_part (option_map translated_string (found_in a.header)))
    ∷ (11, body_part (option_map translated_string (found_in a.description))) ∷ []

means_alert : Meant OfAlert alert IsSoundAlert
unfolding alert_parts
means_alert a sound short =
    let lists = then_built (builds_bodies 1 time_range a.periods (omega arith) (omega arith))
    (builds_bodies 5 entity_selector a.selectors (omega arith) (omega arith)) in
    let numbers =
    then_built (then_built lists (builds_signed 6 a.cause (omega arith) (omega arith) (wider a.cause sound.cause)))
    (builds_signed 7 a.effect (omega arith) (omega arith) (wider a.effect sound.effect)) in
    let built : Builds (alert a) (alert_parts a) =
    then_built (then_built numbers (builds_translations 10 a.header (omega arith) (omega arith)))
    (builds_translations 11 a.description (omega arith) (omega arith)) in
    let read = built.read short in
    record {
      fields = fields_of (alert_parts a);
      read = read;
      table = record {
        active_period =
            messages_are OfTimeRange time_range IsSoundPeriod means_period (alert_parts a) 1 a.periods refl
            sound.periods (countable_bodies 1 (fields_of (alert_parts a)) (alert a) read short);
        informed_entity =
            messages_are OfEntitySelector entity_selector IsSoundSelector means_selector (alert_parts a) 5 a.selectors
            refl sound.selectors (countable_bodies 5 (fields_of (alert_parts a)) (alert a) read short);
        cause = enum_is (alert_parts a) 6 (pos 1) a.cause refl sound.cause;
        effect = enum_is (alert_parts a) 7 (pos 8) a.effect refl sound.effect;
        header_text = translations_are (alert_parts a) 10 a.header refl sound.header
            (countable_bodies 10 (fields_of (alert_parts a)) (alert a) read short);
        description_text =
            translations_are (alert_parts a) 11 a.description refl sound.description
            (countable_bodies 11 (fields_of (alert_parts a)) (alert a) read short);
      };
    }

entity_parts : Entity → List (ℕ × List Payload)
entity_parts entity =
    (1, Bytes entity.id ∷ []) ∷ (2, deleted_part entity.deleted)
    ∷ (3, body_part (option_map trip_update entity.trip_update)) ∷ (5, body_part (option_map alert entity.alert))
    ∷ []

means_body : Meant OfFeedEntity feed_entity IsSoundEntity
unfolding entity_parts
means_body entity sound short =
    let built : Builds (feed_entity entity) (entity_parts entity) =
    then_built (then_built
    (then_built (builds_body 1 entity.id (omega arith) (omega arith)) (builds_deleted entity.deleted))
    (builds_optional_body 3 trip_update entity.trip_update (omega arith) (omega arith)))
    (builds_optional_body 5 alert entity.alert (omega arith) (omega arith)) in
    let read = built.read short in
    record {
      fields = fields_of (entity_parts entity);
      read = read;
      table = record {
        id = text_is (entity_parts entity) 1 (Some entity.id) refl sound.id;
        is_deleted = deleted_is (entity_parts entity) entity.deleted refl;
        trip_update = message_is OfTripUpdate trip_update IsSoundUpdate means_update (entity_parts entity) 3
            entity.trip_update refl sound.trip_update
            (countable_bodies 3 (fields_of (entity_parts entity)) (feed_entity entity) read short);
        alert = message_is OfAlert alert IsSoundAlert means_alert (entity_parts entity) 5 entity.alert refl
            sound.alert (countable_bodies 5 (fields_of (entity_parts entity)) (feed_entity entity) read short);
      };
    }

-- an entity as a field of its feed
pub means_written : (entity : Entity) → IsSoundEntity entity → length (written entity) < 2 ^ 64
    → MeansEntity (written entity) entity
means_written entity sound short =
    let field = (builds_body 2 (feed_entity entity) (omega arith) (omega arith)).read short in
    let body = countable_bodies 2 (fields_of ((2, Bytes (feed_entity entity) ∷ []) ∷ [])) (written entity) field
    short in
    record { body = feed_entity entity; field = field; means = means_body entity sound body.0 }

-- what answers the bytes of an entity that can be written answers bytes that mean it
pub answers_meant : {E : Type 0} (entity : Entity) (result : Result (List ℕ) E)
    → IfOk result (λ bytes. bytes ≡ written entity) → OnOk result (IsWritable entity)
    → IfOk result (λ bytes. MeansEntity bytes entity)
answers_meant entity (Ok bytes) same can = rw same (means_written entity can.sound can.counted)
answers_meant entity (Err fault) same can = tt

-- ---- the feed

-- each entity is one more of the feed
means_from : (moment : ℤ) (front : List ℕ) (before entities : List Entity)
    → MeansFeed front (full_dataset moment before)
    → AllByRecursion (λ entity. MeansEntity (written entity) entity) entities
    → MeansFeed (front ++ flat_map written entities) (full_dataset moment (before ++ entities))
means_from moment front before [] h means = rw (append-nil front, append-nil before) h
means_from moment front before (entity ∷ entities) h means =
    let more = means_more front (written entity) (full_dataset moment before) entity h means.0 in
    let rest = means_from moment (front ++ written entity) (before ++ entity ∷ []) entities more means.1 in
    rw (
      ← append_assoc front (written entity) (flat_map written entities),
      ← append_assoc before (entity ∷ []) entities,
    ) rest

pub means_feed : (moment : ℤ) (entities : List Entity) → unsigned_abs moment < 2 ^ 64
    → AllByRecursion (λ entity. MeansEntity (written entity) entity) entities
    → MeansFeed (header moment ++ flat_map written entities) (full_dataset moment entities)
means_feed moment entities small means = means_from moment (header moment) [] entities (means_header moment small) means

-- What an entity of the served feed says of a journey, it says with the least updates.
use Rattle.std.proofs.Common.{◌≡◌, ◌∙◌, ◌<◌, ◌∷◌, ◌++◌, ◌&&◌, ℕ, ℤ, List, [], Bool, true, false, length, map, Result, Ok, Option, Some, None, refl, sym, ap, subst}
use Rattle.std.proofs.lemmas.Bool.{and_parts}
use Rattle.std.specs.Prelude.{nat_le, if◌then◌else◌, option_map}
use Rattle.std.specs.List.{AllByRecursion, flat_map}
use Rattle.gw_base.specs.declared.messages.Entity.{Entity}
use Rattle.gw_base.specs.declared.messages.Feed.{Feed}
use Rattle.gw_base.specs.declared.messages.TripUpdate.{TripUpdate}
use Rattle.gw_base.proofs.Elements.{all_append}
use Rattle.timetable.specs.Limits.{stop_limit}
use Rattle.timetable.specs.Sound.{IsSound}
use Rattle.timetable.specs.Stops.{are_known, are_rising, are_timed}
use Rattle.timetable.specs.Table.{Table}
use Rattle.service_day.specs.Windows.{start_in}
use Rattle.journey_model.specs.FeedReadings.{entity_said}
use Rattle.journey_model.specs.Ids.{id_of}
use Rattle.journey_model.specs.Readings.{fits_trip}
use Rattle.journey_model.specs.Records.{Recorded}
use Rattle.journey_model.specs.Runs.{Run}
use Rattle.journey_model.specs.Schedules.{IsServable, Schedule, run_from, run_on}
use Rattle.journey_model.specs.declared.fault.Fault.{Fault}
use Rattle.journey_model.specs.declared.readings.DatedReading.{DatedReading}
use Rattle.journey_model.specs.declared.readings.JourneyReading.{JourneyReading}
use Rattle.journey_model.specs.declared.situation.Situation.{Situation}
use Rattle.sparse_planner.specs.Means.{IsLeastOf}
use Rattle.sparse_planner.specs.Shortest.{shortest}
use Rattle.sparse_planner.proofs.Laws.{shortest-least}
use Rattle.alert_map.specs.Alerts.{alert_message}
use Rattle.latest_store.specs.Entities.{is_silent, message, messages}
use Rattle.latest_store.specs.Reads.{SaysItself, dated_reading}
use Rattle.latest_store.proofs.EntityLemmas.{messages_none, messages_one}
use Rattle.gateway_core.specs.Alerts.{alerts}
use Rattle.gateway_core.specs.Feeds.{entities_of}
use Rattle.gateway_core.specs.Gives.{SaysLeast}

-- the stops of a trip rise
rising_in : (table : Table) (trip : ℕ) → IsSound table → trip < length table.trips → are_rising (table.stops_of trip) ≡ true
rising_in table trip sound within =
    let stops = table.stops_of trip in
    let rest = and_parts (nat_le (length stops) stop_limit) (are_rising stops && (are_known (length table.stops) stops && are_timed stops)) (sound.stops_of trip within) in
    (and_parts (are_rising stops) (are_known (length table.stops) stops && are_timed stops) rest.1).0

-- what holds of a trip on each day holds of it on this one
pub on_a_day : (table : Table) (trip : ℕ) (run : Run) (start : Option ℤ) (P : Run → Type 0) → option_map (run_from table trip) start ≡ Some run → ((start : ℤ) → P (run_from table trip start)) → P run
on_a_day table trip run (Some start) P e all = let same : run_from table trip start ≡ run = cc in subst P same (all start)
on_a_day table trip run None P e all = absurd cc

-- the shortest updates of a reading that can be served are the least
least_on : (schedule : Schedule) (trip : ℕ) (day : ℤ) (reading : JourneyReading) → IsSound schedule.table → (its : IsServable schedule trip day reading)
    → IsLeastOf its.run (shortest its.run reading) reading
least_on schedule trip day reading sound its =
    on_a_day schedule.table trip its.run (start_in schedule.window day) (λ run. fits_trip run reading ≡ true → IsLeastOf run (shortest run reading) reading) its.on_day
    (λ start fits. shortest-least (run_from schedule.table trip start) reading (rising_in schedule.table trip sound its.trip_in) sound.stops fits) its.fits

some_same : {X : Type 0} (one other : X) → ◌≡◌ {A = Option X} (Some one) (Some other) → one ≡ other
some_same one other e = cc

said_same : (said : DatedReading) (other : DatedReading) → ◌≡◌ {A = Option (Result DatedReading Fault)} (Some (Ok said)) (Some (Ok other)) → said ≡ other
said_same said other e = cc

first_same : {X : Type 0} (one other : X) → one ∷ [] ≡ other ∷ [] → one ≡ other
first_same one other e = cc

-- the message of a record
message_least : (schedule : Schedule) (feed : Feed) (one : Recorded) → IsSound schedule.table → SaysItself schedule one → (its : IsServable schedule one.trip one.day one.reading)
    → is_silent one.reading ≡ false → SaysLeast schedule feed (message (id_of schedule.table.trips one.trip) its.run one)
message_least schedule feed one sound says its silent = λ update given run is said on.
    let own : Entity = message (id_of schedule.table.trips one.trip) its.run one in
    let only = messages_one schedule one its.run its.on_day silent in
    let all = subst (λ (l : List Entity). map (entity_said schedule feed) l ≡ map (λ entity. Some (Ok (dated_reading one))) l) only (says feed) in
    let said_is = first_same _ _ all in
    let same : dated_reading one ≡ given = said_same _ _ (sym said_is ∙ said) in
    let updates : shortest its.run one.reading ≡ update.updates = ap (λ (u : TripUpdate). u.updates) (some_same _ update is) in
    let runs : its.run ≡ run = some_same its.run run (sym its.on_day ∙ subst (λ (d : DatedReading). run_on schedule d.trip.0 d.day ≡ Some run) (sym same) on) in
    subst (λ (d : DatedReading). IsLeastOf run update.updates d.reading) same
    (subst (λ (r : Run). IsLeastOf r update.updates one.reading) runs
    (subst (λ u. IsLeastOf its.run u one.reading) updates (least_on schedule one.trip one.day one.reading sound its)))

messages_least : (schedule : Schedule) (feed : Feed) (one : Recorded) → IsSound schedule.table → SaysItself schedule one → (its : IsServable schedule one.trip one.day one.reading)
    → AllByRecursion (SaysLeast schedule feed) (messages schedule one)
messages_least schedule feed one sound says its = by (is_silent one.reading) refl
  where
    by : (b : Bool) → is_silent one.reading ≡ b → AllByRecursion (SaysLeast schedule feed) (messages schedule one)
    by true silent = subst (λ (l : List Entity). AllByRecursion (SaysLeast schedule feed) l) (sym (messages_none schedule one its.run its.on_day silent)) tt
    by false silent = subst (λ (l : List Entity). AllByRecursion (SaysLeast schedule feed) l) (sym (messages_one schedule one its.run its.on_day silent))
        (message_least schedule feed one sound says its silent, tt)

records_least : (schedule : Schedule) (feed : Feed) (records : List Recorded) → IsSound schedule.table → AllByRecursion (SaysItself schedule) records
    → AllByRecursion (λ one. IsServable schedule one.trip one.day one.reading) records
    → AllByRecursion (SaysLeast schedule feed) (flat_map (messages schedule) records)
records_least schedule feed [] sound says servable = tt
records_least schedule feed (one ∷ others) sound says servable =
    all_append (SaysLeast schedule feed) (messages schedule one) (flat_map (messages schedule) others)
    (messages_least schedule feed one sound says.0 servable.0) (records_least schedule feed others sound says.1 servable.1)

-- an alert says nothing of a journey
alerts_least : (schedule : Schedule) (feed : Feed) (situations : List Situation) → AllByRecursion (SaysLeast schedule feed) (flat_map (alerts schedule.table) situations)
alerts_least schedule feed [] = tt
alerts_least schedule feed (one ∷ others) = by one.served (alerts_least schedule feed others)
  where
    by : (served : Bool) → AllByRecursion (SaysLeast schedule feed) (flat_map (alerts schedule.table) others)
        → AllByRecursion (SaysLeast schedule feed) ((if served then alert_message schedule.table one ∷ [] else []) ++ flat_map (alerts schedule.table) others)
    by true rest = ((λ update given run is said on. absurd cc), rest)
    by false rest = rest

pub entities_least : (schedule : Schedule) (feed : Feed) (records : List Recorded) (situations : List Situation) → IsSound schedule.table → AllByRecursion (SaysItself schedule) records
    → AllByRecursion (λ one. IsServable schedule one.trip one.day one.reading) records
    → AllByRecursion (SaysLeast schedule feed) (entities_of schedule records situations)
entities_least schedule feed records situations sound says servable =
    all_append (SaysLeast schedule feed) (flat_map (messages schedule) records) (flat_map (alerts schedule.table) situations)
    (records_least schedule feed records sound says servable) (alerts_least schedule feed situations)

-- What a gateway keeps, and the arrivals that it stands for (SIRI 2.0, EstimatedVehicleJourney and PtSituationElement;
-- GTFS Realtime, FeedMessage).
use Rattle.std.specs.Prelude.{◌≡◌, ◌≤◌, ℕ, ℤ, pos, Bool, List, [], ◌∷◌, ◌++◌, filter}
use Rattle.gw_base.specs.declared.messages.Feed as feeds
use Rattle.feed_reading.specs.Tables.{MeansFeed, with_entity}
use Rattle.feed_writing.specs.Written.{header, written}
use Rattle.journey_model.specs.Records.{Recorded}
use Rattle.journey_model.specs.Schedules.{Schedule}
use Rattle.journey_model.specs.declared.report.Report.{Report}
use Rattle.journey_model.specs.declared.situation.Situation.{Situation}
use Rattle.timetable.specs.Seen.{seen}
use Rattle.timetable.specs.Table.{Table}
use Rattle.siri_calls.specs.Written.DeliveryTree.{delivery_text}
use Rattle.siri_calls.specs.Written.SaidAgain.{SaysAgain}
use Rattle.reverse_calls.specs.Siri.{IsSiri}
use Rattle.service_day.specs.Windows.{DayStarts}
use Rattle.alert_map.specs.Alerts.{alert_message}
use Rattle.latest_store.specs.Entities.{entity, messages}
use Rattle.latest_store.specs.Latest.{has_number, is_newer, was_later}
use Rattle.latest_store.specs.Reads.{SaysItself, with_messages}
use Rattle.gateway_core.specs.Alerts.{alert_len, alert_limit}
use Rattle.gateway_core.specs.Arrivals.{Arrival, EachCanBeServed, Given, admitted_situations, feed, journeys, moments_of, present, schedule_at, situations, window_at}
use Rattle.gateway_core.specs.Feeds.{comes_before, has_lesser_number}
use Rattle.gateway_core.specs.Keeping.{Keeps}
use Rattle.gateway_core.specs.Winners.{has_key}
use Rattle.gateway_core.specs.declared.keys.Edition.{Edition}
use Rattle.gateway_core.specs.declared.keys.JourneyKey.{JourneyKey}
use Rattle.gateway_core.specs.declared.setting.Setting.{Setting}
use Rattle.feed_index.specs.declared.entry.Entry.{Entry}
use Rattle.service_day.specs.declared.moments.Instant.{Instant}
use Rattle.std.specs.List.{flat_map}

-- what is kept under a key: a value and bytes
pub record KeptEntry (K R : Type 0) : Type 0 where
  pub key : K
  pub value : R
  pub bytes : List ℕ

-- of a journey, by its day and trip: when its latest record was recorded, and the bytes of that record's entity
abbrev pub JourneyEntry : Type 0
JourneyEntry = KeptEntry (ℤ × ℕ) (ℤ × ℕ)

-- of a situation, by its number: the newest version and whether that one is served, and the bytes of its alert's entity
abbrev pub SituationEntry : Type 0
SituationEntry = KeptEntry (List ℕ) (ℕ × Bool)

abbrev pub journey_entry : Schedule → Recorded → JourneyEntry
journey_entry schedule one = record { key = (one.day, one.trip); value = one.at; bytes = entity schedule one }

abbrev pub situation_entry : Table → Situation → SituationEntry
situation_entry table one =
    record { key = one.number; value = (one.version, one.served); bytes = written (alert_message table one) }

-- the bytes of a record's entity mean its messages after the bytes of any feed, and these say just its reading
pub record IsServed (schedule : Schedule) (one : Recorded) : Type 0 where
  pub says : SaysItself schedule one
  pub means : (before : List ℕ) (given : feeds.Feed) → MeansFeed before given
      → MeansFeed (before ++ entity schedule one) (with_messages given (messages schedule one))

-- the bytes of a situation's alert mean it after the bytes of any feed, and it isn't too long
pub record IsAlertServed (table : Table) (one : Situation) : Type 0 where
  pub means : (before : List ℕ) (given : feeds.Feed) → MeansFeed before given
      → MeansFeed (before ++ written (alert_message table one)) (with_entity given (alert_message table one))
  pub short : alert_len table one ≤ alert_limit

-- entries are those of the latest of these records, one for each journey, by service day and then trip number, each
-- of which is served as itself
abbrev pub KeepsJourneys : Schedule → List Recorded → List JourneyEntry → Type 0
KeepsJourneys schedule records entries =
    Keeps has_key was_later comes_before (journey_entry schedule) (IsServed schedule) records entries

-- and entries are those of the newest of these situations, one for each number, by its bytes
abbrev pub KeepsSituations : Table → List Situation → List SituationEntry → Type 0
KeepsSituations table all entries =
    Keeps has_number is_newer has_lesser_number (situation_entry table) (IsAlertServed table) all entries

-- a gateway as contracts see it: its setting, its window, what is kept of journeys and of situations, its SIRI text,
-- and how many bytes are dead in the region of each of the two
pub record Kept : Type 0 where
  pub setting : Setting
  pub window : DayStarts
  pub journeys : List JourneyEntry
  pub situations : List SituationEntry
  pub text : List ℕ
  pub dead_journeys : ℕ
  pub dead_situations : ℕ

-- an entry of an index, as it is seen
abbrev pub journey_seen : Entry JourneyKey Instant → JourneyEntry
journey_seen one =
    record { key = (one.key.day, one.key.trip.0); value = (one.value.secs, one.value.nanos); bytes = one.bytes }

abbrev pub situation_seen : Entry (List ℕ) Edition → SituationEntry
situation_seen one = record { key = one.key; value = (one.value.version, one.value.served); bytes = one.bytes }

-- the feed that a gateway serves at a moment: the header, what is kept of each journey, and of each situation that is
-- served
abbrev pub served : ℤ → Kept → List ℕ
served moment kept =
    header moment ++ flat_map (λ one. one.bytes) kept.journeys
    ++ flat_map (λ one. one.bytes) (filter (λ one. one.value.1) kept.situations)

-- a text is the delivery of what the last feed says, at its moment and over the window that was there when it arrived;
-- before any feed, that of no journeys at the moment 0, which says that there is none when it is read again
abbrev pub OfFeedOr : Schedule → ℤ → Given → List ℕ → Type 0 → Type 0
OfFeedOr schedule moment (journeys records) text earlier = earlier
OfFeedOr schedule moment (situations all) text earlier = earlier
OfFeedOr schedule moment (feed one) text earlier = (report : Report) × IsSiri schedule one moment text report

abbrev pub IsLastSiri : Setting → List Arrival → List ℕ → Type 0
IsLastSiri setting [] text =
    (text ≡ delivery_text (schedule_at setting []) (pos 0) []) × SaysAgain (schedule_at setting []) (pos 0) [] text
IsLastSiri setting (one ∷ earlier) text =
    OfFeedOr (schedule_at setting (one.moment ∷ moments_of earlier)) one.moment one.gives text
    (IsLastSiri setting earlier text)

-- a gateway stands for what arrived: its window is the one of that moment; it keeps the entity of the latest record of
-- each journey present, and the alert of the newest situation of each number admitted; its text is that of the last
-- feed
pub record Stands (kept : Kept) (arrivals : List Arrival) : Type 0 where
  pub judged : EachCanBeServed kept.setting arrivals
  pub window_is : kept.window ≡ window_at kept.setting (moments_of arrivals)
  pub journeys_are : KeepsJourneys (schedule_at kept.setting (moments_of arrivals))
      (present kept.setting arrivals) kept.journeys
  pub situations_are : KeepsSituations (seen kept.setting.table) (admitted_situations arrivals) kept.situations
  pub text_is : IsLastSiri kept.setting arrivals kept.text

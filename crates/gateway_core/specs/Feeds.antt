-- The feed of what was taken (GTFS Realtime, FeedMessage).
use Rattle.std.specs.Prelude.{◌≡◌, ◌&&◌, ◌||◌, ℕ, ℤ, int_lt, nat_lt, Bool, true, List, [], ◌∷◌, ◌++◌, Option, find}
use Rattle.std.specs.Cmp.Lexicographic.{slice_cmp}
use Rattle.std.specs.List.{flat_map, list_all}
use Rattle.std.specs.Ordering.{int_eq, is_lt, nat_cmp}
use Rattle.gw_base.specs.declared.messages.Entity.{Entity}
use Rattle.feed_reading.specs.Tables.{MeansFeed, full_dataset}
use Rattle.feed_writing.specs.Written.{written_feed}
use Rattle.journey_model.specs.Records.{Recorded}
use Rattle.journey_model.specs.Schedules.{Schedule}
use Rattle.journey_model.specs.declared.situation.Situation.{Situation}
use Rattle.latest_store.specs.Entities.{messages}
use Rattle.latest_store.specs.Latest.{HasLatest, HasNewest, has_number, is_of}
use Rattle.gateway_core.specs.Alerts.{alerts}

-- each comes before those after it
abbrev pub are_ordered_by : {A : Type 0} → (A → A → Bool) → List A → Bool
are_ordered_by comes_before [] = true
are_ordered_by comes_before (one ∷ others) = list_all (comes_before one) others && are_ordered_by comes_before others

-- a journey comes before another: on an earlier service day, or on the same day with a lesser trip number
abbrev pub comes_before : Recorded → Recorded → Bool
comes_before a b = int_lt a.day b.day || (int_eq a.day b.day && nat_lt a.trip b.trip)

-- a situation comes before another: its number does in the order of bytes
abbrev pub has_lesser_number : Situation → Situation → Bool
has_lesser_number a b = is_lt (slice_cmp nat_cmp a.number b.number)

-- the entities of a feed: those of journeys, and after them the alerts of situations
abbrev pub entities_of : Schedule → List Recorded → List Situation → List Entity
entities_of schedule records situations =
    flat_map (messages schedule) records ++ flat_map (alerts schedule.table) situations

-- bytes are a full dataset of these entities that is made at that moment, and mean it
pub record IsFeedOf (at : ℤ) (entities : List Entity) (feed : List ℕ) : Type 0 where
  pub bytes : feed ≡ written_feed at entities
  pub means : MeansFeed feed (full_dataset at entities)

-- the feed that is rebuilt from all records and situations taken, made at that moment: the entity of the latest record
-- of each journey, by service day and trip number, and the alert of the newest situation of each number, by number
pub record IsRebuilt (at : ℤ) (schedule : Schedule) (records : List Recorded) (situations : List Situation)
    (feed : List ℕ) : Type 0 where
  pub ordered : List Recorded
  pub in_order : are_ordered_by comes_before ordered ≡ true
  pub latest : (trip : ℕ) (day : ℤ) → HasLatest records trip day (find (is_of trip day) ordered)
  pub numbered : List Situation
  pub by_number : are_ordered_by has_lesser_number numbered ≡ true
  pub newest : (number : List ℕ) → HasNewest situations number (find (has_number number) numbered)
  pub is_feed : IsFeedOf at (entities_of schedule ordered numbered) feed

-- of two lists of records, and of two of situations, the same count
pub record CountAlike (records others : List Recorded) (situations further : List Situation) : Type 0 where
  pub latest : (trip : ℕ) (day : ℤ) (found : Option Recorded) → HasLatest records trip day found
      → HasLatest others trip day found
  pub newest : (number : List ℕ) (found : Option Situation) → HasNewest situations number found
      → HasNewest further number found

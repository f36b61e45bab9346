-- When the moments of recording and the versions decide, and not the order in which records and situations arrive.
use Rattle.std.specs.Prelude.{◌≡◌, ◌≤◌, ℤ, ℕ, List, [], ◌∷◌, ◌++◌, length, true}
use Rattle.std.specs.List.{Contains}
use Rattle.std.specs.List.Sorted.{IsPermutation}
use Rattle.journey_model.specs.Records.{Recorded}
use Rattle.journey_model.specs.declared.situation.Situation.{Situation}
use Rattle.gateway_core.specs.Arrivals.{Arrival, admitted_situations, firsts, is_same_journey, is_same_number, moments_of, most_journeys, most_numbers, present, records_of, schedule_at, situations_of, window_at}
use Rattle.gateway_core.specs.Feeds.{IsRebuilt}
use Rattle.gateway_core.specs.declared.setting.Setting.{Setting}

-- all records, and all situations, that arrived, the oldest first
abbrev pub every_record : List Arrival → List Recorded
every_record [] = []
every_record (one ∷ earlier) = every_record earlier ++ records_of one.gives

abbrev pub every_situation : List Arrival → List Situation
every_situation [] = []
every_situation (one ∷ earlier) = every_situation earlier ++ situations_of one.gives

-- no two different records of one journey have equal moments of recording, no two different situations of one number
-- have equal versions, and there are at most 50,000 journeys and 5,000 numbers
pub record AreDecided (arrivals : List Arrival) : Type 0 where
  pub by_moment : (a b : Recorded) → Contains (every_record arrivals) a → Contains (every_record arrivals) b
      → is_same_journey a b ≡ true → a.at ≡ b.at → a ≡ b
  pub by_version : (a b : Situation) → Contains (every_situation arrivals) a → Contains (every_situation arrivals) b
      → is_same_number a b ≡ true → a.version ≡ b.version → a ≡ b
  pub few_journeys : length (firsts is_same_journey (every_record arrivals)) ≤ most_journeys
  pub few_numbers : length (firsts is_same_number (every_situation arrivals)) ≤ most_numbers

-- the same records and situations arrived as often, in any two orders, and the windows are equal now
pub record ArriveAlike (setting : Setting) (arrivals others : List Arrival) : Type 0 where
  pub records : IsPermutation (every_record arrivals) (every_record others)
  pub situations : IsPermutation (every_situation arrivals) (every_situation others)
  pub windows : window_at setting (moments_of arrivals) ≡ window_at setting (moments_of others)

-- the feed that is rebuilt of all that arrived
abbrev pub IsRebuiltOf : Setting → ℤ → List Arrival → List ℕ → Type 0
IsRebuiltOf setting at arrivals feed =
    IsRebuilt at (schedule_at setting (moments_of arrivals)) (present setting arrivals)
    (admitted_situations arrivals) feed

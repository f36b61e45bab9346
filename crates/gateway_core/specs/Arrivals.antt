-- What arrived at a gateway, which service days it covers by then, and what of it is admitted and present (SIRI 2.0,
-- EstimatedVehicleJourney and PtSituationElement; GTFS Realtime, FeedMessage). The newest arrival stands first.
use Rattle.std.specs.Prelude.{◌||◌, ℕ, ℤ, pos, ◌+ℤ◌, ◌-ℤ◌, Bool, true, not, nat_lt, List, [], ◌∷◌, ◌++◌, length, map, filter, Option, Some, None, is_some, if◌then◌else◌}
use Rattle.std.specs.Int.{int_max, int_min}
use Rattle.std.specs.List.{AllByRecursion, list_any, range_with_len}
use Rattle.gw_base.specs.declared.messages.Feed.{Feed}
use Rattle.service_day.specs.Starts.{local_day, start}
use Rattle.service_day.specs.Windows.{DayStarts, start_in}
use Rattle.service_day.specs.declared.zones.Rules.{Rules}
use Rattle.journey_model.specs.Records.{Recorded}
use Rattle.journey_model.specs.Schedules.{IsServable, Schedule}
use Rattle.journey_model.specs.Situations.{AreKnown}
use Rattle.journey_model.specs.declared.situation.Situation.{Situation}
use Rattle.latest_store.specs.Latest.{has_number, is_of}
use Rattle.gateway_core.specs.declared.setting.Setting.{Setting}
use Rattle.gateway_core.specs.Deliveries.{schedule_over}

-- what a body gives that was taken: a delivery its records or its situations in their order, a feed what it says
pub data Given : Type 0 where
  journeys : List Recorded → Given
  situations : List Situation → Given
  feed : Feed → Given

-- a body that was taken at a moment, in seconds since 1970
pub record Arrival : Type 0 where
  pub moment : ℤ
  pub gives : Given

-- the records that a body gives, and its situations
abbrev pub records_of : Given → List Recorded
records_of (journeys records) = records
records_of (situations all) = []
records_of (feed one) = []

abbrev pub situations_of : Given → List Situation
situations_of (journeys records) = []
situations_of (situations all) = all
situations_of (feed one) = []

-- ---- the window of service days, which rolls with the moments of what arrives

-- the last day that a window of so many days may begin with: all of them lie at or before 9997-12-31
abbrev pub last_first : ℕ → ℤ
last_first days = pos 2932167 -ℤ pos days

-- the day from which days are kept at a moment: so many days before the local one, as far as a window may begin
abbrev pub kept_from : Rules → ℕ → ℕ → ℤ → ℤ
kept_from zone days keep moment = int_min (local_day zone moment -ℤ pos keep) (last_first days)

-- the first day after a body that arrived at that moment: the one before, or that from which days are kept where it is
-- later; where nothing says how many days are kept the first day stays
abbrev pub first_after : Setting → Option ℕ → ℤ → ℤ → ℤ
first_after setting None moment first = first
first_after setting (Some keep) moment first =
    int_max first (kept_from setting.zone (length setting.window.starts) keep moment)

-- the first day of the window after bodies that arrived at these moments
abbrev pub first_day : Setting → List ℤ → ℤ
first_day setting [] = setting.window.first
first_day setting (moment ∷ earlier) = first_after setting setting.keep moment (first_day setting earlier)

-- the moments of arrivals, the newest first
abbrev pub moments_of : List Arrival → List ℤ
moments_of arrivals = map (λ one. one.moment) arrivals

-- the window of so many days from a day on, each with its start in the zone
abbrev pub window_from : Rules → ℤ → ℕ → DayStarts
window_from zone first days =
    record { first = first; starts = map (λ place. start zone (first +ℤ pos place)) (range_with_len 0 days) }

-- the window then, and what journeys are read over
abbrev pub window_at : Setting → List ℤ → DayStarts
window_at setting moments = window_from setting.zone (first_day setting moments) (length setting.window.starts)

abbrev pub schedule_at : Setting → List ℤ → Schedule
schedule_at setting moments =
    schedule_over setting (window_at setting moments)

-- ---- what is admitted: at most so many keys

-- the most journeys with days in the window, and the most numbers of situations
abbrev pub most_journeys : ℕ
most_journeys = 50000

abbrev pub most_numbers : ℕ
most_numbers = 5000

-- one that arrives has room where one of its key was admitted before, or where fewer keys than the limit have one that
-- counts
module _ {A : Type 0} (is_same : A → A → Bool) where
  -- of each key the first
  abbrev pub firsts : List A → List A
  firsts [] = []
  firsts (one ∷ others) = one ∷ filter (λ other. not (is_same one other)) (firsts others)

  abbrev pub has_room : (A → Bool) → ℕ → List A → A → Bool
  has_room counts limit before one =
      list_any (is_same one) before || nat_lt (length (firsts (filter counts before))) limit

  -- all that were admitted before, followed by those that have room when they arrive one after the other
  abbrev pub admit : (A → Bool) → ℕ → List A → List A → List A
  admit counts limit before [] = before
  admit counts limit before (one ∷ others) =
      admit counts limit (if has_room counts limit before one then before ++ one ∷ [] else before) others

-- two records are of one journey, and two situations of one number
abbrev pub is_same_journey : Recorded → Recorded → Bool
is_same_journey a b = is_of a.trip a.day b

abbrev pub is_same_number : Situation → Situation → Bool
is_same_number a b = has_number a.number b

-- a record's service day is one of the window's
abbrev pub is_within : DayStarts → Recorded → Bool
is_within window one = is_some (start_in window one.day)

-- every situation counts towards the limit
abbrev pub always : Situation → Bool
always one = true

-- a record has room where fewer than 50,000 journeys that were admitted have days in the window, and a situation where
-- fewer than 5,000 numbers were admitted
abbrev pub journey_has_room : DayStarts → List Recorded → Recorded → Bool
journey_has_room window before one = has_room is_same_journey (is_within window) most_journeys before one

abbrev pub situation_has_room : List Situation → Situation → Bool
situation_has_room before one = has_room is_same_number always most_numbers before one

-- what was admitted, the oldest first: of each arrival the records, and the situations, that had room when they came
abbrev pub admitted : Setting → List Arrival → List Recorded
admitted setting [] = []
admitted setting (one ∷ earlier) =
    admit is_same_journey (is_within (window_at setting (one.moment ∷ moments_of earlier))) most_journeys
    (admitted setting earlier) (records_of one.gives)

abbrev pub admitted_situations : List Arrival → List Situation
admitted_situations [] = []
admitted_situations (one ∷ earlier) =
    admit is_same_number always most_numbers (admitted_situations earlier) (situations_of one.gives)

-- of the records that were admitted those with days in the window
abbrev pub present : Setting → List Arrival → List Recorded
present setting arrivals = filter (is_within (window_at setting (moments_of arrivals))) (admitted setting arrivals)

-- each record can be served over the window that was there when it arrived, and each situation refers to what is there
pub record CanBeServed (schedule : Schedule) (one : Given) : Type 0 where
  pub servable : AllByRecursion (λ record_of. IsServable schedule record_of.trip record_of.day record_of.reading)
      (records_of one)
  pub known : AllByRecursion (λ situation. AreKnown schedule.table situation.refs) (situations_of one)

abbrev pub EachCanBeServed : Setting → List Arrival → Type 0
EachCanBeServed setting [] = Unit {0}
EachCanBeServed setting (one ∷ earlier) =
    CanBeServed (schedule_at setting (one.moment ∷ moments_of earlier)) one.gives × EachCanBeServed setting earlier

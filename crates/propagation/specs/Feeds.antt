-- How a feed is read over a timetable.
use Rattle.std.specs.Prelude.{◌≡◌, ℕ, ℤ, All, length, map}
use Rattle.std.specs.List.{filter}
use Rattle.std.specs.List.Sorted.{IsPermutation, IsSorted}
use Rattle.std.specs.declared.cmp.Ordering.{Ordering}
use Rattle.std.specs.Option.{option_to_list}
use Rattle.std.specs.Ordering.{int_cmp, nat_cmp, ordering_then}
use Rattle.gw_base.specs.declared.messages.Feed.{Feed}
use Rattle.journey_model.specs.FeedReadings.{aside_all, given_all, is_of, last_of_each, last_reading, passed_count, readings}
use Rattle.journey_model.specs.Schedules as schedules
use Rattle.journey_model.specs.Schedules.{Schedule}
use Rattle.journey_model.specs.declared.readings.DatedReading.{DatedReading}
use Rattle.propagation.specs.declared.feeds.FeedReading.{FeedReading}

-- by service day, then trip number
abbrev pub journey_cmp : DatedReading → DatedReading → Ordering
journey_cmp a b = ordering_then (int_cmp a.day b.day) (nat_cmp a.trip.0 b.trip.0)

-- a reading can be served for its trip on its day
abbrev pub IsServable : Schedule → DatedReading → Type 0
IsServable schedule one = schedules.IsServable schedule one.trip.0 one.day one.reading

-- what a feed says of journeys: of the readings of one journey the last, so that of each trip and day there is its
-- last reading or none, sorted by journey, and each can be served; and how many entities were taken and passed, and
-- which were set aside
pub record IsReading (schedule : Schedule) (feed : Feed) (found : FeedReading) : Type 0 where
  pub same : IsPermutation (last_of_each (given_all (readings schedule feed))) found.journeys
  pub each_last : (trip : ℕ) (day : ℤ) → map (λ one. one.reading) (filter (is_of trip day) found.journeys)
      ≡ option_to_list (last_reading trip day (given_all (readings schedule feed)))
  pub sorted : IsSorted journey_cmp found.journeys
  pub servable : All (IsServable schedule) found.journeys
  pub taken : found.report.taken ≡ length (given_all (readings schedule feed))
  pub passed : found.report.passed ≡ passed_count (readings schedule feed)
  pub aside : found.report.aside ≡ aside_all (readings schedule feed)

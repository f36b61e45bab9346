-- What is counted of a feed (GTFS Realtime, FeedMessage): how it reads at every stop of every trip, its updates and its
-- bytes; and the line that says it.
use Rattle.std.specs.Prelude.{◌≡◌, ℕ, ℤ, pos, Bool, true, false, List, ◌++◌, codes, count_by, length, sum_by, Option, Some, None, replicate}
use Rattle.gw_base.specs.declared.messages.Entity.{Entity}
use Rattle.gw_base.specs.declared.messages.Feed.{Feed}
use Rattle.gw_base.specs.declared.messages.TripUpdate.{TripUpdate}
use Rattle.service_day.specs.Windows.{DayStarts, start_in}
use Rattle.journey_model.specs.FeedReadings.{reads}
use Rattle.journey_model.specs.Schedules.{Schedule}
use Rattle.journey_model.specs.declared.readings.JourneyReading.{JourneyReading}
use Rattle.journey_model.specs.declared.readings.JourneyReading.TheVariants.{Cancelled, Stops}
use Rattle.journey_model.specs.declared.readings.StopReading.{StopReading}
use Rattle.journey_model.specs.declared.readings.StopReading.TheVariants.{Absent, Skipped, Timed}
use Rattle.sample_maker.specs.Pieces.{all_below, led}
use Rattle.sample_counts.specs.declared.counts.SampleCounts.{SampleCounts}
use Rattle.std.specs.Prelude.{decimal}
use Rattle.journey_model.specs.Readings.{is_absent, is_skipped}

-- the service day of a sample, 2024-05-01
abbrev pub made_day : ℤ
made_day = pos 19844

-- a window has no other day
abbrev pub HasOneDay : DayStarts → Type 0
HasOneDay window = (day : ℤ) (start : ℤ) → start_in window day ≡ Some start → day ≡ made_day

-- the stop has times
abbrev pub is_timed : StopReading → Bool
is_timed Absent = false
is_timed Skipped = false
is_timed (Timed arrival departure place) = true

-- how each of so many stops reads: those of a cancelled journey are skipped
abbrev pub each_stop : ℕ → JourneyReading → List StopReading
each_stop stops Cancelled = replicate stops Skipped
each_stop stops (Stops readings) = readings

-- how a feed reads at each stop of a trip on the sample's day: nothing is known of those of a trip that it doesn't give
abbrev pub trip_read : Schedule → Feed → ℕ → List StopReading
trip_read schedule feed trip = each_stop (length (schedule.table.stops_of trip)) (reads schedule feed trip made_day)

-- and at all stops of all trips
abbrev pub all_read : Schedule → Feed → List StopReading
all_read schedule feed = all_below (trip_read schedule feed) (length schedule.table.trips)

-- how many stops an entity updates
abbrev pub updates_in : Option TripUpdate → ℕ
updates_in None = 0
updates_in (Some update) = length update.updates

abbrev pub updates_of : Entity → ℕ
updates_of entity = updates_in entity.trip_update

-- the counts of a feed with its bytes
abbrev pub counts_of : Schedule → List ℕ → Feed → SampleCounts
counts_of schedule bytes feed = record {
  skipped = count_by is_skipped (all_read schedule feed);
  absent = count_by is_absent (all_read schedule feed);
  timed = count_by is_timed (all_read schedule feed);
  updates = sum_by updates_of feed.entities;
  bytes = length bytes;
}

-- `trips T stops S skipped K absent N timed M updates U bytes B`
abbrev pub counts_text : ℕ → ℕ → SampleCounts → List ℕ
counts_text trips stops counts =
    led (codes "trips ") (decimal trips) ++ led (codes " stops ") (decimal stops)
    ++ led (codes " skipped ") (decimal counts.skipped) ++ led (codes " absent ") (decimal counts.absent)
    ++ led (codes " timed ") (decimal counts.timed) ++ led (codes " updates ") (decimal counts.updates)
    ++ led (codes " bytes ") (decimal counts.bytes) ++ codes "\n"

-- What only private functions cite: how many stops read in which way, and readings in the order of their trips.
use Rattle.std.specs.Prelude.{◌≡◌, ◌==◌, ◌+◌, ◌<◌, ◌≤◌, ℕ, List, [], ◌∷◌, length, count_by, Option, Some, None, if◌then◌else◌}
use Rattle.journey_model.specs.FeedReadings.{nothing_known, or_nothing}
use Rattle.journey_model.specs.Readings.{is_absent, is_skipped}
use Rattle.journey_model.specs.Schedules.{Schedule}
use Rattle.journey_model.specs.declared.readings.DatedReading.{DatedReading}
use Rattle.journey_model.specs.declared.readings.JourneyReading.{JourneyReading}
use Rattle.journey_model.specs.declared.readings.StopReading.{StopReading}
use Rattle.sample_counts.specs.Counts.{each_stop, is_timed}
use Rattle.sample_counts.specs.declared.tally.Tally.{Tally}

-- how many of these stops read in which way
abbrev pub tally : List StopReading → Tally
tally readings = record {
  skipped = count_by is_skipped readings;
  absent = count_by is_absent readings;
  timed = count_by is_timed readings;
}

abbrev pub plus : Tally → Tally → Tally
plus a b = record { skipped = a.skipped + b.skipped; absent = a.absent + b.absent; timed = a.timed + b.timed }

-- no count is over that many
pub record IsWithin (most : ℕ) (tally : Tally) : Type 0 where
  pub skipped : tally.skipped ≤ most
  pub absent : tally.absent ≤ most
  pub timed : tally.timed ≤ most

-- how each stop of a trip reads, by what is said of the trip
abbrev pub stops_said : Schedule → ℕ → Option JourneyReading → List StopReading
stops_said schedule trip said =
    each_stop (length (schedule.table.stops_of trip)) (or_nothing said (nothing_known schedule trip))

-- what the first of readings says, where it is of that trip; and the readings after it
abbrev pub head_said : ℕ → List DatedReading → Option JourneyReading
head_said trip [] = None
head_said trip (one ∷ others) = if one.trip.0 == trip then Some one.reading else None

abbrev pub after_trip : ℕ → List DatedReading → List DatedReading
after_trip trip [] = []
after_trip trip (one ∷ others) = if one.trip.0 == trip then others else one ∷ others

-- this is what readings, in the order of their trips, say of trips from a number on
abbrev pub AreSaid : (ℕ → Option JourneyReading) → ℕ → List DatedReading → Type 0
AreSaid said least [] = (trip : ℕ) → least ≤ trip → said trip ≡ None
AreSaid said least (one ∷ others) =
    (least ≤ one.trip.0) × ((trip : ℕ) → least ≤ trip → trip < one.trip.0 → said trip ≡ None)
    × (said one.trip.0 ≡ Some one.reading) × AreSaid said (one.trip.0 + 1) others

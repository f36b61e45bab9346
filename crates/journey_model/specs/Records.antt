-- What is recorded of a journey.
use Rattle.std.specs.Prelude.{ℕ, ℤ}
use Rattle.journey_model.specs.declared.readings.JourneyReading.{JourneyReading}
use Rattle.journey_model.specs.declared.readings.JourneyRecord.{JourneyRecord}

-- a trip on a day, the instant of recording in seconds since 1970 and nanoseconds, and how the journey reads
pub record Recorded : Type 0 where
  pub trip : ℕ
  pub day : ℤ
  pub at : ℤ × ℕ
  pub reading : JourneyReading

-- what a record shows
abbrev pub recorded : JourneyRecord → Recorded
recorded one = record { trip = one.trip.0; day = one.day; at = (one.at.secs, one.at.nanos); reading = one.reading }

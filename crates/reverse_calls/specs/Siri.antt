-- The SIRI delivery that says what a feed says of journeys (SIRI 2.0, EstimatedTimetableDelivery; GTFS Realtime
-- reference, FeedMessage).
use Rattle.std.specs.Prelude.{◌≡◌, ◌<◌, ◌≤◌, All, ℕ, ℤ, List, length, sum_by, min, MatchBool, Result, Ok, Err}
use Rattle.gw_base.specs.Count.{last_count}
use Rattle.gw_base.specs.declared.messages.Feed.{Feed}
use Rattle.journey_model.specs.FeedReadings.{is_differential}
use Rattle.journey_model.specs.Schedules.{Schedule}
use Rattle.journey_model.specs.declared.readings.DatedReading.{DatedReading}
use Rattle.journey_model.specs.declared.report.Report.{Report}
use Rattle.propagation.specs.Feeds.{IsReading, IsServable}
use Rattle.propagation.specs.declared.feeds.FeedReading.{FeedReading}
use Rattle.siri_calls.specs.Written.DeliveryTree.{delivery_text}
use Rattle.siri_calls.specs.Written.SaidAgain.{SaysAgain}
use Rattle.reverse_calls.specs.declared.readings_fault.ReadingsFault.{ReadingsFault}
use Rattle.reverse_calls.specs.declared.readings_fault.ReadingsFault.TheVariants as of_readings
use Rattle.reverse_calls.specs.declared.reverse_fault.ReverseFault.{ReverseFault}
use Rattle.reverse_calls.specs.declared.reverse_fault.ReverseFault.TheVariants.{Differential, TooManyCalls, Memory}

-- a journey has a call for each stop of its trip, also where it is cancelled
abbrev pub stop_count : Schedule → DatedReading → ℕ
stop_count schedule one = length (schedule.table.stops_of one.trip.0)

-- the calls of journeys; a count of 64 bits stays at its last value
abbrev pub call_count : Schedule → List DatedReading → ℕ
call_count schedule journeys = min (sum_by (stop_count schedule) journeys) last_count

-- the most calls that a delivery has
abbrev pub most_calls : ℕ
most_calls = 400000

-- the text says the journeys of a feed, in the order of days and trips, and says them when it is read again: each with
-- its reading, and nothing is set aside; they have no more calls than a delivery may have, and the report is that of
-- the feed
pub record IsSiri (schedule : Schedule) (feed : Feed) (moment : ℤ) (text : List ℕ) (report : Report) : Type 0 where
  pub found : FeedReading
  pub reading : IsReading schedule feed found
  pub reports : report ≡ found.report
  pub few : call_count schedule found.journeys ≤ most_calls
  pub is_text : text ≡ delivery_text schedule moment found.journeys
  pub again : SaysAgain schedule moment found.journeys text

-- the journeys of a feed have that many calls, which are more than a delivery may have
pub record HasTooMany (schedule : Schedule) (feed : Feed) (calls : ℕ) : Type 0 where
  pub found : FeedReading
  pub reading : IsReading schedule feed found
  pub count : calls ≡ call_count schedule found.journeys
  pub over : most_calls < calls

-- what readings are answered: they have so few calls and the text says them, also when it is read again, where each of
-- their trips runs on its day; or they have that many; want of memory is free
abbrev pub IsReadingsAnswer : Schedule → List DatedReading → ℤ → Result (List ℕ) ReadingsFault → Type 0
IsReadingsAnswer schedule journeys moment (Ok text) =
    (call_count schedule journeys ≤ most_calls)
    × (text ≡ delivery_text schedule moment journeys)
    × (All (IsServable schedule) journeys → SaysAgain schedule moment journeys text)
IsReadingsAnswer schedule journeys moment (Err (of_readings.TooManyCalls calls)) =
    (calls ≡ call_count schedule journeys) × (most_calls < calls)
IsReadingsAnswer schedule journeys moment (Err of_readings.Memory) = Unit {0}

-- what a feed is answered of which these are the readings, with that report
abbrev pub IsTextOfFeed : Schedule → Feed → ℤ → Report → Result (List ℕ) ReadingsFault → Type 0
IsTextOfFeed schedule feed moment report (Ok text) = IsSiri schedule feed moment text report
IsTextOfFeed schedule feed moment report (Err (of_readings.TooManyCalls calls)) = HasTooMany schedule feed calls
IsTextOfFeed schedule feed moment report (Err of_readings.Memory) = Unit {0}

-- what a feed that isn't differential is answered: want of memory is free
abbrev pub IsFullAnswer : Schedule → Feed → ℤ → Result (List ℕ × Report) ReverseFault → Type 0
IsFullAnswer schedule feed moment (Ok both) = IsSiri schedule feed moment both.0 both.1
IsFullAnswer schedule feed moment (Err Differential) = ⊥
IsFullAnswer schedule feed moment (Err (TooManyCalls calls)) = HasTooMany schedule feed calls
IsFullAnswer schedule feed moment (Err Memory) = Unit {0}

-- what a feed is answered: a differential one just that it is one
abbrev pub IsAnswer : Schedule → Feed → ℤ → Result (List ℕ × Report) ReverseFault → Type 0
IsAnswer schedule feed moment answer =
    MatchBool (is_differential feed) (answer ≡ Err Differential) (IsFullAnswer schedule feed moment answer)

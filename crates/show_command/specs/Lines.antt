-- What `show` prints of a feed that was read: a line for each cancelled journey and for each stop of the others, and
-- the lines of the report on its entities.
use Rattle.std.specs.Prelude.{ℕ, ℤ, List, [], ◌++◌, codes, decimal}
use Rattle.std.specs.List.{enumerate_from, flat_map, zip}
use Rattle.service_day.specs.DayTexts.{dashed_text}
use Rattle.service_day.specs.Utc.{moment_text}
use Rattle.timetable.specs.Table.{Table}
use Rattle.timetable.specs.declared.stop_row.StopRow.{StopRow}
use Rattle.journey_model.specs.Ids.{id_of}
use Rattle.journey_model.specs.Reports.{report_lines}
use Rattle.journey_model.specs.Schedules.{Schedule}
use Rattle.journey_model.specs.declared.readings.DatedReading.{DatedReading}
use Rattle.journey_model.specs.declared.readings.JourneyReading.{JourneyReading}
use Rattle.journey_model.specs.declared.readings.JourneyReading.TheVariants.{Cancelled, Stops}
use Rattle.journey_model.specs.declared.readings.StopReading.{StopReading}
use Rattle.journey_model.specs.declared.readings.StopReading.TheVariants.{Absent, Skipped, Timed}
use Rattle.propagation.specs.declared.feeds.FeedReading.{FeedReading}

-- the words for a journey: its service day as `YYYY-MM-DD` and the id of its trip
abbrev pub journey_name : ℤ → List ℕ → List ℕ
journey_name day trip_id = dashed_text day ++ codes " " ++ trip_id

-- an arrival and a departure, each as `YYYY-MM-DDThh:mm:ssZ`
abbrev pub times_text : ℤ → ℤ → List ℕ
times_text arrival departure = moment_text arrival ++ codes " " ++ moment_text departure

-- the words for how a stop reads; its place isn't shown
abbrev pub reading_text : StopReading → List ℕ
reading_text Absent = codes "absent"
reading_text Skipped = codes "skipped"
reading_text (Timed arrival departure place) = times_text arrival departure

-- `DAY TRIP cancelled`
abbrev pub cancelled_line : List ℕ → List ℕ
cancelled_line name = name ++ codes " cancelled\n"

-- `DAY TRIP K STOP READING`, for the stop of that number in its trip
abbrev pub stop_line : List ℕ → ℕ → List ℕ → StopReading → List ℕ
stop_line name number stop_id reading =
    name ++ codes " " ++ decimal number ++ codes " " ++ stop_id ++ codes " " ++ reading_text reading ++ codes "\n"

-- the lines of stops with how they read, numbered from 1; the ids are those of the timetable's stops
abbrev pub numbered_line : List (List ℕ) → List ℕ → ℕ × (StopRow × StopReading) → List ℕ
numbered_line ids name one = stop_line name one.0 (id_of ids one.1.0.stop.0) one.1.1

abbrev pub stop_lines : List (List ℕ) → List ℕ → List (StopRow × StopReading) → List ℕ
stop_lines ids name stops = flat_map (numbered_line ids name) (enumerate_from 1 stops)

-- the lines of a journey
abbrev pub reading_lines : Table → ℕ → List ℕ → JourneyReading → List ℕ
reading_lines table trip name Cancelled = cancelled_line name
reading_lines table trip name (Stops readings) = stop_lines table.stops name (zip (table.stops_of trip) readings)

abbrev pub journey_lines : Table → DatedReading → List ℕ
journey_lines table one =
    reading_lines table one.trip.0 (journey_name one.day (id_of table.trips one.trip.0)) one.reading

-- what is shown of a feed: the journeys in the order in which they were read, and the report on its entities
abbrev pub shown : Schedule → FeedReading → List ℕ
shown schedule feed = flat_map (journey_lines schedule.table) feed.journeys ++ report_lines [] feed.report

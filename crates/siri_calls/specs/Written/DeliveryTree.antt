-- The delivery of estimated timetables that says how journeys read (SIRI 2.0, EstimatedTimetableDelivery; in JSON after
-- SIRI Lite): its tree and its text. The members of each object come in the order of their names' bytes.
use Rattle.std.specs.Prelude.{ℕ, ℤ, ◌+◌, Bool, true, false, List, [], ◌∷◌, ◌++◌, map, codes, unwrap_or, Option, Some, None}
use Rattle.serde_json.specs.Data.{Data, null, boolean, number, string, unsigned}
use Rattle.serde_json.specs.Written.{compact_text}
use Rattle.service_day.specs.DayTexts.{dashed_text}
use Rattle.siri_json.specs.Trees.{array_of, moment_tree, object_of}
use Rattle.timetable.specs.Planned.{planned}
use Rattle.timetable.specs.declared.stop_row.StopRow.{StopRow}
use Rattle.journey_model.specs.Ids.{id_of}
use Rattle.journey_model.specs.Runs.{Run}
use Rattle.journey_model.specs.Schedules.{Schedule, run_on}
use Rattle.journey_model.specs.declared.readings.DatedReading.{DatedReading}
use Rattle.journey_model.specs.declared.readings.JourneyReading.{JourneyReading}
use Rattle.journey_model.specs.declared.readings.JourneyReading.TheVariants.{Cancelled, Stops}
use Rattle.journey_model.specs.declared.readings.StopReading.{StopReading}
use Rattle.journey_model.specs.declared.readings.StopReading.TheVariants.{Absent, Skipped, Timed}

-- the planned times of a stop
abbrev pub aimed_members : ℤ × ℤ → List (List ℕ × Data)
aimed_members both =
    (codes "AimedArrivalTime", moment_tree both.0) ∷ (codes "AimedDepartureTime", moment_tree both.1) ∷ []

-- how a stop reads: it is skipped, or expected at these times; of an absent one nothing is said
abbrev pub said_members : StopReading → List (List ℕ × Data)
said_members Absent = []
said_members Skipped = (codes "Cancellation", boolean true) ∷ []
said_members (Timed arrival departure place) =
    (codes "ExpectedArrivalTime", moment_tree arrival) ∷ (codes "ExpectedDepartureTime", moment_tree departure) ∷ []

-- the stop at which the vehicle calls: a stop that is served has a place, of others it is the scheduled one
abbrev pub called_at : StopRow → StopReading → ℕ
called_at row Absent = row.stop.0
called_at row Skipped = row.stop.0
called_at row (Timed arrival departure place) = place.0

-- which stop of the trip it is, counted from 1, and the id of the stop at which the vehicle calls
abbrev pub stop_members : ℕ → List ℕ → List (List ℕ × Data)
stop_members order id = (codes "Order", number (unsigned order)) ∷ (codes "StopPointRef", string id) ∷ []

-- the call at a stop
abbrev pub call_tree : Run → ℕ → StopRow → StopReading → Data
call_tree run order row reading =
    object_of (aimed_members (planned run.start row) ++ said_members reading
    ++ stop_members order (id_of run.ids (called_at row reading)))

-- the calls at the stops from that one on, counted from 1
abbrev pub call_trees_from : Run → ℕ → List StopRow → List StopReading → List Data
call_trees_from run order [] readings = []
call_trees_from run order (row ∷ rows) [] = []
call_trees_from run order (row ∷ rows) (reading ∷ readings) =
    call_tree run order row reading ∷ call_trees_from run (order + 1) rows readings

-- how each stop reads: a cancelled journey skips all of them
abbrev pub skipped_at : StopRow → StopReading
skipped_at row = Skipped

abbrev pub stop_readings : Run → JourneyReading → List StopReading
stop_readings run Cancelled = map skipped_at run.stops
stop_readings run (Stops readings) = readings

abbrev pub all_calls : Run → JourneyReading → Data
all_calls run reading =
    object_of ((codes "EstimatedCall", array_of (call_trees_from run 1 run.stops (stop_readings run reading))) ∷ [])

abbrev pub is_cancelled_journey : JourneyReading → Bool
is_cancelled_journey Cancelled = true
is_cancelled_journey (Stops readings) = false

-- the trip and its service day
abbrev pub framed_ref : ℤ → List ℕ → Data
framed_ref day trip_id =
    object_of ((codes "DataFrameRef", string (dashed_text day)) ∷ (codes "DatedVehicleJourneyRef", string trip_id) ∷ [])

-- a journey, which was recorded at that moment
abbrev pub journey_of_run : Schedule → ℤ → DatedReading → Run → Data
journey_of_run schedule recorded one run = object_of (
    (codes "Cancellation", boolean (is_cancelled_journey one.reading))
    ∷ (codes "EstimatedCalls", all_calls run one.reading)
    ∷ (codes "FramedVehicleJourneyRef", framed_ref one.day (id_of schedule.table.trips one.trip.0))
    ∷ (codes "IsCompleteStopSequence", boolean true)
    ∷ (codes "LineRef", string (schedule.table.route_of one.trip.0))
    ∷ (codes "RecordedAtTime", moment_tree recorded)
    ∷ [])

-- the journey of a reading, whose day is in the window; a reading without a moment of recording has that of the
-- delivery
abbrev pub journey_on : Schedule → ℤ → DatedReading → Option Run → Data
journey_on schedule moment one None = null
journey_on schedule moment one (Some run) = journey_of_run schedule (unwrap_or one.recorded moment) one run

abbrev pub journey_tree : Schedule → ℤ → DatedReading → Data
journey_tree schedule moment one = journey_on schedule moment one (run_on schedule one.trip.0 one.day)

-- the frame with the journeys, the delivery with the frame, and the service delivery with it
abbrev pub frame_tree : Schedule → ℤ → List DatedReading → Data
frame_tree schedule moment journeys = object_of (
    (codes "EstimatedVehicleJourney", array_of (map (journey_tree schedule moment) journeys))
    ∷ (codes "RecordedAtTime", moment_tree moment)
    ∷ [])

abbrev pub timetable_tree : Schedule → ℤ → List DatedReading → Data
timetable_tree schedule moment journeys = object_of (
    (codes "EstimatedJourneyVersionFrame", array_of (frame_tree schedule moment journeys ∷ []))
    ∷ (codes "ResponseTimestamp", moment_tree moment)
    ∷ (codes "version", string (codes "2.0"))
    ∷ [])

abbrev pub service_tree : Schedule → ℤ → List DatedReading → Data
service_tree schedule moment journeys = object_of (
    (codes "EstimatedTimetableDelivery", array_of (timetable_tree schedule moment journeys ∷ []))
    ∷ (codes "ResponseTimestamp", moment_tree moment)
    ∷ [])

-- the delivery that says these journeys at that moment, and its text without blanks
abbrev pub delivery_tree : Schedule → ℤ → List DatedReading → Data
delivery_tree schedule moment journeys = object_of (
    (codes "Siri", object_of ((codes "ServiceDelivery", service_tree schedule moment journeys) ∷ []))
    ∷ [])

abbrev pub delivery_text : Schedule → ℤ → List DatedReading → List ℕ
delivery_text schedule moment journeys = compact_text (delivery_tree schedule moment journeys)

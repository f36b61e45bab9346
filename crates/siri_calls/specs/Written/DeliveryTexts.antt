-- The text of a delivery of estimated timetables piece by piece, for the clauses of what writes them. The delivery as a
-- tree is `delivery_tree` of `DeliveryTree.antt`, and its text is theirs: `proofs/Written/WrittenLemmas.antt`.
use Rattle.std.specs.Prelude.{ℕ, ℤ, ◌+◌, Bool, true, false, List, [], ◌∷◌, ◌++◌, codes, unwrap_or, Option, Some, None}
use Rattle.serde_json.specs.Written.{comma_if}
use Rattle.service_day.specs.DayTexts.{dashed_text}
use Rattle.siri_json.specs.WrittenTexts.{led, led_moment, led_number}
use Rattle.timetable.specs.Planned.{planned}
use Rattle.timetable.specs.Table.{Table}
use Rattle.timetable.specs.declared.stop_row.StopRow.{StopRow}
use Rattle.journey_model.specs.Ids.{id_of}
use Rattle.journey_model.specs.Runs.{Run}
use Rattle.journey_model.specs.Schedules.{Schedule, run_on}
use Rattle.journey_model.specs.declared.readings.DatedReading.{DatedReading}
use Rattle.journey_model.specs.declared.readings.StopReading.{StopReading}
use Rattle.journey_model.specs.declared.readings.StopReading.TheVariants.{Absent, Skipped, Timed}
use Rattle.siri_calls.specs.Written.DeliveryTree.{called_at, is_cancelled_journey, stop_readings}

-- an arrival and a departure, each after what leads to it
abbrev pub times_text : List ℕ → List ℕ → ℤ × ℤ → List ℕ
times_text first second both = led_moment first both.0 ++ led_moment second both.1

-- the planned times of a stop, with which its call begins
abbrev pub aimed_text : ℤ × ℤ → List ℕ
aimed_text both = times_text (codes "{\"AimedArrivalTime\":") (codes ",\"AimedDepartureTime\":") both

-- how the stop reads
abbrev pub said_text : StopReading → List ℕ
said_text Absent = []
said_text Skipped = codes ",\"Cancellation\":true"
said_text (Timed arrival departure place) =
    times_text (codes ",\"ExpectedArrivalTime\":") (codes ",\"ExpectedDepartureTime\":") (arrival, departure)

-- which stop of the trip it is, counted from 1, and the id of the stop at which the vehicle calls, with which the call
-- ends
abbrev pub stop_text : ℕ → List ℕ → List ℕ
stop_text order id = led_number (codes ",\"Order\":") order ++ led (codes ",\"StopPointRef\":") id ++ codes "}"

-- the call at a stop
unfoldable pub call_text : Run → ℕ → StopRow → StopReading → List ℕ
call_text run order row reading =
    aimed_text (planned run.start row) ++ said_text reading ++ stop_text order (id_of run.ids (called_at row reading))

-- the calls from that one on, after a comma where another stands before, and the bracket that closes them
abbrev pub calls_text : Bool → Run → ℕ → List StopRow → List StopReading → List ℕ
calls_text later run order [] readings = codes "]"
calls_text later run order (row ∷ rows) [] = codes "]"
calls_text later run order (row ∷ rows) (reading ∷ readings) =
    comma_if later ++ call_text run order row reading ++ calls_text true run (order + 1) rows readings

-- a journey up to its calls
abbrev pub opening_text : Bool → List ℕ
opening_text true = codes "{\"Cancellation\":true,\"EstimatedCalls\":{\"EstimatedCall\":["
opening_text false = codes "{\"Cancellation\":false,\"EstimatedCalls\":{\"EstimatedCall\":["

-- the trip and its service day, after the calls
abbrev pub frame_ref_text : ℤ → List ℕ → List ℕ
frame_ref_text day trip_id =
    led (codes "},\"FramedVehicleJourneyRef\":{\"DataFrameRef\":") (dashed_text day)
    ++ led (codes ",\"DatedVehicleJourneyRef\":") trip_id

-- the route and the moment of recording, with which a journey ends
abbrev pub closing_text : List ℕ → ℤ → List ℕ
closing_text route_id recorded =
    led (codes "},\"IsCompleteStopSequence\":true,\"LineRef\":") route_id
    ++ led_moment (codes ",\"RecordedAtTime\":") recorded ++ codes "}"

-- a journey, which was recorded at that moment
unfoldable pub journey_text : Table → ℤ → DatedReading → Run → List ℕ
journey_text table recorded one run =
    opening_text (is_cancelled_journey one.reading)
    ++ calls_text false run 1 run.stops (stop_readings run one.reading)
    ++ frame_ref_text one.day (id_of table.trips one.trip.0)
    ++ closing_text (table.route_of one.trip.0) recorded

-- the journey of a reading, whose day is in the window
abbrev pub journey_text_on : Schedule → ℤ → DatedReading → Option Run → List ℕ
journey_text_on schedule moment one None = codes "null"
journey_text_on schedule moment one (Some run) = journey_text schedule.table (unwrap_or one.recorded moment) one run

-- the journeys from one on, after a comma where another stands before, and the bracket that closes them
abbrev pub journeys_text : Bool → Schedule → ℤ → List DatedReading → List ℕ
journeys_text later schedule moment [] = codes "]"
journeys_text later schedule moment (one ∷ others) =
    comma_if later ++ journey_text_on schedule moment one (run_on schedule one.trip.0 one.day)
    ++ journeys_text true schedule moment others

-- the delivery up to its journeys
abbrev pub head_text : List ℕ
head_text
    = codes
    "{\"Siri\":{\"ServiceDelivery\":{\"EstimatedTimetableDelivery\":[{\"EstimatedJourneyVersionFrame\":[{\"EstimatedVehicleJourney\":["

-- the moment of the frame and of both deliveries, after the journeys
abbrev pub tail_text : ℤ → List ℕ
tail_text moment =
    led_moment (codes ",\"RecordedAtTime\":") moment
    ++ led_moment (codes "}],\"ResponseTimestamp\":") moment
    ++ led_moment (codes ",\"version\":\"2.0\"}],\"ResponseTimestamp\":") moment
    ++ codes "}}}"

-- The text of the delivery that shows visits piece by piece, for the clauses of what writes them. The delivery as a
-- tree is `board_tree` of `BoardTree.antt`, and its text is theirs: `proofs/TextLemmas.antt`.
use Rattle.std.specs.Prelude.{ℕ, ℤ, ◌+◌, Bool, true, List, [], ◌∷◌, ◌++◌, codes, slice_get, Option, Some, None}
use Rattle.serde_json.specs.Written.{comma_if}
use Rattle.service_day.specs.DayTexts.{dashed_text}
use Rattle.siri_json.specs.WrittenTexts.{led, led_moment}
use Rattle.siri_calls.specs.Written.DeliveryTexts.{call_text}
use Rattle.timetable.specs.Table.{Table}
use Rattle.timetable.specs.declared.numbers.StopNo.{StopNo}
use Rattle.timetable.specs.declared.stop_row.StopRow.{StopRow}
use Rattle.journey_model.specs.Ids.{id_of}
use Rattle.journey_model.specs.Runs.{Run}
use Rattle.journey_model.specs.Schedules.{Schedule, run_on}
use Rattle.journey_model.specs.declared.readings.StopReading.TheVariants.{Timed}
use Rattle.stop_board.specs.declared.visits.Visit.{Visit}

-- the trip and the service day of a visit, with which it begins
abbrev pub ref_text : ℤ → List ℕ → List ℕ
ref_text day trip_id =
    led (codes "{\"MonitoredVehicleJourney\":{\"FramedVehicleJourneyRef\":{\"DataFrameRef\":") (dashed_text day)
    ++ led (codes ",\"DatedVehicleJourneyRef\":") trip_id

-- its route, and what leads to its call
abbrev pub line_text : List ℕ → List ℕ
line_text route_id = led (codes "},\"LineRef\":") route_id ++ codes ",\"MonitoredCall\":"

-- what follows the call: the stop of the board, and when the journey was recorded
abbrev pub recorded_text : ℤ → List ℕ
recorded_text recorded = led_moment (codes ",\"RecordedAtTime\":") recorded

abbrev pub end_text : List ℕ → ℤ → List ℕ
end_text stop_id recorded =
    led (codes "},\"MonitoringRef\":") stop_id ++ recorded_text recorded ++ codes "}"

-- the visit at the stop of that row
unfoldable pub visit_text : Table → Run → StopNo → Visit → StopRow → List ℕ
visit_text table run stop visit row =
    ref_text visit.day (id_of table.trips visit.trip.0)
    ++ line_text (table.route_of visit.trip.0)
    ++ call_text run (visit.position + 1) row (Timed visit.arrival visit.departure stop)
    ++ end_text (id_of table.stops stop.0) visit.recorded

abbrev pub visit_text_at : Table → Run → StopNo → Visit → Option StopRow → List ℕ
visit_text_at table run stop visit None = codes "null"
visit_text_at table run stop visit (Some row) = visit_text table run stop visit row

-- the visit of a trip on a day
abbrev pub visit_text_on : Table → StopNo → Visit → Option Run → List ℕ
visit_text_on table stop visit None = codes "null"
visit_text_on table stop visit (Some run) =
    visit_text_at table run stop visit (slice_get run.stops visit.position)

-- the visits from one on, after a comma where another stands before, and the bracket that closes them
abbrev pub visits_text : Bool → Schedule → StopNo → List Visit → List ℕ
visits_text later schedule stop [] = codes "]"
visits_text later schedule stop (visit ∷ others) =
    comma_if later ++ visit_text_on schedule.table stop visit (run_on schedule visit.trip.0 visit.day)
    ++ visits_text true schedule stop others

-- the delivery up to its visits, and after them
abbrev pub head_text : ℤ → List ℕ
head_text moment =
    led_moment (codes "{\"Siri\":{\"ServiceDelivery\":{\"ResponseTimestamp\":") moment
    ++ codes ",\"StopMonitoringDelivery\":[{\"MonitoredStopVisit\":["

abbrev pub tail_text : ℤ → List ℕ
tail_text moment =
    led_moment (codes ",\"ResponseTimestamp\":") moment ++ codes ",\"version\":\"2.0\"}]}}}"

-- The delivery that shows the visits of a board (SIRI 2.0, StopMonitoringDelivery, MonitoredStopVisit; in JSON after
-- SIRI Lite): its tree and its text. The members of each object come in the order of their names' bytes.
use Rattle.std.specs.Prelude.{◌≡◌, ◌+◌, ℕ, ℤ, List, [], ◌∷◌, map, take, codes, slice_get, Option, Some, None}
use Rattle.serde_json.specs.Data.{Data, null, string}
use Rattle.serde_json.specs.Written.{compact_text}
use Rattle.siri_json.specs.Trees.{array_of, moment_tree, object_of}
use Rattle.siri_calls.specs.Written.DeliveryTree.{call_tree, framed_ref}
use Rattle.timetable.specs.Table.{Table}
use Rattle.timetable.specs.declared.numbers.StopNo.{StopNo}
use Rattle.timetable.specs.declared.stop_row.StopRow.{StopRow}
use Rattle.journey_model.specs.Ids.{id_of}
use Rattle.journey_model.specs.Runs.{Run}
use Rattle.journey_model.specs.Schedules.{Schedule, run_on}
use Rattle.journey_model.specs.declared.readings.StopReading.TheVariants.{Timed}
use Rattle.stop_board.specs.Visits.{AreSorted}
use Rattle.stop_board.specs.declared.visits.Visit.{Visit}

-- the call of a visit, as a delivery of estimated timetables has it: the planned and the expected times, which stop of
-- the trip it is, counted from 1, and the board's stop
abbrev pub monitored_call : Run → StopNo → Visit → StopRow → Data
monitored_call run stop visit row =
    call_tree run (visit.position + 1) row (Timed visit.arrival visit.departure stop)

-- the journey of a visit: its trip and its service day, its route, and the call
abbrev pub monitored_journey : Table → Run → StopNo → Visit → StopRow → Data
monitored_journey table run stop visit row = object_of (
    (codes "FramedVehicleJourneyRef", framed_ref visit.day (id_of table.trips visit.trip.0))
    ∷ (codes "LineRef", string (table.route_of visit.trip.0))
    ∷ (codes "MonitoredCall", monitored_call run stop visit row)
    ∷ [])

-- the visit at the stop of that row, by its trip on its day
abbrev pub visit_of_row : Table → Run → StopNo → Visit → Option StopRow → Data
visit_of_row table run stop visit None = null
visit_of_row table run stop visit (Some row) = object_of (
    (codes "MonitoredVehicleJourney", monitored_journey table run stop visit row)
    ∷ (codes "MonitoringRef", string (id_of table.stops stop.0))
    ∷ (codes "RecordedAtTime", moment_tree visit.recorded)
    ∷ [])

abbrev pub visit_of_run : Table → StopNo → Visit → Option Run → Data
visit_of_run table stop visit None = null
visit_of_run table stop visit (Some run) =
    visit_of_row table run stop visit (slice_get run.stops visit.position)

abbrev pub visit_tree : Schedule → StopNo → Visit → Data
visit_tree schedule stop visit =
    visit_of_run schedule.table stop visit (run_on schedule visit.trip.0 visit.day)

-- the delivery of the stop's visits, and the service delivery with it
abbrev pub monitoring_tree : Schedule → StopNo → ℤ → List Visit → Data
monitoring_tree schedule stop moment visits = object_of (
    (codes "MonitoredStopVisit", array_of (map (visit_tree schedule stop) visits))
    ∷ (codes "ResponseTimestamp", moment_tree moment)
    ∷ (codes "version", string (codes "2.0"))
    ∷ [])

abbrev pub service_tree : Schedule → StopNo → ℤ → List Visit → Data
service_tree schedule stop moment visits = object_of (
    (codes "ResponseTimestamp", moment_tree moment)
    ∷ (codes "StopMonitoringDelivery", array_of (monitoring_tree schedule stop moment visits ∷ []))
    ∷ [])

-- the delivery that shows these visits at that moment, and its text without blanks
abbrev pub board_tree : Schedule → StopNo → ℤ → List Visit → Data
board_tree schedule stop moment visits = object_of (
    (codes "Siri", object_of ((codes "ServiceDelivery", service_tree schedule stop moment visits) ∷ []))
    ∷ [])

abbrev pub board_text : Schedule → StopNo → ℤ → List Visit → List ℕ
board_text schedule stop moment visits = compact_text (board_tree schedule stop moment visits)

-- the text of a board shows the first so many of its visits, sorted
pub record IsBoardText (schedule : Schedule) (stop : StopNo) (visits : List Visit) (moment : ℤ) (most : ℕ)
    (text : List ℕ) : Type 0 where
  pub sorted : List Visit
  pub are_sorted : AreSorted visits sorted
  pub shows : text ≡ board_text schedule stop moment (take most sorted)

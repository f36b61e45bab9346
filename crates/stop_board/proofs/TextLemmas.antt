-- The text of the delivery that shows visits is that of its pieces.
use Rattle.std.proofs.Common.{◌≡◌, ℕ, ℤ, ◌+◌, Bool, true, false, List, [], ◌∷◌, ◌++◌, map, codes, Option, Some, None, slice_get, refl, sym, append_assoc}
use Rattle.json.specs.Print.{escape_byte, quoted}
use Rattle.service_day.specs.DayTexts.{dashed_text}
use Rattle.service_day.specs.Utc.{moment_text}
use Rattle.serde_json.specs.Data.{Data, string}
use Rattle.serde_json.specs.Written.{comma_if, compact_text, items_text}
use Rattle.timetable.specs.Table.{Table}
use Rattle.timetable.specs.declared.numbers.StopNo.{StopNo}
use Rattle.timetable.specs.declared.stop_row.StopRow.{StopRow}
use Rattle.journey_model.specs.Ids.{id_of}
use Rattle.journey_model.specs.Runs.{Run}
use Rattle.journey_model.specs.Schedules.{Schedule, run_on}
use Rattle.journey_model.specs.declared.readings.StopReading.TheVariants.{Timed}
use Rattle.siri_json.proofs.Pieces.{in_front}
use Rattle.siri_json.specs.Trees.{items_of, moment_tree, object_of}
use Rattle.siri_json.specs.WrittenTexts.{led, led_number}
use Rattle.siri_calls.specs.Written.DeliveryTexts.{call_text}
use Rattle.siri_calls.specs.Written.DeliveryTree.{call_tree, framed_ref}
use Rattle.stop_board.specs.BoardTexts.{end_text, head_text, line_text, ref_text, tail_text, visit_text, visit_text_at, visit_text_on, visits_text}
use Rattle.stop_board.specs.BoardTree.{board_text, visit_of_row, visit_of_run, visit_tree}
use Rattle.stop_board.specs.declared.visits.Visit.{Visit}

-- a call at which the vehicle is expected
call : (run : Run) (order : ℕ) (row : StopRow) (arrival departure : ℤ) (stop : StopNo)
    → compact_text (call_tree run order row (Timed arrival departure stop)) ≡ call_text run order row (Timed arrival departure stop)
unfolding call_text escape_byte led led_number
call run order row arrival departure stop = simp append_assoc

-- the pieces of a visit, as its objects nest and in a row
visit_pieces : (first inner day_lead day trip_lead trip close route_lead route call_lead called stop_lead stop recorded_lead recorded : List ℕ)
    → first ++ ((inner ++ ((day_lead ++ (day ++ (trip_lead ++ (trip ++ close)))) ++ (route_lead ++ (route ++ (call_lead ++ (called ++ close)))))) ++ (stop_lead ++ (stop ++ (recorded_lead ++ (recorded ++ close)))))
    ≡ (((first ++ inner ++ day_lead) ++ day) ++ (trip_lead ++ trip)) ++ (((close ++ route_lead) ++ route) ++ call_lead) ++ called
    ++ (((close ++ stop_lead) ++ stop) ++ (recorded_lead ++ recorded) ++ close)
visit_pieces first inner day_lead day trip_lead trip close route_lead route call_lead called stop_lead stop recorded_lead recorded = simp append_assoc

-- a visit, by the text of its call
visit_by : (tree : Data) (day : ℤ) (trip_id route_id stop_id : List ℕ) (recorded : ℤ) (called : List ℕ) → compact_text tree ≡ called
    → compact_text (object_of ((
      codes "MonitoredVehicleJourney",
      object_of (
          (codes "FramedVehicleJourneyRef", framed_ref day trip_id)
          ∷ (codes "LineRef", string route_id)
          ∷ (codes "MonitoredCall", tree)
          ∷ []),
    )
    ∷ (codes "MonitoringRef", string stop_id)
    ∷ (codes "RecordedAtTime", moment_tree recorded)
    ∷ []))
    ≡ ref_text day trip_id ++ line_text route_id ++ called ++ end_text stop_id recorded
unfolding escape_byte led
visit_by tree day trip_id route_id stop_id recorded called same =
    rw same (visit_pieces (codes "{\"MonitoredVehicleJourney\":") (codes "{\"FramedVehicleJourneyRef\":") (codes "{\"DataFrameRef\":") (quoted (dashed_text day))
    (codes ",\"DatedVehicleJourneyRef\":") (quoted trip_id) (codes "}") (codes ",\"LineRef\":") (quoted route_id) (codes ",\"MonitoredCall\":") called
    (codes ",\"MonitoringRef\":") (quoted stop_id) (codes ",\"RecordedAtTime\":") (quoted (moment_text recorded)))

visit_row : (table : Table) (run : Run) (stop : StopNo) (visit : Visit) (row : Option StopRow)
    → compact_text (visit_of_row table run stop visit row) ≡ visit_text_at table run stop visit row
unfolding visit_text
visit_row table run stop visit None = refl
visit_row table run stop visit (Some row) =
    visit_by (call_tree run (visit.position + 1) row (Timed visit.arrival visit.departure stop)) visit.day (id_of table.trips visit.trip.0)
    (table.route_of visit.trip.0) (id_of table.stops stop.0) visit.recorded _ (call run (visit.position + 1) row visit.arrival visit.departure stop)

visit_run : (table : Table) (stop : StopNo) (visit : Visit) (run : Option Run)
    → compact_text (visit_of_run table stop visit run) ≡ visit_text_on table stop visit run
visit_run table stop visit None = refl
visit_run table stop visit (Some run) = visit_row table run stop visit (slice_get run.stops visit.position)

visits : (schedule : Schedule) (stop : StopNo) (all : List Visit) (later : Bool)
    → items_text later (items_of (map (visit_tree schedule stop) all)) ≡ visits_text later schedule stop all
visits schedule stop [] later = refl
visits schedule stop (visit ∷ others) later =
    in_front (comma_if later) _ _ _ _ (visit_run schedule.table stop visit (run_on schedule visit.trip.0 visit.day)) (visits schedule stop others true)

-- the pieces of a delivery, as its objects nest and in a row
delivery_pieces : (siri service stamp moment delivery bracket first all stamped version end close : List ℕ)
    → siri ++ ((service ++ ((stamp ++ (moment ++ (delivery ++ ((bracket ++ ((first ++ (all ++ (stamped ++ (moment ++ version)))) ++ end)) ++ close)))) ++ close)) ++ close)
    ≡ (((siri ++ service ++ stamp) ++ moment) ++ (delivery ++ bracket ++ first)) ++ all
    ++ ((stamped ++ moment) ++ (version ++ end ++ close ++ close ++ close))
delivery_pieces siri service stamp moment delivery bracket first all stamped version end close = simp append_assoc

-- the text of a delivery is its head, its visits and its tail
pub board : (schedule : Schedule) (stop : StopNo) (moment : ℤ) (all : List Visit)
    → head_text moment ++ visits_text false schedule stop all ++ tail_text moment ≡ board_text schedule stop moment all
unfolding escape_byte led
board schedule stop moment all =
    rw (← visits schedule stop all false) (sym (delivery_pieces
    (codes "{\"Siri\":") (codes "{\"ServiceDelivery\":") (codes "{\"ResponseTimestamp\":") (quoted (moment_text moment)) (codes ",\"StopMonitoringDelivery\":") (codes "[")
    (codes "{\"MonitoredStopVisit\":[") (items_text false (items_of (map (visit_tree schedule stop) all)))
    (codes ",\"ResponseTimestamp\":") (codes ",\"version\":\"2.0\"}") (codes "]") (codes "}")))

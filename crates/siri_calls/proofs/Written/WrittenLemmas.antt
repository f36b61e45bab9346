-- The text of a delivery is that of its pieces.
use Rattle.std.proofs.Common.{◌≡◌, ◌∙◌, ℕ, ℤ, ◌+◌, Bool, true, false, List, [], ◌∷◌, ◌++◌, map, codes, unwrap_or, Option, Some, None, refl, ap, sym, append_assoc, slice_get, drop}
use Rattle.std.proofs.lemmas.List.{drop_more}
use Rattle.std.proofs.lemmas.Option.{get_or_from_slice_get, slice_get_within}
use Rattle.json.specs.Print.{escape_byte, quoted}
use Rattle.service_day.specs.DayTexts.{dashed_text}
use Rattle.service_day.specs.Utc.{moment_text}
use Rattle.serde_json.specs.Data.{Items, array, boolean, string}
use Rattle.serde_json.specs.Written.{comma_if, compact_text, items_text}
use Rattle.timetable.specs.declared.stop_row.StopRow.{StopRow}
use Rattle.journey_model.specs.Ids.{id_of}
use Rattle.journey_model.specs.Runs.{Run}
use Rattle.journey_model.specs.Schedules.{Schedule, run_on}
use Rattle.journey_model.specs.declared.readings.DatedReading.{DatedReading}
use Rattle.journey_model.specs.declared.readings.StopReading.{StopReading}
use Rattle.journey_model.specs.declared.readings.StopReading.TheVariants.{Absent, Skipped, Timed}
use Rattle.siri_json.proofs.Pieces.{in_front}
use Rattle.siri_calls.specs.Written.DeliveryTree.{call_tree, call_trees_from, delivery_text, framed_ref, is_cancelled_journey, journey_of_run, journey_on, journey_tree, stop_readings}
use Rattle.siri_json.specs.Trees.{items_of, moment_tree, object_of}
use Rattle.siri_calls.specs.Written.DeliveryTexts.{call_text, calls_text, closing_text, frame_ref_text, head_text, journey_text, journey_text_on, journeys_text, opening_text, tail_text}
use Rattle.siri_json.specs.WrittenTexts.{led, led_number}

call : (run : Run) (order : ℕ) (row : StopRow) (reading : StopReading) → compact_text (call_tree run order row reading) ≡ call_text run order row reading
unfolding call_text escape_byte led led_number
call run order row Absent = simp append_assoc
call run order row Skipped = simp append_assoc
call run order row (Timed arrival departure place) = simp append_assoc

calls : (run : Run) (rows : List StopRow) (readings : List StopReading) (later : Bool) (order : ℕ)
    → items_text later (items_of (call_trees_from run order rows readings)) ≡ calls_text later run order rows readings
calls run [] readings later order = refl
calls run (row ∷ rows) [] later order = refl
calls run (row ∷ rows) (reading ∷ readings) later order =
    in_front (comma_if later) _ _ _ _ (call run order row reading) (calls run rows readings true (order + 1))

-- the pieces of a journey, as its objects nest and in a row
journey_pieces : (opening all close day_lead day trip_lead trip route_lead route recorded_lead recorded : List ℕ)
    → opening ++ ((all ++ close) ++ ((day_lead ++ (day ++ (trip_lead ++ (trip ++ close)))) ++ (route_lead ++ (route ++ (recorded_lead ++ (recorded ++ close))))))
    ≡ opening ++ all ++ ((close ++ day_lead) ++ day ++ (trip_lead ++ trip)) ++ ((close ++ route_lead) ++ route ++ (recorded_lead ++ recorded) ++ close)
journey_pieces opening all close day_lead day trip_lead trip route_lead route recorded_lead recorded = simp append_assoc

-- a journey, by the text of its calls
journey_by : (cancelled : Bool) (trees : Items) (day : ℤ) (trip_id route_id : List ℕ) (recorded : ℤ) (all : List ℕ) → items_text false trees ≡ all
    → compact_text (object_of (
    (codes "Cancellation", boolean cancelled)
    ∷ (codes "EstimatedCalls", object_of ((codes "EstimatedCall", array trees) ∷ []))
    ∷ (codes "FramedVehicleJourneyRef", framed_ref day trip_id)
    ∷ (codes "IsCompleteStopSequence", boolean true)
    ∷ (codes "LineRef", string route_id)
    ∷ (codes "RecordedAtTime", moment_tree recorded)
    ∷ []))
    ≡ opening_text cancelled ++ all ++ frame_ref_text day trip_id ++ closing_text route_id recorded
unfolding escape_byte led
journey_by true trees day trip_id route_id recorded all same =
    rw same (journey_pieces (opening_text true) all (codes "}") (codes ",\"FramedVehicleJourneyRef\":{\"DataFrameRef\":") (quoted (dashed_text day))
    (codes ",\"DatedVehicleJourneyRef\":") (quoted trip_id) (codes ",\"IsCompleteStopSequence\":true,\"LineRef\":") (quoted route_id)
    (codes ",\"RecordedAtTime\":") (quoted (moment_text recorded)))
journey_by false trees day trip_id route_id recorded all same =
    rw same (journey_pieces (opening_text false) all (codes "}") (codes ",\"FramedVehicleJourneyRef\":{\"DataFrameRef\":") (quoted (dashed_text day))
    (codes ",\"DatedVehicleJourneyRef\":") (quoted trip_id) (codes ",\"IsCompleteStopSequence\":true,\"LineRef\":") (quoted route_id)
    (codes ",\"RecordedAtTime\":") (quoted (moment_text recorded)))

journey : (schedule : Schedule) (recorded : ℤ) (one : DatedReading) (run : Run)
    → compact_text (journey_of_run schedule recorded one run) ≡ journey_text schedule.table recorded one run
unfolding journey_text
journey schedule recorded one run =
    journey_by (is_cancelled_journey one.reading) (items_of (call_trees_from run 1 run.stops (stop_readings run one.reading)))
    one.day (id_of schedule.table.trips one.trip.0) (schedule.table.route_of one.trip.0) recorded
    (calls_text false run 1 run.stops (stop_readings run one.reading)) (calls run run.stops (stop_readings run one.reading) false 1)

journey_at : (schedule : Schedule) (moment : ℤ) (one : DatedReading) (run : Option Run)
    → compact_text (journey_on schedule moment one run) ≡ journey_text_on schedule moment one run
journey_at schedule moment one None = refl
journey_at schedule moment one (Some run) = journey schedule (unwrap_or one.recorded moment) one run

journeys : (schedule : Schedule) (moment : ℤ) (all : List DatedReading) (later : Bool)
    → items_text later (items_of (map (journey_tree schedule moment) all)) ≡ journeys_text later schedule moment all
journeys schedule moment [] later = refl
journeys schedule moment (one ∷ others) later =
    in_front (comma_if later) _ _ _ _ (journey_at schedule moment one (run_on schedule one.trip.0 one.day)) (journeys schedule moment others true)

-- the pieces of a delivery, as its objects nest and in a row
delivery_pieces : (siri service delivery bracket frame first all recorded moment close end responded version : List ℕ)
    → siri ++ ((service ++ ((delivery ++ ((bracket ++ ((frame ++ ((bracket ++ ((first ++ (all ++ (recorded ++ (moment ++ close)))) ++ end)) ++ (responded ++ (moment ++ version)))) ++ end)) ++ (responded ++ (moment ++ close)))) ++ close)) ++ close)
    ≡ (siri ++ service ++ delivery ++ bracket ++ frame ++ bracket ++ first) ++ all
    ++ ((recorded ++ moment) ++ ((close ++ end ++ responded) ++ moment) ++ ((version ++ end ++ responded) ++ moment) ++ (close ++ close ++ close))
delivery_pieces siri service delivery bracket frame first all recorded moment close end responded version = simp append_assoc

-- the text of a delivery is its head, its journeys and its tail
pub delivery : (schedule : Schedule) (moment : ℤ) (all : List DatedReading)
    → head_text ++ journeys_text false schedule moment all ++ tail_text moment ≡ delivery_text schedule moment all
unfolding escape_byte led
delivery schedule moment all =
    rw (← journeys schedule moment all false) (sym (delivery_pieces
    (codes "{\"Siri\":") (codes "{\"ServiceDelivery\":") (codes "{\"EstimatedTimetableDelivery\":") (codes "[") (codes "{\"EstimatedJourneyVersionFrame\":")
    (codes "{\"EstimatedVehicleJourney\":[") (items_text false (items_of (map (journey_tree schedule moment) all)))
    (codes ",\"RecordedAtTime\":") (quoted (moment_text moment)) (codes "}") (codes "]") (codes ",\"ResponseTimestamp\":") (codes ",\"version\":\"2.0\"}")))

-- what is left from a position on begins with what stands there
dropped : {A : Type 0} (xs : List A) (position : ℕ) (x : A) → slice_get xs position ≡ Some x → drop position xs ≡ x ∷ drop (position + 1) xs
dropped xs position x here =
    drop_more xs position x (slice_get_within xs position x here) ∙ ap (λ y. y ∷ drop (position + 1) xs) (get_or_from_slice_get xs position x x here)

-- ---- one more call or journey after those that stand

-- one more piece, where what is left begins with it
pub one_more : (whole out out' comma one left left' : List ℕ) → left ≡ comma ++ one ++ left' → out' ≡ out ++ comma ++ one → out ++ left ≡ whole → out' ++ left' ≡ whole
one_more whole out out' comma one left left' is added h = rw added (sym (regrouped out comma one left') ∙ ap (λ l. out ++ l) (sym is) ∙ h)
  where
    regrouped : (a b c d : List ℕ) → a ++ (b ++ c ++ d) ≡ (a ++ b ++ c) ++ d
    regrouped a b c d = simp append_assoc

-- the call at a position and those after it
pub calls_on : (run : Run) (position : ℕ) (row : StopRow) (reading : StopReading) (all : List StopReading) (later : Bool) (order : ℕ)
    → slice_get run.stops position ≡ Some row → slice_get all position ≡ Some reading
    → calls_text later run order (drop position run.stops) (drop position all)
    ≡ comma_if later ++ call_text run order row reading ++ calls_text true run (order + 1) (drop (position + 1) run.stops) (drop (position + 1) all)
calls_on run position row reading all later order row-at reading-at =
    rw (dropped run.stops position row row-at, dropped all position reading reading-at) refl

-- ---- pieces written one after the other

-- The journeys that a delivery says are read as they are said.
use Rattle.std.proofs.Common.{◌≡◌, ℕ, ◌+◌, ◌<◌, List, [], ◌∷◌, ◌++◌, length, map, position, bytes_eq, Bool, true, false, All, Option, Some, Result, Ok, unwrap_or, append-nil, refl, ap, ap₂, ◌∙◌, ℤ}
use Rattle.std.specs.List.{list_all}
use Rattle.std.proofs.lemmas.Bool.{and_parts}
use Rattle.std.proofs.lemmas.List.Elements.{All-head, All-tail}
use Rattle.gw_base.specs.declared.member.Member.{Member}
use Rattle.serde_json.specs.Data.{Data}
use Rattle.service_day.specs.Days.{IsDay}
use Rattle.service_day.specs.DayTexts.{dashed_text}
use Rattle.gw_base.specs.Moments.{IsMoment}
use Rattle.service_day.specs.Utc.{moment_text}
use Rattle.service_day.specs.declared.zones.Rules.{Rules}
use Rattle.timetable.specs.Sound.{IsSound}
use Rattle.timetable.specs.declared.stop_row.StopRow.{StopRow}
use Rattle.gw_base.specs.Chains.{◌>>=◌}
use Rattle.journey_model.specs.Ids.{id_of}
use Rattle.journey_model.specs.Places.{keeps_places}
use Rattle.journey_model.specs.Readings.{are_near, fits_trip}
use Rattle.journey_model.specs.Records.{Recorded}
use Rattle.journey_model.specs.Runs.{Run}
use Rattle.journey_model.specs.Schedules.{Schedule, run_on}
use Rattle.journey_model.specs.declared.fault.Fault.{Fault}
use Rattle.journey_model.specs.declared.readings.DatedReading.{DatedReading}
use Rattle.journey_model.specs.declared.readings.JourneyReading.{JourneyReading}
use Rattle.journey_model.specs.declared.readings.JourneyReading.TheVariants.{Cancelled, Stops}
use Rattle.journey_model.specs.declared.readings.StopReading.{StopReading}
use Rattle.siri_calls.specs.Calls.{call_trees, calls, calls_under}
use Rattle.siri_calls.specs.Written.DeliveryTree.{call_trees_from, delivery_tree, frame_tree, framed_ref, is_cancelled_journey, journey_of_run, journey_on, journey_tree, stop_readings, service_tree, timetable_tree}
use Rattle.siri_json.specs.Trees.{items_of}
use Rattle.siri_json.specs.Fields.{required_member}
use Rattle.siri_json.specs.Forms.{day, is_object, listed, object_form, text}
use Rattle.siri_calls.specs.Frame.{Place, delivery_place, frame_place, item_place, items}
use Rattle.siri_calls.specs.Journeys.{Call, Header}
use Rattle.siri_calls.specs.Judged.{extras, journey_read, judged, run_named, taken, trip_named}
use Rattle.siri_calls.specs.Written.SaidAgain.{said_again, taken_again}
use Rattle.siri_calls.specs.Written.Sayable.{IsSayable}
use Rattle.siri_calls.specs.Verdicts.{calls_unless, header, item_read, recorded_at, relation, verdict, verdicts}
use Rattle.siri_calls.proofs.Written.SaidAgainCalls.{calls-read, no-extras, read_from, stops-read}
use Rattle.siri_json.proofs.FormLemmas.{filled-some}
use Rattle.journey_model.proofs.IdLemmas.{id-at, position-id, some-id}
use Rattle.service_day.proofs.MomentTextLemmas.{day_of-dashed_text, moment_of-moment_text, some-dashed_text, some-moment_text}
use Rattle.siri_calls.proofs.Written.SaidAgainPlain.{recorded-moment}
use Rattle.siri_calls.proofs.Written.SaidAgainRuns.{IsSoundRun, sound-run}
use Rattle.siri_calls.proofs.Written.WrittenTimes.{fits_near, fits_placed}

-- ---- the trees of calls

-- an array made of a list has the list's items
listed-items : (trees : List Data) → listed (items_of trees) ≡ trees
listed-items [] = refl
listed-items (tree ∷ trees) = ap (λ rest. tree ∷ rest) (listed-items trees)

-- each call is an object
all-objects : (run : Run) (order : ℕ) (rows : List StopRow) (readings : List StopReading) → list_all is_object (call_trees_from run order rows readings) ≡ true
all-objects run order [] readings = refl
all-objects run order (row ∷ rows) [] = refl
all-objects run order (row ∷ rows) (reading ∷ readings) = all-objects run (order + 1) rows readings

-- the trees of a journey's calls
trees-said : (schedule : Schedule) (recorded : ℤ) (one : DatedReading) (run : Run)
    → call_trees (journey_of_run schedule recorded one run) ≡ Ok (call_trees_from run 1 run.stops (stop_readings run one.reading))
trees-said schedule recorded one run =
    let trees = call_trees_from run 1 run.stops (stop_readings run one.reading) in
    rw (listed-items trees, all-objects run 1 run.stops (stop_readings run one.reading)) refl

-- ---- what a journey says before its calls

header-by : (zone : Rules) (place : Place) (at : ℤ × ℕ) (reference : Data) (on : ℤ) (id : List ℕ) (cancelled extra : Bool)
    → recorded_at zone place ≡ Ok at → required_member object_form Member.FramedVehicleJourneyRef place.tree ≡ Ok reference
    → required_member day Member.DataFrameRef reference ≡ Ok on → required_member text Member.DatedVehicleJourneyRef reference ≡ Ok id
    → relation place.tree ≡ Ok (cancelled, extra)
    → header zone place ≡ Ok (record { at = at; day = on; trip_id = id; cancelled = cancelled; extra = extra })
header-by zone place at reference on id cancelled extra time ref date name said = rw (time, ref, date, name, said) refl

-- what it says before its calls
abbrev head_of : Schedule → ℤ → DatedReading → Header
head_of schedule recorded one = record {
  at = (recorded, 0);
  day = one.day;
  trip_id = id_of schedule.table.trips one.trip.0;
  cancelled = is_cancelled_journey one.reading;
  extra = false;
}

header-said : (schedule : Schedule) (frame : Place) (recorded : ℤ) (one : DatedReading) (run : Run) → IsMoment recorded → IsDay one.day
    → 0 < length (id_of schedule.table.trips one.trip.0)
    → header schedule.zone (item_place frame (journey_of_run schedule recorded one run)) ≡ Ok (head_of schedule recorded one)
header-said schedule frame recorded one run at on id =
    let place = item_place frame (journey_of_run schedule recorded one run) in
    let reference = framed_ref one.day (id_of schedule.table.trips one.trip.0) in
    let time : recorded_at schedule.zone place ≡ Ok (recorded, 0)
    = rw (filled-some (moment_text recorded) (some-moment_text recorded), moment_of-moment_text schedule.zone recorded at) refl in
    let date : required_member day Member.DataFrameRef reference ≡ Ok one.day
    = rw (filled-some (dashed_text one.day) (some-dashed_text one.day), day_of-dashed_text one.day on) refl in
    let name : required_member text Member.DatedVehicleJourneyRef reference ≡ Ok (id_of schedule.table.trips one.trip.0)
    = rw (filled-some (id_of schedule.table.trips one.trip.0) id) refl in
    header-by schedule.zone place (recorded, 0) reference one.day (id_of schedule.table.trips one.trip.0) (is_cancelled_journey one.reading) false time refl date name refl

-- ---- how it is judged

judged-by : (schedule : Schedule) (head : Header) (all : List (Option Call)) (trip : ℕ) (run : Run) (reading : JourneyReading)
    → trip_named schedule head ≡ Ok trip → run_named schedule trip head.day ≡ Ok run → journey_read run head.cancelled all ≡ Ok reading
    → judged schedule head all ≡ Ok (taken head trip all reading)
judged-by schedule head all trip run reading known runs read = rw (known, runs, read) refl

-- the calls of a journey: none of a cancelled one is read
abbrev calls_of : Run → JourneyReading → List (Option Call)
calls_of run Cancelled = []
calls_of run (Stops readings) = read_from run 0 run.stops readings

none-extra : (run : Run) (reading : JourneyReading) → extras (calls_of run reading) ≡ 0
none-extra run Cancelled = refl
none-extra run (Stops readings) = no-extras run 0 run.stops readings

journey-read : (run : Run) (reading : JourneyReading) → IsSoundRun run → fits_trip run reading ≡ true
    → journey_read run (is_cancelled_journey reading) (calls_of run reading) ≡ Ok reading
journey-read run Cancelled sound fits = refl
journey-read run (Stops readings) sound fits =
    let parts = and_parts (are_near run.start run.stops readings) (keeps_places run readings) fits in
    stops-read run readings sound parts.0 parts.1

unless-by : (zone : Rules) (tree : Data) (trees : List Data) (all : List (Option Call)) → call_trees tree ≡ Ok trees → calls zone trees ≡ Ok all → calls_under zone tree ≡ Ok all
unless-by zone tree trees all first later = rw (first, later) refl

item-by : (schedule : Schedule) (place : Place) (head : Header) (all : List (Option Call)) (said : Recorded × ℕ)
    → header schedule.zone place ≡ Ok head → calls_unless head.cancelled schedule.zone place.tree ≡ Ok all → judged schedule head all ≡ Ok said
    → item_read schedule place ≡ Ok said
item-by schedule place head all said first second third = rw (first, second, third) refl

-- the calls of a journey's tree
calls-said : (schedule : Schedule) (recorded : ℤ) (one : DatedReading) (run : Run) (reading : JourneyReading) → one.reading ≡ reading → IsSoundRun run
    → fits_trip run reading ≡ true
    → calls_unless (is_cancelled_journey reading) schedule.zone (journey_of_run schedule recorded one run) ≡ Ok (calls_of run reading)
calls-said schedule recorded one run Cancelled e sound fits = refl
calls-said schedule recorded one run (Stops readings) e sound fits =
    let tree = journey_of_run schedule recorded one run in
    let same : stop_readings run one.reading ≡ readings = ap (stop_readings run) e in
    let trees : call_trees tree ≡ Ok (call_trees_from run 1 run.stops readings)
    = trees-said schedule recorded one run ∙ ap (λ all. Ok (call_trees_from run 1 run.stops all)) same in
    unless-by schedule.zone tree (call_trees_from run 1 run.stops readings) (read_from run 0 run.stops readings) trees
    (calls-read schedule.zone run 0 run.stops readings sound sound.known sound.timed (fits_near run (Stops readings) fits) (fits_placed run (Stops readings) fits))

run-named : (schedule : Schedule) (trip : ℕ) (on : ℤ) (run : Run) → run_on schedule trip on ≡ Some run → schedule.table.runs trip on ≡ true → run_named schedule trip on ≡ Ok run
run-named schedule trip on run found runs = rw (found, runs) refl

trip-named : (schedule : Schedule) (head : Header) (trip : ℕ) → head.extra ≡ false → position (bytes_eq head.trip_id) schedule.table.trips ≡ Some trip → trip_named schedule head ≡ Ok trip
trip-named schedule head trip none found = rw (none, found) refl

-- a journey that is said is taken with the reading that it has
verdict-said : (schedule : Schedule) (frame : Place) (moment : ℤ) (one : DatedReading) → IsSound schedule.table → IsMoment moment → IsSayable schedule one
    → verdict schedule (item_place frame (journey_tree schedule moment one)) ≡ taken_again moment one
verdict-said schedule frame moment one sound at h =
    let run = h.servable.run in
    let recorded = unwrap_or one.recorded moment in
    let when : IsMoment recorded = recorded-moment one.recorded moment h.is_recorded at in
    let sound-one = sound-run schedule one sound h in
    let head = head_of schedule recorded one in
    let all = calls_of run one.reading in
    let tree = journey_of_run schedule recorded one run in
    let place = item_place frame tree in
    let id = some-id (id_of schedule.table.trips one.trip.0) (id-at schedule.table.trips one.trip.0 sound.trips h.servable.trip_in) in
    let said = header-said schedule frame recorded one run when h.is_day id in
    let calls-read = calls-said schedule recorded one run one.reading refl sound-one h.servable.fits in
    let trip = trip-named schedule head one.trip.0 refl (position-id schedule.table.trips one.trip.0 sound.trips h.servable.trip_in) in
    let named = run-named schedule one.trip.0 one.day run h.servable.on_day h.servable.runs in
    let read = journey-read run one.reading sound-one h.servable.fits in
    let judgement = judged-by schedule head all one.trip.0 run one.reading trip named read in
    let whole = item-by schedule place head all (taken head one.trip.0 all one.reading) said calls-read judgement in
    ap (λ found. verdict schedule (item_place frame (journey_on schedule moment one found))) h.servable.on_day
    ∙ whole
    ∙ ap (λ count. Ok (said_again moment one, count)) (none-extra run one.reading)

-- ---- the way down to the journeys

-- the frame of a delivery
abbrev frame_of : Schedule → ℤ → List DatedReading → Place
frame_of schedule moment journeys =
    frame_place (delivery_place (service_tree schedule moment journeys) (timetable_tree schedule moment journeys)) (frame_tree schedule moment journeys)

items-said : (schedule : Schedule) (moment : ℤ) (journeys : List DatedReading)
    → items (delivery_tree schedule moment journeys) ≡ Ok (map (item_place (frame_of schedule moment journeys)) (map (journey_tree schedule moment) journeys))
items-said schedule moment journeys =
    let frame = frame_of schedule moment journeys in
    let trees = map (journey_tree schedule moment) journeys in
    let way : items (delivery_tree schedule moment journeys) ≡ Ok (map (item_place frame) (listed (items_of trees)) ++ []) = refl in
    way ∙ ap Ok (append-nil (map (item_place frame) (listed (items_of trees))) ∙ ap (map (item_place frame)) (listed-items trees))

all-said : (schedule : Schedule) (frame : Place) (moment : ℤ) (journeys : List DatedReading) → IsSound schedule.table → IsMoment moment → All (IsSayable schedule) journeys
    → map (verdict schedule) (map (item_place frame) (map (journey_tree schedule moment) journeys)) ≡ map (taken_again moment) journeys
all-said schedule frame moment [] sound at all = refl
all-said schedule frame moment (one ∷ others) sound at all =
    ap₂ (λ (a : Result (Recorded × ℕ) Fault) (b : List (Result (Recorded × ℕ) Fault)). a ∷ b)
    (verdict-said schedule frame moment one sound at (All-head (IsSayable schedule) one others all))
    (all-said schedule frame moment others sound at (All-tail (IsSayable schedule) one others all))

-- the verdicts on the journeys of a delivery
pub verdicts-said : (schedule : Schedule) (moment : ℤ) (journeys : List DatedReading) → IsSound schedule.table → IsMoment moment → All (IsSayable schedule) journeys
    → verdicts schedule (delivery_tree schedule moment journeys) ≡ Ok (map (taken_again moment) journeys)
verdicts-said schedule moment journeys sound at all =
    ap (λ found. found >>= λ places. Ok (map (verdict schedule) places)) (items-said schedule moment journeys)
    ∙ ap Ok (all-said schedule (frame_of schedule moment journeys) moment journeys sound at all)

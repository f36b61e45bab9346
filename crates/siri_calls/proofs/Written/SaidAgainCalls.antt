-- The calls that a delivery says are read as the calls of their stops, which read as the journey does.
use Rattle.std.proofs.Common.{◌≡◌, ℕ, zero, suc, ◌+◌, ◌-◌, ◌<◌, ◌≤◌, List, [], ◌∷◌, length, map, drop, find, slice_get, Bool, true, false, ◌==◌, nat_lt, nat_le, cond, Option, Some, None, Ok, arith, add-one, le-leb, ltb-true, refl, sym, ap, ap₂, ◌∙◌, subst, ℤ, ◌-ℤ◌}
use Rattle.std.specs.List.{list_all, range_with_len}
use Rattle.std.specs.Option.{option_or}
use Rattle.std.proofs.lemmas.Bool.{and_parts}
use Rattle.gw_base.specs.declared.member.Member.{Member}
use Rattle.serde_json.specs.Data.{Data}
use Rattle.service_day.specs.Utc.{moment_text}
use Rattle.service_day.specs.declared.zones.Rules.{Rules}
use Rattle.timetable.specs.Planned.{planned}
use Rattle.timetable.specs.Stops.{is_timed}
use Rattle.timetable.specs.declared.stop_row.StopRow.{StopRow}
use Rattle.journey_model.specs.Ids.{id_of}
use Rattle.journey_model.specs.Matching.{call_position, fits_order, is_of_station, position_after, stands_at}
use Rattle.journey_model.specs.Places.{are_placed, is_placed, keeps_places, places_limit, readings_size}
use Rattle.journey_model.specs.Readings.{are_near, is_near}
use Rattle.journey_model.specs.Runs.{Run, planned_at}
use Rattle.journey_model.specs.Times.{delay_fault, is_delay}
use Rattle.journey_model.specs.declared.readings.JourneyReading.TheVariants.{Stops}
use Rattle.journey_model.specs.declared.readings.StopReading.{StopReading}
use Rattle.journey_model.specs.declared.readings.StopReading.TheVariants.{Absent, Skipped, Timed}
use Rattle.journey_model.proofs.NearLemmas.{are_moments}
use Rattle.siri_calls.specs.Calls.{call, calls, event, statuses}
use Rattle.siri_calls.specs.Written.DeliveryTree.{call_tree, call_trees_from, called_at}
use Rattle.siri_json.specs.Fields.{optional_member, required_member}
use Rattle.siri_json.specs.Forms.{flag, text, whole}
use Rattle.siri_calls.specs.Journeys.{Call}
use Rattle.siri_calls.specs.Judged.{all_dense, delays_fault, dense, call_reading, extras, fault_of_delay, numbered, placed_calls, reading_at, stop_named, stops_named, stops_read}
use Rattle.siri_json.proofs.FormLemmas.{filled-some}
use Rattle.journey_model.proofs.IdLemmas.{id-at, position-id, some-id}
use Rattle.service_day.proofs.MomentTextLemmas.{moment_of-moment_text, some-moment_text}
use Rattle.siri_calls.proofs.Written.SaidAgainRuns.{IsSoundRun}
use Rattle.siri_calls.proofs.Written.WrittenTimes.{called_known, called_station}
use Rattle.siri_calls.proofs.DenseLemmas.{other-above}
use Rattle.siri_calls.proofs.StationLemmas.{same-number, stands-any}

-- ---- what each call is read as

abbrev skips : StopReading → Bool
skips Absent = false
skips Skipped = true
skips (Timed arrival departure place) = false

abbrev arrival_said : StopReading → Option ℤ
arrival_said Absent = None
arrival_said Skipped = None
arrival_said (Timed arrival departure place) = Some arrival

abbrev departure_said : StopReading → Option ℤ
departure_said Absent = None
departure_said Skipped = None
departure_said (Timed arrival departure place) = Some departure

-- the call at a stop, which counts from 1
abbrev said_call : Run → ℕ → StopRow → StopReading → Call
said_call run order row reading = record {
  stop = id_of run.ids (called_at row reading);
  order = Some order;
  skip = skips reading;
  arrival = arrival_said reading;
  departure = departure_said reading;
}

-- a call by its members
call-by : (zone : Rules) (tree : Data) (stop : List ℕ) (order : ℕ) (skip : Bool) (arrival departure : Option ℤ)
    → optional_member flag Member.ExtraCall tree ≡ Ok None → required_member text Member.StopPointRef tree ≡ Ok stop → optional_member whole Member.Order tree ≡ Ok (Some order)
    → statuses tree ≡ Ok (record { skip = skip; no_arrival = false; no_departure = false })
    → event zone false Member.ActualArrivalTime Member.ExpectedArrivalTime tree ≡ Ok arrival
    → event zone false Member.ActualDepartureTime Member.ExpectedDepartureTime tree ≡ Ok departure
    → call zone tree ≡ Ok (Some (record { stop = stop; order = Some order; skip = skip; arrival = arrival; departure = departure }))
call-by zone tree stop order skip arrival departure extra ref number said first last = rw (extra, ref, number, said, first, last) refl

call-read : (zone : Rules) (run : Run) (order : ℕ) (row : StopRow) (reading : StopReading) → IsSoundRun run → 0 < length (id_of run.ids (called_at row reading)) → is_timed row ≡ true
    → is_near (planned run.start row) reading ≡ true → call zone (call_tree run order row reading) ≡ Ok (Some (said_call run order row reading))
call-read zone run order row Absent sound id timed near =
    let tree = call_tree run order row Absent in
    let ref : required_member text Member.StopPointRef tree ≡ Ok (id_of run.ids row.stop.0) = rw (filled-some (id_of run.ids row.stop.0) id) refl in
    call-by zone tree (id_of run.ids row.stop.0) order false None None refl ref refl refl refl refl
call-read zone run order row Skipped sound id timed near =
    let tree = call_tree run order row Skipped in
    let ref : required_member text Member.StopPointRef tree ≡ Ok (id_of run.ids row.stop.0) = rw (filled-some (id_of run.ids row.stop.0) id) refl in
    call-by zone tree (id_of run.ids row.stop.0) order true None None refl ref refl refl refl refl
call-read zone run order row (Timed arrival departure place) sound id timed near =
    let tree = call_tree run order row (Timed arrival departure place) in
    let said = are_moments run.start row (Timed arrival departure place) sound.start timed near in
    let ref : required_member text Member.StopPointRef tree ≡ Ok (id_of run.ids place.0) = rw (filled-some (id_of run.ids place.0) id) refl in
    let first : event zone false Member.ActualArrivalTime Member.ExpectedArrivalTime tree ≡ Ok (Some arrival)
    = rw (filled-some (moment_text arrival) (some-moment_text arrival), moment_of-moment_text zone arrival said.0) refl in
    let last : event zone false Member.ActualDepartureTime Member.ExpectedDepartureTime tree ≡ Ok (Some departure)
    = rw (filled-some (moment_text departure) (some-moment_text departure), moment_of-moment_text zone departure said.1) refl in
    call-by zone tree (id_of run.ids place.0) order false (Some arrival) (Some departure) refl ref refl refl first last

-- the calls at the stops from a position on
abbrev pub read_from : Run → ℕ → List StopRow → List StopReading → List (Option Call)
read_from run position [] readings = []
read_from run position (row ∷ rows) [] = []
read_from run position (row ∷ rows) (reading ∷ readings) = Some (said_call run (position + 1) row reading) ∷ read_from run (position + 1) rows readings

-- one call, and then others
calls-cons : (zone : Rules) (tree : Data) (trees : List Data) (one : Option Call) (others : List (Option Call)) → call zone tree ≡ Ok one → calls zone trees ≡ Ok others
    → calls zone (tree ∷ trees) ≡ Ok (one ∷ others)
calls-cons zone tree trees one others first rest = rw (first, rest) refl

pub calls-read : (zone : Rules) (run : Run) (position : ℕ) (rows : List StopRow) (readings : List StopReading) → IsSoundRun run
    → list_all (λ row. nat_lt row.stop.0 (length run.ids)) rows ≡ true → list_all is_timed rows ≡ true → are_near run.start rows readings ≡ true → are_placed run rows readings ≡ true
    → calls zone (call_trees_from run (position + 1) rows readings) ≡ Ok (read_from run position rows readings)
calls-read zone run position [] readings sound known timed near placed = refl
calls-read zone run position (row ∷ rows) [] sound known timed near placed = refl
calls-read zone run position (row ∷ rows) (reading ∷ readings) sound known timed near placed =
    let knowns = and_parts (nat_lt row.stop.0 (length run.ids)) _ known in
    let times = and_parts (is_timed row) (list_all is_timed rows) timed in
    let nears = and_parts (is_near (planned run.start row) reading) (are_near run.start rows readings) near in
    let places = and_parts (is_placed run row reading) (are_placed run rows readings) placed in
    let called = called_known run row reading knowns.0 places.0 in
    let id = some-id (id_of run.ids (called_at row reading)) (id-at run.ids (called_at row reading) sound.ids (ltb-true _ _ called)) in
    calls-cons zone (call_tree run (position + 1) row reading) (call_trees_from run (position + 1 + 1) rows readings) (Some (said_call run (position + 1) row reading)) (read_from run (position + 1) rows readings)
    (call-read zone run (position + 1) row reading sound id times.0 nears.0)
    (calls-read zone run (position + 1) rows readings sound knowns.1 times.1 nears.1 places.1)

-- no call is an extra one
pub no-extras : (run : Run) (position : ℕ) (rows : List StopRow) (readings : List StopReading) → extras (read_from run position rows readings) ≡ 0
no-extras run position [] readings = refl
no-extras run position (row ∷ rows) [] = refl
no-extras run position (row ∷ rows) (reading ∷ readings) = no-extras run (position + 1) rows readings

-- ---- their stops and their places

abbrev named_from : Run → ℕ → List StopRow → List StopReading → List (ℕ × (ℕ × Call))
named_from run position [] readings = []
named_from run position (row ∷ rows) [] = []
named_from run position (row ∷ rows) (reading ∷ readings) = (called_at row reading, (position, said_call run (position + 1) row reading)) ∷ named_from run (position + 1) rows readings

abbrev placed_from : Run → ℕ → List StopRow → List StopReading → List (ℕ × (ℕ × (ℕ × Call)))
placed_from run position [] readings = []
placed_from run position (row ∷ rows) [] = []
placed_from run position (row ∷ rows) (reading ∷ readings) = (position, (called_at row reading, (position, said_call run (position + 1) row reading))) ∷ placed_from run (position + 1) rows readings

-- the first of what is left of a list, and what is left after it
slice_get-drop : {A : Type 0} (xs : List A) (i : ℕ) (x : A) (rest : List A) → drop i xs ≡ x ∷ rest → slice_get xs i ≡ Some x
slice_get-drop [] zero x rest e = absurd (cc)
slice_get-drop [] (suc i) x rest e = absurd (cc)
slice_get-drop (y ∷ ys) zero x rest e = cc
slice_get-drop (y ∷ ys) (suc i) x rest e = slice_get-drop ys i x rest e

drop-after : {A : Type 0} (xs : List A) (i : ℕ) (x : A) (rest : List A) → drop i xs ≡ x ∷ rest → drop (i + 1) xs ≡ rest
drop-after xs i x rest e = rw add-one (by xs i x rest e)
  where
    by : {A : Type 0} (xs : List A) (i : ℕ) (x : A) (rest : List A) → drop i xs ≡ x ∷ rest → drop (suc i) xs ≡ rest
    by [] zero x rest e = absurd (cc)
    by [] (suc i) x rest e = absurd (cc)
    by (y ∷ ys) zero x rest e = cc
    by (y ∷ ys) (suc i) x rest e = by ys i x rest e

-- the row at a position is of the station of its call
there : (run : Run) (position : ℕ) (row : StopRow) (reading : StopReading) (rest : List StopRow) → is_placed run row reading ≡ true → drop position run.stops ≡ row ∷ rest
    → stands_at (is_of_station run.station_of (called_at row reading)) position run.stops ≡ true
there run position row reading rest placed at = rw (slice_get-drop run.stops position row rest at) (called_station run row reading placed)

stop-named : (run : Run) (position : ℕ) (row : StopRow) (reading : StopReading) (rest : List StopRow) → IsSoundRun run → nat_lt row.stop.0 (length run.ids) ≡ true → is_placed run row reading ≡ true
    → drop position run.stops ≡ row ∷ rest → stop_named run (id_of run.ids (called_at row reading)) ≡ Some (called_at row reading)
stop-named run position row reading rest sound known placed at =
    let called = ltb-true _ _ (called_known run row reading known placed) in
    let among = stands-any (is_of_station run.station_of (called_at row reading)) position run.stops (there run position row reading rest placed at) in
    rw (position-id run.ids (called_at row reading) sound.ids called, among) refl

named-cons : (run : Run) (one : ℕ × Call) (others : List (ℕ × Call)) (stop : ℕ) (rest : List (ℕ × (ℕ × Call))) → stop_named run one.1.stop ≡ Some stop → stops_named run others ≡ Ok rest
    → stops_named run (one ∷ others) ≡ Ok ((stop, one) ∷ rest)
named-cons run one others stop rest first later = rw (first, later) refl

stops-named : (run : Run) (position : ℕ) (rows : List StopRow) (readings : List StopReading) → IsSoundRun run
    → list_all (λ row. nat_lt row.stop.0 (length run.ids)) rows ≡ true → are_placed run rows readings ≡ true → drop position run.stops ≡ rows
    → stops_named run (numbered position (read_from run position rows readings)) ≡ Ok (named_from run position rows readings)
stops-named run position [] readings sound known placed at = refl
stops-named run position (row ∷ rows) [] sound known placed at = refl
stops-named run position (row ∷ rows) (reading ∷ readings) sound known placed at =
    let places = and_parts (is_placed run row reading) (are_placed run rows readings) placed in
    let knowns = and_parts (nat_lt row.stop.0 (length run.ids)) _ known in
    named-cons run (position, said_call run (position + 1) row reading) (numbered (position + 1) (read_from run (position + 1) rows readings)) (called_at row reading) (named_from run (position + 1) rows readings)
    (stop-named run position row reading rows sound knowns.0 places.0 at)
    (stops-named run (position + 1) rows readings sound knowns.1 places.1 (drop-after run.stops position row rows at))

-- the stop of a call is that of its order
placed-here : (run : Run) (after : Option ℕ) (position : ℕ) (row : StopRow) (reading : StopReading) (rest : List StopRow) → position_after after ≡ position → is_placed run row reading ≡ true
    → drop position run.stops ≡ row ∷ rest → call_position run.station_of run.stops after (called_at row reading) (Some (position + 1)) ≡ Some position
placed-here run after position row reading rest left placed at =
    let test = is_of_station run.station_of (called_at row reading) in
    let back : position + 1 - 1 ≡ position = omega arith in
    let low : nat_le 1 (position + 1) ≡ true = le-leb 1 (position + 1) (omega arith) in
    let from : nat_le position position ≡ true = le-leb position position (omega arith) in
    let fits : fits_order test (position_after after) (position + 1) run.stops ≡ true = rw (left, back, low, from, there run position row reading rest placed at) refl in
    rw (fits, back) refl

placed-cons : (run : Run) (after : Option ℕ) (one : ℕ × (ℕ × Call)) (others : List (ℕ × (ℕ × Call))) (position : ℕ) (rest : List (ℕ × (ℕ × (ℕ × Call))))
    → call_position run.station_of run.stops after one.0 one.1.1.order ≡ Some position → placed_calls run (Some position) others ≡ Ok rest
    → placed_calls run after (one ∷ others) ≡ Ok ((position, one) ∷ rest)
placed-cons run after one others position rest first later = rw (first, later) refl

calls-placed : (run : Run) (after : Option ℕ) (position : ℕ) (rows : List StopRow) (readings : List StopReading) → position_after after ≡ position → are_placed run rows readings ≡ true
    → drop position run.stops ≡ rows → placed_calls run after (named_from run position rows readings) ≡ Ok (placed_from run position rows readings)
calls-placed run after position [] readings left placed at = refl
calls-placed run after position (row ∷ rows) [] left placed at = refl
calls-placed run after position (row ∷ rows) (reading ∷ readings) left placed at =
    let places = and_parts (is_placed run row reading) (are_placed run rows readings) placed in
    placed-cons run after (called_at row reading, (position, said_call run (position + 1) row reading)) (named_from run (position + 1) rows readings) position (placed_from run (position + 1) rows readings)
    (placed-here run after position row reading rows left places.0 at)
    (calls-placed run (Some position) (position + 1) rows readings refl places.1 (drop-after run.stops position row rows at))

-- ---- no delay is over a week

planned-here : (run : Run) (position : ℕ) (row : StopRow) (rest : List StopRow) → drop position run.stops ≡ row ∷ rest → planned_at run position ≡ planned run.start row
planned-here run position row rest at = rw (slice_get-drop run.stops position row rest at) refl

no-fault : (number : ℕ) (plan : ℤ × ℤ) (reading : StopReading) → is_near plan reading ≡ true
    → cond (skips reading) None (delay_fault number plan (arrival_said reading) (departure_said reading)) ≡ None
no-fault number plan Absent near = refl
no-fault number plan Skipped near = refl
no-fault number plan (Timed arrival departure place) near =
    let nears = and_parts (is_delay (arrival -ℤ plan.0)) (is_delay (departure -ℤ plan.1)) near in
    rw (nears.0, nears.1) refl

no-faults : (run : Run) (position : ℕ) (rows : List StopRow) (readings : List StopReading) → drop position run.stops ≡ rows → are_near run.start rows readings ≡ true
    → delays_fault run (placed_from run position rows readings) ≡ None
no-faults run position [] readings at near = refl
no-faults run position (row ∷ rows) [] at near = refl
no-faults run position (row ∷ rows) (reading ∷ readings) at near =
    let nears = and_parts (is_near (planned run.start row) reading) (are_near run.start rows readings) near in
    let first : fault_of_delay run (position, (called_at row reading, (position, said_call run (position + 1) row reading))) ≡ None
    = subst (λ plan. cond (skips reading) None (delay_fault position plan (arrival_said reading) (departure_said reading)) ≡ None) (sym (planned-here run position row rows at)) (no-fault position (planned run.start row) reading nears.0) in
    ap (λ found. option_or found (delays_fault run (placed_from run (position + 1) rows readings))) first
    ∙ no-faults run (position + 1) rows readings (drop-after run.stops position row rows at) nears.1

-- ---- each stop reads as the journey says

abbrev finds : List (ℕ × (ℕ × (ℕ × Call))) → ℕ → Option (ℕ × (ℕ × (ℕ × Call)))
finds placed position = find (λ one. one.0 == position) placed

reads-as : (plan : ℤ × ℤ) (run : Run) (order : ℕ) (row : StopRow) (reading : StopReading) → call_reading plan (called_at row reading) (said_call run order row reading) ≡ reading
reads-as plan run order row Absent = refl
reads-as plan run order row Skipped = refl
reads-as plan run order row (Timed arrival departure place) = refl

dense-from : (run : Run) (placed : List (ℕ × (ℕ × (ℕ × Call)))) (position : ℕ) (rows : List StopRow) (readings : List StopReading) → are_near run.start rows readings ≡ true
    → ((j : ℕ) → position ≤ j → finds placed j ≡ finds (placed_from run position rows readings) j)
    → map (dense run placed) (range_with_len position (length rows)) ≡ readings
dense-from run placed position [] [] near same = refl
dense-from run placed position [] (reading ∷ readings) near same = absurd (cc)
dense-from run placed position (row ∷ rows) [] near same = absurd (cc)
dense-from run placed position (row ∷ rows) (reading ∷ readings) near same =
    let nears = and_parts (is_near (planned run.start row) reading) (are_near run.start rows readings) near in
    let one : ℕ × (ℕ × (ℕ × Call)) = (position, (called_at row reading, (position, said_call run (position + 1) row reading))) in
    let later = placed_from run (position + 1) rows readings in
    let here : finds placed position ≡ Some one = same position (omega arith) ∙ ap (λ b. cond b (Some one) (finds later position)) (same-number position) in
    let there = λ (j : ℕ) (h : position + 1 ≤ j). same j (omega arith) ∙ ap (λ b. cond b (Some one) (finds later j)) (other-above position j (omega arith)) in
    let first : dense run placed position ≡ reading = ap (reading_at run position) here ∙ reads-as (planned_at run position) run (position + 1) row reading in
    let rest = dense-from run placed (position + 1) rows readings nears.1 there in
    ap₂ (λ (a : StopReading) (b : List StopReading). a ∷ b) first rest

-- the calls read as the journey does
pub stops-read : (run : Run) (readings : List StopReading) → IsSoundRun run → are_near run.start run.stops readings ≡ true → keeps_places run readings ≡ true
    → stops_read run (read_from run 0 run.stops readings) ≡ Ok (Stops readings)
stops-read run readings sound near keeps =
    let parts = and_parts (are_placed run run.stops readings) (nat_le (readings_size run.ids run.stops readings) places_limit) keeps in
    let placed = placed_from run 0 run.stops readings in
    let named = stops-named run 0 run.stops readings sound sound.known parts.0 refl in
    let at = calls-placed run None 0 run.stops readings refl parts.0 refl in
    let faults = no-faults run 0 run.stops readings refl near in
    let all : all_dense run placed ≡ readings = dense-from run placed 0 run.stops readings near (λ j h. refl) in
    rw (named, at, faults, all, parts.1) refl

-- What is recorded of a journey can be served.
use Rattle.std.proofs.Common.{◌≡◌, ◌∙◌, ◌<◌, ◌+◌, ◌==◌, ◌&&◌, ℕ, ℤ, pos, ◌+ℤ◌, ◌-ℤ◌, zero, suc, nat_le, nat_lt, Bool, true, false, cond, List, [], ◌∷◌, length, map, find, position, slice_get, Option, Some, None, Result, Ok, Err, refl, ap, arith, subst, add-zero}
use Rattle.std.specs.List.{list_all, list_any, range_with_len}
use Rattle.std.specs.Prelude.{IfOk, option_and_then}
use Rattle.std.specs.Option.{ok_or, option_map_or}
use Rattle.std.specs.Cmp.Derive.{both_true}
use Rattle.std.specs.Str.{bytes_eq}
use Rattle.std.proofs.lemmas.Bool.{and_parts, lt-ltb}
use Rattle.std.proofs.lemmas.Bool.Decides.{nat_tests}
use Rattle.std.proofs.lemmas.Int.{ints}
use Rattle.std.proofs.lemmas.List.Quantifiers.{position-Some}
use Rattle.gw_base.specs.Chains.{unless_fault, ◌>>=◌}
use Rattle.gw_base.proofs.Elements.{all_more, or_neither}
use Rattle.journey_model.specs.Matching.{call_position, is_of_station, stands_at}
use Rattle.journey_model.specs.Places.{are_placed, is_placed, places_fault, places_limit, readings_size}
use Rattle.journey_model.specs.Propagation.{timed}
use Rattle.journey_model.specs.Readings.{are_near, fits_trip, is_near}
use Rattle.journey_model.specs.Records.{recorded}
use Rattle.journey_model.specs.Runs.{Run, planned_at}
use Rattle.journey_model.specs.Schedules.{Schedule, run_on}
use Rattle.journey_model.specs.Times.{both_times, delay_fault, event_fault, is_delay}
use Rattle.journey_model.specs.declared.fault.Fault.{Fault}
use Rattle.journey_model.specs.declared.fault.Fault.TheVariants.{NotRunning, OutOfOrder, OutOfWindow, PlacesTooLong, UnknownJourney, UnknownStop}
use Rattle.journey_model.specs.declared.readings.JourneyReading.{JourneyReading}
use Rattle.journey_model.specs.declared.readings.JourneyReading.TheVariants.{Cancelled, Stops}
use Rattle.journey_model.specs.declared.readings.JourneyRecord.{JourneyRecord}
use Rattle.journey_model.specs.declared.readings.StopReading.{StopReading}
use Rattle.journey_model.specs.declared.readings.StopReading.TheVariants.{Skipped}
use Rattle.journey_model.proofs.Delays.{event_near}
use Rattle.timetable.specs.Planned.{planned}
use Rattle.timetable.specs.declared.numbers.StopNo.{StopNo}
use Rattle.timetable.specs.declared.stop_row.StopRow.{StopRow}
use Rattle.siri_calls.specs.Deliveries.{AreServable, CanServe, HasTaken}
use Rattle.siri_calls.specs.Journeys.{Call, Header}
use Rattle.siri_calls.specs.Judged as spec
use Rattle.siri_calls.specs.Servable.{IsServable}
use Rattle.siri_calls.proofs.StationLemmas.{call-stands, other-way}
use Rattle.siri_json.specs.Deliveries.{IsAdded, shown}
use Rattle.siri_json.specs.declared.delivery.Delivery.{Delivery}
use Rattle.siri_json.specs.declared.delivery.Item.TheVariants.{Aside, Taken}

shifted : (plan delay : ℤ) → (plan +ℤ delay) -ℤ plan ≡ delay
shifted plan delay = omega (arith, ints)

-- the times of events without a fault are near
times-near : (place : StopNo) (number : ℕ) (plan : ℤ × ℤ) (arrival departure : Option ℤ) → delay_fault number plan arrival departure ≡ None
    → is_near plan (timed place (both_times plan arrival departure)) ≡ true
times-near place number plan (Some arrival) (Some departure) none =
    let both = or_neither (event_fault number plan.0 (Some arrival)) (event_fault number plan.1 (Some departure)) none in
    both_true (event_near number plan.0 arrival both.0) (event_near number plan.1 departure both.1)
times-near place number plan (Some arrival) None none =
    let both = or_neither (event_fault number plan.0 (Some arrival)) None none in
    let near : is_delay (arrival -ℤ plan.0) ≡ true = event_near number plan.0 arrival both.0 in
    both_true near (ap is_delay (shifted plan.1 (arrival -ℤ plan.0)) ∙ near)
times-near place number plan None (Some departure) none =
    let near : is_delay (departure -ℤ plan.1) ≡ true = event_near number plan.1 departure none in
    both_true (ap is_delay (shifted plan.0 (departure -ℤ plan.1)) ∙ near) near
times-near place number plan None None none = refl

call-near : (place : StopNo) (number : ℕ) (plan : ℤ × ℤ) (skip : Bool) (arrival departure : Option ℤ) → cond skip None (delay_fault number plan arrival departure) ≡ None
    → is_near plan (cond skip Skipped (timed place (both_times plan arrival departure))) ≡ true
call-near place number plan true arrival departure none = refl
call-near place number plan false arrival departure none = times-near place number plan arrival departure none

-- what is found at a position is there
found-here : (place : ℕ) (placed : List (ℕ × (ℕ × (ℕ × Call)))) (one : ℕ × (ℕ × (ℕ × Call))) → find (λ other. other.0 == place) placed ≡ Some one → one.0 ≡ place
found-here place [] one found = absurd (cc)
found-here place (first ∷ others) one found = by (first.0 == place) refl found (found-here place others one)
  where
    by : (b : Bool) → (first.0 == place) ≡ b → cond b (Some first) (find (λ other. other.0 == place) others) ≡ Some one
        → (find (λ other. other.0 == place) others ≡ Some one → one.0 ≡ place) → one.0 ≡ place
    by true e h later =
        let same : first ≡ one = cc in
        let here : first.0 ≡ place = grind (arith, nat_tests) in
        subst (λ x. x.0 ≡ place) same here
    by false e h later = later h

-- of calls without such a fault, one that is found at a position has none and is at the position
found-near : (run : Run) (placed : List (ℕ × (ℕ × (ℕ × Call)))) (position : ℕ) (one : ℕ × (ℕ × (ℕ × Call))) → spec.delays_fault run placed ≡ None
    → find (λ other. other.0 == position) placed ≡ Some one → (spec.fault_of_delay run one ≡ None) × (one.0 ≡ position)
found-near run [] position one none found = absurd (cc)
found-near run (first ∷ others) position one none found =
    by (first.0 == position) refl found (found-near run others position one (or_neither (spec.fault_of_delay run first) _ none).1)
  where
    by : (b : Bool) → (first.0 == position) ≡ b → cond b (Some first) (find (λ other. other.0 == position) others) ≡ Some one
        → (find (λ other. other.0 == position) others ≡ Some one → (spec.fault_of_delay run one ≡ None) × (one.0 ≡ position))
        → (spec.fault_of_delay run one ≡ None) × (one.0 ≡ position)
    by true e h later =
        let same : first ≡ one = cc in
        let here : first.0 ≡ position = grind (arith, nat_tests) in
        (subst (λ x. spec.fault_of_delay run x ≡ None) same (or_neither (spec.fault_of_delay run first) (spec.delays_fault run others) none).0, subst (λ x. x.0 ≡ position) same here)
    by false e h later = later h

dense-near : (run : Run) (placed : List (ℕ × (ℕ × (ℕ × Call)))) (position : ℕ) → spec.delays_fault run placed ≡ None
    → is_near (planned_at run position) (spec.dense run placed position) ≡ true
dense-near run placed position none = by (find (λ one. one.0 == position) placed) refl
  where
    by : (found : Option (ℕ × (ℕ × (ℕ × Call)))) → find (λ one. one.0 == position) placed ≡ found → is_near (planned_at run position) (spec.reading_at run position found) ≡ true
    by None e = refl
    by (Some one) e =
        let near = found-near run placed position one none e in
        let fault = subst (λ p. cond one.1.1.1.skip None (delay_fault one.1.1.0 (planned_at run p) one.1.1.1.arrival one.1.1.1.departure) ≡ None) near.1 near.0 in
        call-near (record { 0 = one.1.0 }) one.1.1.0 (planned_at run position) one.1.1.1.skip one.1.1.1.arrival one.1.1.1.departure fault

-- readings that are near at each position
all-near : (start : ℤ) (rows : List StopRow) (f : ℕ → StopReading) (from : ℕ)
    → ((k j : ℕ) (row : StopRow) → from + k ≡ j → slice_get rows k ≡ Some row → is_near (planned start row) (f j) ≡ true)
    → are_near start rows (map f (range_with_len from (length rows))) ≡ true
all-near start [] f from near = refl
all-near start (row ∷ rows) f from near =
    both_true (near 0 from row (add-zero from) refl)
    (all-near start rows f (from + 1) (λ k j other e at. near (suc k) j other (omega (arith, e)) at))

-- the dense reading of calls without such a fault fits their trip
dense-fits : (run : Run) (placed : List (ℕ × (ℕ × (ℕ × Call)))) → spec.delays_fault run placed ≡ None
    → are_near run.start run.stops (spec.all_dense run placed) ≡ true
dense-fits run placed none =
    all-near run.start run.stops (spec.dense run placed) 0 (λ k j row e at.
    let here : k ≡ j = omega (arith, e) in
    let there : slice_get run.stops j ≡ Some row = subst (λ i. slice_get run.stops i ≡ Some row) here at in
    subst (λ p. is_near (option_map_or (planned run.start) p (pos 0, pos 0)) (spec.dense run placed j) ≡ true) there (dense-near run placed j none))

-- ---- its places are of the stations of their stops

-- one of a list of which all pass a test
found-passes : {A : Type 0} (test other : A → Bool) (xs : List A) (x : A) → list_all test xs ≡ true → find other xs ≡ Some x → test x ≡ true
found-passes test other [] x all found = absurd (cc)
found-passes test other (first ∷ others) x all found = by (other first) found (found-passes test other others x parts.1)
  where
    parts : (test first ≡ true) × (list_all test others ≡ true)
    parts = and_parts (test first) (list_all test others) all

    by : (b : Bool) → cond b (Some first) (find other others) ≡ Some x → (find other others ≡ Some x → test x ≡ true) → test x ≡ true
    by true h later = let same : first ≡ x = cc in subst (λ y. test y ≡ true) same parts.0
    by false h later = later h

-- the stop of a call is known, and is of the station of the stop at its position
is_known : Run → ℕ × (ℕ × Call) → Bool
is_known run one = nat_lt one.0 (length run.ids)

stands : Run → ℕ × (ℕ × (ℕ × Call)) → Bool
stands run one = nat_lt one.1.0 (length run.ids) && stands_at (is_of_station run.station_of one.1.0) one.0 run.stops

stop-known : (run : Run) (id : List ℕ) (stop : ℕ) → spec.stop_named run id ≡ Some stop → nat_lt stop (length run.ids) ≡ true
stop-known run id stop h = by (position (bytes_eq id) run.ids) refl h
  where
    of : (found : ℕ) (b : Bool) → nat_lt found (length run.ids) ≡ true → cond b (Some found) None ≡ Some stop → nat_lt stop (length run.ids) ≡ true
    of found true known e = let same : found ≡ stop = cc in subst (λ n. nat_lt n (length run.ids) ≡ true) same known
    of found false known e = absurd (cc)

    by : (found : Option ℕ) → position (bytes_eq id) run.ids ≡ found → option_and_then (spec.stop_of_trip run) found ≡ Some stop → nat_lt stop (length run.ids) ≡ true
    by None e told = absurd (cc)
    by (Some found) e told =
        of found (list_any (is_of_station run.station_of found) run.stops) (lt-ltb found (length run.ids) (position-Some (bytes_eq id) run.ids found [] e).0) told

all-known : (run : Run) (all : List (ℕ × Call)) (named : List (ℕ × (ℕ × Call))) → spec.stops_named run all ≡ Ok named → list_all (is_known run) named ≡ true
unfolding is_known
all-known run [] named h = let none : [] ≡ named = cc in rw (← none) refl
all-known run (one ∷ others) named h = by (spec.stop_named run one.1.stop) refl (spec.stops_named run others) (all-known run others) h
  where
    by : (stop : Option ℕ) → spec.stop_named run one.1.stop ≡ stop → (rest : Result (List (ℕ × (ℕ × Call))) Fault)
        → ((found : List (ℕ × (ℕ × Call))) → rest ≡ Ok found → list_all (is_known run) found ≡ true)
        → (ok_or stop (UnknownStop one.0) >>= λ at. rest >>= λ found. Ok ((at, one) ∷ found)) ≡ Ok named → list_all (is_known run) named ≡ true
    by None e rest later told = absurd (cc)
    by (Some stop) e (Err fault) later told = absurd (cc)
    by (Some stop) e (Ok found) later told =
        let same : (stop, one) ∷ found ≡ named = cc in
        subst (λ list. list_all (is_known run) list ≡ true) same (both_true (stop-known run one.1.stop stop e) (later found refl))

all-stand : (run : Run) (after : Option ℕ) (named : List (ℕ × (ℕ × Call))) (placed : List (ℕ × (ℕ × (ℕ × Call)))) → list_all (is_known run) named ≡ true
    → spec.placed_calls run after named ≡ Ok placed → list_all (stands run) placed ≡ true
unfolding is_known stands
all-stand run after [] placed known h = let none : [] ≡ placed = cc in rw (← none) refl
all-stand run after (one ∷ others) placed known h =
    by (call_position run.station_of run.stops after one.0 one.1.1.order) refl (λ position. all-stand run (Some position) others) h
  where
    parts : (nat_lt one.0 (length run.ids) ≡ true) × (list_all (is_known run) others ≡ true)
    parts = and_parts (nat_lt one.0 (length run.ids)) (list_all (is_known run) others) known

    with : (position : ℕ) → call_position run.station_of run.stops after one.0 one.1.1.order ≡ Some position → (rest : Result (List (ℕ × (ℕ × (ℕ × Call)))) Fault)
        → ((found : List (ℕ × (ℕ × (ℕ × Call)))) → rest ≡ Ok found → list_all (stands run) found ≡ true)
        → (rest >>= λ found. Ok ((position, one) ∷ found)) ≡ Ok placed → list_all (stands run) placed ≡ true
    with position e (Err fault) later told = absurd (cc)
    with position e (Ok found) later told =
        let same : (position, one) ∷ found ≡ placed = cc in
        let here = both_true parts.0 (call-stands run.station_of run.stops after one.0 one.1.1.order position e) in
        subst (λ list. list_all (stands run) list ≡ true) same (both_true here (later found refl))

    by : (at : Option ℕ) → call_position run.station_of run.stops after one.0 one.1.1.order ≡ at
        → ((position : ℕ) (found : List (ℕ × (ℕ × (ℕ × Call)))) → list_all (is_known run) others ≡ true → spec.placed_calls run (Some position) others ≡ Ok found → list_all (stands run) found ≡ true)
        → (ok_or at (OutOfOrder one.1.0) >>= λ position. spec.placed_calls run (Some position) others >>= λ found. Ok ((position, one) ∷ found)) ≡ Ok placed
        → list_all (stands run) placed ≡ true
    by None e later told = absurd (cc)
    by (Some position) e later told = with position e (spec.placed_calls run (Some position) others) (λ found is. later position found parts.1 is) told

calls-stand : (run : Run) (all : List (Option Call)) (placed : List (ℕ × (ℕ × (ℕ × Call)))) → spec.calls_placed run all ≡ Ok placed → list_all (stands run) placed ≡ true
calls-stand run all placed h = by (spec.stops_named run (spec.numbered 0 all)) refl h
  where
    by : (named : Result (List (ℕ × (ℕ × Call))) Fault) → spec.stops_named run (spec.numbered 0 all) ≡ named → (named >>= λ found. spec.placed_calls run None found) ≡ Ok placed
        → list_all (stands run) placed ≡ true
    by (Err fault) e told = absurd (cc)
    by (Ok named) e told = all-stand run None named placed (all-known run (spec.numbered 0 all) named e) told

call-placed : (run : Run) (row : StopRow) (stop : ℕ) (plan : ℤ × ℤ) (one : Call) → nat_lt stop (length run.ids) ≡ true → is_of_station run.station_of stop row ≡ true
    → is_placed run row (spec.call_reading plan stop one) ≡ true
call-placed run row stop plan one known near = by one.skip (both_times plan one.arrival one.departure)
  where
    by : (skip : Bool) (both : Option (ℤ × ℤ)) → is_placed run row (cond skip Skipped (timed (record { 0 = stop }) both)) ≡ true
    by true both = refl
    by false None = refl
    by false (Some both) = both_true known (other-way (run.station_of row.stop.0) (run.station_of stop) near)

dense-placed : (run : Run) (placed : List (ℕ × (ℕ × (ℕ × Call)))) (position : ℕ) (row : StopRow) → list_all (stands run) placed ≡ true → slice_get run.stops position ≡ Some row
    → is_placed run row (spec.dense run placed position) ≡ true
unfolding stands
dense-placed run placed position row all at = by (find (λ one. one.0 == position) placed) refl
  where
    by : (found : Option (ℕ × (ℕ × (ℕ × Call)))) → find (λ one. one.0 == position) placed ≡ found → is_placed run row (spec.reading_at run position found) ≡ true
    by None e = refl
    by (Some one) e =
        let parts = and_parts _ _ (found-passes (stands run) (λ other. other.0 == position) placed one all e) in
        let here : one.0 ≡ position = found-here position placed one e in
        let there : stands_at (is_of_station run.station_of one.1.0) position run.stops ≡ true = subst (λ p. stands_at (is_of_station run.station_of one.1.0) p run.stops ≡ true) here parts.1 in
        let near : is_of_station run.station_of one.1.0 row ≡ true = subst (λ found. option_map_or (is_of_station run.station_of one.1.0) found false ≡ true) at there in
        call-placed run row one.1.0 (planned_at run position) one.1.1.1 parts.0 near

-- readings that are placed at each position
all-placed : (run : Run) (rows : List StopRow) (f : ℕ → StopReading) (from : ℕ)
    → ((k j : ℕ) (row : StopRow) → from + k ≡ j → slice_get rows k ≡ Some row → is_placed run row (f j) ≡ true)
    → are_placed run rows (map f (range_with_len from (length rows))) ≡ true
all-placed run [] f from placed = refl
all-placed run (row ∷ rows) f from placed =
    both_true (placed 0 from row (add-zero from) refl)
    (all-placed run rows f (from + 1) (λ k j other e at. placed (suc k) j other (omega (arith, e)) at))

-- the dense reading of calls with their positions
pub dense-places : (run : Run) (all : List (Option Call)) (placed : List (ℕ × (ℕ × (ℕ × Call)))) → spec.calls_placed run all ≡ Ok placed
    → are_placed run run.stops (spec.all_dense run placed) ≡ true
dense-places run all placed h =
    let stand = calls-stand run all placed h in
    all-placed run run.stops (spec.dense run placed) 0 (λ k j row e at.
    let here : k ≡ j = omega (arith, e) in
    dense-placed run placed j row stand (subst (λ i. slice_get run.stops i ≡ Some row) here at))

-- there are as many of them as stops
map-long : {A : Type 0} (f : ℕ → A) (from n : ℕ) → length (map f (range_with_len from n)) ≡ n
map-long f from zero = refl
map-long f from (suc n) = ap suc (map-long f (from + 1) n)

pub dense-many : (run : Run) (placed : List (ℕ × (ℕ × (ℕ × Call)))) → length (spec.all_dense run placed) ≡ length run.stops
dense-many run placed = map-long (spec.dense run placed) 0 (length run.stops)

-- ---- what is read of a journey fits its trip

few-places : (bytes : ℕ) → places_fault bytes ≡ None → nat_le bytes places_limit ≡ true
few-places bytes h = by (nat_le bytes places_limit) h
  where
    by : (b : Bool) → cond b None (Some (PlacesTooLong bytes)) ≡ None → b ≡ true
    by true e = refl
    by false e = absurd (cc)

placed-fits : (run : Run) (all : List (Option Call)) (placed : List (ℕ × (ℕ × (ℕ × Call)))) (reading : JourneyReading) → spec.calls_placed run all ≡ Ok placed
    → unless_fault (spec.placed_fault run placed) (Stops (spec.all_dense run placed)) ≡ Ok reading → fits_trip run reading ≡ true
placed-fits run all placed reading at h = by (spec.placed_fault run placed) refl h
  where
    by : (fault : Option Fault) → spec.placed_fault run placed ≡ fault → unless_fault fault (Stops (spec.all_dense run placed)) ≡ Ok reading
        → fits_trip run reading ≡ true
    by (Some fault) e told = absurd (cc)
    by None e told =
        let same : Stops (spec.all_dense run placed) ≡ reading = cc in
        let neither = or_neither (spec.delays_fault run placed) (spec.long_places run (spec.all_dense run placed)) e in
        let keeps = both_true (dense-places run all placed at) (few-places (readings_size run.ids run.stops (spec.all_dense run placed)) neither.1) in
        subst (λ r. fits_trip run r ≡ true) same (both_true (dense-fits run placed neither.0) keeps)

stops-fit : (run : Run) (all : List (Option Call)) (reading : JourneyReading) → spec.stops_read run all ≡ Ok reading → fits_trip run reading ≡ true
stops-fit run all reading h = by (spec.calls_placed run all) refl h
  where
    by : (placed : Result (List (ℕ × (ℕ × (ℕ × Call)))) Fault) → spec.calls_placed run all ≡ placed
        → (placed >>= λ found. unless_fault (spec.placed_fault run found) (Stops (spec.all_dense run found))) ≡ Ok reading
        → fits_trip run reading ≡ true
    by (Err fault) e told = absurd (cc)
    by (Ok placed) e told = placed-fits run all placed reading e told

journey-fits : (run : Run) (cancelled : Bool) (all : List (Option Call)) (reading : JourneyReading) → spec.journey_read run cancelled all ≡ Ok reading
    → fits_trip run reading ≡ true
journey-fits run true all reading h = let same : Cancelled ≡ reading = cc in subst (λ r. fits_trip run r ≡ true) same refl
journey-fits run false all reading h = stops-fit run all reading h

-- ---- the trip and its day

known-trip : (schedule : Schedule) (head : Header) (trip : ℕ) → spec.trip_named schedule head ≡ Ok trip → trip < length schedule.table.trips
known-trip schedule head trip h = by head.extra h
  where
    found : (at : Option ℕ) → position (bytes_eq head.trip_id) schedule.table.trips ≡ at → ok_or at UnknownJourney ≡ Ok trip → trip < length schedule.table.trips
    found None e told = absurd (cc)
    found (Some at) e told =
        let same : at ≡ trip = cc in
        subst (λ p. p < length schedule.table.trips) same (position-Some (bytes_eq head.trip_id) schedule.table.trips at [] e).0

    by : (extra : Bool) → (spec.unless_extra extra >>= λ none. ok_or (position (bytes_eq head.trip_id) schedule.table.trips) UnknownJourney) ≡ Ok trip
        → trip < length schedule.table.trips
    by true told = absurd (cc)
    by false told = found (position (bytes_eq head.trip_id) schedule.table.trips) refl told

-- a trip on a day of the window on which it runs
record IsRun (schedule : Schedule) (trip : ℕ) (on : ℤ) (run : Run) : Type 0 where
  is : run_on schedule trip on ≡ Some run
  runs : schedule.table.runs trip on ≡ true

is-run : (schedule : Schedule) (trip : ℕ) (on : ℤ) (run : Run) → spec.run_named schedule trip on ≡ Ok run → IsRun schedule trip on run
is-run schedule trip on run h = by (run_on schedule trip on) refl h
  where
    test : (b : Bool) (found : Run) → run_on schedule trip on ≡ Some found → schedule.table.runs trip on ≡ b → cond b (Ok found) (Err NotRunning) ≡ Ok run → IsRun schedule trip on run
    test false found e runs told = absurd (cc)
    test true found e runs told =
        let same : found ≡ run = cc in
        record { is = e ∙ ap Some same; runs = runs }

    by : (found : Option Run) → run_on schedule trip on ≡ found → (ok_or found OutOfWindow >>= λ one. spec.running schedule trip on one) ≡ Ok run → IsRun schedule trip on run
    by None e told = absurd (cc)
    by (Some found) e told = test (schedule.table.runs trip on) found e refl told

-- what is recorded of a journey can be served
served-by : (schedule : Schedule) (head : Header) (all : List (Option Call)) (trip : ℕ) (reading : JourneyReading) (one : JourneyRecord)
    → trip < length schedule.table.trips → spec.trip_read schedule trip head all ≡ Ok reading
    → trip ≡ one.trip.0 → head.day ≡ one.day → reading ≡ one.reading → IsServable schedule one
served-by schedule head all trip reading one known h trip-is day-is reading-is = by (spec.run_named schedule trip head.day) refl h
  where
    by : (run : Result Run Fault) → spec.run_named schedule trip head.day ≡ run → (run >>= λ found. spec.journey_read found head.cancelled all) ≡ Ok reading → IsServable schedule one
    by (Err fault) e told = absurd (cc)
    by (Ok run) e told =
        let found : IsRun schedule trip head.day run = is-run schedule trip head.day run e in
        let at : run_on schedule one.trip.0 one.day ≡ Some run = rw (← trip-is, ← day-is) found.is in
        let fits : fits_trip run one.reading ≡ true = rw (← reading-is) (journey-fits run head.cancelled all reading told) in
        record {
          fits_schedule = record { trip_in = rw (← trip-is) known; run = run; on_day = at; fits = fits };
          runs = rw (← trip-is, ← day-is) found.runs;
        }

pub servable : (schedule : Schedule) (head : Header) (all : List (Option Call)) (one : JourneyRecord) (count : ℕ)
    → spec.judged schedule head all ≡ Ok (recorded one, count) → IsServable schedule one
servable schedule head all one count h = by (spec.trip_named schedule head) refl h
  where
    with : (trip : ℕ) (reading : Result JourneyReading Fault) → trip < length schedule.table.trips → spec.trip_read schedule trip head all ≡ reading
        → (reading >>= λ found. Ok (spec.taken head trip all found)) ≡ Ok (recorded one, count) → IsServable schedule one
    with trip (Err fault) known e told = absurd (cc)
    with trip (Ok reading) known e told =
        let same : spec.taken head trip all reading ≡ (recorded one, count) = cc in
        served-by schedule head all trip reading one known e (ap (λ p. p.0.trip) same) (ap (λ p. p.0.day) same) (ap (λ p. p.0.reading) same)

    by : (trip : Result ℕ Fault) → spec.trip_named schedule head ≡ trip
        → (trip >>= λ found. spec.trip_read schedule found head all >>= λ reading. Ok (spec.taken head found all reading)) ≡ Ok (recorded one, count) → IsServable schedule one
    by (Err fault) e told = absurd (cc)
    by (Ok trip) e told = with trip (spec.trip_read schedule trip head all) (known-trip schedule head trip e) refl told

-- one item more can be served
pub one_served : (schedule : Schedule) (old new : Delivery JourneyRecord) (answer : Result (JourneyRecord × ℕ) Fault) → IfOk answer (λ one. IsServable schedule one.0)
    → IsAdded answer old new → AreServable schedule old.items → AreServable schedule new.items
one_served schedule old new (Ok one) servable added all = rw added.0 (all_more (CanServe schedule) old.items (Taken one.0) all servable)
one_served schedule old new (Err fault) servable added all = rw added.0 (all_more (CanServe schedule) old.items (Aside fault) all tt)

-- a delivery without an item took none
pub takes_none : (schedule : Schedule) (delivery : Delivery JourneyRecord) → delivery.items ≡ [] → delivery.passed ≡ 0 → HasTaken schedule delivery []
takes_none schedule delivery none zero_passed = record {
  verdicts = record { items_are = ap (map (shown recorded)) none; passed_is = zero_passed };
  servable = rw none tt;
}

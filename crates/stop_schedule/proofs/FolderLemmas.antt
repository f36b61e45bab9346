-- The timetable of what was read of all files.
use Rattle.std.proofs.Common.{◌≡◌, ◌∙◌, ◌≤◌, ◌<◌, ◌++◌, ◌∷◌, [], ℕ, ℤ, zero, suc, Bool, true, false, List, Option, Some, None, Result, Ok, Err, length, map, take, drop, get_or, slice_get, unwrap_or, refl, sym, ap, cond, arith}
use Rattle.std.specs.Prelude.{⊤, option_map}
use Rattle.std.specs.Bool.{MatchBool}
use Rattle.std.specs.Option.{option_or}
use Rattle.std.specs.List.{AllZip}
use Rattle.std.proofs.Math.Seq.{take-length}
use Rattle.std.proofs.Math.Numerals.{add-one}
use Rattle.std.proofs.lemmas.List.{append-nil, length-map, take_more}
use Rattle.std.proofs.lemmas.List.Elements.{filter-append}
use Rattle.gw_base.specs.Chains.{unless_fault}
use Rattle.indexmap.proofs.SetLemmas.{AllZip-push}
use Rattle.stop_schedule.proofs.CarryingLemmas.{carried-ids}
use Rattle.stop_schedule.specs.TripStops.{stops_kept}
use Rattle.stop_schedule.specs.Carrying.{Candidate, Lists, candidate, carried_to, IsOf, Carries, ids_to}
use Rattle.stop_schedule.specs.Folder.{HoldsRest}
use Rattle.timetable.specs.Held.{route_held, runs_held, shown, stops_held}
use Rattle.stop_schedule.specs.Answers.{is_free}
use Rattle.stop_schedule.specs.Holding.{AreNumbers, HoldsServices, HoldsStations}
use Rattle.timetable.specs.Services.{Calendars, Exceptions}
use Rattle.stop_schedule.specs.Reading.{Assembles, Reads}
use Rattle.stop_schedule.specs.Sheet.{Row, nth, rows_in}
use Rattle.stop_schedule.specs.StopTimes.{filled, least, stops_in, untimed_end}
use Rattle.stop_schedule.specs.Timetable.{Sheets, files_fault, folder_fault, ids_in, route_in, runs_in, stop_rows_in, table_of, trips_in, untimed_in}
use Rattle.timetable.specs.Table.{Table}
use Rattle.stop_schedule.specs.Trips.{carried_rows, is_carried}
use Rattle.stop_schedule.proofs.FaultLemmas.{said-of}
use Rattle.stop_schedule.specs.declared.assembling.Assembled.{Assembled}
use Rattle.timetable.specs.declared.carried_trip.CarriedTrip.{CarriedTrip}
use Rattle.stop_schedule.specs.declared.folder_rows.FolderRows.{FolderRows}
use Rattle.stop_schedule.specs.declared.stop_times.LoadedStop.{LoadedStop}
use Rattle.timetable.specs.declared.numbers.StopNo.{StopNo}
use Rattle.timetable.specs.declared.stop_row.StopRow.{StopRow}
use Rattle.timetable.specs.declared.timetable.Timetable.{Timetable}
use Rattle.stop_schedule.specs.declared.table_fault.TableFault.{TableFault}
use Rattle.stop_schedule.specs.declared.table_fault.TableFault.TheVariants.{UntimedEnd}
use Rattle.stop_schedule.specs.declared.table_file.TableFile.TheVariants.{Stops, Routes, Trips, Calendar, CalendarDates, Frequencies, StopTimes}

-- what was read of a row's trip
pub record IsRow (routes services : List (List ℕ)) (stops_of : List ℕ → List LoadedStop) (one : Candidate)
    (row : Row) : Type 0 where
  pub id_is : one.id ≡ nth 0 row
  pub route_is : slice_get routes one.route ≡ Some (nth 1 row)
  pub service_is : slice_get services one.service ≡ Some (nth 2 row)
  pub stops_are : one.stops ≡ stops_of (nth 0 row)

-- what belongs to the items of a list stands at their places
get_or-map : {A B : Type 0} (f : A → B) (xs : List A) (k : ℕ) (d : B) (e : A) → k < length xs
    → get_or (map f xs) k d ≡ f (get_or xs k e)
get_or-map f [] k d e within = absurd (omega arith)
get_or-map f (x ∷ xs) zero d e within = refl
get_or-map f (x ∷ xs) (suc k) d e within = get_or-map f xs k d e (omega arith)

-- numbers of names
numbered : (ids : List (List ℕ)) (numbers : List ℕ) (names : List (List ℕ)) (k : ℕ) (d : List ℕ)
    → AreNumbers ids numbers names → k < length names → slice_get ids (get_or numbers k 0) ≡ Some (get_or names k d)
numbered ids [] [] k d are within = absurd (omega arith)
numbered ids [] (name ∷ names) k d are within = absurd cc
numbered ids (number ∷ numbers) [] k d are within = absurd (omega arith)
numbered ids (number ∷ numbers) (name ∷ names) zero d are within = cc
numbered ids (number ∷ numbers) (name ∷ names) (suc k) d are within =
    let rest : map (slice_get ids) numbers ≡ map (λ (one : List ℕ). Some one) names = cc in
    let below : k < length names = omega arith in
    numbered ids numbers names k d rest below

-- the candidates of the first places are the rows there that are carried
pub of_rows : (frequencies trips : List Row) (routes services : List (List ℕ)) (stops_of : List ℕ → List LoadedStop)
    (lists : Lists)
    → lists.ids ≡ map (nth 0) trips → AreNumbers routes lists.routes (map (nth 1) trips)
    → AreNumbers services lists.services (map (nth 2) trips)
    → lists.carried ≡ map (is_carried frequencies) lists.ids → lists.by_trip ≡ map stops_of lists.ids
    → (n : ℕ) → n ≤ length trips
    → AllZip (IsRow routes services stops_of) (carried_to lists n) (carried_rows frequencies (take n trips))
of_rows frequencies trips routes services stops_of lists ids_are routes_are services_are carried_are stops_are zero
    within = tt
of_rows frequencies trips routes services stops_of lists ids_are routes_are services_are carried_are stops_are (suc n)
    within =
    rw kept (rw flag
    (by (is_carried frequencies (nth 0 row)) refl
    (of_rows frequencies trips routes services stops_of lists ids_are routes_are services_are carried_are
    stops_are n (omega arith))))
  where
    row : Row
    row = get_or trips n []

    here : n < length trips
    here = omega arith

    id_is : get_or lists.ids n [] ≡ nth 0 row
    id_is = ap (λ (ids : List (List ℕ)). get_or ids n []) ids_are ∙ get_or-map (nth 0) trips n [] [] here

    kept : carried_rows frequencies (take (suc n) trips) ≡ carried_rows frequencies (take n trips)
        ++ carried_rows frequencies (row ∷ [])
    kept =
        ap (λ k. carried_rows frequencies (take k trips)) (sym (add-one n))
        ∙ ap (carried_rows frequencies) (take_more trips n [] here)
        ∙ filter-append (λ (r : Row). is_carried frequencies (nth 0 r)) (take n trips) (row ∷ [])

    inside : n < length lists.ids
    inside = rw (ids_are, length-map trips (nth 0)) here

    flag : get_or lists.carried n false ≡ is_carried frequencies (nth 0 row)
    flag =
        ap (λ (flags : List Bool). get_or flags n false) carried_are
        ∙ get_or-map (is_carried frequencies) lists.ids n false [] inside
        ∙ ap (is_carried frequencies) id_is

    one : IsRow routes services stops_of (candidate lists n) row
    one = record {
      id_is = id_is;
      route_is = numbered routes lists.routes (map (nth 1) trips) n [] routes_are (rw (length-map trips (nth 1)) here)
          ∙ ap (λ (name : List ℕ). Some name) (get_or-map (nth 1) trips n [] [] here);
      service_is = numbered services lists.services (map (nth 2) trips) n [] services_are
          (rw (length-map trips (nth 2)) here)
          ∙ ap (λ (name : List ℕ). Some name) (get_or-map (nth 2) trips n [] [] here);
      stops_are = ap (λ (all : List (List LoadedStop)). get_or all n []) stops_are
          ∙ get_or-map stops_of lists.ids n [] [] inside ∙ ap stops_of id_is;
    }

    by : (b : Bool) → is_carried frequencies (nth 0 row) ≡ b
        → AllZip (IsRow routes services stops_of) (carried_to lists n) (carried_rows frequencies (take n trips))
        → AllZip (IsRow routes services stops_of)
        (carried_to lists n ++ cond (is_carried frequencies (nth 0 row)) (candidate lists n ∷ []) [])
        (carried_rows frequencies (take n trips) ++ carried_rows frequencies (row ∷ []))
    by true e all =
        rw e (AllZip-push (IsRow routes services stops_of) (carried_to lists n)
        (carried_rows frequencies (take n trips)) (candidate lists n) row all one)
    by false e all = rw (e, append-nil (carried_to lists n), append-nil (carried_rows frequencies (take n trips))) all

-- what a trip of the timetable and a row have to do with each other
MatchesAt : (routes services : List (List ℕ)) (stops_of : List ℕ → List LoadedStop) (rows : List StopRow)
    → Option CarriedTrip → Option Row → Type 0
MatchesAt routes services stops_of rows None None = ⊤
MatchesAt routes services stops_of rows None (Some row) = ⊥
MatchesAt routes services stops_of rows (Some trip) None = ⊥
MatchesAt routes services stops_of rows (Some trip) (Some row) =
    (slice_get routes trip.route ≡ Some (nth 1 row)) × (slice_get services trip.service ≡ Some (nth 2 row))
    × (drop trip.first (take trip.end rows) ≡ filled (stops_of (nth 0 row)))

matches_at : (routes services : List (List ℕ)) (stops_of : List ℕ → List LoadedStop) (rows : List StopRow)
    (trips : List CarriedTrip) (ones : List Candidate) (of : List Row)
    → AllZip (IsOf rows) trips ones → AllZip (IsRow routes services stops_of) ones of → (k : ℕ)
    → MatchesAt routes services stops_of rows (slice_get trips k) (slice_get of k)
unfolding MatchesAt
matches_at routes services stops_of rows [] [] [] a b k = tt
matches_at routes services stops_of rows [] [] (row ∷ of) a b k = absurd b
matches_at routes services stops_of rows [] (one ∷ ones) of a b k = absurd a
matches_at routes services stops_of rows (trip ∷ trips) [] of a b k = absurd a
matches_at routes services stops_of rows (trip ∷ trips) (one ∷ ones) [] a b k = absurd b
matches_at routes services stops_of rows (trip ∷ trips) (one ∷ ones) (row ∷ of) a b zero = (
  ap (slice_get routes) a.0.route_is ∙ b.0.route_is,
  ap (slice_get services) a.0.service_is ∙ b.0.service_is,
  a.0.stops_are ∙ ap filled b.0.stops_are,
)
matches_at routes services stops_of rows (trip ∷ trips) (one ∷ ones) (row ∷ of) a b (suc k) =
    matches_at routes services stops_of rows trips ones of a.1 b.1 k

route_same : (routes services : List (List ℕ)) (stops_of : List ℕ → List LoadedStop) (rows : List StopRow)
    (trip : Option CarriedTrip) (row : Option Row)
    → MatchesAt routes services stops_of rows trip row → route_held routes trip ≡ route_in row
unfolding MatchesAt
route_same routes services stops_of rows None None m = refl
route_same routes services stops_of rows None (Some row) m = absurd m
route_same routes services stops_of rows (Some trip) None m = absurd m
route_same routes services stops_of rows (Some trip) (Some row) m = ap (λ (o : Option (List ℕ)). unwrap_or o []) m.0

stops_same : (routes services stops : List (List ℕ)) (stop_rows : List Row) (rows : List StopRow)
    (trip : Option CarriedTrip) (row : Option Row)
    → MatchesAt routes services (stops_in stops stop_rows) rows trip row
    → stops_held rows trip ≡ stop_rows_in stops stop_rows row
unfolding MatchesAt
stops_same routes services stops stop_rows rows None None m = refl
stops_same routes services stops stop_rows rows None (Some row) m = absurd m
stops_same routes services stops stop_rows rows (Some trip) None m = absurd m
stops_same routes services stops stop_rows rows (Some trip) (Some row) m = m.2

runs_same : (routes services : List (List ℕ)) (stops_of : List ℕ → List LoadedStop) (rows : List StopRow)
    (calendars : Calendars) (exceptions : Exceptions) (calendar_rows date_rows : List Row)
    → HoldsServices services calendars exceptions calendar_rows date_rows
    → (trip : Option CarriedTrip) (row : Option Row) (day : ℤ)
    → MatchesAt routes services stops_of rows trip row
    → runs_held calendars exceptions trip day ≡ runs_in calendar_rows date_rows row day
unfolding MatchesAt
runs_same routes services stops_of rows calendars exceptions calendar_rows date_rows held None None day m = refl
runs_same routes services stops_of rows calendars exceptions calendar_rows date_rows held None (Some row) day m =
    absurd m
runs_same routes services stops_of rows calendars exceptions calendar_rows date_rows held (Some trip) None day m =
    absurd m
runs_same routes services stops_of rows calendars exceptions calendar_rows date_rows held (Some trip) (Some row) day m =
    rw (held.exceptions_are trip.service (nth 2 row) day m.1, held.calendars_are trip.service (nth 2 row) m.1) refl

ids_same : (routes services : List (List ℕ)) (stops_of : List ℕ → List LoadedStop) (ones : List Candidate)
    (of : List Row) → AllZip (IsRow routes services stops_of) ones of
    → map (λ (one : Candidate). one.id) ones ≡ map (nth 0) of
ids_same routes services stops_of [] [] all = refl
ids_same routes services stops_of [] (row ∷ of) all = absurd all
ids_same routes services stops_of (one ∷ ones) [] all = absurd all
ids_same routes services stops_of (one ∷ ones) (row ∷ of) all =
    λ i. all.0.id_is i ∷ ids_same routes services stops_of ones of all.1 i

untimed_same : (routes services : List (List ℕ)) (stops_of : List ℕ → List LoadedStop) (ones : List Candidate)
    (of : List Row) → AllZip (IsRow routes services stops_of) ones of
    → map (λ (one : Candidate). untimed_end one.stops) ones ≡ map (λ (row : Row). untimed_end (stops_of (nth 0 row))) of
untimed_same routes services stops_of [] [] all = refl
untimed_same routes services stops_of [] (row ∷ of) all = absurd all
untimed_same routes services stops_of (one ∷ ones) [] all = absurd all
untimed_same routes services stops_of (one ∷ ones) (row ∷ of) all =
    λ i. untimed_end (all.0.stops_are i) ∷ untimed_same routes services stops_of ones of all.1 i

-- ---- the timetable of what was read

abbrev pub listed : FolderRows → Lists
listed folder = record {
  ids = folder.trips.ids;
  routes = folder.trips.routes.items;
  services = folder.trips.services.items;
  carried = folder.carried.items;
  by_trip = map stops_kept folder.by_trip.items;
}

abbrev Held : FolderRows → Sheets → Type 0
Held folder sheets = HoldsRest (ids_in sheets Stops) (ids_in sheets Routes) folder sheets

abbrev stops_by : Sheets → List ℕ → List LoadedStop
stops_by sheets = stops_in (ids_in sheets Stops) (rows_in (sheets StopTimes))

rows_are : (sheets : Sheets) (folder : FolderRows) (held : Held folder sheets)
    → AllZip (IsRow (ids_in sheets Routes) held.runs.0 (stops_by sheets))
    (carried_to (listed folder) (length folder.trips.ids)) (trips_in sheets)
rows_are sheets folder held =
    let rows : List Row = rows_in (sheets Trips) in
    let many : length folder.trips.ids ≡ length rows = ap length held.runs.1.ids ∙ length-map rows (nth 0) in
    let all = of_rows (rows_in (sheets Frequencies)) rows (ids_in sheets Routes) held.runs.0 (stops_by sheets)
    (listed folder) held.runs.1.ids held.runs.1.routes_are held.runs.1.services_are held.carried
    held.by_trip.stops_are (length rows) (omega arith) in
    rw many (rw (take-length rows) at all)

pub untimed_of : (sheets : Sheets) (folder : FolderRows) (all : Assembled) → Held folder sheets
    → Carries all (carried_to (listed folder) (length folder.trips.ids))
    → all.untimed ≡ untimed_in sheets
untimed_of sheets folder all held carries =
    carries.untimed_is
    ∙ ap least (untimed_same (ids_in sheets Routes) held.runs.0 (stops_by sheets)
    (carried_to (listed folder) (length folder.trips.ids)) (trips_in sheets) (rows_are sheets folder held))

abbrev shown_of_rows : FolderRows → List (List ℕ) → Assembled → List StopNo → Table
shown_of_rows folder trips all stations =
    shown trips folder.stops folder.routes all.carried.items all.stop_rows.items folder.services stations

pub shown_of : (sheets : Sheets) (folder : FolderRows) (trips : List (List ℕ)) (all : Assembled) (stations : List StopNo)
    → Held folder sheets → HoldsStations (ids_in sheets Stops) stations (rows_in (sheets Stops))
    → trips ≡ ids_to folder.trips.ids folder.carried.items (length folder.trips.ids)
    → Carries all (carried_to (listed folder) (length folder.trips.ids))
    → shown_of_rows folder trips all stations ≡ table_of sheets
shown_of sheets folder trips all stations held placed trips_are carries = λ i. record {
  trips = (trips_are ∙ sym (carried-ids (listed folder) (length folder.trips.ids))
      ∙ ids_same routes services (stops_by sheets) ones (trips_in sheets) zip) i;
  stops = held.stops_are i;
  routes = held.routes_are i;
  route_of = λ k. (ap (λ (named : List (List ℕ)). route_held named (slice_get all.carried.items k)) held.routes_are
      ∙ route_same routes services (stops_by sheets) all.stop_rows.items (slice_get all.carried.items k)
      (slice_get (trips_in sheets) k) (at k)) i;
  stops_of = λ k. stops_same routes services (ids_in sheets Stops) (rows_in (sheets StopTimes)) all.stop_rows.items
      (slice_get all.carried.items k) (slice_get (trips_in sheets) k) (at k) i;
  runs = λ k day. runs_same routes services (stops_by sheets) all.stop_rows.items folder.services.calendars
      folder.services.exceptions (rows_in (sheets Calendar)) (rows_in (sheets CalendarDates))
      held.runs.2 (slice_get all.carried.items k) (slice_get (trips_in sheets) k) day (at k) i;
  station_of = λ k. placed k i;
}
  where
    routes : List (List ℕ)
    routes = ids_in sheets Routes

    services : List (List ℕ)
    services = held.runs.0

    ones : List Candidate
    ones = carried_to (listed folder) (length folder.trips.ids)

    zip : AllZip (IsRow (ids_in sheets Routes) held.runs.0 (stops_by sheets))
        (carried_to (listed folder) (length folder.trips.ids)) (trips_in sheets)
    zip = rows_are sheets folder held

    at : (k : ℕ) → MatchesAt (ids_in sheets Routes) held.runs.0 (stops_by sheets) all.stop_rows.items
        (slice_get all.carried.items k) (slice_get (trips_in sheets) k)
    at k = matches_at routes services (stops_by sheets) all.stop_rows.items all.carried.items ones (trips_in sheets)
        carries.trips zip k

-- ---- what reading answers

abbrev answered : Sheets → Option TableFault → Result Table TableFault
answered sheets fault = unless_fault (option_or fault (option_map UntimedEnd (untimed_in sheets))) (table_of sheets)

pub reads_of : (sheets : Sheets) (result : Result Timetable TableFault) → files_fault sheets ≡ None
    → Assembles sheets result → Reads (unless_fault (folder_fault sheets) (table_of sheets)) result
reads_of sheets (Ok table) none told =
    ap (answered sheets) none ∙ ap (λ (fault : Option TableFault). unless_fault fault (table_of sheets)) told.0
    ∙ ap (λ (table : Table). Ok table) (sym told.1)
reads_of sheets (Err fault) none told =
    said-of (is_free fault) (option_map UntimedEnd (untimed_in sheets) ≡ Some fault)
    (unless_fault (folder_fault sheets) (table_of sheets) ≡ Err fault)
    (λ here. ap (answered sheets) none
    ∙ ap (λ (fault : Option TableFault). unless_fault fault (table_of sheets)) here) told

pub reads_fault : (sheets : Sheets) (fault : TableFault) → MatchBool (is_free fault) ⊤ (files_fault sheets ≡ Some fault)
    → MatchBool (is_free fault) ⊤ (unless_fault (folder_fault sheets) (table_of sheets) ≡ Err fault)
reads_fault sheets fault told =
    said-of (is_free fault) (files_fault sheets ≡ Some fault)
    (unless_fault (folder_fault sheets) (table_of sheets) ≡ Err fault) (λ here. ap (answered sheets) here) told

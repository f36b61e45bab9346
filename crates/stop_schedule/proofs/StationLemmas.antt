-- The stations of stops: rows that are taken once for their ids and once for their parents.
use Rattle.std.proofs.Common.{◌≡◌, ◌∙◌, ◌<◌, ◌≤◌, ◌+◌, ◌&&◌, ◌||◌, ℕ, zero, suc, Bool, true, false, cond, not, List, [], ◌∷◌, ◌++◌, map, length, slice_get, unwrap_or, position, Option, Some, None, Result, Ok, Err, refl, sym, ap, arith}
use Rattle.std.specs.List.{list_any}
use Rattle.std.specs.Option.{option_or}
use Rattle.std.specs.Str.{bytes_eq}
use Rattle.std.specs.Cmp.Derive.{both_true}
use Rattle.std.specs.Bool.{MatchBool}
use Rattle.std.specs.Prelude.{⊤}
use Rattle.std.proofs.lemmas.Bool.{lt-ltb}
use Rattle.std.proofs.lemmas.List.{length-map, map-append}
use Rattle.std.proofs.lemmas.List.Quantifiers.{position-Some}
use Rattle.timetable.specs.Ids.{has_id}
use Rattle.timetable.specs.Held.{are_stations, station_held, station_or}
use Rattle.timetable.specs.declared.numbers.StopNo.{StopNo}
use Rattle.stop_schedule.specs.Causes.{duplicate_fault, number_after, parent_fault}
use Rattle.stop_schedule.specs.Faults.{common_fault, fault_if, fault_in, first_fault, row_fault}
use Rattle.stop_schedule.specs.Places.{own_id, stops_parent_station}
use Rattle.stop_schedule.specs.Answers.{is_free}
use Rattle.stop_schedule.specs.Holding.{HoldsStopNames}
use Rattle.stop_schedule.specs.Timetable.{parents_fault, stop_names_fault}
use Rattle.stop_schedule.proofs.FaultLemmas.{both-none, said-of}
use Rattle.stop_schedule.specs.Sheet.{Row, nth, rows_in}
use Rattle.stop_schedule.specs.Stations.{has_parent, station_in, stations_from}
use Rattle.stop_schedule.specs.declared.column.Column.TheVariants as Column
use Rattle.stop_schedule.specs.declared.table_file.TableFile.{TableFile}
use Rattle.stop_schedule.specs.declared.table_file.TableFile.TheVariants.{Stops}
use Rattle.stop_schedule.specs.declared.table_fault.TableFault.{TableFault}
use Rattle.stop_schedule.specs.declared.table_fault.TableFault.TheVariants.{Unknown}

first-none : (first second : Option TableFault) → option_or first second ≡ None → first ≡ None
first-none None second none = refl
first-none (Some fault) second none = absurd cc

second-none : (first second : Option TableFault) → option_or first second ≡ None → second ≡ None
second-none None second none = none
second-none (Some fault) second none = absurd cc

left-false : (a b : Bool) → (a || b) ≡ false → a ≡ false
left-false false b none = refl
left-false true b none = none

right-false : (a b : Bool) → (a || b) ≡ false → b ≡ false
right-false false b none = none
right-false true b none = absurd cc

-- where rows have no fault by some further causes, they have those of others alone
other-causes : (file : TableFile) (first further : List Row → Row → Option TableFault) (before rows : List Row)
    → first_fault (row_fault file first) before rows ≡ None
    → first_fault (row_fault file further) before rows ≡ first_fault further before rows
other-causes file first further before [] none = refl
other-causes file first further before (row ∷ rows) none =
    let here = first-none (row_fault file first before row) _ none in
    let common : common_fault file (length before + 1) row ≡ None =
    first-none (common_fault file (length before + 1) row) (first before row) here in
    ap (λ (fault : Option TableFault). option_or (option_or fault (further before row))
    (first_fault (row_fault file further) (before ++ row ∷ []) rows)) common
    ∙ ap (option_or (further before row))
    (other-causes file first further (before ++ row ∷ []) rows
    (second-none (row_fault file first before row) _ none))

pub second-pass : (file : TableFile) (first further : List Row → Row → Option TableFault)
    (sheet : Result (List Row) TableFault) → fault_in file first sheet ≡ None
    → fault_in file further sheet ≡ first_fault further [] (rows_in (Some sheet))
second-pass file first further (Ok rows) none = other-causes file first further [] rows none
second-pass file first further (Err fault) none = absurd cc

-- ---- rows without parents

pub no-parent-fault : (stops : List (List ℕ)) (before rows : List Row) → list_any has_parent rows ≡ false
    → first_fault (parent_fault stops) before rows ≡ None
no-parent-fault stops before [] none = refl
no-parent-fault stops before (row ∷ rows) none =
    ap (λ b. option_or (fault_if (b && not (has_id (nth stops_parent_station row) stops))
    (Unknown Stops (number_after before) Column.ParentStation))
    (first_fault (parent_fault stops) (before ++ row ∷ []) rows)) (left-false (has_parent row) _ none)
    ∙ no-parent-fault stops (before ++ row ∷ []) rows (right-false (has_parent row) _ none)

pub no-station : (stops : List (List ℕ)) (rows : List Row) (place stop : ℕ) → list_any has_parent rows ≡ false
    → stop ≡ station_in stops (slice_get rows place) stop
no-station stops [] place stop none = refl
no-station stops (row ∷ rows) zero stop none =
    sym (ap (λ b. cond b (unwrap_or (position (bytes_eq (nth stops_parent_station row)) stops) stop) stop)
    (left-false (has_parent row) _ none))
no-station stops (row ∷ rows) (suc place) stop none =
    no-station stops rows place stop (right-false (has_parent row) _ none)

-- ---- the stations of rows

abbrev pub numbers : List StopNo → List ℕ
numbers stations = map (λ (station : StopNo). station.0) stations

pub stations-push : (stops : List (List ℕ)) (from : ℕ) (rows : List Row) (row : Row)
    → stations_from stops from (rows ++ row ∷ [])
    ≡ stations_from stops from rows ++ station_in stops (Some row) (from + length rows) ∷ []
stations-push stops from [] row =
    let same : from ≡ from + length {A = Row} [] = omega arith in
    ap (λ n. station_in stops (Some row) n ∷ []) same
stations-push stops from (first ∷ rows) row =
    let same : from + 1 + length rows ≡ from + length (first ∷ rows) = omega arith in
    ap (λ rest. station_in stops (Some first) from ∷ rest)
    (stations-push stops (from + 1) rows row
    ∙ ap (λ n. stations_from stops (from + 1) rows ++ station_in stops (Some row) n ∷ []) same)

pub as-many-stations : (stops : List (List ℕ)) (from : ℕ) (rows : List Row)
    → length (stations_from stops from rows) ≡ length rows
as-many-stations stops from [] = refl
as-many-stations stops from (row ∷ rows) = ap suc (as-many-stations stops (from + 1) rows)

pub station-at : (stops : List (List ℕ)) (rows : List Row) (stations : List StopNo) (from place stop : ℕ)
    → numbers stations ≡ stations_from stops from rows → stop ≡ from + place
    → station_or (slice_get stations place) stop ≡ station_in stops (slice_get rows place) stop
station-at stops [] [] from place stop are is = refl
station-at stops [] (station ∷ stations) from place stop are is = absurd cc
station-at stops (row ∷ rows) [] from place stop are is = absurd cc
station-at stops (row ∷ rows) (station ∷ stations) from zero stop are is =
    let same : from ≡ stop = omega (arith, is) in
    let here : station.0 ≡ station_in stops (Some row) from = cc in
    here ∙ ap (λ n. station_in stops (Some row) n) same
station-at stops (row ∷ rows) (station ∷ stations) from (suc place) stop are is =
    let later : numbers stations ≡ stations_from stops (from + 1) rows = cc in
    station-at stops rows stations (from + 1) place stop later (omega (arith, is))

station-within : (stops : List (List ℕ)) (row : Row) (own : ℕ) → own < length stops
    → station_in stops (Some row) own < length stops
station-within stops row own within = by (has_parent row) (position (bytes_eq (nth stops_parent_station row)) stops) refl
  where
    by : (has : Bool) (found : Option ℕ) → position (bytes_eq (nth stops_parent_station row)) stops ≡ found
        → cond has (unwrap_or found own) own < length stops
    by false found is = within
    by true None is = within
    by true (Some place) is = (position-Some (bytes_eq (nth stops_parent_station row)) stops place [] is).0

all-stations : (stops : List (List ℕ)) (rows : List Row) (stations : List StopNo) (from : ℕ)
    → numbers stations ≡ stations_from stops from rows → from + length rows ≤ length stops
    → are_stations (length stops) stations ≡ true
all-stations stops [] [] from are few = refl
all-stations stops [] (station ∷ stations) from are few = absurd cc
all-stations stops (row ∷ rows) [] from are few = absurd cc
all-stations stops (row ∷ rows) (station ∷ stations) from are few =
    let here : station_in stops (Some row) from ≡ station.0 = cc in
    let within : station.0 < length stops = rw here at (station-within stops row from (omega (arith, few))) in
    let later : numbers stations ≡ stations_from stops (from + 1) rows = cc in
    both_true (lt-ltb station.0 (length stops) within)
    (all-stations stops rows stations (from + 1) later (omega (arith, few)))

pub stations-within : (stops : List (List ℕ)) (rows : List Row) (stations : List StopNo)
    → numbers stations ≡ stations_from stops 0 rows → length rows ≡ length stops
    → are_stations (length stops) stations ≡ true
stations-within stops rows stations are many = all-stations stops rows stations 0 are (omega (arith, many))

-- the station of one more row
pub one-station : (stops : List (List ℕ)) (stations : List StopNo) (before : List Row) (row : Row) (station own : ℕ)
    → numbers stations ≡ stations_from stops 0 before → own ≡ length stations
    → station ≡ station_in stops (Some row) own
    → numbers (stations ++ record { 0 = station } ∷ []) ≡ stations_from stops 0 (before ++ row ∷ [])
one-station stops stations before row station own are own_is is =
    let count : own ≡ length before =
    own_is ∙ sym (length-map stations (λ (one : StopNo). one.0)) ∙ ap length are ∙ as-many-stations stops 0 before in
    let many : own ≡ 0 + length before = omega (arith, count) in
    map-append (λ (one : StopNo). one.0) stations (record { 0 = station } ∷ [])
    ∙ ap (λ ones. ones ++ station ∷ []) are
    ∙ ap (λ n. stations_from stops 0 before ++ n ∷ []) (is ∙ ap (station_in stops (Some row)) many)
    ∙ sym (stations-push stops 0 before row)

-- ---- what both passes found

module _ (ids : List (List ℕ)) (sheet : Result (List Row) TableFault)
    (none : fault_in Stops (duplicate_fault Stops) sheet ≡ None)
    (are : ids ≡ map (nth own_id) (rows_in (Some sheet))) where
  parents : first_fault (parent_fault ids) [] (rows_in (Some sheet)) ≡ parents_fault (rows_in (Some sheet))
  parents = ap (λ stops. first_fault (parent_fault stops) [] (rows_in (Some sheet))) are

  pub names-found : (stations : List StopNo) → fault_in Stops (parent_fault ids) sheet ≡ None
      → numbers stations ≡ stations_from ids 0 (rows_in (Some sheet))
      → (stop_names_fault (Some sheet) ≡ None) × HoldsStopNames ids stations (rows_in (Some sheet))
  names-found stations fine is = (
    both-none (fault_in Stops (duplicate_fault Stops) sheet) (parents_fault (rows_in (Some sheet))) none
        (sym parents ∙ sym (second-pass Stops (duplicate_fault Stops) (parent_fault ids) sheet none) ∙ fine),
    record {
      ids = are;
      stations_are = λ stop. station-at (map (nth own_id) (rows_in (Some sheet))) (rows_in (Some sheet)) stations 0 stop
          stop (is ∙ ap (λ stops. stations_from stops 0 (rows_in (Some sheet))) are) (omega arith);
    },
  )

  pub names-alone : (stations : List StopNo) → list_any has_parent (rows_in (Some sheet)) ≡ false → stations ≡ []
      → (stop_names_fault (Some sheet) ≡ None) × HoldsStopNames ids stations (rows_in (Some sheet))
  names-alone stations lone empty = (
    both-none (fault_in Stops (duplicate_fault Stops) sheet) (parents_fault (rows_in (Some sheet))) none
        (no-parent-fault (map (nth own_id) (rows_in (Some sheet))) [] (rows_in (Some sheet)) lone),
    record {
      ids = are;
      stations_are = λ stop. ap (λ ones. station_held ones stop) empty
          ∙ no-station (map (nth own_id) (rows_in (Some sheet))) (rows_in (Some sheet)) stop stop lone;
    },
  )

  pub names-refused : (fault : TableFault)
      → MatchBool (is_free fault) ⊤ (fault_in Stops (parent_fault ids) sheet ≡ Some fault)
      → MatchBool (is_free fault) ⊤ (stop_names_fault (Some sheet) ≡ Some fault)
  names-refused fault told =
      said-of (is_free fault) (fault_in Stops (parent_fault ids) sheet ≡ Some fault)
      (stop_names_fault (Some sheet) ≡ Some fault)
      (λ here. ap (λ (first : Option TableFault). option_or first (parents_fault (rows_in (Some sheet)))) none
      ∙ sym parents ∙ sym (second-pass Stops (duplicate_fault Stops) (parent_fault ids) sheet none) ∙ here) told

  pub names-within : (stations : List StopNo) → numbers stations ≡ stations_from ids 0 (rows_in (Some sheet))
      → are_stations (length ids) stations ≡ true
  names-within stations is =
      stations-within ids (rows_in (Some sheet)) stations is
      (sym (length-map (rows_in (Some sheet)) (nth own_id)) ∙ ap length (sym are))

-- One more row of stop_times.txt.
use Rattle.std.proofs.Common.{◌≡◌, ◌∙◌, ◌<◌, ◌≤◌, ◌+◌, ◌==◌, ◌||◌, ◌&&◌, Bool, true, false, cond, ℕ, suc, nat_le, List, [], ◌∷◌, ◌++◌, map, set, length, position, slice_get, Option, Some, None, refl, ap, sym, arith, unwrap_or}
use Rattle.std.specs.Global.{Vec}
use Rattle.std.specs.Prelude.{filter}
use Rattle.std.specs.List.{enumerate_from, list_all, list_any}
use Rattle.std.specs.Str.{bytes_eq}
use Rattle.std.specs.Cmp.Derive.{both_true}
use Rattle.std.proofs.lemmas.Bool.{false≢true}
use Rattle.std.proofs.lemmas.Bool.Decides.{nat_tests}
use Rattle.std.proofs.lemmas.Slice.Eq.{bytes_eq-Decides}
use Rattle.std.proofs.lemmas.List.{append-nil, map-append}
use Rattle.std.specs.Option.{option_map}
use Rattle.std.proofs.lemmas.List.Elements.{filter-append}
use Rattle.std.proofs.lemmas.List.Folds.{list_all-append}
use Rattle.std.proofs.lemmas.Option.{slice_get-map}
use Rattle.stop_schedule.specs.Causes.{same_trip, stop_time_fault}
use Rattle.stop_schedule.specs.Forms.{sequence}
use Rattle.stop_schedule.specs.Holding.{HoldsStops}
use Rattle.timetable.specs.Ids.{are_distinct, has_id}
use Rattle.timetable.specs.Limits.{stop_limit}
use Rattle.stop_schedule.specs.Rising.{has_sequence, is_rising}
use Rattle.stop_schedule.specs.Sheet.{Row, nth}
use Rattle.stop_schedule.specs.StopTimes.{in_sequence, is_of_trip, loaded, placed, sequence_of, stops_in, times}
use Rattle.stop_schedule.specs.declared.stop_times.LoadedStop.{LoadedStop}
use Rattle.stop_schedule.specs.declared.table_file.TableFile.TheVariants.{StopTimes}
use Rattle.stop_schedule.specs.declared.column.Column.TheVariants.{TripId, StopId}
use Rattle.stop_schedule.specs.declared.table_fault.TableFault.TheVariants.{Limit, Unknown, Duplicate}
use Rattle.timetable.proofs.IdLemmas.{and-left, and-right, bytes_eq-flips, bytes_eq-refl}
use Rattle.stop_schedule.proofs.ListLemmas.{enumerate-after, list_all-set, set-one}
use Rattle.stop_schedule.proofs.SequenceLemmas.{any-in_sequence, in_sequence-after, length-in_sequence, rising-placed}

abbrev pub items_of : Vec LoadedStop → List LoadedStop
items_of stops = stops.items

-- the stops of a trip by numbered rows, as they stand
abbrev pub held : List (List ℕ) → List ℕ → List (ℕ × Row) → List LoadedStop
held stops trip rows = map (loaded stops) (filter (is_of_trip trip) rows)

has-held : (stops : List (List ℕ)) (trip : List ℕ) (sequence n : ℕ) (rows : List Row)
    → has_sequence sequence (held stops trip (enumerate_from n rows))
    ≡ list_any (λ other. bytes_eq trip (nth 0 other) && (sequence == sequence_of other)) rows
has-held stops trip sequence n [] = refl
has-held stops trip sequence n (row ∷ rows) = by (has-held stops trip sequence (n + 1) rows) (bytes_eq trip (nth 0 row))
  where
    by : has_sequence sequence (held stops trip (enumerate_from (n + 1) rows))
        ≡ list_any (λ other. bytes_eq trip (nth 0 other) && (sequence == sequence_of other)) rows
        → (b : Bool) → has_sequence sequence
        (map (loaded stops)
        (cond b ((n, row) ∷ filter (is_of_trip trip) (enumerate_from (n + 1) rows))
        (filter (is_of_trip trip) (enumerate_from (n + 1) rows))))
        ≡ ((b && (sequence == sequence_of row))
        || list_any (λ other. bytes_eq trip (nth 0 other) && (sequence == sequence_of other)) rows)
    by later true = ap (λ rest. (sequence == sequence_of row) || rest) later
    by later false = later

count-held : (stops : List (List ℕ)) (trip : List ℕ) (n : ℕ) (rows : List Row)
    → length (held stops trip (enumerate_from n rows)) ≡ length (filter (λ other. bytes_eq trip (nth 0 other)) rows)
count-held stops trip n [] = refl
count-held stops trip n (row ∷ rows) = by (count-held stops trip (n + 1) rows) (bytes_eq trip (nth 0 row))
  where
    by : length (held stops trip (enumerate_from (n + 1) rows))
        ≡ length (filter (λ other. bytes_eq trip (nth 0 other)) rows)
        → (b : Bool) → length
        (map (loaded stops)
        (cond b ((n, row) ∷ filter (is_of_trip trip) (enumerate_from (n + 1) rows))
        (filter (is_of_trip trip) (enumerate_from (n + 1) rows))))
        ≡ length (cond b (row ∷ filter (λ other. bytes_eq trip (nth 0 other)) rows)
        (filter (λ other. bytes_eq trip (nth 0 other)) rows))
    by later true = ap (λ n. suc n) later
    by later false = later

held-after : (stops : List (List ℕ)) (trip : List ℕ) (rows : List Row) (row : Row) (same : Bool)
    → bytes_eq trip (nth 0 row) ≡ same
    → held stops trip (enumerate_from 1 (rows ++ row ∷ [])) ≡ held stops trip (enumerate_from 1 rows)
    ++ cond same (loaded stops (length rows + 1, row) ∷ []) []
held-after stops trip rows row same is =
    let number : 1 + length rows ≡ length rows + 1 = omega arith in
    ap (held stops trip) (enumerate-after 1 rows row ∙ ap (λ n. enumerate_from 1 rows ++ (n, row) ∷ []) number)
    ∙ ap (map (loaded stops)) (filter-append (is_of_trip trip) (enumerate_from 1 rows) ((length rows + 1, row) ∷ []))
    ∙ map-append (loaded stops) (filter (is_of_trip trip) (enumerate_from 1 rows))
    (filter (is_of_trip trip) ((length rows + 1, row) ∷ []))
    ∙ ap (λ b. held stops trip (enumerate_from 1 rows) ++ map (loaded stops)
    (cond b ((length rows + 1, row) ∷ []) [])) is
    ∙ ap (λ last. held stops trip (enumerate_from 1 rows) ++ last) (by same)
  where
    by : (b : Bool) → map (loaded stops) (cond b ((length rows + 1, row) ∷ []) [])
        ≡ cond b (loaded stops (length rows + 1, row) ∷ []) []
    by true = refl
    by false = refl

stops-other : (stops : List (List ℕ)) (rows : List Row) (row : Row) (trip : List ℕ)
    → bytes_eq (nth 0 row) trip ≡ false → stops_in stops rows trip ≡ stops_in stops (rows ++ row ∷ []) trip
stops-other stops rows row trip apart =
    ap in_sequence (sym
    (held-after stops trip rows row false (bytes_eq-flips trip (nth 0 row) ∙ apart)
    ∙ append-nil (held stops trip (enumerate_from 1 rows))))

stops-self : (stops : List (List ℕ)) (rows : List Row) (row : Row)
    → has_sequence (sequence_of row) (stops_in stops rows (nth 0 row)) ≡ false
    → stops_in stops (rows ++ row ∷ []) (nth 0 row) ≡ placed (loaded stops (length rows + 1, row))
    (stops_in stops rows (nth 0 row))
stops-self stops rows row none =
    let lacks : has_sequence (sequence_of row) (held stops (nth 0 row) (enumerate_from 1 rows)) ≡ false =
    sym (any-in_sequence (λ stop. sequence_of row == stop.sequence) (held stops (nth 0 row) (enumerate_from 1 rows)))
    ∙ none in
    ap in_sequence (held-after stops (nth 0 row) rows row true (bytes_eq-refl (nth 0 row)))
    ∙ in_sequence-after (held stops (nth 0 row) (enumerate_from 1 rows)) (loaded stops (length rows + 1, row)) lacks

-- an earlier row has the trip and the sequence
pub has-in : (stops : List (List ℕ)) (rows : List Row) (row : Row)
    → has_sequence (sequence_of row) (stops_in stops rows (nth 0 row))
    ≡ list_any (λ other. same_trip row other && (sequence_of row == sequence_of other)) rows
has-in stops rows row =
    any-in_sequence (λ stop. sequence_of row == stop.sequence) (held stops (nth 0 row) (enumerate_from 1 rows))
    ∙ has-held stops (nth 0 row) (sequence_of row) 1 rows

pub count-in : (stops : List (List ℕ)) (rows : List Row) (row : Row)
    → length (stops_in stops rows (nth 0 row)) ≡ length (filter (same_trip row) rows)
count-in stops rows row = length-in_sequence (held stops (nth 0 row) (enumerate_from 1 rows))
    ∙ count-held stops (nth 0 row) 1 rows

-- no earlier row has a trip that is not known
pub none-unknown : (trips : List (List ℕ)) (row : Row) (rows : List Row)
    → list_all (λ other. has_id (nth 0 other) trips) rows ≡ true → has_id (nth 0 row) trips ≡ false
    → length (filter (same_trip row) rows) ≡ 0
none-unknown trips row [] known lacks = refl
none-unknown trips row (other ∷ rows) known lacks =
    by (none-unknown trips row rows (and-right (has_id (nth 0 other) trips) _ known) lacks)
    (bytes_eq (nth 0 row) (nth 0 other)) refl
  where
    by : length (filter (same_trip row) rows) ≡ 0 → (b : Bool) → bytes_eq (nth 0 row) (nth 0 other) ≡ b
        → length (cond b (other ∷ filter (same_trip row) rows) (filter (same_trip row) rows)) ≡ 0
    by later true e =
        let same : nth 0 row ≡ nth 0 other = (bytes_eq-Decides (nth 0 row) (nth 0 other)).0 e in
        absurd (false≢true (sym lacks ∙ rw same (and-left (has_id (nth 0 other) trips) _ known)))
    by later false e = later

-- ---- the faults

pub unknown-trip : (trips stops : List (List ℕ)) (before : List Row) (row : Row)
    → list_all (λ other. has_id (nth 0 other) trips) before ≡ true → has_id (nth 0 row) trips ≡ false
    → stop_time_fault trips stops before row ≡ Some (Unknown StopTimes (length before + 1) TripId)
unknown-trip trips stops before row known lacks = rw (none-unknown trips row before known lacks, lacks) refl

pub too-many : (trips stops : List (List ℕ)) (before : List Row) (row : Row)
    → stop_limit ≤ length (stops_in stops before (nth 0 row))
    → stop_time_fault trips stops before row ≡ Some (Limit StopTimes (length before + 1))
too-many trips stops before row many =
    let count = count-in stops before row in
    let over : nat_le stop_limit (length (filter (same_trip row) before)) ≡ true = grind (arith, nat_tests, count, many) in
    rw over refl

module _ (trips stops : List (List ℕ)) (before : List Row) (row : Row)
    (few : length (stops_in stops before (nth 0 row)) < stop_limit) (of_trip : has_id (nth 0 row) trips ≡ true) where
  within : nat_le stop_limit (length (filter (same_trip row) before)) ≡ false
  within = let count = count-in stops before row in grind (arith, nat_tests, count, few)

  pub unknown-stop : has_id (nth 2 row) stops ≡ false
      → stop_time_fault trips stops before row ≡ Some (Unknown StopTimes (length before + 1) StopId)
  unknown-stop lacks = rw (within, of_trip, lacks) refl

  pub twice : has_id (nth 2 row) stops ≡ true
      → has_sequence (sequence_of row) (stops_in stops before (nth 0 row)) ≡ true
      → stop_time_fault trips stops before row ≡ Some (Duplicate StopTimes (length before + 1))
  twice of_stop has = rw (within, of_trip, of_stop, sym (has-in stops before row) ∙ has) refl

  pub no-fault : has_id (nth 2 row) stops ≡ true
      → has_sequence (sequence_of row) (stops_in stops before (nth 0 row)) ≡ false
      → stop_time_fault trips stops before row ≡ None
  no-fault of_stop none = rw (within, of_trip, of_stop, sym (has-in stops before row) ∙ none) refl

-- ---- what is held

-- the stop of a row
pub loaded-row : (stops : List (List ℕ)) (row : Row) (number same place stop : ℕ) (held_times : Option (ℕ × ℕ))
    → same ≡ number → Some place ≡ sequence (nth 1 row)
    → Some stop ≡ position (bytes_eq (nth 2 row)) stops → held_times ≡ times row
    → (record { row = same; sequence = place; stop = record { 0 = stop }; times = held_times })
    ≡ loaded stops (number, row)
loaded-row stops row number same place stop held_times one two three four =
    λ i. record {
      row = one i;
      sequence = unwrap_or (two i) 0;
      stop = record { 0 = unwrap_or (three i) 0 };
      times = four i;
    }

module _ (trips stops : List (List ℕ)) (by_trip : List (List LoadedStop)) (before : List Row)
    (holds : HoldsStops trips stops by_trip before) where
  pub held-at : (place : ℕ) (trip : List ℕ) (items : List LoadedStop) → slice_get trips place ≡ Some trip
      → slice_get by_trip place ≡ Some items → items ≡ stops_in stops before trip
  held-at place trip items at is =
      let all = ap (λ lists. slice_get lists place) holds.stops_are
      ∙ slice_get-map (stops_in stops before) trips place ∙ ap (option_map (stops_in stops before)) at in
      let found : Some items ≡ Some (stops_in stops before trip) = sym is ∙ all in
      cc found

  pub stands-in : (place : ℕ) (trip : List ℕ) → slice_get trips place ≡ Some trip
      → slice_get by_trip place ≡ Some (stops_in stops before trip)
  stands-in place trip at =
      ap (λ lists. slice_get lists place) holds.stops_are ∙ slice_get-map (stops_in stops before) trips place
      ∙ ap (option_map (stops_in stops before)) at

  pub stops-step : (row : Row) (place : ℕ) (value : List LoadedStop) → are_distinct trips ≡ true
      → slice_get trips place ≡ Some (nth 0 row)
      → is_rising (stops_in stops before (nth 0 row)) ≡ true
      → has_sequence (sequence_of row) (stops_in stops before (nth 0 row)) ≡ false
      → has_id (nth 0 row) trips ≡ true
      → value ≡ placed (loaded stops (length before + 1, row)) (stops_in stops before (nth 0 row))
      → HoldsStops trips stops (set by_trip place value) (before ++ row ∷ [])
  stops-step row place value distinct at rising none known is = record {
    stops_are = ap (λ lists. set lists place value) holds.stops_are
        ∙ set-one (stops_in stops before) (stops_in stops (before ++ row ∷ [])) (nth 0 row)
        (stops-other stops before row) trips place value distinct at (is ∙ sym (stops-self stops before row none));
    rising = list_all-set is_rising by_trip place value holds.rising
        (rw is (rising-placed (loaded stops (length before + 1, row)) (stops_in stops before (nth 0 row)) rising none));
    known = list_all-append (λ other. has_id (nth 0 other) trips) before (row ∷ [])
        ∙ both_true holds.known (both_true known refl);
  }

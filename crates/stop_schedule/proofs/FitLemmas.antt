-- What was read of a folder is in the ranges that a timetable keeps.
use mathlib.Core.List.{reverse-cons}
use Rattle.std.proofs.Common.{◌≡◌, ◌∙◌, ◌≤◌, ◌<◌, ◌+◌, ◌-◌, ◌*◌, ◌/◌, ◌&&◌, ◌||◌, ℕ, zero, suc, Bool, true, false, cond, nat_eq, nat_le, nat_lt, List, [], ◌∷◌, length, length-append, take, drop, reverse, get_or, slice_get, Option, Some, None, refl, sym, ap, arith}
use Rattle.std.specs.Prelude.{⊤}
use Rattle.std.specs.List.{AllZip, list_all, list_any}
use Rattle.std.specs.Cmp.Derive.{both_true}
use Rattle.std.specs.Str.{bytes_eq}
use Rattle.std.proofs.Math.Nat.{div-le_of_le-mul, mul-le-mul_left}
use Rattle.std.proofs.lemmas.Bool.{eq-eqb, false≢true, le-leb, leb-true, lt-ltb}
use Rattle.std.proofs.lemmas.Slice.Eq.{bytes_eq-Decides}
use Rattle.std.proofs.lemmas.List.{length-map}
use Rattle.std.proofs.lemmas.List.Folds.{list_all-append, list_any-append}
use Rattle.std.proofs.lemmas.Option.{slice_get-get_or}
use Rattle.stop_schedule.specs.Carrying.{Candidate, Carries, IsOf, Lists, candidate, carried_to, ids_to}
use Rattle.timetable.specs.Held.{are_in_range, is_in_range}
use Rattle.timetable.specs.Ids.{are_ids, has_id}
use Rattle.stop_schedule.specs.Keeping.{HasTrips, all_loaded, are_below, are_loaded, are_times, is_loaded}
use Rattle.timetable.specs.Limits.{stop_limit, time_limit}
use Rattle.stop_schedule.specs.Rising.{all_greater, is_rising}
use Rattle.stop_schedule.specs.StopTimes.{filled, filled_from, nearest, or_further, stop_row, time_between, times_or}
use Rattle.timetable.specs.Stops.{are_known, are_rising, are_stops_of, are_timed, is_timed}
use Rattle.stop_schedule.specs.declared.assembling.Assembled.{Assembled}
use Rattle.timetable.specs.declared.carried_trip.CarriedTrip.{CarriedTrip}
use Rattle.stop_schedule.specs.declared.stop_times.LoadedStop.{LoadedStop}
use Rattle.timetable.specs.declared.stop_row.StopRow.{StopRow}
use Rattle.stop_schedule.proofs.CarryingLemmas.{carried-ids}
use Rattle.timetable.proofs.IdLemmas.{and-left, and-right, place-of-id-at}
use Rattle.stop_schedule.proofs.KeepingLemmas.{below-at, loaded-at}

-- ---- parts of a list

all-take : {A : Type 0} (test : A → Bool) (n : ℕ) (xs : List A) → list_all test xs ≡ true
    → list_all test (take n xs) ≡ true
all-take test zero xs all = refl
all-take test (suc n) [] all = refl
all-take test (suc n) (x ∷ xs) all = both_true (and-left (test x) _ all) (all-take test n xs (and-right (test x) _ all))

all-drop : {A : Type 0} (test : A → Bool) (n : ℕ) (xs : List A) → list_all test xs ≡ true
    → list_all test (drop n xs) ≡ true
all-drop test zero xs all = all
all-drop test (suc n) [] all = refl
all-drop test (suc n) (x ∷ xs) all = all-drop test n xs (and-right (test x) _ all)

all-reverse : {A : Type 0} (test : A → Bool) (xs : List A) → list_all test xs ≡ true → list_all test (reverse xs) ≡ true
all-reverse test [] all = refl
all-reverse test (x ∷ xs) all =
    rw (reverse-cons x xs, list_all-append test (reverse xs) (x ∷ []))
    (both_true (all-reverse test xs (and-right (test x) _ all)) (both_true (and-left (test x) _ all) refl))

-- ---- the times of stops

FoundFew : Option (ℕ × (ℕ × ℕ)) → Type 0
FoundFew None = ⊤
FoundFew (Some found) = (found.1.0 ≤ time_limit) × (found.1.1 ≤ time_limit)

few-further : (times : Option (ℕ × ℕ)) (later : Option (ℕ × (ℕ × ℕ))) → are_times times ≡ true → FoundFew later
    → FoundFew (or_further times later)
unfolding FoundFew
few-further (Some times) later few more = (
  leb-true times.0 time_limit (and-left (nat_le times.0 time_limit) _ few),
  leb-true times.1 time_limit (and-right (nat_le times.0 time_limit) _ few),
)
few-further None None few more = tt
few-further None (Some found) few more = more

nearest-few : (stops : ℕ) (held : List LoadedStop) → list_all (is_loaded stops) held ≡ true → FoundFew (nearest held)
unfolding FoundFew
nearest-few stops [] all = tt
nearest-few stops (stop ∷ held) all =
    few-further stop.times (nearest held)
    (and-right (nat_lt stop.stop.0 stops) _ (and-left (is_loaded stops stop) _ all))
    (nearest-few stops held (and-right (is_loaded stops stop) _ all))

part-of : (span back ahead : ℕ) → span * (back + 1) / (back + ahead + 2) ≤ span
part-of span back ahead =
    div-le_of_le-mul (back + ahead + 2) (
    let less : back + 1 ≤ back + ahead + 2 = omega arith in
    let more : span * (back + 1) ≤ span * (back + ahead + 2) = mul-le-mul_left span less in omega (arith, more))

between-few : (before after : Option (ℕ × (ℕ × ℕ))) → FoundFew before → FoundFew after
    → time_between before after ≤ time_limit
unfolding FoundFew
between-few None after first last = omega arith
between-few (Some before) None first last = omega arith
between-few (Some before) (Some after) first last =
    let part = part-of (after.1.0 - before.1.1) before.0 after.0 in
    let from = first.1 in
    let to = last.0 in
    omega (arith, part, from, to)

timed-or : (times : Option (ℕ × ℕ)) (between : ℕ) → are_times times ≡ true → between ≤ time_limit
    → (nat_le (times_or times between).0 time_limit && nat_le (times_or times between).1 time_limit) ≡ true
timed-or None between few less = both_true (le-leb between time_limit less) (le-leb between time_limit less)
timed-or (Some times) between few less = few

-- ---- the stops of a trip with their times

module _ (stops : ℕ) (all : List LoadedStop) (sound : list_all (is_loaded stops) all ≡ true) where
  row-timed : (place : ℕ) (stop : LoadedStop) → is_loaded stops stop ≡ true → is_timed (stop_row all place stop) ≡ true
  row-timed place stop good =
      timed-or stop.times (time_between (nearest (reverse (take place all))) (nearest (drop (place + 1) all)))
      (and-right (nat_lt stop.stop.0 stops) _ good)
      (between-few (nearest (reverse (take place all))) (nearest (drop (place + 1) all))
      (nearest-few stops (reverse (take place all))
      (all-reverse (is_loaded stops) (take place all) (all-take (is_loaded stops) place all sound)))
      (nearest-few stops (drop (place + 1) all) (all-drop (is_loaded stops) (place + 1) all sound)))

  each-timed : (place : ℕ) (rest : List LoadedStop) → list_all (is_loaded stops) rest ≡ true
      → are_timed (filled_from all place rest) ≡ true
  each-timed place [] good = refl
  each-timed place (stop ∷ rest) good =
      both_true (row-timed place stop (and-left (is_loaded stops stop) _ good))
      (each-timed (place + 1) rest (and-right (is_loaded stops stop) _ good))

each-known : (stops : ℕ) (all : List LoadedStop) (place : ℕ) (rest : List LoadedStop)
    → list_all (is_loaded stops) rest ≡ true
    → are_known stops (filled_from all place rest) ≡ true
each-known stops all place [] good = refl
each-known stops all place (stop ∷ rest) good =
    both_true (and-left (nat_lt stop.stop.0 stops) _ (and-left (is_loaded stops stop) _ good))
    (each-known stops all (place + 1) rest (and-right (is_loaded stops stop) _ good))

above : (sequence : ℕ) (all : List LoadedStop) (place : ℕ) (rest : List LoadedStop) → all_greater sequence rest ≡ true
    → list_all (λ (other : StopRow). nat_lt sequence other.sequence) (filled_from all place rest) ≡ true
above sequence all place [] greater = refl
above sequence all place (stop ∷ rest) greater =
    both_true (and-left (nat_lt sequence stop.sequence) _ greater)
    (above sequence all (place + 1) rest (and-right (nat_lt sequence stop.sequence) _ greater))

rising : (all : List LoadedStop) (place : ℕ) (rest : List LoadedStop) → is_rising rest ≡ true
    → are_rising (filled_from all place rest) ≡ true
rising all place [] up = refl
rising all place (stop ∷ rest) up =
    both_true (above stop.sequence all (place + 1) rest (and-left (all_greater stop.sequence rest) _ up))
    (rising all (place + 1) rest (and-right (all_greater stop.sequence rest) _ up))

as-long : (all : List LoadedStop) (place : ℕ) (rest : List LoadedStop)
    → length (filled_from all place rest) ≡ length rest
as-long all place [] = refl
as-long all place (stop ∷ rest) = ap (λ n. suc n) (as-long all (place + 1) rest)

stops-fit : (stops : ℕ) (held : List LoadedStop) → are_loaded stops held ≡ true
    → are_stops_of stops (filled held) ≡ true
stops-fit stops held good =
    let few = and-left (nat_le (length held) stop_limit) _ good in
    let rest = and-right (nat_le (length held) stop_limit) _ good in
    let each = and-right (is_rising held) _ rest in
    let long : nat_le (length (filled held)) stop_limit ≡ true = rw (as-long held 0 held) few in
    both_true long (both_true (rising held 0 held (and-left (is_rising held) _ rest))
    (both_true (each-known stops held 0 held each) (each-timed stops held each 0 held each)))

-- ---- the trips that are carried

fits : ℕ → ℕ → Candidate → Bool
fits routes stops one = nat_lt one.route routes && are_loaded stops one.stops

each-fits : (routes stops : ℕ) (rows : List StopRow) (trips : List CarriedTrip) (ones : List Candidate)
    → AllZip (IsOf rows) trips ones
    → list_all (fits routes stops) ones ≡ true → list_all (is_in_range routes stops rows) trips ≡ true
unfolding fits
each-fits routes stops rows [] [] all good = refl
each-fits routes stops rows [] (one ∷ ones) all good = refl
each-fits routes stops rows (trip ∷ trips) [] all good = absurd all
each-fits routes stops rows (trip ∷ trips) (one ∷ ones) all good =
    let here = and-left (fits routes stops one) _ good in
    let route : nat_lt trip.route routes ≡ true = rw all.0.route_is (and-left (nat_lt one.route routes) _ here) in
    let stops_are : are_stops_of stops (drop trip.first (take trip.end rows)) ≡ true =
    rw all.0.stops_are (stops-fit stops one.stops (and-right (nat_lt one.route routes) _ here)) in
    both_true (both_true route
    (both_true (le-leb trip.first trip.end all.0.ordered)
    (both_true (le-leb trip.end (length rows) all.0.within) stops_are)))
    (each-fits routes stops rows trips ones all.1 (and-right (fits routes stops one) _ good))

candidates-fit : (lists : Lists) (routes stops n : ℕ) → n ≤ length lists.ids → length lists.routes ≡ length lists.ids
    → are_below routes lists.routes ≡ true
    → all_loaded stops lists.by_trip ≡ true → list_all (fits routes stops) (carried_to lists n) ≡ true
unfolding fits
candidates-fit lists routes stops zero within as_many below loaded = refl
candidates-fit lists routes stops (suc n) within as_many below loaded =
    let route = below-at routes lists.routes n below (omega arith) in
    let one : fits routes stops (candidate lists n) ≡ true =
    both_true (lt-ltb (get_or lists.routes n 0) routes route) (loaded-at stops lists.by_trip n loaded) in
    rw (list_all-append (fits routes stops) (carried_to lists n)
    (cond (get_or lists.carried n false) (candidate lists n ∷ []) []))
    (both_true (candidates-fit lists routes stops n (omega arith) as_many below loaded)
    (by one (get_or lists.carried n false)))
  where
    by : fits routes stops (candidate lists n) ≡ true → (b : Bool)
        → list_all (fits routes stops) (cond b (candidate lists n ∷ []) []) ≡ true
    by one true = both_true one refl
    by one false = refl

as-many : (rows : List StopRow) (trips : List CarriedTrip) (ones : List Candidate) → AllZip (IsOf rows) trips ones
    → length trips ≡ length ones
as-many rows [] [] all = refl
as-many rows [] (one ∷ ones) all = absurd all
as-many rows (trip ∷ trips) [] all = absurd all
as-many rows (trip ∷ trips) (one ∷ ones) all = ap (λ n. suc n) (as-many rows trips ones all.1)

pub few-ids : (ids : List (List ℕ)) (carried : List Bool) (n : ℕ) → length (ids_to ids carried n) ≤ n
few-ids ids carried zero = omega arith
few-ids ids carried (suc n) =
    let so_far = few-ids ids carried n in
    let long = length-append (ids_to ids carried n) (cond (get_or carried n false) (get_or ids n [] ∷ []) []) in
    let last : length (cond (get_or carried n false) (get_or ids n [] ∷ []) []) ≤ 1 = by (get_or carried n false) in
    omega (arith, so_far, long, last)
  where
    by : (b : Bool) → length (cond b (get_or ids n [] ∷ []) []) ≤ 1
    by true = omega arith
    by false = omega arith

-- all that was read is in the ranges of a timetable
pub in-range : (lists : Lists) (routes stops kept : List (List ℕ)) (all : Assembled)
    → HasTrips (length routes) lists.ids lists.routes
    → all_loaded (length stops) lists.by_trip ≡ true → kept ≡ ids_to lists.ids lists.carried (length lists.ids)
    → Carries all (carried_to lists (length lists.ids))
    → are_in_range kept routes stops all.carried.items all.stop_rows.items ≡ true
in-range lists routes stops kept all trips loaded is carries =
    let n = length lists.ids in
    let same : length all.carried.items ≡ length kept =
    as-many all.stop_rows.items all.carried.items (carried_to lists n) carries.trips
    ∙ sym (length-map (carried_to lists n) (λ (one : Candidate). one.id)) ∙ ap length (carried-ids lists n)
    ∙ ap length (sym is) in
    let few : length kept ≤ 200000 = let bound = few-ids lists.ids lists.carried n in let most =
    trips.few in let long = ap length is in omega (arith, bound, most, long) in
    let equal : nat_eq (length all.carried.items) (length kept) ≡ true =
    eq-eqb (length all.carried.items) (length kept) same in
    both_true equal (both_true (le-leb (length kept) 200000 few)
    (each-fits (length routes) (length stops) all.stop_rows.items all.carried.items (carried_to lists n) carries.trips
    (candidates-fit lists (length routes) (length stops) n (omega arith) trips.as_many trips.known loaded)))

-- ---- an id that was not kept so far

or-last : (b : Bool) → (b || false) ≡ true → b ≡ true
or-last true e = refl
or-last false e = e

stands : (ids : List (List ℕ)) (carried : List Bool) (n : ℕ) (id : List ℕ) → n ≤ length ids
    → has_id id (ids_to ids carried n) ≡ true
    → (k : ℕ) × (k < n) × (slice_get ids k ≡ Some id)
stands ids carried zero id within has = absurd (false≢true has)
stands ids carried (suc n) id within has =
    by (get_or carried n false) (has_id id (ids_to ids carried n)) refl
    (sym (list_any-append (bytes_eq id) (ids_to ids carried n)
    (cond (get_or carried n false) (get_or ids n [] ∷ []) [])) ∙ has)
    (stands ids carried n id (omega arith))
  where
    by : (flag before : Bool) → has_id id (ids_to ids carried n) ≡ before
        → (before || list_any (bytes_eq id) (cond flag (get_or ids n [] ∷ []) [])) ≡ true
        → (has_id id (ids_to ids carried n) ≡ true → (k : ℕ) × (k < n) × (slice_get ids k ≡ Some id))
        → (k : ℕ) × (k < suc n) × (slice_get ids k ≡ Some id)
    by flag true e any earlier = let found = earlier e in (found.0, let less = found.1 in omega (arith, less), found.2)
    by false false e any earlier = absurd (false≢true any)
    by true false e any earlier =
        let same : id ≡ get_or ids n [] =
        (bytes_eq-Decides id (get_or ids n [])).0 (or-last (bytes_eq id (get_or ids n [])) any) in
        (n, omega arith, slice_get-get_or ids n [] (omega arith) ∙ ap (λ (one : List ℕ). Some one) (sym same))

pub new-id : (ids : List (List ℕ)) (carried : List Bool) (n : ℕ) → are_ids ids ≡ true → n < length ids
    → has_id (get_or ids n []) (ids_to ids carried n) ≡ false
new-id ids carried n good within = by (has_id (get_or ids n []) (ids_to ids carried n)) refl
  where
    by : (b : Bool) → has_id (get_or ids n []) (ids_to ids carried n) ≡ b → b ≡ false
    by false e = refl
    by true e =
        let found = stands ids carried n (get_or ids n []) (omega arith) e in
        let first = place-of-id-at ids found.0 (get_or ids n []) good found.2 in
        let second = place-of-id-at ids n (get_or ids n []) good (slice_get-get_or ids n [] within) in
        let equal : Some found.0 ≡ Some n = sym first ∙ second in
        let same : found.0 ≡ n = cc equal in
        let less = found.1 in absurd (omega (arith, same, less))

-- The stops of a trip read at places of their stations, whose ids aren't too long in sum.
use Rattle.std.proofs.Common.{◌≡◌, ◌+◌, ◌<◌, ◌≤◌, ◌==◌, ◌&&◌, ◌∷◌, [], ℕ, zero, suc, ℤ, Bool, true, false, List, map, length, position, Option, Some, None, if◌then◌else◌, refl, sym, subst, arith}
use Rattle.std.specs.Prelude.{nat_le, nat_lt, slice_get}
use Rattle.std.proofs.lemmas.Bool.{eqb-true, false≢true, le-leb, leb-true}
use Rattle.std.proofs.lemmas.Bool.Decides.{nat_tests}
use Rattle.std.proofs.lemmas.List.Quantifiers.{position-Some}
use Rattle.std.proofs.lemmas.Option.{none-some}
use Rattle.std.specs.List.{AllByRecursion, range_with_len, zip}
use Rattle.std.specs.Str.{bytes_eq}
use Rattle.gw_base.specs.declared.messages.StopUpdate.{StopUpdate}
use Rattle.timetable.specs.Stops.{are_known}
use Rattle.timetable.specs.declared.numbers.StopNo.{StopNo}
use Rattle.timetable.specs.declared.stop_row.StopRow.{StopRow}
use Rattle.journey_model.specs.Names.{filled_text}
use Rattle.journey_model.specs.Places.{are_of_station, are_placed, is_placed, keeps_places, place_size, places_fault, reading_size, readings_size}
use Rattle.journey_model.specs.Propagation.{carried, greater, prop, propagated, skips_at, supplied, supplier, supplies, timed}
use Rattle.journey_model.specs.Runs.{Run, planned_at, stop_at}
use Rattle.journey_model.specs.Updates.{assigned_stop, is_no_data, is_scheduled, keeps_station, known_stop, named_by, place_at, place_by, times, update_size, updates_size}
use Rattle.journey_model.specs.declared.fault.Fault.TheVariants.{PlacesTooLong}
use Rattle.journey_model.specs.declared.matching.NamedStop.{NamedStop}
use Rattle.journey_model.specs.declared.matching.NamedStop.TheVariants.{Missing, Unknown, Known}
use Rattle.journey_model.specs.declared.readings.StopReading.{StopReading}
use Rattle.journey_model.specs.declared.readings.StopReading.TheVariants as reading
use Rattle.propagation.proofs.KnownLemmas.{known_at}
use Rattle.propagation.proofs.PlaceLemmas.{is_kept, same-stop}
use Rattle.propagation.proofs.WholeLemmas.{IsWhole, Supplies, and_both, supplier-whole, whole-scheduled}

-- the stops of a run are known
abbrev pub IsKnown : Run → Type 0
IsKnown run = are_known (length run.ids) run.stops ≡ true

-- the place of a stop with a reading is known and of the stop's station
abbrev is_there : Run → StopNo → StopReading → Bool
is_there run scheduled reading.Absent = true
is_there run scheduled reading.Skipped = true
is_there run scheduled (reading.Timed arrival departure place) =
    nat_lt place.0 (length run.ids) && are_of_station run.station_of place.0 scheduled.0

lt-test : (a b : ℕ) → a < b → nat_lt a b ≡ true
lt-test a b h = grind (arith, nat_tests)

scheduled-there : (run : Run) (scheduled : StopNo) → scheduled.0 < length run.ids
    → (nat_lt scheduled.0 (length run.ids) && are_of_station run.station_of scheduled.0 scheduled.0) ≡ true
scheduled-there run scheduled known =
    and_both _ _ (lt-test scheduled.0 (length run.ids) known) (same-stop (run.station_of scheduled.0))

-- the place of an update of a scheduled stop without a fault
named-there : (run : Run) (scheduled : StopNo) (named : NamedStop) (id : Option (List ℕ))
    → scheduled.0 < length run.ids → named_by run.ids id ≡ named
    → keeps_station run.station_of scheduled named ≡ true
    → (nat_lt (place_by scheduled named).0 (length run.ids)
    && are_of_station run.station_of (place_by scheduled named).0 scheduled.0) ≡ true
named-there run scheduled Missing id known is keeps = scheduled-there run scheduled known
named-there run scheduled Unknown id known is keeps = absurd (false≢true keeps)
named-there run scheduled (Known stop) None known is keeps = absurd cc
named-there run scheduled (Known stop) (Some id) known is keeps =
    and_both _ _ (found (position (bytes_eq id) run.ids) refl is) keeps
  where
    found : (at : Option ℕ) → position (bytes_eq id) run.ids ≡ at → known_stop at ≡ Known stop
        → nat_lt stop.0 (length run.ids) ≡ true
    found None at same = absurd cc
    found (Some position) at same =
        let here : position ≡ stop.0 = cc in
        rw (← here) (lt-test position (length run.ids) (position-Some (bytes_eq id) run.ids position [] at).0)

timed-there : (run : Run) (scheduled place : StopNo) (both : Option (ℤ × ℤ))
    → (nat_lt place.0 (length run.ids) && are_of_station run.station_of place.0 scheduled.0) ≡ true
    → is_there run scheduled (timed place both) ≡ true
timed-there run scheduled place None h = refl
timed-there run scheduled place (Some both) h = h

carried-there : (run : Run) (scheduled : StopNo) (plan before : ℤ × ℤ) (both : Option (ℤ × ℤ))
    → scheduled.0 < length run.ids → is_there run scheduled (carried scheduled plan before both) ≡ true
carried-there run scheduled plan before None known = refl
carried-there run scheduled plan before (Some both) known = scheduled-there run scheduled known

supplied-there : (run : Run) (position : ℕ) (found : Option (ℕ × StopUpdate)) → (stop_at run position).0 < length run.ids
    → ((one : ℕ × StopUpdate) → found ≡ Some one → Supplies run one)
    → is_there run (stop_at run position) (supplied run position found) ≡ true
supplied-there run position None known h = refl
supplied-there run position (Some (at, update)) known h = no_data (is_no_data update) refl
  where
    own : Supplies run (at, update)
    own = h (at, update) refl

    here : (b : Bool) → (at == position) ≡ b → is_no_data update ≡ false
        → is_there run (stop_at run position)
        (if b then timed (place_at run position update) (times (planned_at run position) update)
        else carried (stop_at run position) (planned_at run position) (planned_at run at)
        (times (planned_at run at) update)) ≡ true
    here true e says =
        let same : at ≡ position = eqb-true at position e in
        let keeps : keeps_station run.station_of (stop_at run at) (assigned_stop run.ids update) ≡ true =
        (is_kept run own.whole.number at update (whole-scheduled run (at, update) own.whole own.kept says)
        own.whole.whole).keeps in
        timed-there run (stop_at run position) (place_at run position update) (times (planned_at run position) update)
        (named-there run (stop_at run position) (assigned_stop run.ids update) (filled_text update.assigned) known refl
        (subst (λ (p : ℕ). keeps_station run.station_of (stop_at run p) (assigned_stop run.ids update) ≡ true) same
        keeps))
    here false e says =
        carried-there run (stop_at run position) (planned_at run position) (planned_at run at)
        (times (planned_at run at) update) known

    no_data : (b : Bool) → is_no_data update ≡ b
        → is_there run (stop_at run position) (if b then reading.Absent else
        (if at == position then timed (place_at run position update) (times (planned_at run position) update)
        else carried (stop_at run position) (planned_at run position) (planned_at run at)
        (times (planned_at run at) update))) ≡ true
    no_data true e = refl
    no_data false e = here (at == position) refl e

prop-there : (run : Run) (updates : List (ℕ × StopUpdate)) (position : ℕ) → (stop_at run position).0 < length run.ids
    → AllByRecursion (IsWhole run) updates
    → is_there run (stop_at run position) (prop run updates position) ≡ true
prop-there run updates position known h = by (skips_at position updates)
  where
    by : (b : Bool)
        → is_there run (stop_at run position)
        (if b then reading.Skipped else supplied run position (supplier position updates)) ≡ true
    by true = refl
    by false =
        supplied-there run position (supplier position updates) known
        (λ one is. supplier-whole run position updates one h is)

-- ---- the bytes of the ids of these places

-- the bytes of the places of updates at a position
abbrev own_size : Run → ℕ → List (ℕ × StopUpdate) → ℕ
own_size run position [] = 0
own_size run position (one ∷ others) =
    (if one.0 == position then update_size run one.0 one.1 else 0) + own_size run position others

-- the bytes of the place of a stop with a reading
abbrev size_there : Run → StopNo → StopReading → ℕ
size_there run scheduled reading.Absent = 0
size_there run scheduled reading.Skipped = 0
size_there run scheduled (reading.Timed arrival departure place) = place_size run.ids scheduled.0 place.0

supplier-own : (run : Run) (position : ℕ) (updates : List (ℕ × StopUpdate)) (one : ℕ × StopUpdate)
    → supplier position updates ≡ Some one → (one.0 == position) ≡ true
    → update_size run one.0 one.1 ≤ own_size run position updates
supplier-own run position [] one h at = absurd (none-some one h)
supplier-own run position (first ∷ others) one h at =
    by (supplies position first) (supplier position others) (λ same. supplier-own run position others one same at) h
  where
    here : ◌≡◌ {A = Option (ℕ × StopUpdate)} (Some first) (Some one)
        → update_size run one.0 one.1 ≤ own_size run position (first ∷ others)
    here same = let is : first ≡ one = cc in rw (is, at) (omega arith)

    later : update_size run one.0 one.1 ≤ own_size run position others
        → update_size run one.0 one.1 ≤ own_size run position (first ∷ others)
    later h = omega arith

    greater-one : (b : Bool) (next : ℕ × StopUpdate)
        → (Some next ≡ Some one → update_size run one.0 one.1 ≤ own_size run position others)
        → ◌≡◌ {A = Option (ℕ × StopUpdate)} (if b then Some next else Some first) (Some one)
        → update_size run one.0 one.1 ≤ own_size run position (first ∷ others)
    greater-one true next rest same = later (rest same)
    greater-one false next rest same = here same

    by : (own : Bool) (found : Option (ℕ × StopUpdate))
        → (found ≡ Some one → update_size run one.0 one.1 ≤ own_size run position others)
        → greater (if own then Some first else None) found ≡ Some one
        → update_size run one.0 one.1 ≤ own_size run position (first ∷ others)
    by true (Some next) rest same = greater-one (nat_le first.0 next.0) next rest same
    by true None rest same = here same
    by false found rest same = later (rest same)

scheduled-size : (run : Run) (scheduled : StopNo) → place_size run.ids scheduled.0 scheduled.0 ≡ 0
scheduled-size run scheduled = rw (same-stop scheduled.0) refl

supplied-size : (run : Run) (position limit : ℕ) (found : Option (ℕ × StopUpdate))
    → ((one : ℕ × StopUpdate) → found ≡ Some one → Supplies run one)
    → ((one : ℕ × StopUpdate) → found ≡ Some one → (one.0 == position) ≡ true → update_size run one.0 one.1 ≤ limit)
    → size_there run (stop_at run position) (supplied run position found) ≤ limit
supplied-size run position limit None h small = omega arith
supplied-size run position limit (Some (at, update)) h small = no_data (is_no_data update) refl
  where
    own : Supplies run (at, update)
    own = h (at, update) refl

    timed-size : (both : Option (ℤ × ℤ)) → update_size run position update ≤ limit → is_scheduled update ≡ true
        → size_there run (stop_at run position) (timed (place_at run position update) both) ≤ limit
    timed-size None few counts = omega arith
    timed-size (Some both) few counts = rw counts at few

    carried-size : (both : Option (ℤ × ℤ))
        → size_there run (stop_at run position)
        (carried (stop_at run position) (planned_at run position) (planned_at run at) both) ≤ limit
    carried-size None = omega arith
    carried-size (Some both) = rw (scheduled-size run (stop_at run position)) (omega arith)

    here : (b : Bool) → (at == position) ≡ b → is_no_data update ≡ false
        → size_there run (stop_at run position)
        (if b then timed (place_at run position update) (times (planned_at run position) update)
        else carried (stop_at run position) (planned_at run position) (planned_at run at)
        (times (planned_at run at) update)) ≤ limit
    here true e says =
        let same : at ≡ position = eqb-true at position e in
        timed-size (times (planned_at run position) update)
        (subst (λ (p : ℕ). update_size run p update ≤ limit) same (small (at, update) refl e))
        (whole-scheduled run (at, update) own.whole own.kept says)
    here false e says = carried-size (times (planned_at run at) update)

    no_data : (b : Bool) → is_no_data update ≡ b
        → size_there run (stop_at run position) (if b then reading.Absent else
        (if at == position then timed (place_at run position update) (times (planned_at run position) update)
        else carried (stop_at run position) (planned_at run position) (planned_at run at)
        (times (planned_at run at) update))) ≤ limit
    no_data true e = omega arith
    no_data false e = here (at == position) refl e

prop-size : (run : Run) (updates : List (ℕ × StopUpdate)) (position : ℕ) → AllByRecursion (IsWhole run) updates
    → size_there run (stop_at run position) (prop run updates position) ≤ own_size run position updates
prop-size run updates position h = by (skips_at position updates)
  where
    by : (b : Bool)
        → size_there run (stop_at run position)
        (if b then reading.Skipped else supplied run position (supplier position updates))
        ≤ own_size run position updates
    by true = omega arith
    by false =
        supplied-size run position (own_size run position updates) (supplier position updates)
        (λ one is. supplier-whole run position updates one h is)
        (λ one is at. supplier-own run position updates one is at)

-- the sum of numbers from a position on
abbrev sum_from : (ℕ → ℕ) → ℕ → ℕ → ℕ
sum_from f low zero = 0
sum_from f low (suc count) = f low + sum_from f (low + 1) count

sum-none : (low count : ℕ) → sum_from (λ i. 0) low count ≡ 0
sum-none low zero = refl
sum-none low (suc count) = let rest = sum-none (low + 1) count in omega (arith, rest)

sum-both : (f g : ℕ → ℕ) (low count : ℕ)
    → sum_from (λ i. f i + g i) low count ≡ sum_from f low count + sum_from g low count
sum-both f g low zero = refl
sum-both f g low (suc count) = let rest = sum-both f g (low + 1) count in omega (arith, rest)

-- a number that stands at one position counts once at most
sum-past : (at size low count : ℕ) → at < low → sum_from (λ i. if at == i then size else 0) low count ≡ 0
sum-past at size low zero h = refl
sum-past at size low (suc count) h =
    let ne : (at == low) ≡ false = grind (arith, nat_tests) in
    let rest = sum-past at size (low + 1) count (omega arith) in
    rw ne (omega (arith, rest))

sum-once : (at size low count : ℕ) → sum_from (λ i. if at == i then size else 0) low count ≤ size
sum-once at size low zero = omega arith
sum-once at size low (suc count) = by (at == low) refl (sum-once at size (low + 1) count)
  where
    by : (b : Bool) → (at == low) ≡ b → sum_from (λ i. if at == i then size else 0) (low + 1) count ≤ size
        → (if b then size else 0) + sum_from (λ i. if at == i then size else 0) (low + 1) count ≤ size
    by true e rest =
        let same : at ≡ low = eqb-true at low e in
        let none : sum_from (λ i. if at == i then size else 0) (low + 1) count ≡ 0 =
        sum-past at size (low + 1) count (omega arith) in
        omega (arith, none)
    by false e rest = omega arith

-- over all positions no more than the bytes of all updates
sum-own : (run : Run) (updates : List StopUpdate) (at : List ℕ) (low count : ℕ)
    → sum_from (λ i. own_size run i (zip at updates)) low count ≤ updates_size run at updates
sum-own run updates [] low count = let none = sum-none low count in omega (arith, none)
sum-own run [] (position ∷ at) low count = let none = sum-none low count in omega (arith, none)
sum-own run (update ∷ updates) (position ∷ at) low count =
    let both = sum-both (λ i. if position == i then update_size run position update else 0)
    (λ i. own_size run i (zip at updates)) low count in
    let once = sum-once position (update_size run position update) low count in
    let rest = sum-own run updates at low count in
    omega (arith, both)

-- ---- all stops

-- each row of a list passes what holds at its position
rows-there : (run : Run) (rows : List StopRow) (reads : ℕ → StopReading) (low : ℕ)
    → ((i : ℕ) (row : StopRow) → slice_get rows i ≡ Some row → is_there run row.stop (reads (low + i)) ≡ true)
    → are_placed run rows (map reads (range_with_len low (length rows))) ≡ true
rows-there run [] reads low h = refl
rows-there run (row ∷ rows) reads low h =
    and_both _ _
    (placed (reads low)
    (subst (λ (at : ℕ). is_there run row.stop (reads at) ≡ true) (omega arith) (h 0 row refl)))
    (rows-there run rows reads (low + 1)
    (λ i other is. subst (λ (at : ℕ). is_there run other.stop (reads at) ≡ true) (omega arith)
    (h (suc i) other is)))
  where
    placed : (read : StopReading) → is_there run row.stop read ≡ true → is_placed run row read ≡ true
    placed reading.Absent e = refl
    placed reading.Skipped e = refl
    placed (reading.Timed arrival departure place) e = e

rows-size : (run : Run) (rows : List StopRow) (reads : ℕ → StopReading) (limit : ℕ → ℕ) (low : ℕ)
    → ((i : ℕ) (row : StopRow) → slice_get rows i ≡ Some row → size_there run row.stop (reads (low + i)) ≤ limit (low + i))
    → readings_size run.ids rows (map reads (range_with_len low (length rows))) ≤ sum_from limit low (length rows)
rows-size run [] reads limit low h = omega arith
rows-size run (row ∷ rows) reads limit low h =
    let here : size_there run row.stop (reads low) ≤ limit low =
    subst (λ (at : ℕ). size_there run row.stop (reads at) ≤ limit at) (omega arith) (h 0 row refl) in
    let same = sized (reads low) in
    let rest = rows-size run rows reads limit (low + 1)
    (λ i other is. subst (λ (at : ℕ). size_there run other.stop (reads at) ≤ limit at) (omega arith)
    (h (suc i) other is)) in
    omega (arith, same)
  where
    sized : (read : StopReading) → reading_size run.ids row read ≡ size_there run row.stop read
    sized reading.Absent = refl
    sized reading.Skipped = refl
    sized (reading.Timed arrival departure place) = refl

-- the stop of a row
stop-there : (run : Run) (position : ℕ) (row : StopRow) → slice_get run.stops position ≡ Some row
    → row.stop ≡ stop_at run position
stop-there run position row is = rw is refl

small-sum : (bytes : ℕ) → places_fault bytes ≡ None → nat_le bytes 4096 ≡ true
small-sum bytes e = by (nat_le bytes 4096) e
  where
    by : (b : Bool) → (if b then None else Some (PlacesTooLong bytes)) ≡ None → b ≡ true
    by true same = refl
    by false same = absurd cc

-- updates without a fault: their places are kept
pub updates-keep : (run : Run) (updates : List StopUpdate) (at : List ℕ) → IsKnown run
    → AllByRecursion (IsWhole run) (zip at updates) → places_fault (updates_size run at updates) ≡ None
    → keeps_places run (propagated run at updates) ≡ true
updates-keep run updates at known whole short =
    let there : are_placed run run.stops (propagated run at updates) ≡ true =
    rows-there run run.stops (prop run (zip at updates)) 0
    (λ i row is. subst (λ (position : ℕ). is_there run row.stop (prop run (zip at updates) position) ≡ true) (omega arith)
    (subst (λ (stop : StopNo). is_there run stop (prop run (zip at updates) i) ≡ true)
    (sym (stop-there run i row is))
    (prop-there run (zip at updates) i
    (subst (λ (stop : StopNo). stop.0 < length run.ids) (stop-there run i row is)
    (known_at (length run.ids) run.stops i row known is))
    whole))) in
    let sizes = rows-size run run.stops (prop run (zip at updates)) (λ i. own_size run i (zip at updates)) 0
    (λ i row is. subst (λ (position : ℕ). size_there run row.stop (prop run (zip at updates) position)
    ≤ own_size run position (zip at updates)) (omega arith)
    (subst (λ (stop : StopNo). size_there run stop (prop run (zip at updates) i) ≤ own_size run i (zip at updates))
    (sym (stop-there run i row is)) (prop-size run (zip at updates) i whole))) in
    let own = sum-own run updates at 0 (length run.stops) in
    let few : updates_size run at updates ≤ 4096 = leb-true _ _ (small-sum (updates_size run at updates) short) in
    let sum : readings_size run.ids run.stops (propagated run at updates) ≤ 4096 = omega arith in
    and_both _ _ there (le-leb _ _ sum)

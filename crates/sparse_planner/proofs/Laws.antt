-- The shortest list says how the stops read, and every list that says so has an update wherever it has one.
use Rattle.std.proofs.Common.{◌≡◌, ◌∙◌, ◌+◌, ◌≤◌, ◌==◌, ◌++◌, ◌+ℤ◌, ℕ, ℤ, Bool, true, false, not, List, [], ◌∷◌, zip, Option, Some, None, Result, Ok, Err, if◌then◌else◌, int_eq, IfOk, refl, ap, ap₂, sym, subst, subst₂, arith, le_refl, eq-eqb, eqb-true, ne_eqb, ◌⊎◌, inl, inr, ⊎_elim, nat_le, ◌&&◌}
use Rattle.std.specs.List.{list_any}
use Rattle.std.proofs.lemmas.Bool.{and_parts, not-false, or_cases, or_left, or_parts, or_right}
use Rattle.std.proofs.lemmas.Bool.Decides.{Decides-int_eq}
use Rattle.std.proofs.lemmas.Int.{ints}
use Rattle.gw_base.specs.declared.messages.StopUpdate.{StopUpdate}
use Rattle.timetable.specs.Ids.{are_ids}
use Rattle.timetable.specs.Planned.{planned}
use Rattle.timetable.specs.Stops.{are_rising}
use Rattle.timetable.specs.Sound.{IsSound}
use Rattle.timetable.specs.Table.{Table}
use Rattle.timetable.specs.declared.stop_row.StopRow.{StopRow}
use Rattle.journey_model.proofs.Suppliers.{Rise}
use Rattle.journey_model.specs.Dated.{run_of}
use Rattle.journey_model.specs.Places.{are_placed, is_placed, keeps_places, places_limit, readings_size}
use Rattle.journey_model.specs.Propagation.{propagated}
use Rattle.journey_model.specs.Readings.{are_near, fits_trip, is_near, is_skipped}
use Rattle.journey_model.specs.Runs.{Run}
use Rattle.journey_model.specs.Updates.{places}
use Rattle.journey_model.specs.declared.context.DatedTrip.{DatedTrip}
use Rattle.journey_model.specs.declared.fault.Fault.{Fault}
use Rattle.journey_model.specs.declared.readings.JourneyReading.{JourneyReading}
use Rattle.journey_model.specs.declared.readings.JourneyReading.TheVariants.{Cancelled, Stops}
use Rattle.journey_model.specs.declared.readings.StopReading.{StopReading}
use Rattle.journey_model.specs.declared.readings.StopReading.TheVariants.{Absent, Skipped, Timed}
use Rattle.sparse_planner.specs.Means.{HasPlace, IsLeastOf, Says}
use Rattle.sparse_planner.specs.Shortest.{same_reading, shortest, update}
use Rattle.sparse_planner.proofs.Placing.{place-named, places-each, places-rise, places-whole, plan_places}
use Rattle.sparse_planner.proofs.States.{delay_after, needs, plan_from, running, updates-plan}
use Rattle.sparse_planner.proofs.Walks.{own_of, prop-walk, rise-lower, walk}

-- ---- a stop without an update reads as is supplied to it

same-is : (one other : StopReading) → same_reading one other ≡ true → one ≡ other
same-is Absent Absent h = refl
same-is Absent Skipped h = absurd (cc)
same-is Absent (Timed arrival departure place) h = absurd (cc)
same-is Skipped Absent h = absurd (cc)
same-is Skipped Skipped h = refl
same-is Skipped (Timed arrival departure place) h = absurd (cc)
same-is (Timed arrival departure place) Absent h = absurd (cc)
same-is (Timed arrival departure place) Skipped h = absurd (cc)
same-is (Timed arrival departure place) (Timed other_arrival other_departure other_place) h =
    let parts = and_parts (int_eq arrival other_arrival) (int_eq departure other_departure && place.0 == other_place.0) h in
    let later = and_parts (int_eq departure other_departure) (place.0 == other_place.0) parts.1 in
    ap₂ (λ (a : ℤ) (d : ℤ). Timed a d place) ((Decides-int_eq arrival other_arrival).0 parts.0) ((Decides-int_eq departure other_departure).0 later.0)
    ∙ ap (λ (number : ℕ). Timed other_arrival other_departure (record { 0 = number })) (eqb-true place.0 other_place.0 later.1)

unneeded-is : (start : ℤ) (delay : Option ℤ) (row : StopRow) (reading : StopReading) → needs start delay row reading ≡ false → reading ≡ running row.stop (planned start row) delay
unneeded-is start delay row reading h =
    let supplied = running row.stop (planned start row) delay in
    same-is reading supplied (not-false (same_reading reading supplied) (or_parts (is_skipped reading) (not (same_reading reading supplied)) h).1)

needs-running : (start : ℤ) (delay : Option ℤ) (row : StopRow) → needs start delay row (running row.stop (planned start row) delay) ≡ false
needs-running start None row = refl
needs-running start (Some delay) row =
    let times = planned start row in
    rw ((Decides-int_eq (times.0 +ℤ delay) (times.0 +ℤ delay)).1 refl, (Decides-int_eq (times.1 +ℤ delay) (times.1 +ℤ delay)).1 refl, eq-eqb row.stop.0 row.stop.0 refl) refl

-- it supplies what is supplied to it
delay-running : (start : ℤ) (delay : Option ℤ) (row : StopRow) → delay_after start delay row (running row.stop (planned start row) delay) ≡ delay
delay-running start None row = refl
delay-running start (Some delay) row = ap Some (omega (arith, ints))

-- ---- the walk over the shortest list gives the readings

own-update : (run : Run) (row : StopRow) (reading : StopReading) → are_ids run.ids ≡ true → is_placed run row reading ≡ true
    → own_of run row (update run row reading) ≡ reading
own-update run row Absent known placed = refl
own-update run row Skipped known placed = refl
own-update run row (Timed arrival departure place) known placed = ap (Timed arrival departure) (place-named run row arrival departure place known placed)

plan-rise : (run : Run) (position : ℕ) (delay : Option ℤ) (stops : List (StopRow × StopReading)) → Rise position (zip (plan_places run.start position delay stops) (plan_from run delay stops))
plan-rise run position delay [] = tt
plan-rise run position delay (stop ∷ stops) =
    let next = delay_after run.start delay stop.0 stop.1 in
    let rest = plan-rise run (position + 1) next stops in
    elim (needs run.start delay stop.0 stop.1) as (λ needed. Rise position (zip ((if needed then position ∷ [] else []) ++ plan_places run.start (position + 1) next stops)
    ((if needed then update run stop.0 stop.1 ∷ [] else []) ++ plan_from run next stops))) [
      | true ↦ (le_refl position, rest)
      | false ↦ rise-lower position (position + 1) (zip (plan_places run.start (position + 1) next stops) (plan_from run next stops)) (omega arith) rest
    ]

walk-past : (run : Run) (position : ℕ) (delay : Option ℤ) (row : StopRow) (rows : List StopRow) (placed : List (ℕ × StopUpdate)) → Rise (position + 1) placed
    → walk run position delay (row ∷ rows) placed ≡ running row.stop (planned run.start row) delay ∷ walk run (position + 1) delay rows placed
walk-past run position delay row rows [] rise = refl
walk-past run position delay row rows (one ∷ others) rise =
    let first : position + 1 ≤ one.0 = rise.0 in
    rw (ne_eqb one.0 position (λ e. absurd (omega arith))) refl

walk-plan : (run : Run) (position : ℕ) (delay : Option ℤ) (rows : List StopRow) (readings : List StopReading) → are_ids run.ids ≡ true
    → are_near run.start rows readings ≡ true → are_placed run rows readings ≡ true
    → walk run position delay rows (zip (plan_places run.start position delay (zip rows readings)) (plan_from run delay (zip rows readings))) ≡ readings
walk-plan run position delay [] [] known near placed = refl
walk-plan run position delay [] (reading ∷ readings) known near placed = absurd (cc)
walk-plan run position delay (row ∷ rows) [] known near placed = absurd (cc)
walk-plan run position delay (row ∷ rows) (reading ∷ readings) known near placed =
    let parts = and_parts (is_near (planned run.start row) reading) (are_near run.start rows readings) near in
    let there = and_parts (is_placed run row reading) (are_placed run rows readings) placed in
    let next = delay_after run.start delay row reading in
    let at = plan_places run.start (position + 1) next (zip rows readings) in
    let others = plan_from run next (zip rows readings) in
    let rest = walk-plan run (position + 1) next rows readings known parts.1 there.1 in
    let Goal : Bool → Type 0 = λ needed. walk run position delay (row ∷ rows)
    (zip ((if needed then position ∷ [] else []) ++ at) ((if needed then update run row reading ∷ [] else []) ++ others)) ≡ reading ∷ readings in
    (elim (needs run.start delay row reading) as (λ needed. needs run.start delay row reading ≡ needed → Goal needed) [
      | true ↦ λ e.
          let own_is = own-update run row reading known there.0 in
          rw (eq-eqb position position refl)
          (ap₂ ◌∷◌ own_is (ap (λ own. walk run (position + 1) (delay_after run.start delay row own) rows (zip at others)) own_is ∙ rest))
      | false ↦ λ e.
          let is = unneeded-is run.start delay row reading e in
          let same = ap (delay_after run.start delay row) is ∙ delay-running run.start delay row in
          walk-past run position delay row rows (zip at others) (plan-rise run (position + 1) next (zip rows readings))
          ∙ ap₂ ◌∷◌ (sym is) (ap (λ from. walk run (position + 1) from rows (zip at others)) (sym same) ∙ rest)
    ]) refl

-- ---- where a walk gives the readings, an update stands wherever the shortest list has one

none-there : (position : ℕ) (P : Type 0) → HasPlace position [] → P
none-there position P h = absurd (cc)

-- a position that the shortest list has is that of a stop that needs it, or of one after
first-or-after : (position first : ℕ) (needed : Bool) (others : List ℕ) → HasPlace position ((if needed then first ∷ [] else []) ++ others)
    → ((needed ≡ true) × (first ≡ position)) ⊎ HasPlace position others
first-or-after position first true others h = ⊎_elim (λ e. inl (refl, eqb-true first position e)) (λ e. inr e) (or_cases (first == position) (list_any (λ other. other == position) others) h)
first-or-after position first false others h = inr h

-- the cells of equal lists
head-same : (one other : StopReading) (ones others : List StopReading) → one ∷ ones ≡ other ∷ others → one ≡ other
head-same one other ones others h = cc

tail-same : (one other : StopReading) (ones others : List StopReading) → one ∷ ones ≡ other ∷ others → ones ≡ others
tail-same one other ones others h = cc

-- a stop that reads as is supplied to it has no position
after-position : (start : ℤ) (position first : ℕ) (delay : Option ℤ) (row : StopRow) (reading : StopReading) (stops : List (StopRow × StopReading))
    → running row.stop (planned start row) delay ≡ reading → HasPlace position (plan_places start first delay ((row, reading) ∷ stops)) → HasPlace position (plan_places start (first + 1) delay stops)
after-position start position first delay row reading stops is h =
    let unneeded = subst (λ (one : StopReading). needs start delay row one ≡ false) is (needs-running start delay row) in
    let same : delay_after start delay row reading ≡ delay = ap (delay_after start delay row) (sym is) ∙ delay-running start delay row in
    subst₂ (λ (needed : Bool) (next : Option ℤ). HasPlace position ((if needed then first ∷ [] else []) ++ plan_places start (first + 1) next stops)) unneeded same h

walk-least : (run : Run) (first : ℕ) (delay : Option ℤ) (rows : List StopRow) (readings : List StopReading) (placed : List (ℕ × StopUpdate))
    → walk run first delay rows placed ≡ readings → (position : ℕ) → HasPlace position (plan_places run.start first delay (zip rows readings))
    → list_any (λ (one : ℕ × StopUpdate). one.0 == position) placed ≡ true
walk-least run first delay [] readings placed read position h = none-there position _ h
walk-least run first delay (row ∷ rows) [] placed read position h = none-there position _ h
walk-least run first delay (row ∷ rows) (reading ∷ readings) [] read position h =
    walk-least run (first + 1) delay rows readings [] (tail-same _ _ _ _ read) position
    (after-position run.start position first delay row reading (zip rows readings) (head-same _ _ _ _ read) h)
walk-least run first delay (row ∷ rows) (reading ∷ readings) (one ∷ others) read position h =
    let there = own_of run row one.1 in
    let supplied = running row.stop (planned run.start row) delay in
    let Walked : Bool → Type 0 = λ at. (if at then there ∷ walk run (first + 1) (delay_after run.start delay row there) rows others
    else supplied ∷ walk run (first + 1) delay rows (one ∷ others)) ≡ reading ∷ readings in
    (elim (one.0 == first) as (λ at. (one.0 == first) ≡ at → Walked at → list_any (λ (other : ℕ × StopUpdate). other.0 == position) (one ∷ others) ≡ true) [
      | true ↦ λ e walked.
          let is = head-same there reading _ readings walked in
          let rest = ap (λ own. walk run (first + 1) (delay_after run.start delay row own) rows others) (sym is) ∙ tail-same there reading _ readings walked in
          ⊎_elim
          (λ here. or_left (one.0 == position) _ (eq-eqb one.0 position (eqb-true one.0 first e ∙ here.1)))
          (λ after. or_right (one.0 == position) _ (walk-least run (first + 1) (delay_after run.start delay row reading) rows readings others rest position after))
          (first-or-after position first (needs run.start delay row reading) (plan_places run.start (first + 1) (delay_after run.start delay row reading) (zip rows readings)) h)
      | false ↦ λ e walked.
          walk-least run (first + 1) delay rows readings (one ∷ others) (tail-same supplied reading _ readings walked) position
          (after-position run.start position first delay row reading (zip rows readings) (head-same supplied reading _ readings walked) h)
    ]) refl read

placed-has : (position : ℕ) (at : List ℕ) (updates : List StopUpdate) → list_any (λ (one : ℕ × StopUpdate). one.0 == position) (zip at updates) ≡ true → HasPlace position at
placed-has position [] updates h = absurd (cc)
placed-has position (first ∷ at) [] h = absurd (cc)
placed-has position (first ∷ at) (one ∷ updates) h =
    ⊎_elim (λ e. or_left (first == position) _ e) (λ e. or_right (first == position) _ (placed-has position at updates e))
    (or_cases (first == position) (list_any (λ (other : ℕ × StopUpdate). other.0 == position) (zip at updates)) h)

-- ---- the laws

-- the shortest list of stops has their places, without a fault
shortest-places : (run : Run) (readings : List StopReading) → are_rising run.stops ≡ true → are_ids run.ids ≡ true → fits_trip run (Stops readings) ≡ true
    → places run (shortest run (Stops readings)) ≡ Ok (plan_places run.start 0 None (zip run.stops readings))
shortest-places run readings rising known fits =
    let parts = and_parts (are_near run.start run.stops readings) (keeps_places run readings) fits in
    ap (places run) (updates-plan run (zip run.stops readings)) ∙ places-whole run readings rising known parts.0 parts.1

-- the shortest list says how the stops of a journey read
pub shortest-says : (run : Run) (reading : JourneyReading) → are_rising run.stops ≡ true → are_ids run.ids ≡ true → fits_trip run reading ≡ true
    → Says run (shortest run reading) reading
shortest-says run Cancelled rising known fits = tt
shortest-says run (Stops readings) rising known fits =
    let parts = and_parts (are_near run.start run.stops readings) (keeps_places run readings) fits in
    let placed = and_parts (are_placed run run.stops readings) (nat_le (readings_size run.ids run.stops readings) places_limit) parts.1 in
    let stops = zip run.stops readings in
    let at = plan_places run.start 0 None stops in
    record {
      at = at;
      placed = shortest-places run readings rising known fits;
      read =
          ap (propagated run at) (updates-plan run stops)
          ∙ prop-walk run (zip at (plan_from run None stops)) (plan-rise run 0 None stops)
          ∙ walk-plan run 0 None run.stops readings known parts.0 placed.0;
    }

-- every list that says so has an update wherever the shortest list has one
pub shortest-least : (run : Run) (reading : JourneyReading) → are_rising run.stops ≡ true → are_ids run.ids ≡ true → fits_trip run reading ≡ true
    → IsLeastOf run (shortest run reading) reading
shortest-least run Cancelled rising known fits = tt
shortest-least run (Stops readings) rising known fits = λ mine others theirs position has.
    let is : mine.at ≡ plan_places run.start 0 None (zip run.stops readings) = ok-same _ _ (sym mine.placed ∙ shortest-places run readings rising known fits) in
    let rise = places-rise run 0 None others theirs.at (places-each run others theirs.at theirs.placed) in
    placed-has position theirs.at others
    (walk-least run 0 None run.stops readings (zip theirs.at others) (sym (prop-walk run (zip theirs.at others) rise) ∙ theirs.read) position
    (subst (HasPlace position) is has))
  where
    ok-same : (one other : List ℕ) → ◌≡◌ {A = Result (List ℕ) Fault} (Ok one) (Ok other) → one ≡ other
    ok-same one other h = cc

-- the laws of an answer that is the shortest list
pub answer-says : {E : Type 0} (answer : Result (List StopUpdate) E) (table : Table) (dated : DatedTrip) (reading : JourneyReading) → IsSound table → fits_trip (run_of table dated) reading ≡ true
    → IfOk answer (λ updates. updates ≡ shortest (run_of table dated) reading)
    → IfOk answer (λ updates. Says (run_of table dated) updates reading)
answer-says (Ok updates) table dated reading sound fits is =
    subst (λ (u : List StopUpdate). Says (run_of table dated) u reading) (sym is) (shortest-says (run_of table dated) reading dated.rising sound.stops fits)
answer-says (Err fault) table dated reading sound fits is = tt

pub answer-least : {E : Type 0} (answer : Result (List StopUpdate) E) (table : Table) (dated : DatedTrip) (reading : JourneyReading) → IsSound table → fits_trip (run_of table dated) reading ≡ true
    → IfOk answer (λ updates. updates ≡ shortest (run_of table dated) reading)
    → IfOk answer (λ updates. IsLeastOf (run_of table dated) updates reading)
answer-least (Ok updates) table dated reading sound fits is =
    subst (λ (u : List StopUpdate). IsLeastOf (run_of table dated) u reading) (sym is) (shortest-least (run_of table dated) reading dated.rising sound.stops fits)
answer-least (Err fault) table dated reading sound fits is = tt

-- The places of updates: those of the shortest list are its stops', and places rise.
use Rattle.std.proofs.Common.{drop, ◌≡◌, ◌∙◌, ◌+◌, ◌<◌, ◌≤◌, ◌++◌, ◌-ℤ◌, ℕ, ℤ, Bool, true, false, not, cond, List, [], ◌∷◌, length, length-append, zip, position, Option, Some, None, option_map, ok_or, Result, Ok, Err, if◌then◌else◌, nat_le, nat_lt, refl, ap, sym, subst, arith, ne_eqb, lt-ltb, le-leb, leb-true, ltb-true, le_refl, eq-eqb, eqb-true, ◌==◌, ◌||◌}
use Rattle.std.specs.List.{list_all, list_any, prefix_len}
use Rattle.std.proofs.lemmas.Bool.{and_parts}
use Rattle.gw_base.specs.declared.messages.StopUpdate.{StopUpdate}
use Rattle.timetable.specs.Ids.{are_ids}
use Rattle.timetable.specs.Planned.{planned}
use Rattle.timetable.specs.Stops.{are_rising}
use Rattle.timetable.specs.declared.numbers.StopNo.{StopNo}
use Rattle.timetable.specs.declared.stop_row.StopRow.{StopRow}
use Rattle.journey_model.proofs.Suppliers.{Rise}
use Rattle.gw_base.specs.Chains.{unless_fault, ◌>>=◌}
use Rattle.journey_model.specs.Matching.{agrees, first_from, has_sequence, in_order, is_of_stop, position_after, position_by_sequence, position_by_stop, stands_at, update_position}
use Rattle.journey_model.specs.Ids.{id_of}
use Rattle.journey_model.specs.Names.{filled_text}
use Rattle.journey_model.specs.Places.{are_of_station, are_placed, is_placed, place_size, keeps_places, places_fault, places_limit, reading_size, readings_size}
use Rattle.journey_model.specs.Readings.{are_near, is_near}
use Rattle.journey_model.specs.Runs.{Run, planned_at, stop_at}
use Rattle.journey_model.specs.Times.{delay_fault, is_delay}
use Rattle.journey_model.specs.Updates.{events_fault, keeps_station, known_stop, named_by, names_one, place_by, place_fault, places, position_of, is_read, named_stop, position_timed, places_from, update_fault, update_size, updates_size}
use Rattle.journey_model.proofs.IdLemmas.{id-at, position-id, some-id}
use Rattle.journey_model.specs.declared.fault.Fault.{Fault}
use Rattle.journey_model.specs.declared.fault.Fault.TheVariants.{OtherRelation}
use Rattle.journey_model.specs.declared.matching.MatchFault.{MatchFault}
use Rattle.journey_model.specs.declared.matching.MatchFault.TheVariants.{UnknownStop, StopMismatch, OutOfOrder}
use Rattle.journey_model.specs.declared.matching.NamedStop.{NamedStop}
use Rattle.journey_model.specs.declared.matching.NamedStop.TheVariants.{Missing, Unknown, Known}
use Rattle.journey_model.specs.declared.readings.StopReading.{StopReading}
use Rattle.journey_model.specs.declared.readings.StopReading.TheVariants.{Absent, Skipped, Timed}
use Rattle.sparse_planner.specs.Shortest.{assigned, update}
use Rattle.sparse_planner.proofs.States.{delay_after, needs, plan_from}
use Rattle.sparse_planner.proofs.Walks.{planned-here, scheduled-here, stop-here, stops-more, length-more}

-- the places of the updates of stops from a position on, after others that supply this delay
abbrev pub plan_places : ℤ → ℕ → Option ℤ → List (StopRow × StopReading) → List ℕ
plan_places start position delay [] = []
plan_places start position delay (stop ∷ stops) =
    (if needs start delay stop.0 stop.1 then position ∷ [] else []) ++ plan_places start (position + 1) (delay_after start delay stop.0 stop.1) stops

-- ---- the stop of a sequence is found at its own position

all-at : (test : StopRow → Bool) (front rows : List StopRow) (row : StopRow) → list_all test (front ++ row ∷ rows) ≡ true → test row ≡ true
all-at test [] rows row h = (and_parts (test row) (list_all test rows) h).0
all-at test (first ∷ front) rows row h = all-at test front rows row (and_parts (test first) (list_all test (front ++ row ∷ rows)) h).1

front-length : (front rows : List StopRow) (row : StopRow) → are_rising (front ++ row ∷ rows) ≡ true
    → prefix_len (λ other. not (has_sequence row.sequence other)) (front ++ row ∷ rows) ≡ length front
front-length [] rows row h = rw (eq-eqb row.sequence row.sequence refl) refl
front-length (first ∷ front) rows row h =
    let parts = and_parts (list_all (λ (other : StopRow). nat_lt first.sequence other.sequence) (front ++ row ∷ rows)) (are_rising (front ++ row ∷ rows)) h in
    let less = ltb-true first.sequence row.sequence (all-at (λ other. nat_lt first.sequence other.sequence) front rows row parts.0) in
    let other : first.sequence ≡ row.sequence → ⊥ = λ e. omega arith in
    rw (ne_eqb first.sequence row.sequence other, front-length front rows row parts.1) (omega arith)

position-here : (front rows : List StopRow) (row : StopRow) → are_rising (front ++ row ∷ rows) ≡ true
    → position (has_sequence row.sequence) (front ++ row ∷ rows) ≡ Some (length front)
position-here front rows row h =
    let within : length front < length (front ++ row ∷ rows) = omega (arith, length-append front (row ∷ rows)) in
    ap (λ (n : ℕ). cond (nat_lt n (length (front ++ row ∷ rows))) (Some n) None) (front-length front rows row h)
    ∙ rw (lt-ltb (length front) (length (front ++ row ∷ rows)) within) refl

stands-here : (front rows : List StopRow) (row : StopRow) → stands_at (agrees Missing) (length front) (front ++ row ∷ rows) ≡ true
stands-here front rows row = rw (stop-here front rows row) refl

found-here : (after : Option ℕ) (front rows : List StopRow) (row : StopRow) → are_rising (front ++ row ∷ rows) ≡ true → position_after after ≤ length front
    → update_position (front ++ row ∷ rows) after (Some row.sequence) Missing false ≡ Ok (length front)
found-here after front rows row rising le =
    ap (position_by_sequence (front ++ row ∷ rows) (position_after after) Missing false) (position-here front rows row rising)
    ∙ rw (stands-here front rows row, le-leb (position_after after) (length front) le) refl

-- ---- the updates of the shortest list have no fault

-- the stop that an id names is the one of that number
stop-named : (ids : List (List ℕ)) (place : StopNo) → are_ids ids ≡ true → place.0 < length ids → named_by ids (filled_text (Some (id_of ids place.0))) ≡ Known place
stop-named ids place known less =
    let filled = filled-some (id_of ids place.0) (some-id (id_of ids place.0) (id-at ids place.0 known less)) in
    ap (named_by ids) filled ∙ ap known_stop (position-id ids place.0 known less)
  where
    filled-some : (id : List ℕ) → 0 < length id → filled_text (Some id) ≡ Some id
    filled-some [] h = absurd (omega arith)
    filled-some (byte ∷ bytes) h = refl

same-stop : (one other : StopNo) → one.0 ≡ other.0 → one ≡ other
same-stop one other e = ap (λ (number : ℕ). record { 0 = number }) e

-- the update of a stop names its place, and keeps the station
pub place-named : (run : Run) (row : StopRow) (arrival departure : ℤ) (place : StopNo) → are_ids run.ids ≡ true → is_placed run row (Timed arrival departure place) ≡ true
    → place_by row.stop (named_by run.ids (filled_text (assigned run.ids row place))) ≡ place
place-named run row arrival departure place known placed =
    let parts = and_parts (nat_lt place.0 (length run.ids)) (are_of_station run.station_of place.0 row.stop.0) placed in
    let less = ltb-true place.0 (length run.ids) parts.0 in
    (elim (place.0 == row.stop.0) as (λ at. (place.0 == row.stop.0) ≡ at → place_by row.stop (named_by run.ids (filled_text (if at then None else Some (id_of run.ids place.0)))) ≡ place) [
      | true ↦ λ e. sym (same-stop place row.stop (eqb-true place.0 row.stop.0 e))
      | false ↦ λ e. ap (place_by row.stop) (stop-named run.ids place known less)
    ]) refl

station-kept : (run : Run) (row : StopRow) (arrival departure : ℤ) (place : StopNo) → are_ids run.ids ≡ true → is_placed run row (Timed arrival departure place) ≡ true
    → keeps_station run.station_of row.stop (named_by run.ids (filled_text (assigned run.ids row place))) ≡ true
station-kept run row arrival departure place known placed =
    let parts = and_parts (nat_lt place.0 (length run.ids)) (are_of_station run.station_of place.0 row.stop.0) placed in
    let less = ltb-true place.0 (length run.ids) parts.0 in
    elim (place.0 == row.stop.0) as (λ at. keeps_station run.station_of row.stop (named_by run.ids (filled_text (if at then None else Some (id_of run.ids place.0)))) ≡ true) [
      | true ↦ refl
      | false ↦ ap (keeps_station run.station_of row.stop) (stop-named run.ids place known less) ∙ parts.1
    ]

no-delay-fault : (number : ℕ) (times : ℤ × ℤ) (arrival departure : ℤ) (place : StopNo) → is_near times (Timed arrival departure place) ≡ true
    → delay_fault number times (Some arrival) (Some departure) ≡ None
no-delay-fault number times arrival departure place near =
    let parts = and_parts (is_delay (arrival -ℤ times.0)) (is_delay (departure -ℤ times.1)) near in
    rw (parts.0, parts.1) refl

no-fault : (number : ℕ) (keeps : Bool) (late : Option Fault) (both : ℤ × ℤ) → keeps ≡ true → late ≡ None → place_fault number keeps (events_fault number late (Some both)) ≡ None
no-fault number keeps late both e f = rw (e, f) refl

position-update : (run : Run) (number : ℕ) (after : Option ℕ) (front rows : List StopRow) (row : StopRow) (reading : StopReading)
    → run.stops ≡ front ++ row ∷ rows → are_rising (front ++ row ∷ rows) ≡ true → are_ids run.ids ≡ true → position_after after ≤ length front
    → is_near (planned run.start row) reading ≡ true → is_placed run row reading ≡ true
    → position_of run number after (update run row reading) ≡ Ok (length front)
position-update run number after front rows row Absent stops rising known le near placed =
    ap (position_timed run number (update run row Absent)) (ap (λ at. update_position at after (Some row.sequence) Missing false) stops ∙ found-here after front rows row rising le)
position-update run number after front rows row Skipped stops rising known le near placed =
    ap (position_timed run number (update run row Skipped)) (ap (λ at. update_position at after (Some row.sequence) Missing false) stops ∙ found-here after front rows row rising le)
position-update run number after front rows row (Timed arrival departure place) stops rising known le near placed =
    let near_there = subst (λ (times : ℤ × ℤ). is_near times (Timed arrival departure place) ≡ true) (sym (planned-here run front rows row stops)) near in
    let kept = subst (λ (scheduled : StopNo). keeps_station run.station_of scheduled (named_by run.ids (filled_text (assigned run.ids row place))) ≡ true) (sym (scheduled-here run front rows row stops))
    (station-kept run row arrival departure place known placed) in
    ap (position_timed run number (update run row (Timed arrival departure place)))
    (ap (λ at. update_position at after (Some row.sequence) Missing false) stops ∙ found-here after front rows row rising le)
    ∙ ap (λ fault. unless_fault fault (length front))
    (no-fault number (keeps_station run.station_of (stop_at run (length front)) (named_by run.ids (filled_text (assigned run.ids row place))))
    (delay_fault number (planned_at run (length front)) (Some arrival) (Some departure)) (arrival, departure) kept
    (no-delay-fault number (planned_at run (length front)) arrival departure place near_there))

places-cons : (run : Run) (number : ℕ) (after : Option ℕ) (one : StopUpdate) (others : List StopUpdate) (position : ℕ) (at : List ℕ)
    → position_of run number after one ≡ Ok position → places_from run (number + 1) (Some position) others ≡ Ok at
    → places_from run number after (one ∷ others) ≡ Ok (position ∷ at)
places-cons run number after one others position at e f = rw (e, f) refl

pub places-plan : (run : Run) (front rows : List StopRow) (readings : List StopReading) (position number : ℕ) (after : Option ℕ) (delay : Option ℤ)
    → run.stops ≡ front ++ rows → are_rising run.stops ≡ true → are_ids run.ids ≡ true → length front ≡ position → position_after after ≤ position
    → are_near run.start rows readings ≡ true → are_placed run rows readings ≡ true
    → places_from run number after (plan_from run delay (zip rows readings)) ≡ Ok (plan_places run.start position delay (zip rows readings))
places-plan run front [] readings position number after delay stops rising known long le near placed = refl
places-plan run front (row ∷ rows) [] position number after delay stops rising known long le near placed = refl
places-plan run front (row ∷ rows) (reading ∷ readings) position number after delay stops rising known long le near placed =
    let parts = and_parts (is_near (planned run.start row) reading) (are_near run.start rows readings) near in
    let there = and_parts (is_placed run row reading) (are_placed run rows readings) placed in
    let rises = subst (λ (at : List StopRow). are_rising at ≡ true) stops rising in
    let more = stops-more run.stops front rows row stops in
    let longer = length-more front row position long in
    let next = delay_after run.start delay row reading in
    elim (needs run.start delay row reading) as (λ needed. places_from run number after ((if needed then update run row reading ∷ [] else []) ++ plan_from run next (zip rows readings))
    ≡ Ok ((if needed then position ∷ [] else []) ++ plan_places run.start (position + 1) next (zip rows readings))) [
      | true ↦ places-cons run number after (update run row reading) (plan_from run next (zip rows readings)) position (plan_places run.start (position + 1) next (zip rows readings))
          (position-update run number after front rows row reading stops rises known (omega arith) parts.0 there.0 ∙ ap Ok long)
          (places-plan run (front ++ row ∷ []) rows readings (position + 1) (number + 1) (Some position) next more rising known longer (le_refl (position + 1)) parts.1 there.1)
      | false ↦ places-plan run (front ++ row ∷ []) rows readings (position + 1) number after next more rising known longer (omega arith) parts.1 there.1
    ]

-- ---- the ids of their places are no longer than those of the readings

size-update : (run : Run) (front rows : List StopRow) (row : StopRow) (reading : StopReading)
    → run.stops ≡ front ++ row ∷ rows → are_ids run.ids ≡ true → is_placed run row reading ≡ true
    → update_size run (length front) (update run row reading) ≡ reading_size run.ids row reading
size-update run front rows row Absent stops known placed = refl
size-update run front rows row Skipped stops known placed = refl
size-update run front rows row (Timed arrival departure place) stops known placed =
    ap (λ (scheduled : StopNo). place_size run.ids scheduled.0 (place_by scheduled (named_by run.ids (filled_text (assigned run.ids row place)))).0) (scheduled-here run front rows row stops)
    ∙ ap (λ (there : StopNo). place_size run.ids row.stop.0 there.0) (place-named run row arrival departure place known placed)

size-more : (first own other rest all : ℕ) → first ≡ own → rest ≤ all → first + rest ≤ own + all
size-more first own other rest all e le = omega arith

pub size-plan : (run : Run) (front rows : List StopRow) (readings : List StopReading) (position : ℕ) (delay : Option ℤ)
    → run.stops ≡ front ++ rows → are_ids run.ids ≡ true → length front ≡ position → are_placed run rows readings ≡ true
    → updates_size run (plan_places run.start position delay (zip rows readings)) (plan_from run delay (zip rows readings)) ≤ readings_size run.ids rows readings
size-plan run front [] readings position delay stops known long placed = omega arith
size-plan run front (row ∷ rows) [] position delay stops known long placed = omega arith
size-plan run front (row ∷ rows) (reading ∷ readings) position delay stops known long placed =
    let there = and_parts (is_placed run row reading) (are_placed run rows readings) placed in
    let next = delay_after run.start delay row reading in
    let at = plan_places run.start (position + 1) next (zip rows readings) in
    let others = plan_from run next (zip rows readings) in
    let rest = size-plan run (front ++ row ∷ []) rows readings (position + 1) next (stops-more run.stops front rows row stops) known (length-more front row position long) there.1 in
    let here = subst (λ (n : ℕ). update_size run n (update run row reading) ≡ reading_size run.ids row reading) long (size-update run front rows row reading stops known there.0) in
    elim (needs run.start delay row reading) as (λ needed. updates_size run ((if needed then position ∷ [] else []) ++ at) ((if needed then update run row reading ∷ [] else []) ++ others)
    ≤ reading_size run.ids row reading + readings_size run.ids rows readings) [
      | true ↦ size-more (update_size run position (update run row reading)) (reading_size run.ids row reading) 0 (updates_size run at others) (readings_size run.ids rows readings) here rest
      | false ↦ omega (arith, rest)
    ]

-- so they are no fault
few-places : (bytes limit : ℕ) → bytes ≤ limit → nat_le limit places_limit ≡ true → places_fault bytes ≡ None
few-places bytes limit le most = let few = leb-true limit places_limit most in rw (le-leb bytes places_limit (omega arith)) refl

whole-places : (run : Run) (updates : List StopUpdate) (at : List ℕ) → places_from run 0 None updates ≡ Ok at → places_fault (updates_size run at updates) ≡ None → places run updates ≡ Ok at
whole-places run updates at e f = rw (e, f) refl

pub places-whole : (run : Run) (readings : List StopReading) → are_rising run.stops ≡ true → are_ids run.ids ≡ true
    → are_near run.start run.stops readings ≡ true → keeps_places run readings ≡ true
    → places run (plan_from run None (zip run.stops readings)) ≡ Ok (plan_places run.start 0 None (zip run.stops readings))
places-whole run readings rising known near keeps =
    let parts = and_parts (are_placed run run.stops readings) (nat_le (readings_size run.ids run.stops readings) places_limit) keeps in
    let at = plan_places run.start 0 None (zip run.stops readings) in
    whole-places run (plan_from run None (zip run.stops readings)) at
    (places-plan run [] run.stops readings 0 0 None None refl rising known refl (le_refl 0) near parts.0)
    (few-places (updates_size run at (plan_from run None (zip run.stops readings))) (readings_size run.ids run.stops readings)
    (size-plan run [] run.stops readings 0 None refl known refl parts.0) parts.1)

-- ---- places rise

-- what a test lets through
if-ok : (test : Bool) (fault : MatchFault) (answer : Result ℕ MatchFault) (position : ℕ) → (if test then answer else Err fault) ≡ Ok position → (test ≡ true) × (answer ≡ Ok position)
if-ok true fault answer position h = (refl, h)
if-ok false fault answer position h = absurd (cc)

in_order-after : (from at position : ℕ) → in_order from at ≡ Ok position → from ≤ position
in_order-after from at position h =
    let parts = if-ok (nat_le from at) OutOfOrder (Ok at) position h in
    let same : at ≡ position = cc (parts.1) in
    let le : from ≤ at = leb-true from at parts.0 in
    omega arith

sequence-after : (stops : List StopRow) (from : ℕ) (named : NamedStop) (same : Bool) (found : Option ℕ) (position : ℕ) → position_by_sequence stops from named same found ≡ Ok position → from ≤ position
sequence-after stops from named same None position h = absurd (cc)
sequence-after stops from named same (Some at) position h = in_order-after from at position (if-ok (same || stands_at (agrees named) at stops) StopMismatch (in_order from at) position h).1

first-after : (from : ℕ) (found : Option ℕ) (position : ℕ) → ok_or (option_map (λ at. at + from) found) OutOfOrder ≡ Ok position → from ≤ position
first-after from None position h = absurd (cc)
first-after from (Some at) position h = let same : at + from ≡ position = cc in omega arith

stop-after : (stops : List StopRow) (from : ℕ) (named : NamedStop) (position : ℕ) → position_by_stop stops from named ≡ Ok position → from ≤ position
stop-after stops from Missing position h = absurd (cc)
stop-after stops from Unknown position h = absurd (cc)
stop-after stops from (Known stop) at h =
    first-after from (position (is_of_stop stop.0) (drop from stops)) at
    (if-ok (list_any (is_of_stop stop.0) stops) UnknownStop (ok_or (first_from (is_of_stop stop.0) from stops) OutOfOrder) at h).1

update-after : (stops : List StopRow) (after sequence : Option ℕ) (named : NamedStop) (same : Bool) (position : ℕ) → update_position stops after sequence named same ≡ Ok position → position_after after ≤ position
update-after stops after None named same position h = stop-after stops (position_after after) named position h
update-after stops after (Some sequence) named same at h = sequence-after stops (position_after after) named same (position (has_sequence sequence) stops) at h

-- an update without a fault has the position that was found
unless-ok : (fault : Option Fault) (at position : ℕ) → unless_fault fault at ≡ Ok position → at ≡ position
unless-ok None at position h = cc
unless-ok (Some fault) at position h = absurd (cc)

timed-ok : (run : Run) (number : ℕ) (one : StopUpdate) (found : Result ℕ MatchFault) (position : ℕ) → position_timed run number one found ≡ Ok position → found ≡ Ok position
timed-ok run number one (Err fault) position h = absurd (cc)
timed-ok run number one (Ok at) position h = ap Ok (unless-ok (update_fault run number at one) at position h)

related-ok : (known : Bool) (fault : Fault) (answer : Result ℕ Fault) (position : ℕ) → (if known then answer else Err fault) ≡ Ok position → answer ≡ Ok position
related-ok true fault answer position h = h
related-ok false fault answer position h = absurd (cc)

position-after : (run : Run) (number : ℕ) (after : Option ℕ) (one : StopUpdate) (position : ℕ) → position_of run number after one ≡ Ok position → position_after after ≤ position
position-after run number after one position h =
    let found = update_position run.stops after one.sequence (named_stop run.ids one) (names_one one) in
    update-after run.stops after one.sequence (named_stop run.ids one) (names_one one) position
    (timed-ok run number one found position (related-ok (is_read one) (OtherRelation one.relation) (position_timed run number one found) position h))

-- the first position and the others
others-ok : (first : ℕ) (answer : Result (List ℕ) Fault) (position : ℕ) (at : List ℕ)
    → (answer >>= (λ others. Ok (first ∷ others))) ≡ Ok (position ∷ at) → (first ≡ position) × (answer ≡ Ok at)
others-ok first (Ok others) position at h = (cc, cc)
others-ok first (Err fault) position at h = absurd (cc)

cons-ok : (answer : Result ℕ Fault) (rest : ℕ → Result (List ℕ) Fault) (position : ℕ) (at : List ℕ)
    → (answer >>= (λ first. rest first >>= (λ others. Ok (first ∷ others)))) ≡ Ok (position ∷ at) → (answer ≡ Ok position) × (rest position ≡ Ok at)
cons-ok (Ok first) rest position at h =
    let parts = others-ok first (rest first) position at h in
    (ap Ok parts.0, ap rest (sym parts.0) ∙ parts.1)
cons-ok (Err fault) rest position at h = absurd (cc)

-- the places of updates without a fault rise
pub places-rise : (run : Run) (number : ℕ) (after : Option ℕ) (updates : List StopUpdate) (at : List ℕ) → places_from run number after updates ≡ Ok at → Rise (position_after after) (zip at updates)
places-rise run number after updates [] h = tt
places-rise run number after [] (position ∷ at) h = tt
places-rise run number after (one ∷ others) (position ∷ at) h =
    let parts = cons-ok (position_of run number after one) (λ first. places_from run (number + 1) (Some first) others) position at h in
    (position-after run number after one position parts.0, places-rise run (number + 1) (Some position) others at parts.1)

-- the places of updates that have no fault in sum
pub places-each : (run : Run) (updates : List StopUpdate) (at : List ℕ) → places run updates ≡ Ok at → places_from run 0 None updates ≡ Ok at
places-each run updates at h = by (places_from run 0 None updates) h
  where
    kept : (fault : Option Fault) (found at : List ℕ) → unless_fault fault found ≡ Ok at → found ≡ at
    kept None found at h = cc
    kept (Some fault) found at h = absurd (cc)

    by : (answer : Result (List ℕ) Fault) → (answer >>= (λ positions. unless_fault (places_fault (updates_size run positions updates)) positions)) ≡ Ok at → answer ≡ Ok at
    by (Ok found) h = ap Ok (kept (places_fault (updates_size run found updates)) found at h)
    by (Err fault) h = absurd (cc)

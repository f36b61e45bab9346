-- What a feed says of a journey can be served: its stops read at most a week from their planned times, at places of
-- their stations whose ids aren't too long.
use Rattle.std.proofs.Common.{◌≡◌, ◌+◌, ◌<◌, ◌==◌, ◌&&◌, ◌||◌, ◌∷◌, [], ℕ, suc, ℤ, pos, ◌+ℤ◌, ◌-ℤ◌, Bool, true, false, List, map, length, position, Option, Some, None, option_map, option_and_then, Result, Ok, Err, if◌then◌else◌, refl, subst, ap, arith}
use Rattle.std.specs.Prelude.{All, nat_le, slice_get}
use Rattle.std.proofs.lemmas.Bool.{and_parts, eqb-true}
use Rattle.std.proofs.lemmas.Int.{ints}
use Rattle.std.proofs.lemmas.List.Elements.{All-from_recursion}
use Rattle.std.proofs.lemmas.List.Quantifiers.{position-Some}
use Rattle.std.proofs.lemmas.List.Sorted.{All-permutation}
use Rattle.std.proofs.lemmas.Option.{none-some}
use Rattle.std.specs.List.{AllByRecursion, range_with_len, zip}
use Rattle.std.specs.List.Sorted.{IsPermutation}
use Rattle.std.specs.Option.{option_map_or}
use Rattle.std.specs.Str.{bytes_eq}
use Rattle.gw_base.specs.declared.messages.Entity.{Entity}
use Rattle.gw_base.specs.declared.messages.Feed.{Feed}
use Rattle.gw_base.specs.declared.messages.StopUpdate.{StopUpdate}
use Rattle.gw_base.specs.declared.messages.TripUpdate.{TripUpdate}
use Rattle.service_day.specs.Windows.{start_in}
use Rattle.timetable.specs.Planned.{planned}
use Rattle.timetable.proofs.SoundLemmas.{stops-sound}
use Rattle.timetable.specs.Limits.{stop_limit}
use Rattle.timetable.specs.Seen.{seen}
use Rattle.timetable.specs.Stops.{are_known, are_rising, are_stops_of, are_timed}
use Rattle.timetable.specs.Table.{Table}
use Rattle.timetable.specs.declared.numbers.StopNo.{StopNo}
use Rattle.timetable.specs.declared.stop_row.StopRow.{StopRow}
use Rattle.journey_model.specs.FeedReadings as feeds
use Rattle.journey_model.specs.FeedReadings.{day_named, entity_said, given_all, is_last, last_of_each, reading_said, readings, recorded_in, said_of_day, said_of_trip, said_on, stops_said, trip_named, update_said, with_reading}
use Rattle.journey_model.specs.Propagation.{carried, later_by, prop, propagated, skips_at, supplied, supplier, timed}
use Rattle.journey_model.specs.Readings.{are_near, fits_trip, is_near}
use Rattle.journey_model.specs.Runs.{Run, planned_at, stop_at}
use Rattle.journey_model.specs.Schedules.{Schedule, run_from}
use Rattle.journey_model.specs.Times.{is_delay}
use Rattle.journey_model.specs.Names.{filled_text}
use Rattle.journey_model.specs.Updates.{is_no_data, is_skipped, place_at, places, times}
use Rattle.journey_model.specs.declared.fault.Fault.{Fault}
use Rattle.journey_model.specs.declared.fault.Fault.TheVariants.{NotRunning, OtherRelation}
use Rattle.journey_model.specs.declared.readings.DatedReading.{DatedReading}
use Rattle.journey_model.specs.declared.readings.JourneyReading.{JourneyReading}
use Rattle.journey_model.specs.declared.readings.JourneyReading.TheVariants.{Cancelled, Stops}
use Rattle.journey_model.specs.declared.readings.StopReading.{StopReading}
use Rattle.journey_model.specs.declared.readings.StopReading.TheVariants as reading
use Rattle.propagation.specs.Feeds.{IsServable}
use Rattle.propagation.proofs.PlaceLemmas.{is_kept, places-from}
use Rattle.propagation.proofs.StationLemmas.{IsKnown, updates-keep}
use Rattle.propagation.proofs.WholeLemmas.{IsWhole, Supplies, and_both, supplier-whole, whole-all, whole-scheduled}
use Rattle.propagation.proofs.TimeLemmas.{AreNear, times_near}

-- their own times are near the planned ones
whole-near : (run : Run) (one : ℕ × StopUpdate) (both : ℤ × ℤ) → IsWhole run one → is_skipped one.1 ≡ false
    → is_no_data one.1 ≡ false
    → times (planned_at run one.0) one.1 ≡ Some both → AreNear (planned_at run one.0) both
whole-near run one both h kept known is =
    let own = (is_kept run h.number one.0 one.1 (whole-scheduled run one h kept known) h.whole).own in
    times_near h.number (planned_at run one.0) _ _ both (rw is at own) is

-- a stop reads near its planned times
later-near : (scheduled : StopNo) (plan : ℤ × ℤ) (delay : ℤ) → is_delay delay ≡ true
    → is_near plan (later_by scheduled plan delay) ≡ true
later-near scheduled plan delay h =
    let arrival : (plan.0 +ℤ delay) -ℤ plan.0 ≡ delay = omega (arith, ints) in
    let departure : (plan.1 +ℤ delay) -ℤ plan.1 ≡ delay = omega (arith, ints) in
    and_both (is_delay ((plan.0 +ℤ delay) -ℤ plan.0)) (is_delay ((plan.1 +ℤ delay) -ℤ plan.1)) (rw arrival h)
    (rw departure h)

timed-near : (place : StopNo) (plan : ℤ × ℤ) (both : Option (ℤ × ℤ))
    → ((found : ℤ × ℤ) → both ≡ Some found → AreNear plan found)
    → is_near plan (timed place both) ≡ true
timed-near place plan None h = refl
timed-near place plan (Some both) h = let near = h both refl in and_both _ _ near.arrival near.departure

carried-near : (scheduled : StopNo) (plan before : ℤ × ℤ) (both : Option (ℤ × ℤ))
    → ((found : ℤ × ℤ) → both ≡ Some found → AreNear before found)
    → is_near plan (carried scheduled plan before both) ≡ true
carried-near scheduled plan before None h = refl
carried-near scheduled plan before (Some both) h =
    later-near scheduled plan (both.1 -ℤ before.1) (h both refl).departure

supplied-near : (run : Run) (position : ℕ) (found : Option (ℕ × StopUpdate))
    → ((one : ℕ × StopUpdate) → found ≡ Some one → Supplies run one)
    → is_near (planned_at run position) (supplied run position found) ≡ true
supplied-near run position None h = refl
supplied-near run position (Some (at, update)) h = no_data (is_no_data update) refl
  where
    near : (both : ℤ × ℤ) → is_no_data update ≡ false → times (planned_at run at) update ≡ Some both
        → AreNear (planned_at run at) both
    near both known is = let own = h (at, update) refl in whole-near run (at, update) both own.whole own.kept known is

    here : (b : Bool) → (at == position) ≡ b → is_no_data update ≡ false
        → is_near (planned_at run position)
        (if b then timed (place_at run position update) (times (planned_at run position) update)
        else carried (stop_at run position) (planned_at run position) (planned_at run at)
        (times (planned_at run at) update)) ≡ true
    here true e known =
        let same : at ≡ position = eqb-true at position e in
        let own : (both : ℤ × ℤ) → times (planned_at run position) update ≡ Some both
        → AreNear (planned_at run position) both =
        subst (λ (p : ℕ). (both : ℤ × ℤ) → times (planned_at run p) update ≡ Some both
        → AreNear (planned_at run p) both) same (λ both is. near both known is) in
        timed-near (place_at run position update) (planned_at run position) (times (planned_at run position) update) own
    here false e known =
        carried-near (stop_at run position) (planned_at run position) (planned_at run at)
        (times (planned_at run at) update)
        (λ both is. near both known is)

    no_data : (b : Bool) → is_no_data update ≡ b
        → is_near (planned_at run position) (if b then reading.Absent else
        (if at == position then timed (place_at run position update) (times (planned_at run position) update)
        else carried (stop_at run position) (planned_at run position) (planned_at run at)
        (times (planned_at run at) update))) ≡ true
    no_data true e = refl
    no_data false e = here (at == position) refl e

prop-near : (run : Run) (updates : List (ℕ × StopUpdate)) (position : ℕ) → AllByRecursion (IsWhole run) updates
    → is_near (planned_at run position) (prop run updates position) ≡ true
prop-near run updates position h = by (skips_at position updates)
  where
    by : (b : Bool)
        → is_near (planned_at run position) (if b then reading.Skipped else supplied run position (supplier position updates))
        ≡ true
    by true = refl
    by false = supplied-near run position (supplier position updates) (λ one is. supplier-whole run position updates one h is)

rows-near : (start : ℤ) (rows : List StopRow) (reads : ℕ → StopReading) (low : ℕ)
    → ((i : ℕ) → is_near (option_map_or (planned start) (slice_get rows i) (pos 0, pos 0)) (reads (low + i)) ≡ true)
    → are_near start rows (map reads (range_with_len low (length rows))) ≡ true
rows-near start [] reads low h = refl
rows-near start (row ∷ rows) reads low h =
    and_both _ _ (subst (λ (at : ℕ). is_near (planned start row) (reads at) ≡ true) (omega arith) (h 0))
    (rows-near start rows reads (low + 1)
    (λ i. subst (λ (at : ℕ). is_near (option_map_or (planned start) (slice_get rows i) (pos 0, pos 0)) (reads at)
    ≡ true) (omega arith) (h (suc i))))

-- what an update says of its trip fits it
pub reading-fits : (run : Run) (update : TripUpdate) (found : JourneyReading) → IsKnown run
    → reading_said run update ≡ Ok found → fits_trip run found ≡ true
reading-fits run update found known e = cancelled (feeds.is_cancelled update) e
  where
    stops : (said : Result (List ℕ) Fault) → places run update.updates ≡ said → stops_said run update said ≡ Ok found
        → fits_trip run found ≡ true
    stops (Err fault) is same = cc
    stops (Ok at) is same =
        let all : Stops (propagated run at update.updates) ≡ found = cc in
        let from = places-from run update.updates at is in
        let whole = whole-all run 0 None update.updates at from.0 in
        rw (← all) (and_both _ _ (rows-near run.start run.stops (prop run (zip at update.updates)) 0
        (λ i. subst (λ (position : ℕ). is_near (planned_at run i) (prop run (zip at update.updates) position) ≡ true)
        (omega arith)
        (prop-near run (zip at update.updates) i whole)))
        (updates-keep run update.updates at known whole from.1))

    scheduled : (b : Bool)
        → (if b then stops_said run update (places run update.updates) else Err (OtherRelation update.trip.relation))
        ≡ Ok found → fits_trip run found ≡ true
    scheduled true same = stops (places run update.updates) refl same
    scheduled false same = cc

    cancelled : (b : Bool)
        → (if b then Ok Cancelled
        else (if feeds.is_scheduled update then stops_said run update (places run update.updates)
        else Err (OtherRelation update.trip.relation))) ≡ Ok found
        → fits_trip run found ≡ true
    cancelled true same = let is : Cancelled ≡ found = cc in rw (← is) refl
    cancelled false same = scheduled (feeds.is_scheduled update) same

-- the stops of the trips of a schedule are known
schedule-known : (schedule : Schedule) (trip : ℕ) (start : ℤ) → trip < length schedule.table.trips
    → IsKnown (run_from schedule.table trip start)
schedule-known schedule trip start within =
    let table = schedule.timetable in
    let sound : (other : ℕ) → other < length table.trips
    → are_stops_of (length table.stops) ((seen table).stops_of other) ≡ true =
    stops-sound table.trips table.routes table.stops table.carried.items table.stop_rows.items table.in_range in
    stops-known (length schedule.table.stops) (schedule.table.stops_of trip)
    (subst (λ (shown : Table). (other : ℕ) → other < length shown.trips
    → are_stops_of (length shown.stops) (shown.stops_of other) ≡ true) schedule.shows sound trip within)
  where
    stops-known : (stops : ℕ) (rows : List StopRow) → are_stops_of stops rows ≡ true → are_known stops rows ≡ true
    stops-known stops rows h =
        let few = and_parts (nat_le (length rows) stop_limit) (are_rising rows && (are_known stops rows && are_timed rows)) h in
        let rising = and_parts (are_rising rows) (are_known stops rows && are_timed rows) few.1 in
        (and_parts (are_known stops rows) (are_timed rows) rising.1).0

-- what is said of a trip on a day of the window
reading-servable : (schedule : Schedule) (trip : ℕ) (day start : ℤ) (recorded : Option ℤ) (update : TripUpdate)
    (one : DatedReading)
    → trip < length schedule.table.trips → schedule.table.runs trip day ≡ true
    → start_in schedule.window day ≡ Some start
    → (said : Result JourneyReading Fault) → reading_said (run_from schedule.table trip start) update ≡ said
    → with_reading trip day recorded said ≡ Ok one → IsServable schedule one
reading-servable schedule trip day start recorded update one known runs in_window (Ok found) is same =
    let made : record { trip = record { 0 = trip }; day = day; recorded = recorded; reading = found } ≡ one = cc in
    rw (← made) (record {
      fits_schedule = record {
        trip_in = known;
        run = run_from schedule.table trip start;
        on_day = ap (option_map (run_from schedule.table trip)) in_window;
        fits = reading-fits (run_from schedule.table trip start) update found
            (schedule-known schedule trip start known) is;
      };
      runs = runs;
    })
reading-servable schedule trip day start recorded update one known runs in_window (Err fault) is same = cc

day-servable : (schedule : Schedule) (feed : Feed) (update : TripUpdate) (trip : ℕ) (day : ℤ) (one : DatedReading)
    → trip < length schedule.table.trips
    → (start : Option ℤ) → start_in schedule.window day ≡ start
    → said_on schedule feed update trip day (option_map (run_from schedule.table trip) start) ≡ Ok one
    → IsServable schedule one
day-servable schedule feed update trip day one known None is same = cc
day-servable schedule feed update trip day one known (Some start) is same = by (schedule.table.runs trip day) refl same
  where
    by : (b : Bool) → schedule.table.runs trip day ≡ b
        → (if b then with_reading trip day (recorded_in feed update)
        (reading_said (run_from schedule.table trip start) update) else Err NotRunning) ≡ Ok one
        → IsServable schedule one
    by true runs said =
        reading-servable schedule trip day start (recorded_in feed update) update one known runs is
        (reading_said (run_from schedule.table trip start) update) refl said
    by false runs said = cc

trip-servable : (schedule : Schedule) (feed : Feed) (update : TripUpdate) (one : DatedReading) (trip : Option ℕ)
    → trip_named schedule update ≡ trip
    → said_of_trip schedule feed update trip ≡ Ok one → IsServable schedule one
trip-servable schedule feed update one None is same = cc
trip-servable schedule feed update one (Some trip) is same = day (day_named schedule feed trip update) same
  where
    named : (id : Option (List ℕ))
        → option_and_then (λ text. position (bytes_eq text) schedule.table.trips) id ≡ Some trip
        → trip < length schedule.table.trips
    named None e = absurd (none-some trip e)
    named (Some id) e = (position-Some (bytes_eq id) schedule.table.trips trip [] e).0

    day : (found : Option ℤ) → said_of_day schedule feed update trip found ≡ Ok one → IsServable schedule one
    day None said = cc
    day (Some date) said =
        day-servable schedule feed update trip date one (named (filled_text update.trip.trip_id) is)
        (start_in schedule.window date) refl said

update-servable : (schedule : Schedule) (feed : Feed) (update : TripUpdate) (one : DatedReading)
    → update_said schedule feed update ≡ Ok one → IsServable schedule one
update-servable schedule feed update one e = by (feeds.is_scheduled update || feeds.is_cancelled update) e
  where
    by : (b : Bool)
        → (if b then said_of_trip schedule feed update (trip_named schedule update)
        else Err (OtherRelation update.trip.relation)) ≡ Ok one → IsServable schedule one
    by true same = trip-servable schedule feed update one (trip_named schedule update) refl same
    by false same = cc

-- what the entities of a feed give
given-one : (schedule : Schedule) (feed : Feed) (entity : Entity) (one : DatedReading)
    → entity_said schedule feed entity ≡ Some (Ok one) → IsServable schedule one
given-one schedule feed entity one e = by entity.deleted e
  where
    updated : (update : Option TripUpdate) → option_map (update_said schedule feed) update ≡ Some (Ok one)
        → IsServable schedule one
    updated None same = absurd (none-some _ same)
    updated (Some update) same = let said : update_said schedule feed update ≡ Ok one =
        cc in update-servable schedule feed update one said

    by : (b : Bool) → (if b then None else option_map (update_said schedule feed) entity.trip_update) ≡ Some (Ok one)
        → IsServable schedule one
    by true same = absurd (none-some _ same)
    by false same = updated entity.trip_update same

given-servable : (schedule : Schedule) (feed : Feed) (entities : List Entity)
    → AllByRecursion (IsServable schedule) (given_all (map (entity_said schedule feed) entities))
given-servable schedule feed [] = tt
given-servable schedule feed (entity ∷ entities) =
    by (entity_said schedule feed entity) refl (given-servable schedule feed entities)
  where
    by : (said : Option (Result DatedReading Fault)) → entity_said schedule feed entity ≡ said
        → AllByRecursion (IsServable schedule) (given_all (map (entity_said schedule feed) entities))
        → AllByRecursion (IsServable schedule) (given_all (said ∷ map (entity_said schedule feed) entities))
    by None is rest = rest
    by (Some (Err fault)) is rest = rest
    by (Some (Ok one)) is rest = (given-one schedule feed entity one is, rest)

last-all : (P : DatedReading → Type 0) (given : List DatedReading) → AllByRecursion P given
    → AllByRecursion P (last_of_each given)
last-all P [] h = tt
last-all P (one ∷ others) h = by (is_last one others) (last-all P others h.1)
  where
    by : (b : Bool) → AllByRecursion P (last_of_each others)
        → AllByRecursion P (if b then one ∷ last_of_each others else last_of_each others)
    by true rest = (h.0, rest)
    by false rest = rest

-- the readings of a feed can be served, in any order
pub all-servable : (schedule : Schedule) (feed : Feed) (journeys : List DatedReading)
    → IsPermutation (last_of_each (given_all (readings schedule feed))) journeys
    → All (IsServable schedule) journeys
all-servable schedule feed journeys same =
    All-permutation (IsServable schedule) (last_of_each (given_all (readings schedule feed))) journeys same
    (All-from_recursion (IsServable schedule) (last_of_each (given_all (readings schedule feed)))
    (last-all (IsServable schedule) (given_all (readings schedule feed)) (given-servable schedule feed feed.entities)))

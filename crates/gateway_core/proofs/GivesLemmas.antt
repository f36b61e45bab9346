-- What the feed of the latest records gives: just their readings.
use Rattle.std.proofs.Common.{◌≡◌, ◌∙◌, ◌++◌, ◌∷◌, ◌&&◌, ◌==◌, ℕ, ℤ, List, [], Bool, true, false, length, map, replicate, Ok, Option, Some, None, refl, sym, ap, inl, inr, arith}
use Rattle.std.proofs.lemmas.Bool.Decides.{Decides-int_eq}
use Rattle.std.proofs.lemmas.Int.{ints}
use Rattle.std.proofs.lemmas.Bool.{and_parts, eqb-true, false_from_ne_true, ltb-true, or_cases}
use Rattle.std.proofs.lemmas.List.Elements.{filter_map-append}
use Rattle.std.specs.Prelude.{cond, filter, find, not, option_map, int_lt, nat_lt, if◌then◌else◌}
use Rattle.std.specs.List.{AllByRecursion, filter_map, flat_map, list_all}
use Rattle.std.specs.Option.{option_or}
use Rattle.std.specs.Ordering.{int_eq}
use Rattle.std.proofs.lemmas.List.{append-nil}
use Rattle.alert_map.specs.Alerts.{alert_message}
use Rattle.gw_base.specs.declared.messages.Entity.{Entity}
use Rattle.gw_base.specs.declared.messages.Feed.{Feed}
use Rattle.gw_base.proofs.Elements.{or_assoc, or_none}
use Rattle.feed_reading.specs.Tables.{MeansFeed, full_dataset}
use Rattle.feed_writing.specs.Written.{header}
use Rattle.timetable.specs.Sound.{IsSound}
use Rattle.timetable.specs.Table.{Table}
use Rattle.timetable.specs.declared.stop_row.StopRow.{StopRow}
use Rattle.journey_model.specs.FeedReadings.{entity_said, given, last_reading, nothing_known, or_nothing}
use Rattle.journey_model.specs.Places.{keeps_places}
use Rattle.journey_model.specs.Readings.{are_near, fits_trip, is_absent}
use Rattle.journey_model.specs.Records.{Recorded}
use Rattle.journey_model.specs.Runs.{Run}
use Rattle.journey_model.specs.Schedules.{IsServable, Schedule, run_from}
use Rattle.journey_model.specs.declared.readings.DatedReading.{DatedReading}
use Rattle.journey_model.specs.declared.readings.JourneyReading.{JourneyReading}
use Rattle.journey_model.specs.declared.readings.JourneyReading.TheVariants.{Cancelled, Stops}
use Rattle.journey_model.specs.declared.readings.StopReading.{StopReading}
use Rattle.journey_model.specs.declared.readings.StopReading.TheVariants.{Absent, Skipped, Timed}
use Rattle.journey_model.specs.declared.situation.Situation.{Situation}
use Rattle.latest_store.specs.Entities.{is_silent, messages}
use Rattle.latest_store.specs.Latest.{is_of, was_later}
use Rattle.latest_store.specs.Reads.{SaysItself, dated_reading}
use Rattle.latest_store.proofs.EntityLemmas.{messages_none, messages_one}
use Rattle.gateway_core.specs.Alerts.{alerts}
use Rattle.gateway_core.specs.Feeds.{IsRebuilt, are_ordered_by, comes_before, entities_of}
use Rattle.gateway_core.specs.Gives.{GivesEach, says_something}
use Rattle.gateway_core.specs.Standing.{IsAlertServed}
use Rattle.gateway_core.proofs.FaultlessLemmas.{faultless}
use Rattle.gateway_core.proofs.LeastLemmas.{entities_least}
use Rattle.gateway_core.proofs.OneLemmas.{same_counts}
use Rattle.gateway_core.proofs.SaidLemmas.{alerts_passed, nothing_aside}
use Rattle.gateway_core.proofs.ShortLemmas.{entities_short}

-- the readings of the messages of a record
abbrev dated : Schedule → Recorded → List DatedReading
dated schedule one = map (λ (entity : Entity). dated_reading one) (messages schedule one)

-- what the feed gives is what its records say
map_append : {X Y : Type 0} (f : X → Y) (xs ys : List X) → map f (xs ++ ys) ≡ map f xs ++ map f ys
map_append f [] ys = refl
map_append f (x ∷ xs) ys = ap (λ rest. f x ∷ rest) (map_append f xs ys)

given_each : (reading : DatedReading) (entities : List Entity) → filter_map given (map (λ (entity : Entity). Some (Ok reading)) entities) ≡ map (λ (entity : Entity). reading) entities
given_each reading [] = refl
given_each reading (entity ∷ entities) = ap (λ rest. reading ∷ rest) (given_each reading entities)

given_is : (schedule : Schedule) (feed : Feed) (records : List Recorded) → AllByRecursion (SaysItself schedule) records
    → filter_map given (map (entity_said schedule feed) (flat_map (messages schedule) records)) ≡ flat_map (dated schedule) records
given_is schedule feed [] says = refl
given_is schedule feed (one ∷ others) says =
    let own = messages schedule one in
    let rest = flat_map (messages schedule) others in
    ap (filter_map given) (map_append (entity_said schedule feed) own rest)
    ∙ filter_map-append given (map (entity_said schedule feed) own) (map (entity_said schedule feed) rest)
    ∙ ap (λ front. front ++ filter_map given (map (entity_said schedule feed) rest)) (ap (filter_map given) (says.0 feed) ∙ given_each (dated_reading one) own)
    ∙ ap (λ end. dated schedule one ++ end) (given_is schedule feed others says.1)

last_append : (trip : ℕ) (day : ℤ) (front end : List DatedReading) → last_reading trip day (front ++ end) ≡ option_or (last_reading trip day end) (last_reading trip day front)
last_append trip day [] end = sym (or_none (last_reading trip day end))
last_append trip day (one ∷ front) end =
    rw (last_append trip day front end) (or_assoc (last_reading trip day end) (last_reading trip day front) _)

-- a record of another journey gives no reading
none_of : (trip : ℕ) (day : ℤ) (one : Recorded) (entities : List Entity) → is_of trip day one ≡ false → last_reading trip day (map (λ (entity : Entity). dated_reading one) entities) ≡ None
none_of trip day one [] e = refl
none_of trip day one (entity ∷ entities) e = rw (none_of trip day one entities e, e) refl

-- and those after a record in order are of other journeys
other_journey : (trip : ℕ) (day : ℤ) (one other : Recorded) → comes_before one other ≡ true → is_of trip day one ≡ true → is_of trip day other ≡ false
other_journey trip day one other before of_one = false_from_ne_true (is_of trip day other) (λ of_other. clash_of of_other)
  where
    clash_of : is_of trip day other ≡ true → ⊥
    clash_of of_other =
        let trips : one.trip ≡ trip = eqb-true one.trip trip (and_parts (one.trip == trip) (int_eq one.day day) of_one).0 in
        let others : other.trip ≡ trip = eqb-true other.trip trip (and_parts (other.trip == trip) (int_eq other.day day) of_other).0 in
        let day_is : one.day ≡ day = (Decides-int_eq one.day day).0 (and_parts (one.trip == trip) (int_eq one.day day) of_one).1 in
        let other_day : other.day ≡ day = (Decides-int_eq other.day day).0 (and_parts (other.trip == trip) (int_eq other.day day) of_other).1 in
        elim (or_cases (int_lt one.day other.day) (int_eq one.day other.day && nat_lt one.trip other.trip) before) [
          | inl earlier ↦ omega (arith, ints)
          | inr lesser ↦ let less = ltb-true one.trip other.trip (and_parts (int_eq one.day other.day) (nat_lt one.trip other.trip) lesser).1 in omega arith
        ]

no_other : (schedule : Schedule) (trip : ℕ) (day : ℤ) (one : Recorded) (others : List Recorded) → list_all (comes_before one) others ≡ true → is_of trip day one ≡ true
    → last_reading trip day (flat_map (dated schedule) others) ≡ None
no_other schedule trip day one [] in_order of_one = refl
no_other schedule trip day one (other ∷ others) in_order of_one =
    let parts = and_parts (comes_before one other) (list_all (comes_before one) others) in_order in
    rw (last_append trip day (dated schedule other) (flat_map (dated schedule) others), no_other schedule trip day one others parts.1 of_one)
    (none_of trip day other (messages schedule other) (other_journey trip day one other parts.0 of_one))

-- a reading that can be served and says nothing of any stop
silent_stops : (start : ℤ) (rows : List StopRow) (readings : List StopReading) → are_near start rows readings ≡ true → list_all is_absent readings ≡ true → readings ≡ replicate (length rows) Absent
silent_stops start [] [] near silent = refl
silent_stops start [] (reading ∷ readings) near silent = absurd cc
silent_stops start (row ∷ rows) [] near silent = absurd cc
silent_stops start (row ∷ rows) (Absent ∷ readings) near silent = ap (λ rest. Absent ∷ rest) (silent_stops start rows readings near silent)
silent_stops start (row ∷ rows) (Skipped ∷ readings) near silent = absurd cc
silent_stops start (row ∷ rows) (Timed arrival departure place ∷ readings) near silent = absurd cc

stops_are : (table : Table) (trip : ℕ) (run : Run) (start : Option ℤ) → option_map (run_from table trip) start ≡ Some run → table.stops_of trip ≡ run.stops
stops_are table trip run None e = absurd cc
stops_are table trip run (Some start) e = let same : run_from table trip start ≡ run = cc in ap (λ (r : Run). r.stops) same

silent_is : (run : Run) (reading : JourneyReading) → fits_trip run reading ≡ true → is_silent reading ≡ true → reading ≡ Stops (replicate (length run.stops) Absent)
silent_is run Cancelled fits silent = absurd cc
silent_is run (Stops readings) fits silent =
    let near = (and_parts (are_near run.start run.stops readings) (keeps_places run readings) fits).0 in
    ap (λ r. Stops r) (silent_stops run.start run.stops readings near silent)

-- a record says its own reading
own_reading : (schedule : Schedule) (trip : ℕ) (day : ℤ) (one : Recorded) → IsServable schedule one.trip one.day one.reading → is_of trip day one ≡ true
    → or_nothing (last_reading trip day (dated schedule one)) (nothing_known schedule trip) ≡ one.reading
own_reading schedule trip day one servable of_one = by (is_silent one.reading) refl
  where
    by : (b : Bool) → is_silent one.reading ≡ b → or_nothing (last_reading trip day (dated schedule one)) (nothing_known schedule trip) ≡ one.reading
    by true silent =
        let trips : one.trip ≡ trip = eqb-true one.trip trip (and_parts (one.trip == trip) (int_eq one.day day) of_one).0 in
        let stops : schedule.table.stops_of one.trip ≡ servable.run.stops = stops_are schedule.table one.trip servable.run _ servable.on_day in
        let reads : one.reading ≡ Stops (replicate (length servable.run.stops) Absent) = silent_is servable.run one.reading servable.fits silent in
        rw (messages_none schedule one servable.run servable.on_day silent, ← trips, stops) (sym reads)
    by false silent = rw (messages_one schedule one servable.run servable.on_day silent, of_one) refl

-- the readings of records in order are those of the first one of each journey
all_read : (schedule : Schedule) (trip : ℕ) (day : ℤ) (records : List Recorded) → AllByRecursion (λ one. IsServable schedule one.trip one.day one.reading) records → are_ordered_by comes_before records ≡ true
    → or_nothing (last_reading trip day (flat_map (dated schedule) records)) (nothing_known schedule trip)
    ≡ or_nothing (option_map (λ one. one.reading) (find (is_of trip day) records)) (nothing_known schedule trip)
all_read schedule trip day [] servable in_order = refl
all_read schedule trip day (one ∷ others) servable in_order = by (is_of trip day one) refl (all_read schedule trip day others servable.1 parts.1)
  where
    parts : (list_all (comes_before one) others ≡ true) × (are_ordered_by comes_before others ≡ true)
    parts = and_parts (list_all (comes_before one) others) (are_ordered_by comes_before others) in_order

    by : (b : Bool) → is_of trip day one ≡ b
        → or_nothing (last_reading trip day (flat_map (dated schedule) others)) (nothing_known schedule trip)
        ≡ or_nothing (option_map (λ one. one.reading) (find (is_of trip day) others)) (nothing_known schedule trip)
        → or_nothing (last_reading trip day (dated schedule one ++ flat_map (dated schedule) others)) (nothing_known schedule trip)
        ≡ or_nothing (option_map (λ one. one.reading) (find (is_of trip day) (one ∷ others))) (nothing_known schedule trip)
    by true e after = rw (last_append trip day (dated schedule one) (flat_map (dated schedule) others), no_other schedule trip day one others parts.0 e, e)
        (own_reading schedule trip day one servable.0 e)
    by false e after = rw (
      last_append trip day (dated schedule one) (flat_map (dated schedule) others),
      none_of trip day one (messages schedule one) e,
      or_none (last_reading trip day (flat_map (dated schedule) others)),
      e,
    ) after

-- alerts give nothing
none_given : (schedule : Schedule) (feed : Feed) (situations : List Situation)
    → filter_map given (map (entity_said schedule feed) (flat_map (alerts schedule.table) situations)) ≡ []
none_given schedule feed [] = refl
none_given schedule feed (one ∷ others) = by one.served (none_given schedule feed others)
  where
    by : (served : Bool) → filter_map given (map (entity_said schedule feed) (flat_map (alerts schedule.table) others)) ≡ []
        → filter_map given (map (entity_said schedule feed) ((if served then alert_message schedule.table one ∷ [] else []) ++ flat_map (alerts schedule.table) others)) ≡ []
    by true rest = rest
    by false rest = rest

given_after : (schedule : Schedule) (feed : Feed) (records : List Recorded) (situations : List Situation) → AllByRecursion (SaysItself schedule) records
    → filter_map given (map (entity_said schedule feed) (entities_of schedule records situations)) ≡ flat_map (dated schedule) records
given_after schedule feed records situations says =
    let journeys = flat_map (messages schedule) records in
    let after = flat_map (alerts schedule.table) situations in
    ap (filter_map given) (map_append (entity_said schedule feed) journeys after)
    ∙ filter_map-append given (map (entity_said schedule feed) journeys) (map (entity_said schedule feed) after)
    ∙ ap (λ end. filter_map given (map (entity_said schedule feed) journeys) ++ end) (none_given schedule feed situations)
    ∙ append-nil (filter_map given (map (entity_said schedule feed) journeys))
    ∙ given_is schedule feed records says

-- the reading of a record is the one that its messages give, where it says something
one_dated : (schedule : Schedule) (one : Recorded) (others : List Recorded) → IsServable schedule one.trip one.day one.reading
    → dated schedule one ++ map dated_reading (filter says_something others) ≡ map dated_reading (filter says_something (one ∷ others))
one_dated schedule one others servable = by (is_silent one.reading) refl
  where
    rest : List DatedReading
    rest = map dated_reading (filter says_something others)

    by : (b : Bool) → is_silent one.reading ≡ b
        → dated schedule one ++ rest ≡ map dated_reading (cond (not (is_silent one.reading)) (one ∷ filter says_something others) (filter says_something others))
    by true silent = rw (messages_none schedule one servable.run servable.on_day silent, silent) refl
    by false silent = rw (messages_one schedule one servable.run servable.on_day silent, silent) refl

-- so what the messages of records give are the readings of those that say something
all_dated : (schedule : Schedule) (records : List Recorded) → AllByRecursion (λ one. IsServable schedule one.trip one.day one.reading) records
    → flat_map (dated schedule) records ≡ map dated_reading (filter says_something records)
all_dated schedule [] servable = refl
all_dated schedule (one ∷ others) servable =
    ap (λ end. dated schedule one ++ end) (all_dated schedule others servable.1) ∙ one_dated schedule one others servable.0

-- the feed of the latest records gives just their readings
pub gives_each : (at : ℤ) (schedule : Schedule) (records : List Recorded) (situations : List Situation) (bytes : List ℕ) (is : IsRebuilt at schedule records situations bytes)
    → IsSound schedule.table → MeansFeed (header at) (full_dataset at []) → AllByRecursion (IsAlertServed schedule.table) is.numbered
    → AllByRecursion (SaysItself schedule) is.ordered → AllByRecursion (λ one. IsServable schedule one.trip one.day one.reading) is.ordered
    → GivesEach at schedule records bytes
gives_each at schedule records situations bytes is sound begins good says servable = record {
  entities = entities_of schedule is.ordered is.numbered;
  means = is.is_feed.means;
  faultless =
      faultless at (entities_of schedule is.ordered is.numbered) bytes begins (entities_short schedule is.ordered is.numbered sound servable good) is.is_feed.bytes is.is_feed.means;
  gives = λ trip day found latest.
      let entities = entities_of schedule is.ordered is.numbered in
      let same : find (is_of trip day) is.ordered ≡ found =
      same_counts (is_of trip day) was_later records (find (is_of trip day) is.ordered) found (is.latest trip day) latest in
      ap (λ all. or_nothing (last_reading trip day all) (nothing_known schedule trip)) (given_after schedule (full_dataset at entities) is.ordered is.numbered says)
      ∙ all_read schedule trip day is.ordered servable is.in_order
      ∙ ap (λ one. or_nothing (option_map (λ (one : Recorded). one.reading) one) (nothing_known schedule trip)) same;
  says = record {
    latest = is.ordered;
    are_latest = record { in_order = is.in_order; latest = λ key. is.latest key.1 key.0 };
    given =
        given_after schedule (full_dataset at (entities_of schedule is.ordered is.numbered)) is.ordered is.numbered says
        ∙ all_dated schedule is.ordered servable;
  };
  least = entities_least schedule (full_dataset at (entities_of schedule is.ordered is.numbered)) is.ordered is.numbered sound says servable;
  aside = nothing_aside schedule (full_dataset at (entities_of schedule is.ordered is.numbered)) is.ordered is.numbered says;
  passed = alerts_passed schedule (full_dataset at (entities_of schedule is.ordered is.numbered)) is.ordered is.numbered says;
}

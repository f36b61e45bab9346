-- What a fold holds says, once the header is known, what the feed's entities say.
use Rattle.std.proofs.Common.{◌≡◌, ◌∙◌, ◌+◌, ◌||◌, ◌++◌, ◌∷◌, [], ℕ, ℤ, Bool, true, false, List, map, length, reverse, Option, Some, None, is_none, is_some, option_map, Result, Ok, Err, OnOk, if◌then◌else◌, refl, sym, ap, arith}
use Rattle.std.specs.Prelude.{cond}
use Rattle.std.proofs.lemmas.Bool.{false≢true}
use Rattle.std.proofs.lemmas.List.{append-nil, length-map, length_push, map-append}
use Rattle.std.proofs.lemmas.List.Elements.{filter_map-append}
use Rattle.std.specs.List.{cons_option, filter, filter_map}
use Rattle.std.specs.Option.{option_or}
use Rattle.gw_base.specs.declared.messages.Entity.{Entity}
use Rattle.gw_base.specs.declared.messages.Feed.{Feed}
use Rattle.gw_base.specs.declared.messages.FeedHead.{FeedHead}
use Rattle.gw_base.specs.declared.messages.TripUpdate.{TripUpdate}
use Rattle.service_day.specs.DayTexts.{day_of}
use Rattle.service_day.specs.declared.days.DayForm.TheVariants.{Compact}
use Rattle.journey_model.specs.FeedReadings.{given, aside_all, day_by, day_named, entity_said, given_all, is_cancelled, is_scheduled, last_of_each, moment_in, passed_count, reading_said, readings, said_of_day, said_of_trip, said_on, trip_named, update_said, with_reading}
use Rattle.journey_model.specs.Runs.{Run}
use Rattle.journey_model.specs.Schedules.{Schedule, run_on}
use Rattle.journey_model.specs.Names.{filled_text}
use Rattle.journey_model.specs.declared.fault.Fault.{Fault}
use Rattle.journey_model.specs.declared.fault.Fault.TheVariants.{NotRunning, OtherRelation}
use Rattle.journey_model.specs.declared.readings.DatedReading.{DatedReading}
use Rattle.journey_model.specs.declared.readings.JourneyReading.{JourneyReading}
use Rattle.journey_model.proofs.AsideLemmas.{aside-all-more}
use Rattle.propagation.specs.Folding.{Folded, GivesLate, StandsFor, aside_as, aside_late, bare_feed, entity_early, feed_with, given_late, given_or_aside, is_dated, is_taken_late, late_said, passed_early, taken_late, update_early}
use Rattle.propagation.specs.Replacing.{Holds}
use Rattle.propagation.specs.SortedOut.{AreLast, IsSortedOut}
use Rattle.propagation.specs.declared.entity_said.EntitySaid.{EntitySaid}
use Rattle.propagation.specs.declared.entity_said.EntitySaid.TheVariants.{Waits}
use Rattle.propagation.specs.declared.feeds.SortedOut.{SortedOut}
use Rattle.propagation.proofs.FeedLemmas.{given-push}
use Rattle.propagation.proofs.ReplacedLemmas.{gives_held, same_push}

-- ---- of a feed's header only the timestamp counts

bare_on : (schedule : Schedule) (feed : Feed) (update : TripUpdate) (trip : ℕ) (day : ℤ) (run : Option Run)
    → said_on schedule (bare_feed feed.timestamp) update trip day run ≡ said_on schedule feed update trip day run
bare_on schedule feed update trip day None = refl
bare_on schedule feed update trip day (Some run) = refl

bare_day : (schedule : Schedule) (feed : Feed) (update : TripUpdate) (trip : ℕ) (day : Option ℤ)
    → said_of_day schedule (bare_feed feed.timestamp) update trip day ≡ said_of_day schedule feed update trip day
bare_day schedule feed update trip None = refl
bare_day schedule feed update trip (Some day) = bare_on schedule feed update trip day (run_on schedule trip day)

bare_trip : (schedule : Schedule) (feed : Feed) (update : TripUpdate) (trip : Option ℕ)
    → said_of_trip schedule (bare_feed feed.timestamp) update trip ≡ said_of_trip schedule feed update trip
bare_trip schedule feed update None = refl
bare_trip schedule feed update (Some trip) =
    bare_day schedule feed update trip (day_named schedule feed trip update)

bare_update : (schedule : Schedule) (feed : Feed) (update : TripUpdate)
    → update_said schedule (bare_feed feed.timestamp) update ≡ update_said schedule feed update
bare_update schedule feed update = by (is_scheduled update || is_cancelled update)
  where
    by : (b : Bool)
        → (if b then said_of_trip schedule (bare_feed feed.timestamp) update (trip_named schedule update)
        else Err (OtherRelation update.trip.relation))
        ≡ (if b then said_of_trip schedule feed update (trip_named schedule update)
        else Err (OtherRelation update.trip.relation))
    by true = bare_trip schedule feed update (trip_named schedule update)
    by false = refl

pub bare_entity : (schedule : Schedule) (feed : Feed) (entity : Entity)
    → entity_said schedule (bare_feed feed.timestamp) entity ≡ entity_said schedule feed entity
bare_entity schedule feed entity = by entity.deleted entity.trip_update
  where
    by : (b : Bool) (found : Option TripUpdate)
        → (if b then None else option_map (update_said schedule (bare_feed feed.timestamp)) found)
        ≡ (if b then None else option_map (update_said schedule feed) found)
    by true found = refl
    by false None = refl
    by false (Some update) = ap (λ said. Some said) (bare_update schedule feed update)

-- ---- an update that names its day says the same before the header is known, but for when it was recorded

dated_on : (schedule : Schedule) (feed : Feed) (update : TripUpdate) (trip : ℕ) (day : ℤ) (run : Option Run)
    → late_said schedule feed (given_or_aside (said_on schedule (bare_feed None) update trip day run))
    ≡ Some (said_on schedule feed update trip day run)
dated_on schedule feed update trip day None = refl
dated_on schedule feed update trip day (Some run) =
    by (schedule.table.runs trip day) (reading_said run update) (moment_in update.timestamp)
  where
    by : (runs : Bool) (said : Result JourneyReading Fault) (own : Option ℤ)
        → late_said schedule feed
        (given_or_aside (if runs then with_reading trip day (option_or own None) said else Err NotRunning))
        ≡ Some (if runs then with_reading trip day (option_or own (moment_in feed.timestamp)) said else Err NotRunning)
    by false said own = refl
    by true (Err fault) own = refl
    by true (Ok reading) None = refl
    by true (Ok reading) (Some secs) = refl

dated_day : (schedule : Schedule) (feed : Feed) (update : TripUpdate) (trip : ℕ) (day : Option ℤ)
    → late_said schedule feed (given_or_aside (said_of_day schedule (bare_feed None) update trip day))
    ≡ Some (said_of_day schedule feed update trip day)
dated_day schedule feed update trip None = refl
dated_day schedule feed update trip (Some day) = dated_on schedule feed update trip day (run_on schedule trip day)

dated_trip : (schedule : Schedule) (feed : Feed) (update : TripUpdate) (trip : Option ℕ) → is_dated update ≡ true
    → late_said schedule feed (given_or_aside (said_of_trip schedule (bare_feed None) update trip))
    ≡ Some (said_of_trip schedule feed update trip)
dated_trip schedule feed update None dated = refl
dated_trip schedule feed update (Some trip) dated = by (filled_text update.trip.start_date) dated
  where
    by : (date : Option (List ℕ)) → is_some date ≡ true
        → late_said schedule feed
        (given_or_aside (said_of_day schedule (bare_feed None) update trip (day_by schedule trip None date)))
        ≡ Some (said_of_day schedule feed update trip (day_by schedule trip (moment_in feed.timestamp) date))
    by None e = absurd (false≢true e)
    by (Some date) e = dated_day schedule feed update trip (day_of Compact date)

dated_update : (schedule : Schedule) (feed : Feed) (update : TripUpdate) → is_dated update ≡ true
    → late_said schedule feed (given_or_aside (update_said schedule (bare_feed None) update))
    ≡ Some (update_said schedule feed update)
dated_update schedule feed update dated = by (is_scheduled update || is_cancelled update)
  where
    by : (b : Bool)
        → late_said schedule feed (given_or_aside (if b
        then said_of_trip schedule (bare_feed None) update (trip_named schedule update)
        else Err (OtherRelation update.trip.relation)))
        ≡ Some (if b then said_of_trip schedule feed update (trip_named schedule update)
        else Err (OtherRelation update.trip.relation))
    by true = dated_trip schedule feed update (trip_named schedule update) dated
    by false = refl

late_update : (schedule : Schedule) (feed : Feed) (update : TripUpdate)
    → late_said schedule feed (update_early schedule update) ≡ Some (update_said schedule feed update)
late_update schedule feed update = by (is_dated update) refl
  where
    by : (b : Bool) → is_dated update ≡ b
        → late_said schedule feed
        (if b then given_or_aside (update_said schedule (bare_feed None) update) else Waits update)
        ≡ Some (update_said schedule feed update)
    by true dated = dated_update schedule feed update dated
    by false dated = refl

-- ---- what an entity says, once the header is known

-- nothing where it is passed
said_passed : (schedule : Schedule) (feed : Feed) (entity : Entity) → None ≡ entity_early schedule entity
    → entity_said schedule feed entity ≡ None
said_passed schedule feed entity e = by entity.deleted entity.trip_update e
  where
    by : (b : Bool) (found : Option TripUpdate)
        → None ≡ (if b then None else option_map (update_early schedule) found)
        → ◌≡◌ {A = Option (Result DatedReading Fault)}
        (if b then None else option_map (update_said schedule feed) found) None
    by true found e = refl
    by false None e = refl
    by false (Some update) e = absurd cc

-- else what is held of it says then what it says
record SaysLate (schedule : Schedule) (feed : Feed) (early : EntitySaid)
    (said : Option (Result DatedReading Fault)) : Type 0 where
  one : Result DatedReading Fault
  late : late_said schedule feed early ≡ Some one
  same : said ≡ Some one

said_late : (schedule : Schedule) (feed : Feed) (entity : Entity) (early : EntitySaid)
    → Some early ≡ entity_early schedule entity
    → SaysLate schedule feed early (entity_said schedule feed entity)
said_late schedule feed entity early e = by entity.deleted entity.trip_update e
  where
    by : (b : Bool) (found : Option TripUpdate)
        → Some early ≡ (if b then None else option_map (update_early schedule) found)
        → SaysLate schedule feed early (if b then None else option_map (update_said schedule feed) found)
    by true found e = absurd cc
    by false None e = absurd cc
    by false (Some update) e =
        let is : early ≡ update_early schedule update = cc in
        record {
          one = update_said schedule feed update;
          late = ap (late_said schedule feed) is ∙ late_update schedule feed update;
          same = refl;
        }

late_passed : (schedule : Schedule) (feed : Feed) (entities : List Entity)
    → passed_early schedule entities ≡ passed_count (map (entity_said schedule feed) entities)
late_passed schedule feed [] = refl
late_passed schedule feed (entity ∷ entities) =
    by (entity_early schedule entity) refl (late_passed schedule feed entities)
  where
    by : (early : Option EntitySaid) → early ≡ entity_early schedule entity
        → passed_early schedule entities ≡ passed_count (map (entity_said schedule feed) entities)
        → length (filter is_none (early ∷ map (entity_early schedule) entities))
        ≡ passed_count (entity_said schedule feed entity ∷ map (entity_said schedule feed) entities)
    by None e h = rw (said_passed schedule feed entity e) (omega (arith, h))
    by (Some early) e h = rw (said_late schedule feed entity early e).same h

bare_readings : (schedule : Schedule) (feed : Feed) (entities : List Entity)
    → map (entity_said schedule (bare_feed feed.timestamp)) entities ≡ map (entity_said schedule feed) entities
bare_readings schedule feed [] = refl
bare_readings schedule feed (entity ∷ entities) =
    rw (bare_entity schedule feed entity)
    (ap (λ (more : List (Option (Result DatedReading Fault))). entity_said schedule feed entity ∷ more)
    (bare_readings schedule feed entities))

-- what a fold stands for is sorted out
pub late_sorted : (schedule : Schedule) (head : FeedHead) (fold : Folded) (entities : List Entity) (sorted : SortedOut)
    → StandsFor schedule fold entities
    → sorted.last.items ≡ reverse (last_of_each (filter_map (given_late schedule (bare_feed head.timestamp)) fold.said))
    → sorted.taken ≡ taken_late schedule (bare_feed head.timestamp) fold.said
    → sorted.passed ≡ fold.passed
    → sorted.aside ≡ filter_map (aside_late schedule (bare_feed head.timestamp)) fold.said
    → IsSortedOut (readings schedule (feed_with head entities)) sorted
late_sorted schedule head fold entities sorted stands is_last is_taken is_passed is_aside =
    let feed = feed_with head entities in
    let late = stands.late head.timestamp in
    let same = bare_readings schedule feed entities in
    record {
      last = is_last
          ∙ ap (λ (last : List DatedReading). reverse last) (late.last
          ∙ ap (λ (said : List (Option (Result DatedReading Fault))). last_of_each (given_all said)) same);
      taken = is_taken
          ∙ (late.taken ∙ ap (λ (said : List (Option (Result DatedReading Fault))). length (given_all said)) same);
      passed = is_passed ∙ (stands.passed ∙ late_passed schedule feed entities);
      aside = is_aside ∙ (late.aside ∙ ap aside_all same);
    }

-- what is held, read from the end on once the header is known
pub record LateTo (schedule : Schedule) (feed : Feed) (held left : List (ℕ × EntitySaid)) (keys : List (ℤ × ℕ))
    (last : List DatedReading) (aside : List (ℕ × Fault)) : Type 0 where
  pub after : List (ℕ × EntitySaid)
  pub split : held ≡ left ++ after
  pub are_last : AreLast (filter_map (given_late schedule feed) after) keys last
  pub aside_is : aside ≡ reverse (filter_map (aside_late schedule feed) after)

-- what isn't set aside is taken
pub taken_rest : (schedule : Schedule) (feed : Feed) (held : List (ℕ × EntitySaid))
    → length held ≡ taken_late schedule feed held + length (filter_map (aside_late schedule feed) held)
taken_rest schedule feed [] = omega arith
taken_rest schedule feed (one ∷ held) = by (aside_late schedule feed one) (taken_rest schedule feed held)
  where
    by : (aside : Option (ℕ × Fault))
        → length held ≡ taken_late schedule feed held + length (filter_map (aside_late schedule feed) held)
        → length (one ∷ held)
        ≡ length (cond (is_none aside) (one ∷ filter (is_taken_late schedule feed) held)
        (filter (is_taken_late schedule feed) held))
        + length (cons_option aside (filter_map (aside_late schedule feed) held))
    by None h = omega (arith, h)
    by (Some fault) h = omega (arith, h)

-- ---- an entity more

pub on_ok : {T E P Q : Type 0} (result : Result T E) → (P → Q) → OnOk result P → OnOk result Q
on_ok (Ok value) more h = more h
on_ok (Err fault) more h = h

-- no entity so far
pub stands_none : (schedule : Schedule) (held : List (ℕ × EntitySaid)) → held ≡ []
    → StandsFor schedule (record { passed = 0; said = held }) []
stands_none schedule held none = record {
  passed = refl;
  late = λ timestamp. rw none (record { taken = refl; last = refl; aside = refl });
}

passed_push : (schedule : Schedule) (entities : List Entity) (entity : Entity)
    → passed_early schedule (entities ++ entity ∷ [])
    ≡ passed_early schedule entities + passed_early schedule (entity ∷ [])
passed_push schedule [] entity = omega arith
passed_push schedule (one ∷ entities) entity =
    by (entity_early schedule one) (passed_push schedule entities entity)
  where
    by : (early : Option EntitySaid)
        → passed_early schedule (entities ++ entity ∷ [])
        ≡ passed_early schedule entities + passed_early schedule (entity ∷ [])
        → length (filter is_none (early ∷ map (entity_early schedule) (entities ++ entity ∷ [])))
        ≡ length (filter is_none (early ∷ map (entity_early schedule) entities))
        + passed_early schedule (entity ∷ [])
    by None h = omega (arith, h)
    by (Some early) h = h

taken_push : (schedule : Schedule) (feed : Feed) (held : List (ℕ × EntitySaid)) (last : ℕ × EntitySaid)
    → taken_late schedule feed (held ++ last ∷ [])
    ≡ taken_late schedule feed held + taken_late schedule feed (last ∷ [])
taken_push schedule feed [] last = omega arith
taken_push schedule feed (one ∷ held) last =
    by (is_taken_late schedule feed one) (taken_push schedule feed held last)
  where
    by : (taken : Bool)
        → taken_late schedule feed (held ++ last ∷ [])
        ≡ taken_late schedule feed held + taken_late schedule feed (last ∷ [])
        → length (cond taken (one ∷ filter (is_taken_late schedule feed) (held ++ last ∷ []))
        (filter (is_taken_late schedule feed) (held ++ last ∷ [])))
        ≡ length (cond taken (one ∷ filter (is_taken_late schedule feed) held)
        (filter (is_taken_late schedule feed) held)) + taken_late schedule feed (last ∷ [])
    by true h = omega (arith, h)
    by false h = h

-- what an entity says is held, and what is held gives it
gives_more : (schedule : Schedule) (feed : Feed) (held : List (ℕ × EntitySaid))
    (said : List (Option (Result DatedReading Fault))) (number : ℕ) (early : EntitySaid)
    (one : Result DatedReading Fault)
    → GivesLate schedule feed held said → number ≡ length said → late_said schedule feed early ≡ Some one
    → GivesLate schedule feed (held ++ (number, early) ∷ []) (said ++ Some one ∷ [])
gives_more schedule feed held said number early (Ok reading) h index late =
    let last : ℕ × EntitySaid = (number, early) in
    let taken : taken_late schedule feed (last ∷ []) ≡ 1 =
    ap (λ (found : Option (Result DatedReading Fault)).
    length (cond (is_none (aside_as number found)) (last ∷ []) [])) late in
    let count : length (given_all (said ++ Some (Ok reading) ∷ [])) ≡ length (given_all said) + 1 =
    ap length (given-push said (Some (Ok reading))) ∙ length_push (given_all said) reading in
    record {
      taken = omega (arith, taken_push schedule feed held last, taken, count, h.taken);
      last = ap last_of_each (filter_map-append (given_late schedule feed) held (last ∷ [])
          ∙ ap (λ (found : Option (Result DatedReading Fault)).
          filter_map (given_late schedule feed) held ++ cons_option (given found) []) late)
          ∙ (same_push (filter_map (given_late schedule feed) held) (given_all said) reading h.last
          ∙ sym (ap last_of_each (given-push said (Some (Ok reading)))));
      aside = filter_map-append (aside_late schedule feed) held (last ∷ [])
          ∙ (ap (λ (found : Option (Result DatedReading Fault)).
          filter_map (aside_late schedule feed) held ++ cons_option (aside_as number found) []) late
          ∙ (ap (λ (all : List (ℕ × Fault)). all ++ []) h.aside
          ∙ sym (aside-all-more said (Some (Ok reading)))));
    }
gives_more schedule feed held said number early (Err fault) h index late =
    let last : ℕ × EntitySaid = (number, early) in
    let taken : taken_late schedule feed (last ∷ []) ≡ 0 =
    ap (λ (found : Option (Result DatedReading Fault)).
    length (cond (is_none (aside_as number found)) (last ∷ []) [])) late in
    let none : given_all (said ++ Some (Err fault) ∷ []) ≡ given_all said =
    given-push said (Some (Err fault)) ∙ append-nil (given_all said) in
    record {
      taken = omega (arith, taken_push schedule feed held last, taken, ap length none, h.taken);
      last = ap last_of_each (filter_map-append (given_late schedule feed) held (last ∷ [])
          ∙ (ap (λ (found : Option (Result DatedReading Fault)).
          filter_map (given_late schedule feed) held ++ cons_option (given found) []) late
          ∙ append-nil (filter_map (given_late schedule feed) held)))
          ∙ (h.last ∙ sym (ap last_of_each none));
      aside = filter_map-append (aside_late schedule feed) held (last ∷ [])
          ∙ (ap (λ (found : Option (Result DatedReading Fault)).
          filter_map (aside_late schedule feed) held ++ cons_option (aside_as number found) []) late
          ∙ (ap (λ (all : List (ℕ × Fault)). all ++ (number, fault) ∷ []) h.aside
          ∙ (ap (λ (at : ℕ). aside_all said ++ (at, fault) ∷ []) index
          ∙ sym (aside-all-more said (Some (Err fault))))));
    }

-- an entity that is passed says nothing
gives_passed : (schedule : Schedule) (feed : Feed) (held : List (ℕ × EntitySaid))
    (said : List (Option (Result DatedReading Fault)))
    → GivesLate schedule feed held said → GivesLate schedule feed held (said ++ None ∷ [])
gives_passed schedule feed held said h =
    let same : given_all (said ++ None ∷ []) ≡ given_all said = given-push said None ∙ append-nil (given_all said) in
    record {
      taken = h.taken ∙ sym (ap length same);
      last = h.last ∙ sym (ap last_of_each same);
      aside = h.aside ∙ sym (aside-all-more said None ∙ append-nil (aside_all said));
    }

pub stands_passed : (schedule : Schedule) (old new : Folded) (entities : List Entity) (entity : Entity)
    → StandsFor schedule old entities → None ≡ entity_early schedule entity
    → new.passed ≡ old.passed + 1 → new.said ≡ old.said
    → StandsFor schedule new (entities ++ entity ∷ [])
stands_passed schedule old new entities entity stands is passed same =
    let one : passed_early schedule (entity ∷ []) ≡ 1 =
    ap (λ (early : Option EntitySaid). length (filter is_none (early ∷ []))) (sym is) in
    record {
      passed = omega (arith, passed, stands.passed, passed_push schedule entities entity, one);
      late = λ timestamp.
          let feed = bare_feed timestamp in
          let grown : map (entity_said schedule feed) (entities ++ entity ∷ [])
          ≡ map (entity_said schedule feed) entities ++ None ∷ [] =
          map-append (entity_said schedule feed) entities (entity ∷ [])
          ∙ ap (λ (last : Option (Result DatedReading Fault)).
          map (entity_said schedule feed) entities ++ last ∷ []) (said_passed schedule feed entity is) in
          rw (same, grown) (gives_passed schedule feed old.said (map (entity_said schedule feed) entities)
          (stands.late timestamp));
    }

pub stands_held : (schedule : Schedule) (old new : Folded) (entities : List Entity) (number : ℕ) (entity : Entity)
    (early : EntitySaid)
    → StandsFor schedule old entities → number ≡ length entities → Some early ≡ entity_early schedule entity
    → new.passed ≡ old.passed → Holds old.said new.said number early
    → StandsFor schedule new (entities ++ entity ∷ [])
stands_held schedule old new entities number entity early stands index is passed holds =
    let none : passed_early schedule (entity ∷ []) ≡ 0 =
    ap (λ (found : Option EntitySaid). length (filter is_none (found ∷ []))) (sym is) in
    record {
      passed = omega (arith, passed, stands.passed, passed_push schedule entities entity, none);
      late = λ timestamp.
          let feed = bare_feed timestamp in
          let said = map (entity_said schedule feed) entities in
          let says = said_late schedule feed entity early is in
          let grown : map (entity_said schedule feed) (entities ++ entity ∷ []) ≡ said ++ Some says.one ∷ [] =
          map-append (entity_said schedule feed) entities (entity ∷ [])
          ∙ ap (λ (last : Option (Result DatedReading Fault)). said ++ last ∷ []) says.same in
          let many : number ≡ length said = omega (arith, index, length-map entities (entity_said schedule feed)) in
          rw grown (gives_held schedule feed old.said new.said number early (said ++ Some says.one ∷ []) holds
          (gives_more schedule feed old.said said number early says.one (stands.late timestamp) many says.late));
    }

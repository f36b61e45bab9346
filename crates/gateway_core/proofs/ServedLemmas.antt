-- What is kept means the same after the window rolled.
use Rattle.std.proofs.Common.{◌≡◌, ◌∙◌, ◌++◌, ◌∷◌, ◌||◌, [], ℕ, ℤ, Bool, true, false, cond, List, map, Option, Some, None, option_map, Result, Ok, Err, ap, sym, refl, subst}
use Rattle.std.proofs.lemmas.Option.{same_Some}
use Rattle.std.specs.List.{flat_map}
use Rattle.gw_base.specs.declared.messages.Entity.{Entity}
use Rattle.gw_base.specs.declared.messages.Feed.{Feed}
use Rattle.gw_base.specs.declared.messages.TripUpdate.{TripUpdate}
use Rattle.feed_reading.specs.Tables.{MeansFeed}
use Rattle.feed_writing.specs.Written.{written}
use Rattle.journey_model.specs.Ids.{id_of}
use Rattle.journey_model.specs.FeedReadings.{day_named, entity_said, is_cancelled, is_scheduled, reading_said, recorded_in, said_of_day, said_of_trip, said_on, trip_named, update_said, with_reading}
use Rattle.journey_model.specs.Records.{Recorded}
use Rattle.journey_model.specs.Runs.{Run}
use Rattle.journey_model.specs.Schedules.{run_from, run_on}
use Rattle.journey_model.specs.declared.fault.Fault.{Fault}
use Rattle.journey_model.specs.declared.fault.Fault.TheVariants.{NotRunning, OtherRelation}
use Rattle.journey_model.specs.declared.readings.DatedReading.{DatedReading}
use Rattle.journey_model.specs.declared.readings.JourneyReading.{JourneyReading}
use Rattle.latest_store.specs.Entities.{entity, is_silent, message, messages, messages_on}
use Rattle.latest_store.specs.Reads.{SaysItself, dated_reading, with_messages}
use Rattle.gateway_core.specs.Arrivals.{is_within, schedule_at, window_at}
use Rattle.gateway_core.specs.Standing.{IsServed}
use Rattle.gateway_core.specs.declared.setting.Setting.{Setting}
use Rattle.gateway_core.proofs.RollLemmas.{start_there}

-- a day of both windows starts at the same second in both
pub run_stays : (setting : Setting) (moments later : List ℤ) (one : Recorded)
    → is_within (window_at setting moments) one ≡ true → is_within (window_at setting later) one ≡ true
    → run_on (schedule_at setting moments) one.trip one.day ≡ run_on (schedule_at setting later) one.trip one.day
run_stays setting moments later one within still =
    ap (option_map (run_from (schedule_at setting moments).table one.trip))
    (start_there setting moments one within ∙ sym (start_there setting later one still))

module _ (setting : Setting) (moments later : List ℤ) (one : Recorded)
    (same : run_on (schedule_at setting moments) one.trip one.day ≡ run_on (schedule_at setting later) one.trip one.day) where
  messages_stay : messages (schedule_at setting moments) one ≡ messages (schedule_at setting later) one
  messages_stay = ap (messages_on (schedule_at setting moments) one) same ∙ by (run_on (schedule_at setting later) one.trip one.day)
    where
      by : (run : Option Run) → messages_on (schedule_at setting moments) one run ≡ messages_on (schedule_at setting later) one run
      by None = refl
      by (Some run) = refl

  -- what an update says of the record's journey on its day
  module _ (given : Feed) (update : TripUpdate) where
    names : (trip : ℕ) (day : ℤ) (run : Option Run) → said_on (schedule_at setting moments) given update trip day run ≡ Ok (dated_reading one) → (trip ≡ one.trip) × (day ≡ one.day)
    names trip day None e = absurd cc
    names trip day (Some run) e = by ((schedule_at setting moments).table.runs trip day) (reading_said run update) e
      where
        by : (b : Bool) (said : Result JourneyReading Fault)
            → cond b (with_reading trip day (recorded_in given update) said) (Err NotRunning) ≡ Ok (dated_reading one) → (trip ≡ one.trip) × (day ≡ one.day)
        by false said e = absurd cc
        by true (Err fault) e = absurd cc
        by true (Ok reading) e =
            let f : record { trip = record { 0 = trip }; day = day; recorded = recorded_in given update; reading = reading } ≡ dated_reading one = cc in
            (ap (λ (d : DatedReading). d.trip.0) f, ap (λ (d : DatedReading). d.day) f)

    alike : (trip : ℕ) (day : ℤ) (run : Option Run) → said_on (schedule_at setting later) given update trip day run ≡ said_on (schedule_at setting moments) given update trip day run
    alike trip day None = refl
    alike trip day (Some run) = refl

    on_day : (trip : ℕ) (day : Option ℤ) → said_of_day (schedule_at setting moments) given update trip day ≡ Ok (dated_reading one)
        → said_of_day (schedule_at setting later) given update trip day ≡ Ok (dated_reading one)
    on_day trip None e = absurd cc
    on_day trip (Some day) e =
        let named = names trip day (run_on (schedule_at setting moments) trip day) e in
        let its : run_on (schedule_at setting moments) trip day ≡ run_on (schedule_at setting later) trip day = rw (named.0, named.1) same in
        ap (said_on (schedule_at setting later) given update trip day) (sym its) ∙ alike trip day (run_on (schedule_at setting moments) trip day) ∙ e

    update_stays : update_said (schedule_at setting moments) given update ≡ Ok (dated_reading one) → update_said (schedule_at setting later) given update ≡ Ok (dated_reading one)
    update_stays e = by (is_scheduled update || is_cancelled update) (trip_named (schedule_at setting moments) update) e
      where
        by : (b : Bool) (trip : Option ℕ) → cond b (said_of_trip (schedule_at setting moments) given update trip) (Err (OtherRelation update.trip.relation)) ≡ Ok (dated_reading one)
            → cond b (said_of_trip (schedule_at setting later) given update trip) (Err (OtherRelation update.trip.relation)) ≡ Ok (dated_reading one)
        by false trip e = absurd cc
        by true None e = absurd cc
        by true (Some trip) e = on_day trip (day_named (schedule_at setting moments) given trip update) e

  -- and what the entity with the update says
  entity_said_stays : (given : Feed) (entity : Entity) → entity_said (schedule_at setting moments) given entity ≡ Some (Ok (dated_reading one))
      → entity_said (schedule_at setting later) given entity ≡ Some (Ok (dated_reading one))
  entity_said_stays given entity e = by entity.deleted entity.trip_update e
    where
      by : (b : Bool) (update : Option TripUpdate) → cond b None (option_map (update_said (schedule_at setting moments) given) update) ≡ Some (Ok (dated_reading one))
          → cond b None (option_map (update_said (schedule_at setting later) given) update) ≡ Some (Ok (dated_reading one))
      by true update e = absurd cc
      by false None e = absurd cc
      by false (Some update) e = ap (λ said. Some said) (update_stays given update (same_Some (update_said (schedule_at setting moments) given update) (Ok (dated_reading one)) e))

  says_stay : SaysItself (schedule_at setting moments) one → SaysItself (schedule_at setting later) one
  says_stay says given =
      subst (λ (run : Option Run). map (entity_said (schedule_at setting later) given) (messages_on (schedule_at setting later) one run) ≡ map (λ entity. Some (Ok (dated_reading one))) (messages_on (schedule_at setting later) one run)) same
      (of (run_on (schedule_at setting moments) one.trip one.day) (says given))
    where
      of : (run : Option Run)
          → map (entity_said (schedule_at setting moments) given) (messages_on (schedule_at setting moments) one run) ≡ map (λ entity. Some (Ok (dated_reading one))) (messages_on (schedule_at setting moments) one run)
          → map (entity_said (schedule_at setting later) given) (messages_on (schedule_at setting later) one run) ≡ map (λ entity. Some (Ok (dated_reading one))) (messages_on (schedule_at setting later) one run)
      of None e = refl
      of (Some run) e = by (is_silent one.reading) e
        where
          by : (silent : Bool)
              → map (entity_said (schedule_at setting moments) given) (cond silent [] (message (id_of (schedule_at setting moments).table.trips one.trip) run one ∷ []))
              ≡ map (λ entity. Some (Ok (dated_reading one))) (cond silent [] (message (id_of (schedule_at setting moments).table.trips one.trip) run one ∷ []))
              → map (entity_said (schedule_at setting later) given) (cond silent [] (message (id_of (schedule_at setting moments).table.trips one.trip) run one ∷ []))
              ≡ map (λ entity. Some (Ok (dated_reading one))) (cond silent [] (message (id_of (schedule_at setting moments).table.trips one.trip) run one ∷ []))
          by true e = refl
          by false e =
              let its : entity_said (schedule_at setting moments) given (message (id_of (schedule_at setting moments).table.trips one.trip) run one) ≡ Some (Ok (dated_reading one)) = cc in
              ap (λ said. said ∷ []) (entity_said_stays given (message (id_of (schedule_at setting moments).table.trips one.trip) run one) its)

  pub served_stays : IsServed (schedule_at setting moments) one → IsServed (schedule_at setting later) one
  served_stays h = record {
    says = says_stay h.says;
    means = λ before given means.
        subst (λ (all : List Entity). MeansFeed (before ++ flat_map written all) (with_messages given all)) messages_stay (h.means before given means);
  }

-- What a gateway serves is what is rebuilt from the arrivals that it stands for.
use Rattle.std.proofs.Common.{◌≡◌, ◌∙◌, ◌++◌, ◌∷◌, [], ℕ, ℤ, Bool, true, false, cond, List, map, ap, sym, refl, subst}
use Rattle.std.proofs.lemmas.Grind.{flat_map-append}
use Rattle.std.proofs.lemmas.List.{append-nil, append_assoc}
use Rattle.std.specs.Prelude.{filter}
use Rattle.std.specs.List.{AllByRecursion, flat_map}
use Rattle.feed_index.specs.Chosen.{chosen}
use Rattle.feed_index.specs.declared.entry.Entry.{Entry}
use Rattle.feed_reading.specs.Tables.{MeansFeed, full_dataset}
use Rattle.feed_writing.specs.Written.{header, written}
use Rattle.gw_base.specs.declared.messages.Entity.{Entity}
use Rattle.journey_model.specs.Records.{Recorded}
use Rattle.journey_model.specs.Schedules.{IsServable, Schedule}
use Rattle.journey_model.specs.declared.situation.Situation.{Situation}
use Rattle.service_day.specs.declared.moments.Instant.{Instant}
use Rattle.timetable.specs.Seen.{seen}
use Rattle.timetable.specs.Sound.{IsSound}
use Rattle.timetable.specs.Table.{Table}
use Rattle.alert_map.specs.Alerts.{alert_message}
use Rattle.latest_store.specs.Entities.{entity, messages}
use Rattle.latest_store.specs.Latest.{was_later}
use Rattle.latest_store.specs.Reads.{SaysItself}
use Rattle.gateway_core.specs.Alerts.{alerts}
use Rattle.gateway_core.specs.Arrivals.{Arrival, EachCanBeServed, admitted, admitted_situations, is_same_journey, is_within, moments_of, present, records_of, schedule_at, window_at, most_journeys}
use Rattle.gateway_core.specs.Feeds.{IsFeedOf, comes_before, entities_of}
use Rattle.gateway_core.specs.Gives.{GivesEach}
use Rattle.gateway_core.specs.Recording.{IsRebuiltOf}
use Rattle.gateway_core.specs.Standing.{IsAlertServed, IsServed, JourneyEntry, Kept, SituationEntry, Stands, journey_entry, journey_seen, served, situation_entry, situation_seen}
use Rattle.gateway_core.specs.Winners.{has_key, key_cmp, key_of}
use Rattle.gateway_core.specs.declared.keys.Edition.{Edition}
use Rattle.gateway_core.specs.declared.keys.JourneyKey.{JourneyKey}
use Rattle.gateway_core.specs.declared.setting.Setting.{Setting}
use Rattle.gateway_core.proofs.GivesLemmas.{gives_each}
use Rattle.gateway_core.proofs.HeldLemmas.{all_weaker}
use Rattle.gateway_core.proofs.KeepsLemmas.{all_latest}
use Rattle.gateway_core.proofs.RecordingLemmas.{filter_of}
use Rattle.gateway_core.proofs.RollLemmas.{all_admitted, within_servable}
use Rattle.gateway_core.proofs.ServedLemmas.{run_stays}
use Rattle.gateway_core.proofs.StandingLemmas.{journeys_by_key}
use Rattle.gateway_core.proofs.WinnerLemmas.{journeys as journeys_keyed}

-- ---- what an index writes is what is served of it

pub journeys_written : (entries : List (Entry JourneyKey Instant)) → chosen (λ value. true) entries ≡ flat_map (λ one. one.bytes) (map journey_seen entries)
journeys_written [] = refl
journeys_written (one ∷ entries) = ap (λ (rest : List ℕ). one.bytes ++ rest) (journeys_written entries)

pub alerts_written : (entries : List (Entry (List ℕ) Edition))
    → chosen (λ value. value.served) entries ≡ flat_map (λ one. one.bytes) (filter (λ one. one.value.1) (map situation_seen entries))
alerts_written [] = refl
alerts_written (one ∷ entries) = by one.value.served (alerts_written entries)
  where
    by : (b : Bool) → chosen (λ (value : Edition). value.served) entries ≡ flat_map (λ (one : SituationEntry). one.bytes) (filter (λ (one : SituationEntry). one.value.1) (map situation_seen entries))
        → flat_map (λ (each : Entry (List ℕ) Edition). each.bytes) (cond b (one ∷ filter (λ (each : Entry (List ℕ) Edition). each.value.served) entries) (filter (λ (each : Entry (List ℕ) Edition). each.value.served) entries))
        ≡ flat_map (λ (each : SituationEntry). each.bytes)
        (cond b (situation_seen one ∷ filter (λ (each : SituationEntry). each.value.1) (map situation_seen entries)) (filter (λ (each : SituationEntry). each.value.1) (map situation_seen entries)))
    by true rest = ap (λ (bytes : List ℕ). one.bytes ++ bytes) rest
    by false rest = rest

pub all_written : (at : ℤ) (kept : Kept) (head : List ℕ) (journeys : List (Entry JourneyKey Instant)) (situations : List (Entry (List ℕ) Edition))
    → head ≡ header at → map journey_seen journeys ≡ kept.journeys → map situation_seen situations ≡ kept.situations
    → head ++ chosen (λ value. true) journeys ++ chosen (λ value. value.served) situations ≡ served at kept
all_written at kept head journeys situations first then last =
    ap (λ (bytes : List ℕ). bytes ++ chosen (λ value. true) journeys ++ chosen (λ (value : Edition). value.served) situations) first
    ∙ ap (λ (bytes : List ℕ). header at ++ bytes ++ chosen (λ (value : Edition). value.served) situations)
    (journeys_written journeys ∙ ap (λ (entries : List JourneyEntry). flat_map (λ (one : JourneyEntry). one.bytes) entries) then)
    ∙ ap (λ (bytes : List ℕ). header at ++ flat_map (λ (one : JourneyEntry). one.bytes) kept.journeys ++ bytes)
    (alerts_written situations ∙ ap (λ (entries : List SituationEntry). flat_map (λ (one : SituationEntry). one.bytes) (filter (λ (one : SituationEntry). one.value.1) entries)) last)

-- ---- what is served, entity by entity

module _ (schedule : Schedule) where
  pub entities_written : (records : List Recorded) → flat_map (λ one. one.bytes) (map (journey_entry schedule) records) ≡ flat_map written (flat_map (messages schedule) records)
  entities_written [] = refl
  entities_written (one ∷ records) =
      ap (λ (rest : List ℕ). entity schedule one ++ rest) (entities_written records)
      ∙ sym (flat_map-append written (messages schedule one) (flat_map (messages schedule) records))

  -- bytes that mean a feed, and after them those of records
  pub records_mean : (at : ℤ) (front : List ℕ) (entities : List Entity) (records : List Recorded) → AllByRecursion (IsServed schedule) records → MeansFeed front (full_dataset at entities)
      → MeansFeed (front ++ flat_map (λ one. one.bytes) (map (journey_entry schedule) records)) (full_dataset at (entities ++ flat_map (messages schedule) records))
  records_mean at front entities [] good h = rw (append-nil front, append-nil entities) h
  records_mean at front entities (one ∷ records) good h =
      rw (
        ← append_assoc front (entity schedule one) (flat_map (λ (one : JourneyEntry). one.bytes) (map (journey_entry schedule) records)),
        ← append_assoc entities (messages schedule one) (flat_map (messages schedule) records),
      )
      (records_mean at (front ++ entity schedule one) (entities ++ messages schedule one) records good.1 (good.0.means front (full_dataset at entities) h))

module _ (table : Table) where
  pub alerts_spelled : (all : List Situation) → flat_map (λ one. one.bytes) (filter (λ one. one.value.1) (map (situation_entry table) all)) ≡ flat_map written (flat_map (alerts table) all)
  alerts_spelled [] = refl
  alerts_spelled (one ∷ all) = by one.served (alerts_spelled all)
    where
      by : (b : Bool) → flat_map (λ (one : SituationEntry). one.bytes) (filter (λ (one : SituationEntry). one.value.1) (map (situation_entry table) all)) ≡ flat_map written (flat_map (alerts table) all)
          → flat_map (λ (each : SituationEntry). each.bytes)
          (cond b (situation_entry table one ∷ filter (λ (each : SituationEntry). each.value.1) (map (situation_entry table) all)) (filter (λ (each : SituationEntry). each.value.1) (map (situation_entry table) all)))
          ≡ flat_map written (cond b (alert_message table one ∷ []) [] ++ flat_map (alerts table) all)
      by true rest = ap (λ (bytes : List ℕ). written (alert_message table one) ++ bytes) rest
      by false rest = rest

  -- and after them those of situations
  pub alerts_mean : (at : ℤ) (front : List ℕ) (entities : List Entity) (all : List Situation) → AllByRecursion (IsAlertServed table) all → MeansFeed front (full_dataset at entities)
      → MeansFeed (front ++ flat_map (λ one. one.bytes) (filter (λ one. one.value.1) (map (situation_entry table) all))) (full_dataset at (entities ++ flat_map (alerts table) all))
  alerts_mean at front entities [] good h = rw (append-nil front, append-nil entities) h
  alerts_mean at front entities (one ∷ all) good h = by one.served (λ front entities. alerts_mean at front entities all good.1)
    where
      by : (b : Bool)
          → ((front : List ℕ) (entities : List Entity) → MeansFeed front (full_dataset at entities)
          → MeansFeed (front ++ flat_map (λ (one : SituationEntry). one.bytes) (filter (λ (one : SituationEntry). one.value.1) (map (situation_entry table) all))) (full_dataset at (entities ++ flat_map (alerts table) all)))
          → MeansFeed (front ++ flat_map (λ (each : SituationEntry). each.bytes)
          (cond b (situation_entry table one ∷ filter (λ (each : SituationEntry). each.value.1) (map (situation_entry table) all)) (filter (λ (each : SituationEntry). each.value.1) (map (situation_entry table) all))))
          (full_dataset at (entities ++ (cond b (alert_message table one ∷ []) [] ++ flat_map (alerts table) all)))
      by true rest =
          rw (
            ← append_assoc front (written (alert_message table one)) (flat_map (λ (each : SituationEntry). each.bytes) (filter (λ (each : SituationEntry). each.value.1) (map (situation_entry table) all))),
            ← append_assoc entities (alert_message table one ∷ []) (flat_map (alerts table) all),
          )
          (rest (front ++ written (alert_message table one)) (entities ++ alert_message table one ∷ []) (good.0.means front (full_dataset at entities) h))
      by false rest = rest front entities h

-- ---- what is kept can be served over the window of now

-- what can be served over one window can be served over each that has its day
servable_stays : (setting : Setting) (moments later : List ℤ) (one : Recorded) → IsServable (schedule_at setting moments) one.trip one.day one.reading
    → is_within (window_at setting later) one ≡ true → IsServable (schedule_at setting later) one.trip one.day one.reading
servable_stays setting moments later one h within = record {
  fits_schedule = record {
    trip_in = h.trip_in;
    run = h.run;
    on_day = sym (run_stays setting moments later one (within_servable (schedule_at setting moments) one h) within) ∙ h.on_day;
    fits = h.fits;
  };
  runs = h.runs;
}

abbrev ServableIn : Setting → List ℤ → Recorded → Type 0
ServableIn setting later one = is_within (window_at setting later) one ≡ true → IsServable (schedule_at setting later) one.trip one.day one.reading

admitted_servable : (setting : Setting) (later : List ℤ) (arrivals : List Arrival) → EachCanBeServed setting arrivals → AllByRecursion (ServableIn setting later) (admitted setting arrivals)
admitted_servable setting later [] judged = tt
admitted_servable setting later (one ∷ earlier) judged =
    all_admitted (ServableIn setting later) is_same_journey (is_within (window_at setting (one.moment ∷ moments_of earlier))) most_journeys (admitted setting earlier) (records_of one.gives)
    (admitted_servable setting later earlier judged.1)
    (all_weaker (λ (each : Recorded). IsServable (schedule_at setting (one.moment ∷ moments_of earlier)) each.trip each.day each.reading) (ServableIn setting later)
    (λ each servable within. servable_stays setting (one.moment ∷ moments_of earlier) later each servable within) (records_of one.gives) judged.0.servable)

present_servable : (setting : Setting) (arrivals : List Arrival) → EachCanBeServed setting arrivals
    → AllByRecursion (λ (one : Recorded). IsServable (schedule_at setting (moments_of arrivals)) one.trip one.day one.reading) (present setting arrivals)
present_servable setting arrivals judged =
    all_weaker (λ (one : Recorded). ServableIn setting (moments_of arrivals) one × (is_within (window_at setting (moments_of arrivals)) one ≡ true))
    (λ (one : Recorded). IsServable (schedule_at setting (moments_of arrivals)) one.trip one.day one.reading) (λ one both. both.0 both.1) (present setting arrivals)
    (filter_of (ServableIn setting (moments_of arrivals)) (is_within (window_at setting (moments_of arrivals))) (admitted setting arrivals) (admitted_servable setting (moments_of arrivals) arrivals judged))

-- ---- what a gateway serves

module _ (kept : Kept) (arrivals : List Arrival) (at : ℤ) (begins : MeansFeed (header at) (full_dataset at [])) (h : Stands kept arrivals) where
  abbrev journey_bytes : List JourneyEntry → List ℕ
  journey_bytes entries = flat_map (λ one. one.bytes) entries

  abbrev alert_bytes : List SituationEntry → List ℕ
  alert_bytes entries = flat_map (λ one. one.bytes) (filter (λ one. one.value.1) entries)

  served_is : served at kept
      ≡ header at ++ journey_bytes (map (journey_entry (schedule_at kept.setting (moments_of arrivals))) h.journeys_are.ordered)
      ++ alert_bytes (map (situation_entry (seen kept.setting.table)) h.situations_are.ordered)
  served_is =
      ap (λ (entries : List JourneyEntry). header at ++ journey_bytes entries ++ alert_bytes kept.situations) h.journeys_are.entries_are
      ∙ ap (λ (entries : List SituationEntry). header at ++ journey_bytes (map (journey_entry (schedule_at kept.setting (moments_of arrivals))) h.journeys_are.ordered) ++ alert_bytes entries) h.situations_are.entries_are

  is_feed : IsFeedOf at (entities_of (schedule_at kept.setting (moments_of arrivals)) h.journeys_are.ordered h.situations_are.ordered) (served at kept)
  is_feed = record {
    bytes =
        served_is
        ∙ ap (λ (bytes : List ℕ). header at ++ bytes ++ alert_bytes (map (situation_entry (seen kept.setting.table)) h.situations_are.ordered))
        (entities_written (schedule_at kept.setting (moments_of arrivals)) h.journeys_are.ordered)
        ∙ ap (λ (bytes : List ℕ). header at ++ flat_map written (flat_map (messages (schedule_at kept.setting (moments_of arrivals))) h.journeys_are.ordered) ++ bytes)
        (alerts_spelled (seen kept.setting.table) h.situations_are.ordered)
        ∙ append_assoc (header at) (flat_map written (flat_map (messages (schedule_at kept.setting (moments_of arrivals))) h.journeys_are.ordered))
        (flat_map written (flat_map (alerts (seen kept.setting.table)) h.situations_are.ordered))
        ∙ ap (λ (bytes : List ℕ). header at ++ bytes)
        (sym (flat_map-append written (flat_map (messages (schedule_at kept.setting (moments_of arrivals))) h.journeys_are.ordered) (flat_map (alerts (seen kept.setting.table)) h.situations_are.ordered)));
    means =
        subst (λ (bytes : List ℕ). MeansFeed bytes (full_dataset at (entities_of (schedule_at kept.setting (moments_of arrivals)) h.journeys_are.ordered h.situations_are.ordered))) (sym served_is)
        (alerts_mean (seen kept.setting.table) at (header at ++ journey_bytes (map (journey_entry (schedule_at kept.setting (moments_of arrivals))) h.journeys_are.ordered))
        (flat_map (messages (schedule_at kept.setting (moments_of arrivals))) h.journeys_are.ordered) h.situations_are.ordered h.situations_are.all_good
        (records_mean (schedule_at kept.setting (moments_of arrivals)) at (header at) [] h.journeys_are.ordered h.journeys_are.all_good begins));
  }

  pub stands_rebuilt : IsRebuiltOf kept.setting at arrivals (served at kept)
  stands_rebuilt = record {
    ordered = h.journeys_are.ordered;
    in_order = h.journeys_are.are_latest.in_order;
    latest = λ trip day. h.journeys_are.are_latest.latest (day, trip);
    numbered = h.situations_are.ordered;
    by_number = h.situations_are.are_latest.in_order;
    newest = λ number. h.situations_are.are_latest.latest number;
    is_feed = is_feed;
  }

  -- and gives each journey of the window just its latest reading
  pub stands_gives : IsSound (seen kept.setting.table) → GivesEach at (schedule_at kept.setting (moments_of arrivals)) (present kept.setting arrivals) (served at kept)
  unfolding stands_rebuilt
  stands_gives sound =
      gives_each at (schedule_at kept.setting (moments_of arrivals)) (present kept.setting arrivals) (admitted_situations arrivals) (served at kept) stands_rebuilt sound begins h.situations_are.all_good
      (all_weaker (IsServed (schedule_at kept.setting (moments_of arrivals))) (SaysItself (schedule_at kept.setting (moments_of arrivals))) (λ one its. its.says) h.journeys_are.ordered h.journeys_are.all_good)
      (all_latest key_cmp key_of has_key was_later journeys_keyed comes_before journeys_by_key (journey_entry (schedule_at kept.setting (moments_of arrivals))) (IsServed (schedule_at kept.setting (moments_of arrivals)))
      (λ e. e.key) (λ a. refl) (λ (one : Recorded). IsServable (schedule_at kept.setting (moments_of arrivals)) one.trip one.day one.reading) (present kept.setting arrivals)
      h.journeys_are.ordered h.journeys_are.are_latest (present_servable kept.setting arrivals h.judged))

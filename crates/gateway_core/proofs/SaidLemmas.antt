-- Of the feed of the latest records nothing is set aside, and what is passed over are its alerts.
use Rattle.std.proofs.Common.{◌≡◌, ◌∙◌, ◌++◌, ◌∷◌, ◌+◌, ℕ, List, [], Bool, true, false, map, Result, Ok, Option, Some, None, refl, sym, ap, ap₂, subst}
use Rattle.std.specs.Prelude.{is_none, if◌then◌else◌}
use Rattle.std.specs.List.{AllByRecursion, flat_map}
use Rattle.alert_map.specs.Alerts.{alert_message}
use Rattle.gw_base.specs.declared.messages.Entity.{Entity}
use Rattle.gw_base.specs.declared.messages.Feed.{Feed}
use Rattle.journey_model.specs.FeedReadings.{aside_all, entity_said, fault_said}
use Rattle.journey_model.specs.Ids.{id_of}
use Rattle.journey_model.specs.Records.{Recorded}
use Rattle.journey_model.specs.Reports.{aside_from}
use Rattle.journey_model.specs.Runs.{Run}
use Rattle.journey_model.specs.Schedules.{Schedule, run_on}
use Rattle.journey_model.specs.declared.fault.Fault.{Fault}
use Rattle.journey_model.specs.declared.readings.DatedReading.{DatedReading}
use Rattle.journey_model.specs.declared.situation.Situation.{Situation}
use Rattle.latest_store.specs.Entities.{is_silent, message, messages, messages_on}
use Rattle.latest_store.specs.Reads.{SaysItself, dated_reading}
use Rattle.gateway_core.specs.Alerts.{alerts}
use Rattle.gateway_core.specs.Feeds.{entities_of}
use Rattle.gateway_core.specs.Gives.{is_alert}

abbrev Said : Type 0
Said = Option (Result DatedReading Fault)

-- what an entity says isn't set aside
abbrev IsFine : Said → Type 0
IsFine said = fault_said said ≡ None

none_aside : (number : ℕ) (said : List Said) → AllByRecursion IsFine said → aside_from number (map fault_said said) ≡ []
none_aside number [] fine = refl
none_aside number (one ∷ others) fine = rw fine.0 (none_aside (number + 1) others fine.1)

-- ---- two lists, one after the other

map_append : {X Y : Type 0} (f : X → Y) (xs ys : List X) → map f (xs ++ ys) ≡ map f xs ++ map f ys
map_append f [] ys = refl
map_append f (x ∷ xs) ys = ap (λ rest. f x ∷ rest) (map_append f xs ys)

fine_append : (xs ys : List Said) → AllByRecursion IsFine xs → AllByRecursion IsFine ys → AllByRecursion IsFine (xs ++ ys)
fine_append [] ys before after = after
fine_append (x ∷ xs) ys before after = (before.0, fine_append xs ys before.1 after)

-- ---- journeys: each is given, and none is an alert's

-- a reading, as an entity says it
abbrev as_said : DatedReading → Said
as_said reading = Some (Ok reading)

given_fine : (reading : DatedReading) (entities : List Entity) → AllByRecursion IsFine (map (λ (entity : Entity). Some (Ok reading)) entities)
given_fine reading [] = tt
given_fine reading (entity ∷ entities) = (refl, given_fine reading entities)

-- the entity of a record, where it has one, is given, and isn't an alert's
one_given : (reading : DatedReading) (id : List ℕ) (run : Run) (one : Recorded) (silent : Bool)
    → map is_none (map (λ (entity : Entity). as_said reading) (if silent then [] else message id run one ∷ []))
    ≡ map is_alert (if silent then [] else message id run one ∷ [])
one_given reading id run one true = refl
one_given reading id run one false = refl

own_given : (schedule : Schedule) (reading : DatedReading) (one : Recorded)
    → map is_none (map (λ (entity : Entity). as_said reading) (messages schedule one)) ≡ map is_alert (messages schedule one)
own_given schedule reading one = by (run_on schedule one.trip one.day)
  where
    by : (run : Option Run)
        → map is_none (map (λ (entity : Entity). as_said reading) (messages_on schedule one run)) ≡ map is_alert (messages_on schedule one run)
    by None = refl
    by (Some run) = one_given reading (id_of schedule.table.trips one.trip) run one (is_silent one.reading)

journeys_fine : (schedule : Schedule) (feed : Feed) (records : List Recorded) → AllByRecursion (SaysItself schedule) records
    → AllByRecursion IsFine (map (entity_said schedule feed) (flat_map (messages schedule) records))
journeys_fine schedule feed [] says = tt
journeys_fine schedule feed (one ∷ others) says =
    let own = messages schedule one in
    let rest = flat_map (messages schedule) others in
    subst (AllByRecursion IsFine) (sym (map_append (entity_said schedule feed) own rest))
    (fine_append (map (entity_said schedule feed) own) (map (entity_said schedule feed) rest)
    (subst (AllByRecursion IsFine) (sym (says.0 feed)) (given_fine (dated_reading one) own))
    (journeys_fine schedule feed others says.1))

journeys_pass : (schedule : Schedule) (feed : Feed) (records : List Recorded) → AllByRecursion (SaysItself schedule) records
    → map is_none (map (entity_said schedule feed) (flat_map (messages schedule) records)) ≡ map is_alert (flat_map (messages schedule) records)
journeys_pass schedule feed [] says = refl
journeys_pass schedule feed (one ∷ others) says =
    let own = messages schedule one in
    let rest = flat_map (messages schedule) others in
    ap (map is_none) (map_append (entity_said schedule feed) own rest)
    ∙ map_append is_none (map (entity_said schedule feed) own) (map (entity_said schedule feed) rest)
    ∙ ap₂ ◌++◌ (ap (map is_none) (says.0 feed) ∙ own_given schedule (dated_reading one) one) (journeys_pass schedule feed others says.1)
    ∙ sym (map_append is_alert own rest)

-- ---- alerts: each is passed over

alerts_fine : (schedule : Schedule) (feed : Feed) (situations : List Situation)
    → AllByRecursion IsFine (map (entity_said schedule feed) (flat_map (alerts schedule.table) situations))
alerts_fine schedule feed [] = tt
alerts_fine schedule feed (one ∷ others) = by one.served (alerts_fine schedule feed others)
  where
    by : (served : Bool) → AllByRecursion IsFine (map (entity_said schedule feed) (flat_map (alerts schedule.table) others))
        → AllByRecursion IsFine (map (entity_said schedule feed) ((if served then alert_message schedule.table one ∷ [] else []) ++ flat_map (alerts schedule.table) others))
    by true rest = (refl, rest)
    by false rest = rest

alerts_pass : (schedule : Schedule) (feed : Feed) (situations : List Situation)
    → map is_none (map (entity_said schedule feed) (flat_map (alerts schedule.table) situations)) ≡ map is_alert (flat_map (alerts schedule.table) situations)
alerts_pass schedule feed [] = refl
alerts_pass schedule feed (one ∷ others) = by one.served (alerts_pass schedule feed others)
  where
    by : (served : Bool) → map is_none (map (entity_said schedule feed) (flat_map (alerts schedule.table) others)) ≡ map is_alert (flat_map (alerts schedule.table) others)
        → map is_none (map (entity_said schedule feed) ((if served then alert_message schedule.table one ∷ [] else []) ++ flat_map (alerts schedule.table) others))
        ≡ map is_alert ((if served then alert_message schedule.table one ∷ [] else []) ++ flat_map (alerts schedule.table) others)
    by true rest = ap (λ (others : List Bool). true ∷ others) rest
    by false rest = rest

-- ---- the feed

pub nothing_aside : (schedule : Schedule) (feed : Feed) (records : List Recorded) (situations : List Situation) → AllByRecursion (SaysItself schedule) records
    → aside_all (map (entity_said schedule feed) (entities_of schedule records situations)) ≡ []
nothing_aside schedule feed records situations says =
    let journeys = flat_map (messages schedule) records in
    let after = flat_map (alerts schedule.table) situations in
    none_aside 0 (map (entity_said schedule feed) (journeys ++ after))
    (subst (AllByRecursion IsFine) (sym (map_append (entity_said schedule feed) journeys after))
    (fine_append (map (entity_said schedule feed) journeys) (map (entity_said schedule feed) after)
    (journeys_fine schedule feed records says) (alerts_fine schedule feed situations)))

pub alerts_passed : (schedule : Schedule) (feed : Feed) (records : List Recorded) (situations : List Situation) → AllByRecursion (SaysItself schedule) records
    → map is_none (map (entity_said schedule feed) (entities_of schedule records situations)) ≡ map is_alert (entities_of schedule records situations)
alerts_passed schedule feed records situations says =
    let journeys = flat_map (messages schedule) records in
    let after = flat_map (alerts schedule.table) situations in
    ap (map is_none) (map_append (entity_said schedule feed) journeys after)
    ∙ map_append is_none (map (entity_said schedule feed) journeys) (map (entity_said schedule feed) after)
    ∙ ap₂ ◌++◌ (journeys_pass schedule feed records says) (alerts_pass schedule feed situations)
    ∙ sym (map_append is_alert journeys after)

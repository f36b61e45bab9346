-- The steps of a delivery's verdicts over what is kept, of journeys and of situations.
use Rattle.std.proofs.Common.{◌≡◌, ◌∙◌, ◌++◌, ◌∷◌, [], Bool, true, false, List, Option, Some, None, Result, Ok, Err, refl}
use Rattle.std.specs.Prelude.{is_some, nat_lt}
use Rattle.std.specs.Cmp.Lexicographic.{slice_cmp}
use Rattle.std.specs.List.{AllByRecursion}
use Rattle.std.specs.Ordering.{nat_cmp}
use Rattle.service_day.specs.Windows.{start_in}
use Rattle.journey_model.specs.Records.{Recorded}
use Rattle.journey_model.specs.Schedules.{Schedule}
use Rattle.journey_model.specs.declared.fault.Fault.{Fault}
use Rattle.journey_model.specs.declared.fault.Fault.TheVariants.{Full}
use Rattle.journey_model.specs.declared.situation.Situation.{Situation}
use Rattle.timetable.specs.Table.{Table}
use Rattle.latest_store.specs.Latest.{has_number, is_later, is_newer, was_later}
use Rattle.gateway_core.specs.Arrivals.{always, is_same_journey, is_same_number, is_within, journey_has_room, situation_has_room, most_journeys, most_numbers}
use Rattle.gateway_core.specs.Deliveries.{taken}
use Rattle.gateway_core.specs.Feeds.{comes_before, has_lesser_number}
use Rattle.gateway_core.specs.Standing.{IsAlertServed, IsServed, JourneyEntry, SituationEntry, journey_entry, situation_entry}
use Rattle.gateway_core.specs.Steps.{JourneysAfter, SituationsAfter, journey_counts, journey_fits, journey_kept, situation_counts, situation_fits, situation_kept, with_journey, with_situation}
use Rattle.gateway_core.specs.Taking.{journeys_with_room, situations_with_room}
use Rattle.gateway_core.specs.Winners.{has_key, key_cmp, key_of}
use Rattle.gateway_core.proofs.KeepsLemmas.{after_aside, after_full, after_lost, after_room, after_won, counts_over, roomy_full, roomy_taken}
use Rattle.gateway_core.proofs.StandingLemmas.{journeys_by_key, numbers_by_key}
use Rattle.gateway_core.proofs.WinnerLemmas.{journeys, numbers}

-- ---- journeys

module _ (schedule : Schedule) (before : List Recorded) (so_far : List (Result Recorded Fault)) (entries : List JourneyEntry) (h : JourneysAfter schedule before so_far entries) where
  within : Recorded → Bool
  within = is_within schedule.window

  pub journey_aside : (fault : Fault) → JourneysAfter schedule before (so_far ++ Err fault ∷ []) entries
  journey_aside fault =
      after_aside key_cmp key_of has_key was_later journeys comes_before journeys_by_key (journey_entry schedule) (IsServed schedule) (λ e. e.key) (λ a. refl) (is_within schedule.window)
      (λ key. is_some (start_in schedule.window key.0)) (λ a. refl) most_journeys before so_far fault entries h

  pub journey_room : (one : Recorded) → is_within schedule.window one ≡ true → AllByRecursion (λ a. is_within schedule.window a ≡ true) (taken so_far)
      → journey_has_room schedule.window (before ++ taken (journeys_with_room schedule.window before so_far)) one ≡ journey_fits entries one
  journey_room one its each =
      after_room key_cmp key_of has_key was_later journeys comes_before journeys_by_key (journey_entry schedule) (IsServed schedule) (λ e. e.key) (λ a. refl) (is_within schedule.window)
      (λ key. is_some (start_in schedule.window key.0)) (λ a. refl) most_journeys before so_far one entries its each h

  module _ (one : Recorded) (its : is_within schedule.window one ≡ true) (each : AllByRecursion (λ a. is_within schedule.window a ≡ true) (taken so_far)) where
    -- one that has no room
    pub journey_full : journey_fits entries one ≡ false → JourneysAfter schedule before (so_far ++ Ok one ∷ []) entries
    journey_full full =
        after_full key_cmp key_of has_key was_later journeys comes_before journeys_by_key (journey_entry schedule) (IsServed schedule) (λ e. e.key) (λ a. refl) (is_within schedule.window)
        (λ key. is_some (start_in schedule.window key.0)) (λ a. refl) most_journeys before so_far one entries (journey_room one its each ∙ full) h

    -- one that has room and counts, or doesn't count
    pub journey_won : IsServed schedule one → journey_fits entries one ≡ true → journey_counts (journey_kept entries one) one ≡ true
        → JourneysAfter schedule before (so_far ++ Ok one ∷ []) (with_journey entries (journey_entry schedule one))
    journey_won good fits won =
        after_won key_cmp key_of has_key was_later journeys comes_before journeys_by_key (journey_entry schedule) (IsServed schedule) (λ e. e.key) (λ a. refl) (is_within schedule.window)
        (λ key. is_some (start_in schedule.window key.0)) (λ a. refl) most_journeys before (λ old one. is_later old.value one.at) (λ old one. refl) so_far one entries (journey_room one its each ∙ fits)
        (same (journey_kept entries one) ∙ won) good h
      where
        same : (found : Option JourneyEntry)
            → counts_over key_cmp key_of has_key was_later journeys comes_before journeys_by_key (journey_entry schedule) (IsServed schedule) (λ e. e.key) (λ a. refl) (λ old one. is_later old.value one.at) (λ old one. refl) found one
            ≡ journey_counts found one
        same None = refl
        same (Some old) = refl

    pub journey_lost : journey_fits entries one ≡ true → journey_counts (journey_kept entries one) one ≡ false → JourneysAfter schedule before (so_far ++ Ok one ∷ []) entries
    journey_lost fits lost =
        after_lost key_cmp key_of has_key was_later journeys comes_before journeys_by_key (journey_entry schedule) (IsServed schedule) (λ e. e.key) (λ a. refl) (is_within schedule.window)
        (λ key. is_some (start_in schedule.window key.0)) (λ a. refl) most_journeys before (λ old one. is_later old.value one.at) (λ old one. refl) so_far one entries (journey_room one its each ∙ fits)
        (same (journey_kept entries one) ∙ lost) h
      where
        same : (found : Option JourneyEntry)
            → counts_over key_cmp key_of has_key was_later journeys comes_before journeys_by_key (journey_entry schedule) (IsServed schedule) (λ e. e.key) (λ a. refl) (λ old one. is_later old.value one.at) (λ old one. refl) found one
            ≡ journey_counts found one
        same None = refl
        same (Some old) = refl

    -- and the verdicts with them
    pub journey_verdict_taken : journey_fits entries one ≡ true
        → journeys_with_room schedule.window before (so_far ++ Ok one ∷ []) ≡ journeys_with_room schedule.window before so_far ++ Ok one ∷ []
    journey_verdict_taken fits = roomy_taken is_same_journey (is_within schedule.window) most_journeys before so_far one (journey_room one its each ∙ fits)

    pub journey_verdict_full : journey_fits entries one ≡ false
        → journeys_with_room schedule.window before (so_far ++ Ok one ∷ []) ≡ journeys_with_room schedule.window before so_far ++ Err Full ∷ []
    journey_verdict_full full = roomy_full is_same_journey (is_within schedule.window) most_journeys before so_far one (journey_room one its each ∙ full)

-- ---- situations

module _ (table : Table) (before : List Situation) (so_far : List (Result Situation Fault)) (entries : List SituationEntry) (h : SituationsAfter table before so_far entries) where
  each_always : (all : List Situation) → AllByRecursion (λ (a : Situation). always a ≡ true) all
  each_always [] = tt
  each_always (one ∷ others) = (refl, each_always others)

  pub situation_aside : (fault : Fault) → SituationsAfter table before (so_far ++ Err fault ∷ []) entries
  situation_aside fault =
      after_aside (slice_cmp nat_cmp) (λ (one : Situation). one.number) has_number is_newer numbers has_lesser_number numbers_by_key (situation_entry table) (IsAlertServed table) (λ e. e.key) (λ a. refl) always
      (λ number. true) (λ a. refl) most_numbers before so_far fault entries h

  pub situation_room : (one : Situation) → situation_has_room (before ++ taken (situations_with_room before so_far)) one ≡ situation_fits entries one
  situation_room one =
      after_room (slice_cmp nat_cmp) (λ (one : Situation). one.number) has_number is_newer numbers has_lesser_number numbers_by_key (situation_entry table) (IsAlertServed table) (λ e. e.key) (λ a. refl) always
      (λ number. true) (λ a. refl) most_numbers before so_far one entries refl (each_always (taken so_far)) h

  module _ (one : Situation) where
    same_counts : (found : Option SituationEntry)
        → counts_over (slice_cmp nat_cmp) (λ (one : Situation). one.number) has_number is_newer numbers has_lesser_number numbers_by_key (situation_entry table) (IsAlertServed table) (λ e. e.key) (λ a. refl) (λ old one. nat_lt one.version old.value.0) (λ old one. refl) found one
        ≡ situation_counts found one
    same_counts None = refl
    same_counts (Some old) = refl

    pub situation_full : situation_fits entries one ≡ false → SituationsAfter table before (so_far ++ Ok one ∷ []) entries
    situation_full full =
        after_full (slice_cmp nat_cmp) (λ (one : Situation). one.number) has_number is_newer numbers has_lesser_number numbers_by_key (situation_entry table) (IsAlertServed table) (λ e. e.key) (λ a. refl) always
        (λ number. true) (λ a. refl) most_numbers before so_far one entries (situation_room one ∙ full) h

    pub situation_won : IsAlertServed table one → situation_fits entries one ≡ true → situation_counts (situation_kept entries one) one ≡ true
        → SituationsAfter table before (so_far ++ Ok one ∷ []) (with_situation entries (situation_entry table one))
    situation_won good fits won =
        after_won (slice_cmp nat_cmp) (λ (one : Situation). one.number) has_number is_newer numbers has_lesser_number numbers_by_key (situation_entry table) (IsAlertServed table) (λ e. e.key) (λ a. refl) always
        (λ number. true) (λ a. refl) most_numbers before (λ old one. nat_lt one.version old.value.0) (λ old one. refl) so_far one entries (situation_room one ∙ fits)
        (same_counts (situation_kept entries one) ∙ won) good h

    pub situation_lost : situation_fits entries one ≡ true → situation_counts (situation_kept entries one) one ≡ false → SituationsAfter table before (so_far ++ Ok one ∷ []) entries
    situation_lost fits lost =
        after_lost (slice_cmp nat_cmp) (λ (one : Situation). one.number) has_number is_newer numbers has_lesser_number numbers_by_key (situation_entry table) (IsAlertServed table) (λ e. e.key) (λ a. refl) always
        (λ number. true) (λ a. refl) most_numbers before (λ old one. nat_lt one.version old.value.0) (λ old one. refl) so_far one entries (situation_room one ∙ fits)
        (same_counts (situation_kept entries one) ∙ lost) h

    pub situation_verdict_taken : situation_fits entries one ≡ true → situations_with_room before (so_far ++ Ok one ∷ []) ≡ situations_with_room before so_far ++ Ok one ∷ []
    situation_verdict_taken fits = roomy_taken is_same_number always most_numbers before so_far one (situation_room one ∙ fits)

    pub situation_verdict_full : situation_fits entries one ≡ false → situations_with_room before (so_far ++ Ok one ∷ []) ≡ situations_with_room before so_far ++ Err Full ∷ []
    situation_verdict_full full = roomy_full is_same_number always most_numbers before so_far one (situation_room one ∙ full)

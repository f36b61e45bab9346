-- Of the same records and situations, in any two orders of arrival, the same is rebuilt.
use Rattle.std.proofs.Common.{◌≡◌, ◌∙◌, ◌++◌, ◌∷◌, ◌≤◌, [], ℕ, ℤ, Bool, true, false, List, ap, sym, refl, subst, arith}
use Rattle.std.proofs.lemmas.Bool.{or_left}
use Rattle.std.proofs.lemmas.Int.{ints}
use Rattle.std.proofs.lemmas.List.Folds.{list_any-append}
use Rattle.std.proofs.lemmas.List.Sorted.{Contains-permutation, IsPermutation-sym, list_any-IsPermutation}
use Rattle.std.specs.Prelude.{filter, find, length, nat_lt}
use Rattle.std.specs.Cmp.Lexicographic.{slice_cmp}
use Rattle.std.specs.List.{list_any}
use Rattle.std.specs.Ordering.{nat_cmp}
use Rattle.service_day.specs.Windows.{DayStarts}
use Rattle.journey_model.specs.Records.{Recorded}
use Rattle.journey_model.specs.declared.situation.Situation.{Situation}
use Rattle.latest_store.specs.Latest.{HasLatest, HasNewest, has_number, is_later, is_newer, is_of, was_later}
use Rattle.gateway_core.specs.Arrivals.{Arrival, admit, admitted, admitted_situations, always, firsts, is_same_journey, is_same_number, is_within, moments_of, present, records_of, schedule_at, situations_of, window_at, most_journeys, most_numbers}
use Rattle.gateway_core.specs.Feeds.{IsFeedOf, comes_before, entities_of, has_lesser_number}
use Rattle.gateway_core.specs.Recording.{AreDecided, ArriveAlike, IsRebuiltOf, every_record, every_situation}
use Rattle.gateway_core.specs.Winners.{has_key, key_cmp, key_of}
use Rattle.gateway_core.specs.declared.setting.Setting.{Setting}
use Rattle.gateway_core.proofs.LatestLemmas.{key_is}
use Rattle.gateway_core.proofs.OneLemmas.{one_rebuilt}
use Rattle.gateway_core.proofs.RecordingLemmas.{admit_each, any_turned, back_turned, in_filter, latest_turned}
use Rattle.gateway_core.proofs.StandingLemmas.{journeys_by_key, numbers_by_key}
use Rattle.gateway_core.proofs.WinnerLemmas.{journeys, numbers}
use Rattle.gateway_core.specs.Deliveries.{schedule_over}

-- ---- all are admitted

in_first : {X : Type 0} (t : X → Bool) (xs ys : List X) → list_any t xs ≡ true → list_any t (xs ++ ys) ≡ true
in_first t xs ys e = list_any-append t xs ys ∙ or_left (list_any t xs) (list_any t ys) e

module _ (setting : Setting) (total : List Recorded) (few : length (firsts is_same_journey total) ≤ most_journeys) where
  pub all_records_admitted : (arrivals : List Arrival) → ((key : ℤ × ℕ) → list_any (has_key key) (every_record arrivals) ≡ true → list_any (has_key key) total ≡ true)
      → admitted setting arrivals ≡ every_record arrivals
  all_records_admitted [] among = refl
  all_records_admitted (one ∷ earlier) among =
      ap (λ (before : List Recorded). admit is_same_journey (is_within (window_at setting (one.moment ∷ moments_of earlier))) most_journeys before (records_of one.gives))
      (all_records_admitted earlier (λ key e. among key (in_first (has_key key) (every_record earlier) (records_of one.gives) e)))
      ∙ admit_each key_cmp key_of has_key was_later journeys comes_before journeys_by_key (is_within (window_at setting (one.moment ∷ moments_of earlier))) most_journeys total few
      (every_record earlier) (records_of one.gives) among

module _ (total : List Situation) (few : length (firsts is_same_number total) ≤ most_numbers) where
  pub all_situations_admitted : (arrivals : List Arrival) → ((number : List ℕ) → list_any (has_number number) (every_situation arrivals) ≡ true → list_any (has_number number) total ≡ true)
      → admitted_situations arrivals ≡ every_situation arrivals
  all_situations_admitted [] among = refl
  all_situations_admitted (one ∷ earlier) among =
      ap (λ (before : List Situation). admit is_same_number always most_numbers before (situations_of one.gives))
      (all_situations_admitted earlier (λ number e. among number (in_first (has_number number) (every_situation earlier) (situations_of one.gives) e)))
      ∙ admit_each (slice_cmp nat_cmp) (λ (one : Situation). one.number) has_number is_newer numbers has_lesser_number numbers_by_key always most_numbers total few
      (every_situation earlier) (situations_of one.gives) among

-- ---- the same counts

never_both : (a b : Recorded) → was_later a b ≡ true → was_later b a ≡ false
never_both a b h = at a.at b.at h
  where
    at : (a b : ℤ × ℕ) → is_later a b ≡ true → is_later b a ≡ false
    at a b h = grind (arith, ints)

same_moment : (a b : ℤ × ℕ) → is_later a b ≡ false → is_later b a ≡ false → a ≡ b
same_moment a b h k = λ i. (first a b h k i, second a b h k i)
  where
    first : (a b : ℤ × ℕ) → is_later a b ≡ false → is_later b a ≡ false → a.0 ≡ b.0
    first a b h k = grind (arith, ints)

    second : (a b : ℤ × ℕ) → is_later a b ≡ false → is_later b a ≡ false → a.1 ≡ b.1
    second a b h k = grind (arith, ints)

newer_once : (a b : Situation) → is_newer a b ≡ true → is_newer b a ≡ false
newer_once a b h = at a.version b.version h
  where
    at : (a b : ℕ) → nat_lt b a ≡ true → nat_lt a b ≡ false
    at a b h = grind arith

same_version : (a b : ℕ) → nat_lt b a ≡ false → nat_lt a b ≡ false → a ≡ b
same_version a b h k = grind arith

-- two of one key
one_journey : (trip : ℕ) (day : ℤ) (a b : Recorded) → is_of trip day a ≡ true → is_of trip day b ≡ true → is_same_journey a b ≡ true
one_journey trip day a b of_a of_b =
    ap (λ (key : ℤ × ℕ). has_key key b) (sym (key_is key_cmp key_of has_key was_later journeys comes_before journeys_by_key (day, trip) a of_a)) ∙ of_b

one_number : (number : List ℕ) (a b : Situation) → has_number number a ≡ true → has_number number b ≡ true → is_same_number a b ≡ true
one_number number a b of_a of_b =
    ap (λ (key : List ℕ). has_number key b) (sym (key_is (slice_cmp nat_cmp) (λ (one : Situation). one.number) has_number is_newer numbers has_lesser_number numbers_by_key number a of_a)) ∙ of_b

pub rebuilt_alike : (setting : Setting) (arrivals others : List Arrival) (at : ℤ) (feed : List ℕ) → ArriveAlike setting arrivals others → AreDecided arrivals
    → IsRebuiltOf setting at arrivals feed → IsRebuiltOf setting at others feed
rebuilt_alike setting arrivals others at feed same decided h = record {
  ordered = h.ordered;
  in_order = h.in_order;
  latest = λ trip day.
      subst (λ (all : List Recorded). HasLatest all trip day (find (is_of trip day) h.ordered)) (sym of_others)
      (latest_turned (is_of trip day) was_later never_both (filter within (every_record arrivals)) (filter within (every_record others))
      (any_turned within (every_record arrivals) (every_record others) same.records) (back_turned within (every_record arrivals) (every_record others) same.records)
      (λ a b has_a has_b of_a of_b not_a not_b.
      decided.by_moment a b (in_filter within (every_record arrivals) a has_a).0 (in_filter within (every_record arrivals) b has_b).0
      (one_journey trip day a b of_a of_b) (same_moment a.at b.at not_a not_b))
      (find (is_of trip day) h.ordered)
      (subst (λ (all : List Recorded). HasLatest all trip day (find (is_of trip day) h.ordered)) of_these (h.latest trip day)));
  numbered = h.numbered;
  by_number = h.by_number;
  newest = λ number.
      subst (λ (all : List Situation). HasNewest all number (find (has_number number) h.numbered)) (sym numbers_others)
      (latest_turned (has_number number) is_newer newer_once (every_situation arrivals) (every_situation others)
      (λ t. list_any-IsPermutation t (every_situation arrivals) (every_situation others) same.situations)
      (λ x c. Contains-permutation (every_situation others) (every_situation arrivals) x (IsPermutation-sym (every_situation arrivals) (every_situation others) same.situations) c)
      (λ a b has_a has_b of_a of_b not_a not_b.
      decided.by_version a b has_a has_b (one_number number a b of_a of_b) (same_version a.version b.version not_a not_b))
      (find (has_number number) h.numbered)
      (subst (λ (all : List Situation). HasNewest all number (find (has_number number) h.numbered)) numbers_these (h.newest number)));
  is_feed =
      subst (λ (window : DayStarts). IsFeedOf at (entities_of (schedule_over setting window) h.ordered h.numbered) feed) same.windows h.is_feed;
}
  where
    within : Recorded → Bool
    within = is_within (window_at setting (moments_of arrivals))

    of_these : present setting arrivals ≡ filter (is_within (window_at setting (moments_of arrivals))) (every_record arrivals)
    of_these =
        ap (filter (is_within (window_at setting (moments_of arrivals)))) (all_records_admitted setting (every_record arrivals) decided.few_journeys arrivals (λ key e. e))

    of_others : present setting others ≡ filter (is_within (window_at setting (moments_of arrivals))) (every_record others)
    of_others =
        ap (λ (window : DayStarts). filter (is_within window) (admitted setting others)) (sym same.windows)
        ∙ ap (filter (is_within (window_at setting (moments_of arrivals)))) (all_records_admitted setting (every_record arrivals) decided.few_journeys others
        (λ key e. list_any-IsPermutation (has_key key) (every_record arrivals) (every_record others) same.records ∙ e))

    numbers_these : admitted_situations arrivals ≡ every_situation arrivals
    numbers_these = all_situations_admitted (every_situation arrivals) decided.few_numbers arrivals (λ number e. e)

    numbers_others : admitted_situations others ≡ every_situation others
    numbers_others =
        all_situations_admitted (every_situation arrivals) decided.few_numbers others
        (λ number e. list_any-IsPermutation (has_number number) (every_situation arrivals) (every_situation others) same.situations ∙ e)

pub feeds_alike : (setting : Setting) (arrivals others : List Arrival) (at : ℤ) (feed other : List ℕ) → ArriveAlike setting arrivals others → AreDecided arrivals
    → IsRebuiltOf setting at arrivals feed → IsRebuiltOf setting at others other → feed ≡ other
feeds_alike setting arrivals others at feed other same decided of_these of_others =
    one_rebuilt at (schedule_at setting (moments_of others)) (present setting others) (admitted_situations others) feed other
    (rebuilt_alike setting arrivals others at feed same decided of_these) of_others

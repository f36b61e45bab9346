-- What a gateway stands for after one arrival more.
use Rattle.std.proofs.Common.{◌≡◌, ◌∙◌, ◌++◌, ◌∷◌, ◌||◌, ◌&&◌, ◌<◌, [], ℕ, ℤ, Bool, true, false, cond, not, List, map, ap, sym, refl, subst, Result, arith, take, drop}
use Rattle.std.proofs.lemmas.Int.{ints}
use Rattle.std.specs.Prelude.{◌≤ℤ◌, filter, int_lt, is_some, length, nat_lt, slice_index_or}
use Rattle.std.specs.Cmp.Lexicographic.{slice_cmp}
use Rattle.std.specs.List.{AllByRecursion}
use Rattle.std.specs.Ordering.{int_eq, is_lt, nat_cmp}
use Rattle.service_day.specs.Windows.{DayStarts, start_in}
use Rattle.journey_model.specs.Records.{Recorded}
use Rattle.journey_model.specs.Schedules.{Schedule}
use Rattle.journey_model.specs.declared.fault.Fault.{Fault}
use Rattle.journey_model.specs.declared.report.Report.{Report}
use Rattle.journey_model.specs.declared.situation.Situation.{Situation}
use Rattle.timetable.specs.Seen.{seen}
use Rattle.gw_base.specs.declared.messages.Feed as feeds
use Rattle.reverse_calls.specs.Siri.{IsSiri}
use Rattle.latest_store.specs.Latest.{has_number, is_newer, was_later}
use Rattle.gateway_core.specs.Arrivals.{Arrival, CanBeServed, EachCanBeServed, admitted, admitted_situations, always, feed, first_day, is_same_number, is_within, journeys, moments_of, present, schedule_at, situations, window_at, most_numbers}
use Rattle.gateway_core.specs.Deliveries.{taken}
use Rattle.gateway_core.specs.Feeds.{comes_before, has_lesser_number}
use Rattle.gateway_core.specs.Keeping.{AreLatest}
use Rattle.gateway_core.specs.Standing.{IsAlertServed, IsLastSiri, IsServed, JourneyEntry, Kept, KeepsJourneys, KeepsSituations, SituationEntry, Stands, journey_entry, situation_entry}
use Rattle.gateway_core.specs.Taking.{journeys_with_room, situations_with_room}
use Rattle.gateway_core.specs.Winners.{has_key, key_cmp, key_of}
use Rattle.gateway_core.specs.declared.setting.Setting.{Setting}
use Rattle.gateway_core.proofs.HeldLemmas.{all_weaker}
use Rattle.gateway_core.proofs.KeepsLemmas.{all_latest, keeps_none}
use Rattle.gateway_core.proofs.LatestLemmas.{latest_filter}
use Rattle.gateway_core.proofs.RollLemmas.{entity_stays, filter_all, filter_alike, first_rises, has_gone, left_are, present_journeys, present_rolls, within_at}
use Rattle.gateway_core.proofs.RecordingLemmas.{filter_of}
use Rattle.gateway_core.proofs.RoomLemmas.{admits}
use Rattle.gateway_core.proofs.ServedLemmas.{run_stays, served_stays}
use Rattle.gateway_core.proofs.WindowLemmas.{among}
use Rattle.gateway_core.proofs.WinnerLemmas.{journeys as journeys_keyed, numbers}

-- ---- the order of what is kept is that of its keys

alike : (b c : Bool) → (b ≡ true → c ≡ true) → (c ≡ true → b ≡ true) → b ≡ c
alike true c f g = sym (f refl)
alike false true f g = g refl
alike false false f g = refl

pub journeys_by_key : (a b : Recorded) → comes_before a b ≡ is_lt (key_cmp (key_of a) (key_of b))
journeys_by_key a b = alike (comes_before a b) (is_lt (key_cmp (key_of a) (key_of b))) (there (a.day, a.trip) (b.day, b.trip)) (back (a.day, a.trip) (b.day, b.trip))
  where
    there : (a b : ℤ × ℕ) → (int_lt a.0 b.0 || (int_eq a.0 b.0 && nat_lt a.1 b.1)) ≡ true → is_lt (key_cmp a b) ≡ true
    there a b h = grind (arith, ints)

    back : (a b : ℤ × ℕ) → is_lt (key_cmp a b) ≡ true → (int_lt a.0 b.0 || (int_eq a.0 b.0 && nat_lt a.1 b.1)) ≡ true
    back a b h = grind (arith, ints)

pub numbers_by_key : (a b : Situation) → has_lesser_number a b ≡ is_lt (slice_cmp nat_cmp a.number b.number)
numbers_by_key a b = refl

-- ---- the window rolls over the journeys that are kept

all_passing : {X : Type 0} (p : X → Bool) (xs : List X) → AllByRecursion (λ x. p x ≡ true) (filter p xs)
all_passing p [] = tt
all_passing {X} p (x ∷ xs) = by (p x) refl (all_passing p xs)
  where
    by : (b : Bool) → p x ≡ b → AllByRecursion (λ x. p x ≡ true) (filter p xs) → AllByRecursion (λ x. p x ≡ true) (cond b (x ∷ filter p xs) (filter p xs))
    by true e rest = (e, rest)
    by false e rest = rest

both_passing : {X : Type 0} (p q : X → Bool) (xs : List X) → AllByRecursion (λ x. p x ≡ true) xs → AllByRecursion (λ x. (p x ≡ true) × (q x ≡ true)) (filter q xs)
both_passing p q [] h = tt
both_passing {X} p q (x ∷ xs) h = by (q x) refl (both_passing p q xs h.1)
  where
    by : (b : Bool) → q x ≡ b → AllByRecursion (λ x. (p x ≡ true) × (q x ≡ true)) (filter q xs) → AllByRecursion (λ x. (p x ≡ true) × (q x ≡ true)) (cond b (x ∷ filter q xs) (filter q xs))
    by true e rest = ((h.0, e), rest)
    by false e rest = rest

all_both : {X : Type 0} (P Q : X → Type 0) (xs : List X) → AllByRecursion P xs → AllByRecursion Q xs → AllByRecursion (λ x. P x × Q x) xs
all_both P Q [] h k = tt
all_both P Q (x ∷ xs) h k = ((h.0, k.0), all_both P Q xs h.1 k.1)

map_alike : {X Y : Type 0} (f g : X → Y) (xs : List X) → AllByRecursion (λ x. f x ≡ g x) xs → map f xs ≡ map g xs
map_alike f g [] h = refl
map_alike {X} {Y} f g (x ∷ xs) h = rw (h.0, map_alike f g xs h.1) refl

-- of what is kept only the first so many entries go, which are of days before the window
pub keeps_rolled : (setting : Setting) (moment : ℤ) (arrivals : List Arrival) (entries : List JourneyEntry) (n : ℕ)
    → KeepsJourneys (schedule_at setting (moments_of arrivals)) (present setting arrivals) entries → EachCanBeServed setting arrivals
    → AllByRecursion (λ e. int_lt e.key.0 (first_day setting (moment ∷ moments_of arrivals)) ≡ true) (take n entries)
    → ((d : JourneyEntry) → n < length entries → int_lt (slice_index_or entries n d).key.0 (first_day setting (moment ∷ moments_of arrivals)) ≡ false)
    → KeepsJourneys (schedule_at setting (moment ∷ moments_of arrivals)) (filter (is_within (window_at setting (moment ∷ moments_of arrivals))) (admitted setting arrivals)) (drop n entries)
keeps_rolled setting moment arrivals entries n h judged gone stays = record {
  ordered = filter within h.ordered;
  are_latest =
      subst (λ (all : List Recorded). AreLatest has_key was_later comes_before all (filter within h.ordered))
      (sym (present_rolls setting (record { moment = moment; gives = journeys [] }) arrivals judged))
      (latest_filter key_cmp key_of has_key was_later journeys_keyed comes_before journeys_by_key within (λ key. is_some (start_in (window_at setting later) key.0)) (λ a. refl) (present setting arrivals) h.ordered h.are_latest);
  entries_are =
      ap (drop n) h.entries_are
      ∙ sym (left_are (journey_entry old) (λ e. int_lt e.key.0 first) first (λ a. refl) h.ordered n h.are_latest.in_order
      (subst (λ (es : List JourneyEntry). AllByRecursion (λ e. int_lt e.key.0 first ≡ true) (take n es)) h.entries_are gone)
      (subst (λ (es : List JourneyEntry). (d : JourneyEntry) → n < length es → int_lt (slice_index_or es n d).key.0 first ≡ false) h.entries_are stays))
      ∙ ap (map (journey_entry old)) (sym (filter_alike within (λ x. not (has_gone first x)) h.ordered
      (all_weaker (λ x. was_within x ≡ true) (λ x. within x ≡ not (has_gone first x)) still h.ordered each)))
      ∙ map_alike (journey_entry old) (journey_entry new) (filter within h.ordered)
      (all_weaker (λ x. (was_within x ≡ true) × (within x ≡ true)) (λ x. journey_entry old x ≡ journey_entry new x)
      (λ x both. ap (λ (bytes : List ℕ). record { key = (x.day, x.trip); value = x.at; bytes = bytes }) (entity_stays setting (moments_of arrivals) later x both.0 both.1))
      (filter within h.ordered) (both_passing was_within within h.ordered each));
  all_good =
      all_weaker (λ x. ((was_within x ≡ true) × IsServed old x) × (within x ≡ true)) (IsServed new)
      (λ x both. served_stays setting (moments_of arrivals) later x (run_stays setting (moments_of arrivals) later x both.0.0 both.1) both.0.1)
      (filter within h.ordered) (filter_of (λ x. (was_within x ≡ true) × IsServed old x) within h.ordered (all_both (λ x. was_within x ≡ true) (IsServed old) h.ordered each h.all_good));
}
  where
    later : List ℤ
    later = moment ∷ moments_of arrivals

    first : ℤ
    first = first_day setting (moment ∷ moments_of arrivals)

    old : Schedule
    old = schedule_at setting (moments_of arrivals)

    new : Schedule
    new = schedule_at setting (moment ∷ moments_of arrivals)

    within : Recorded → Bool
    within = is_within (window_at setting (moment ∷ moments_of arrivals))

    was_within : Recorded → Bool
    was_within = is_within (window_at setting (moments_of arrivals))

    each : AllByRecursion (λ x. was_within x ≡ true) h.ordered
    each =
        all_latest key_cmp key_of has_key was_later journeys_keyed comes_before journeys_by_key (journey_entry old) (IsServed old) (λ e. e.key) (λ a. refl) (λ x. was_within x ≡ true)
        (present setting arrivals) h.ordered h.are_latest (all_passing was_within (admitted setting arrivals))

    still : (x : Recorded) → was_within x ≡ true → within x ≡ not (has_gone first x)
    still x was =
        within_at setting later x
        ∙ at (first_day setting (moments_of arrivals)) first x.day (length setting.window.starts) (first_rises setting moment (moments_of arrivals)) (sym (within_at setting (moments_of arrivals) x) ∙ was)
      where
        at : (from next day : ℤ) (days : ℕ) → from ≤ℤ next → among from days day ≡ true → among next days day ≡ not (int_lt day next)
        at from next day days rises was = grind (arith, ints)

-- ---- a gateway stands for one arrival more

-- what is kept is known by its parts; how many bytes are dead doesn't matter
stands_by : (now : Kept) (arrivals : List Arrival) (setting : Setting) (window : DayStarts) (entries : List JourneyEntry) (alerts : List SituationEntry) (text : List ℕ)
    → setting ≡ now.setting → window ≡ now.window → entries ≡ now.journeys → alerts ≡ now.situations → text ≡ now.text
    → Stands (record { setting = setting; window = window; journeys = entries; situations = alerts; text = text; dead_journeys = now.dead_journeys; dead_situations = now.dead_situations }) arrivals
    → Stands now arrivals
stands_by now arrivals setting window entries alerts text a b c d e h =
    subst (λ (kept : Kept). Stands kept arrivals)
    (λ i. record { setting = a i; window = b i; journeys = c i; situations = d i; text = e i; dead_journeys = now.dead_journeys; dead_situations = now.dead_situations }) h

-- before anything arrived
pub stands_none : (now : Kept) → now.window ≡ window_at now.setting [] → now.journeys ≡ [] → now.situations ≡ [] → IsLastSiri now.setting [] now.text → Stands now []
stands_none now window none no_alerts is =
    stands_by now [] now.setting (window_at now.setting []) [] [] now.text refl (sym window) (sym none) (sym no_alerts) refl
    (record {
      judged = tt;
      window_is = refl;
      journeys_are = keeps_none key_cmp key_of has_key was_later journeys_keyed comes_before journeys_by_key (journey_entry (schedule_at now.setting [])) (IsServed (schedule_at now.setting [])) (λ e. e.key) (λ a. refl);
      situations_are = keeps_none (slice_cmp nat_cmp) (λ (one : Situation). one.number) has_number is_newer numbers has_lesser_number numbers_by_key (situation_entry (seen now.setting.table)) (IsAlertServed (seen now.setting.table)) (λ e. e.key) (λ a. refl);
      text_is = is;
    })

-- after a delivery of journeys
pub stands_journeys : (old now : Kept) (arrivals : List Arrival) (moment : ℤ) (verdicts : List (Result Recorded Fault)) → Stands old arrivals
    → CanBeServed (schedule_at old.setting (moment ∷ moments_of arrivals)) (journeys (taken verdicts))
    → now.setting ≡ old.setting → now.window ≡ window_at old.setting (moment ∷ moments_of arrivals)
    → KeepsJourneys (schedule_at old.setting (moment ∷ moments_of arrivals))
    (filter (is_within (window_at old.setting (moment ∷ moments_of arrivals))) (admitted old.setting arrivals)
    ++ taken (journeys_with_room (window_at old.setting (moment ∷ moments_of arrivals)) (admitted old.setting arrivals) verdicts)) now.journeys
    → now.situations ≡ old.situations → now.text ≡ old.text
    → Stands now (record { moment = moment; gives = journeys (taken verdicts) } ∷ arrivals)
stands_journeys old now arrivals moment verdicts h can setting window keeps alerts text =
    stands_by now (record { moment = moment; gives = journeys (taken verdicts) } ∷ arrivals) old.setting (window_at old.setting (moment ∷ moments_of arrivals)) now.journeys old.situations old.text
    (sym setting) (sym window) refl (sym alerts) (sym text)
    (record {
      judged = (can, h.judged);
      window_is = refl;
      journeys_are =
          subst (λ (all : List Recorded). KeepsJourneys (schedule_at old.setting (moment ∷ moments_of arrivals)) all now.journeys)
          (ap (λ (left : List Recorded). left ++ taken (journeys_with_room (window_at old.setting (moment ∷ moments_of arrivals)) (admitted old.setting arrivals) verdicts))
          (present_rolls old.setting (record { moment = moment; gives = journeys (taken verdicts) }) arrivals h.judged)
          ∙ sym (present_journeys old.setting moment verdicts arrivals (can, h.judged))) keeps;
      situations_are = h.situations_are;
      text_is = h.text_is;
    })

-- after a delivery of situations
pub stands_situations : (old now : Kept) (arrivals : List Arrival) (moment : ℤ) (verdicts : List (Result Situation Fault)) → Stands old arrivals
    → CanBeServed (schedule_at old.setting (moment ∷ moments_of arrivals)) (situations (taken verdicts))
    → now.setting ≡ old.setting → now.window ≡ window_at old.setting (moment ∷ moments_of arrivals)
    → KeepsJourneys (schedule_at old.setting (moment ∷ moments_of arrivals)) (filter (is_within (window_at old.setting (moment ∷ moments_of arrivals))) (admitted old.setting arrivals)) now.journeys
    → KeepsSituations (seen old.setting.table) (filter always (admitted_situations arrivals) ++ taken (situations_with_room (admitted_situations arrivals) verdicts)) now.situations
    → now.text ≡ old.text
    → Stands now (record { moment = moment; gives = situations (taken verdicts) } ∷ arrivals)
stands_situations old now arrivals moment verdicts h can setting window keeps newest text =
    stands_by now (record { moment = moment; gives = situations (taken verdicts) } ∷ arrivals) old.setting (window_at old.setting (moment ∷ moments_of arrivals)) now.journeys now.situations old.text
    (sym setting) (sym window) refl refl (sym text)
    (record {
      judged = (can, h.judged);
      window_is = refl;
      journeys_are = keeps;
      situations_are =
          subst (λ (all : List Situation). KeepsSituations (seen old.setting.table) all now.situations)
          (ap (λ (left : List Situation). left ++ taken (situations_with_room (admitted_situations arrivals) verdicts)) (filter_all always (admitted_situations arrivals) (each (admitted_situations arrivals)))
          ∙ sym (admits is_same_number always most_numbers (admitted_situations arrivals) verdicts)) newest;
      text_is = h.text_is;
    })
  where
    each : (all : List Situation) → AllByRecursion (λ (one : Situation). always one ≡ true) all
    each [] = tt
    each (one ∷ others) = (refl, each others)

-- after a feed
pub stands_feed : (old now : Kept) (arrivals : List Arrival) (moment : ℤ) (given : feeds.Feed) (report : Report) → Stands old arrivals
    → now.setting ≡ old.setting → now.window ≡ window_at old.setting (moment ∷ moments_of arrivals)
    → KeepsJourneys (schedule_at old.setting (moment ∷ moments_of arrivals)) (filter (is_within (window_at old.setting (moment ∷ moments_of arrivals))) (admitted old.setting arrivals)) now.journeys
    → now.situations ≡ old.situations
    → IsSiri (schedule_at old.setting (moment ∷ moments_of arrivals)) given moment now.text report
    → Stands now (record { moment = moment; gives = feed given } ∷ arrivals)
stands_feed old now arrivals moment given report h setting window keeps alerts siri =
    stands_by now (record { moment = moment; gives = feed given } ∷ arrivals) old.setting (window_at old.setting (moment ∷ moments_of arrivals)) now.journeys old.situations now.text
    (sym setting) (sym window) refl (sym alerts) refl
    (record {
      judged = (record { servable = tt; known = tt }, h.judged);
      window_is = refl;
      journeys_are = keeps;
      situations_are = h.situations_are;
      text_is = (report, siri);
    })

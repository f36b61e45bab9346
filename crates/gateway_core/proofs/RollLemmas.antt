-- The window rolls: it begins no earlier than before, and what is present then is what was present, less what it left behind.
use Rattle.std.specs.Ordering.{int_eq}
use Rattle.std.proofs.Common.{◌||◌, ◌≡◌, ◌∙◌, ◌++◌, ◌∷◌, ◌&&◌, ◌<◌, ◌+◌, [], ℕ, ℤ, zero, suc, pos, Bool, true, false, cond, not, List, map, Option, Some, None, ap, sym, refl, arith, Result, Ok, Err, take, drop}
use Rattle.std.proofs.lemmas.Bool.{and_parts, both_ways}
use Rattle.std.proofs.lemmas.Int.{int_max_is, ints}
use Rattle.std.proofs.Math.Nat.{le-max_left}
use borrow.Author.Differences.{down, up}
use Rattle.std.proofs.lemmas.List.Elements.{filter-append}
use Rattle.std.proofs.lemmas.List.FromFn.{length-map-range_with_len}
use Rattle.std.specs.Prelude.{◌+ℤ◌, ◌≤ℤ◌, filter, int_le, int_lt, nat_lt, is_some, length, option_map, slice_index_or}
use Rattle.std.specs.Int.{int_max}
use Rattle.std.specs.List.{AllByRecursion, flat_map, list_all}
use Rattle.gw_base.proofs.Elements.{all_more}
use Rattle.service_day.specs.Starts.{start}
use Rattle.service_day.specs.Windows.{DayStarts, start_in}
use Rattle.feed_writing.specs.Written.{written}
use Rattle.journey_model.specs.Records.{Recorded}
use Rattle.journey_model.specs.Runs.{Run}
use Rattle.journey_model.specs.Schedules.{IsServable, Schedule, run_from}
use Rattle.journey_model.specs.declared.fault.Fault.{Fault}
use Rattle.journey_model.specs.declared.fault.Fault.TheVariants.{Full}
use Rattle.latest_store.specs.Entities.{entity, messages_on}
use Rattle.gateway_core.specs.Arrivals.{Arrival, EachCanBeServed, admit, admitted, first_after, first_day, has_room, is_same_journey, is_within, journeys, kept_from, moments_of, present, records_of, schedule_at, window_at, most_journeys}
use Rattle.gateway_core.specs.Deliveries.{taken}
use Rattle.gateway_core.specs.Feeds.{are_ordered_by, comes_before}
use Rattle.gateway_core.specs.Taking.{with_room}
use Rattle.gateway_core.specs.declared.setting.Setting.{Setting}
use Rattle.gateway_core.proofs.HeldLemmas.{all_weaker}
use Rattle.gateway_core.proofs.RoomLemmas.{admits}
use Rattle.gateway_core.proofs.WindowLemmas.{among, window_from-is}

-- ---- tests over lists

-- what passes one test and not the other is in neither
pub filter_twice : {X : Type 0} (p q : X → Bool) (xs : List X) → AllByRecursion (λ x. p x ≡ true → q x ≡ true) xs → filter p xs ≡ filter p (filter q xs)
filter_twice p q [] h = refl
filter_twice {X} p q (x ∷ xs) h = by (p x) (q x) refl refl h.0 (filter_twice p q xs h.1)
  where
    by : (b c : Bool) → p x ≡ b → q x ≡ c → (p x ≡ true → q x ≡ true) → filter p xs ≡ filter p (filter q xs) → filter p (x ∷ xs) ≡ filter p (filter q (x ∷ xs))
    by true true e f both rest = rw (f, e, rest) refl
    by true false e f both rest = absurd (both_ways (q x) f (both e))
    by false true e f both rest = rw (f, e) rest
    by false false e f both rest = rw (f, e) rest

pub filter_all : {X : Type 0} (p : X → Bool) (xs : List X) → AllByRecursion (λ x. p x ≡ true) xs → filter p xs ≡ xs
filter_all p [] h = refl
filter_all {X} p (x ∷ xs) h = rw (h.0, filter_all p xs h.1) refl

pub filter_alike : {X : Type 0} (p q : X → Bool) (xs : List X) → AllByRecursion (λ x. p x ≡ q x) xs → filter p xs ≡ filter q xs
filter_alike p q [] h = refl
filter_alike {X} p q (x ∷ xs) h = rw (h.0, filter_alike p q xs h.1) refl

-- ---- the days of a window

pub within_is : (window : DayStarts) (one : Recorded) → is_within window one ≡ among window.first (length window.starts) one.day
within_is window one = by (among window.first (length window.starts) one.day) (slice_index_or window.starts _ (pos 0))
  where
    by : (b : Bool) (start : ℤ) → is_some (cond b (Some start) None) ≡ b
    by true start = refl
    by false start = refl

pub within_at : (setting : Setting) (moments : List ℤ) (one : Recorded)
    → is_within (window_at setting moments) one ≡ among (first_day setting moments) (length setting.window.starts) one.day
within_at setting moments one =
    within_is (window_at setting moments) one
    ∙ ap (λ (n : ℕ). among (first_day setting moments) n one.day)
    (length-map-range_with_len (λ place. start setting.zone (first_day setting moments +ℤ pos place)) 0 (length setting.window.starts))

pub first_rises : (setting : Setting) (moment : ℤ) (moments : List ℤ) → first_day setting moments ≤ℤ first_day setting (moment ∷ moments)
first_rises setting moment moments = by setting.keep (first_day setting moments)
  where
    by : (keep : Option ℕ) (first : ℤ) → first ≤ℤ first_after setting keep moment first
    by None first = omega (arith, ints)
    by (Some keep) first = at (kept_from setting.zone (length setting.window.starts) keep moment) first
      where
        at : (other first : ℤ) → first ≤ℤ int_max first other
        at other first = omega (arith, ints, int_max_is first other, le-max_left (up first + down other) (up other + down first))

-- what can be served is of a day in the window
pub within_servable : (schedule : Schedule) (one : Recorded) → IsServable schedule one.trip one.day one.reading → is_within schedule.window one ≡ true
within_servable schedule one h = by (start_in schedule.window one.day) h.on_day
  where
    by : (found : Option ℤ) → option_map (run_from schedule.table one.trip) found ≡ Some h.run → is_some found ≡ true
    by None e = absurd cc
    by (Some at) e = refl

pub all_within : (schedule : Schedule) (records : List Recorded) → AllByRecursion (λ one. IsServable schedule one.trip one.day one.reading) records
    → AllByRecursion (λ one. is_within schedule.window one ≡ true) records
all_within schedule records h =
    all_weaker (λ one. IsServable schedule one.trip one.day one.reading) (λ one. is_within schedule.window one ≡ true) (within_servable schedule) records h

-- ---- what was admitted lies before the end of the window

abbrev pub EndsBefore : ℤ → ℕ → Recorded → Type 0
EndsBefore first days one = int_lt one.day (first +ℤ pos days) ≡ true

ends_later : (first next : ℤ) (days : ℕ) → first ≤ℤ next → (one : Recorded) → EndsBefore first days one → EndsBefore next days one
ends_later first next days rises one h = at one.day h
  where
    at : (day : ℤ) → int_lt day (first +ℤ pos days) ≡ true → int_lt day (next +ℤ pos days) ≡ true
    at day h = grind (arith, ints)

module _ {A : Type 0} (P : A → Type 0) (is_same : A → A → Bool) (counts : A → Bool) (limit : ℕ) where
  pub all_admitted : (before all : List A) → AllByRecursion P before → AllByRecursion P all → AllByRecursion P (admit is_same counts limit before all)
  all_admitted before [] h k = h
  all_admitted before (one ∷ others) h k =
      by (has_room is_same counts limit before one) (all_admitted (before ++ one ∷ []) others (all_more P before one h k.0) k.1) (all_admitted before others h k.1)
    where
      by : (b : Bool) → AllByRecursion P (admit is_same counts limit (before ++ one ∷ []) others) → AllByRecursion P (admit is_same counts limit before others)
          → AllByRecursion P (admit is_same counts limit (cond b (before ++ one ∷ []) before) others)
      by true h k = h
      by false h k = k

  pub all_with_room : (before : List A) (verdicts : List (Result A Fault)) → AllByRecursion P (taken verdicts) → AllByRecursion P (taken (with_room is_same counts limit before verdicts))
  all_with_room before [] h = tt
  all_with_room before (Err fault ∷ others) h = all_with_room before others h
  all_with_room before (Ok one ∷ others) h =
      by (has_room is_same counts limit before one) (all_with_room (before ++ one ∷ []) others h.1) (all_with_room before others h.1)
    where
      by : (b : Bool) → AllByRecursion P (taken (with_room is_same counts limit (before ++ one ∷ []) others)) → AllByRecursion P (taken (with_room is_same counts limit before others))
          → AllByRecursion P (taken (cond b (Ok one ∷ with_room is_same counts limit (before ++ one ∷ []) others) (Err Full ∷ with_room is_same counts limit before others)))
      by true all k = (h.0, all)
      by false h k = k

pub admitted_end : (setting : Setting) (arrivals : List Arrival) → EachCanBeServed setting arrivals
    → AllByRecursion (EndsBefore (first_day setting (moments_of arrivals)) (length setting.window.starts)) (admitted setting arrivals)
admitted_end setting [] h = tt
admitted_end setting (one ∷ earlier) h =
    all_admitted Ends is_same_journey (is_within (window_at setting (one.moment ∷ moments_of earlier))) most_journeys (admitted setting earlier) (records_of one.gives)
    (all_weaker (EndsBefore (first_day setting (moments_of earlier)) (length setting.window.starts)) Ends
    (ends_later (first_day setting (moments_of earlier)) (first_day setting (one.moment ∷ moments_of earlier)) (length setting.window.starts) (first_rises setting one.moment (moments_of earlier)))
    (admitted setting earlier) (admitted_end setting earlier h.1))
    (all_weaker (λ r. is_within (window_at setting (one.moment ∷ moments_of earlier)) r ≡ true) Ends
    (λ r within. (and_parts (int_le (first_day setting (one.moment ∷ moments_of earlier)) r.day) (int_lt r.day (first_day setting (one.moment ∷ moments_of earlier) +ℤ pos (length setting.window.starts)))
    (sym (within_at setting (one.moment ∷ moments_of earlier) r) ∙ within)).1)
    (records_of one.gives) (all_within (schedule_at setting (one.moment ∷ moments_of earlier)) (records_of one.gives) h.0.servable))
  where
    Ends : Recorded → Type 0
    Ends = EndsBefore (first_day setting (one.moment ∷ moments_of earlier)) (length setting.window.starts)

-- ---- what is present after one arrival more

pub present_rolls : (setting : Setting) (one : Arrival) (earlier : List Arrival) → EachCanBeServed setting earlier
    → filter (is_within (window_at setting (one.moment ∷ moments_of earlier))) (admitted setting earlier)
    ≡ filter (is_within (window_at setting (one.moment ∷ moments_of earlier))) (present setting earlier)
present_rolls setting one earlier h =
    filter_twice (is_within (window_at setting (one.moment ∷ moments_of earlier))) (is_within (window_at setting (moments_of earlier))) (admitted setting earlier)
    (all_weaker (EndsBefore (first_day setting (moments_of earlier)) (length setting.window.starts))
    (λ r. is_within (window_at setting (one.moment ∷ moments_of earlier)) r ≡ true → is_within (window_at setting (moments_of earlier)) r ≡ true)
    (λ r ends within. within_at setting (moments_of earlier) r
    ∙ at (first_day setting (moments_of earlier)) (first_day setting (one.moment ∷ moments_of earlier)) r.day (length setting.window.starts)
    (first_rises setting one.moment (moments_of earlier)) ends (sym (within_at setting (one.moment ∷ moments_of earlier) r) ∙ within))
    (admitted setting earlier) (admitted_end setting earlier h))
  where
    at : (first next day : ℤ) (days : ℕ) → first ≤ℤ next → int_lt day (first +ℤ pos days) ≡ true → among next days day ≡ true → among first days day ≡ true
    at first next day days rises ends within = grind (arith, ints)

-- after a delivery of journeys: what is left of what was present, followed by what of the delivery has room
pub present_journeys : (setting : Setting) (moment : ℤ) (verdicts : List (Result Recorded Fault)) (earlier : List Arrival)
    → EachCanBeServed setting (record { moment = moment; gives = journeys (taken verdicts) } ∷ earlier)
    → present setting (record { moment = moment; gives = journeys (taken verdicts) } ∷ earlier)
    ≡ filter (is_within (window_at setting (moment ∷ moments_of earlier))) (present setting earlier)
    ++ taken (with_room is_same_journey (is_within (window_at setting (moment ∷ moments_of earlier))) most_journeys (admitted setting earlier) verdicts)
present_journeys setting moment verdicts earlier h =
    ap (filter within) (admits is_same_journey within most_journeys (admitted setting earlier) verdicts)
    ∙ filter-append within (admitted setting earlier) new
    ∙ ap (λ (left : List Recorded). left ++ filter within new) (present_rolls setting (record { moment = moment; gives = journeys (taken verdicts) }) earlier h.1)
    ∙ ap (λ (more : List Recorded). filter within (present setting earlier) ++ more)
    (filter_all within new (all_with_room (λ r. within r ≡ true) is_same_journey within most_journeys (admitted setting earlier) verdicts
    (all_within (schedule_at setting (moment ∷ moments_of earlier)) (taken verdicts) h.0.servable)))
  where
    within : Recorded → Bool
    within = is_within (window_at setting (moment ∷ moments_of earlier))

    new : List Recorded
    new = taken (with_room is_same_journey (is_within (window_at setting (moment ∷ moments_of earlier))) most_journeys (admitted setting earlier) verdicts)

-- ---- what the window left behind stands in front

abbrev pub has_gone : ℤ → Recorded → Bool
has_gone first one = int_lt one.day first

no_later : (first : ℤ) (a : Recorded) (xs : List Recorded) → has_gone first a ≡ false → list_all (comes_before a) xs ≡ true
    → AllByRecursion (λ x. not (has_gone first x) ≡ true) xs
no_later first a [] stays h = tt
no_later first a (x ∷ xs) stays h =
    let both = and_parts (comes_before a x) (list_all (comes_before a) xs) h in
    (at a.day x.day a.trip x.trip stays both.0, no_later first a xs stays both.1)
  where
    at : (a x : ℤ) (t u : ℕ) → int_lt a first ≡ false → (int_lt a x || (int_eq a x && nat_lt t u)) ≡ true → not (int_lt x first) ≡ true
    at a x t u stays h = grind (arith, ints)

-- those that are left are what is after the first so many
module _ {E : Type 0} (entry : Recorded → E) (gone : E → Bool) (first : ℤ) (same : (one : Recorded) → gone (entry one) ≡ has_gone first one) where
  pub left_are : (xs : List Recorded) (n : ℕ) → are_ordered_by comes_before xs ≡ true
      → AllByRecursion (λ e. gone e ≡ true) (take n (map entry xs)) → ((d : E) → n < length (map entry xs) → gone (slice_index_or (map entry xs) n d) ≡ false)
      → map entry (filter (λ x. not (has_gone first x)) xs) ≡ drop n (map entry xs)
  left_are [] zero h before after = refl
  left_are [] (suc n) h before after = refl
  left_are (x ∷ xs) zero h before after =
      let stays : has_gone first x ≡ false = sym (same x) ∙ after (entry x) (omega arith) in
      let both = and_parts (list_all (comes_before x) xs) (are_ordered_by comes_before xs) h in
      ap (map entry) (filter_all (λ x. not (has_gone first x)) (x ∷ xs) (ap not stays, no_later first x xs stays both.0))
  left_are (x ∷ xs) (suc n) h before after =
      let leaves : has_gone first x ≡ true = sym (same x) ∙ before.0 in
      let both = and_parts (list_all (comes_before x) xs) (are_ordered_by comes_before xs) h in
      rw leaves (left_are xs n both.1 before.1 (λ d lt. after d (omega arith)))

-- ---- the entity of a record is the same over both windows

pub start_there : (setting : Setting) (moments : List ℤ) (one : Recorded) → is_within (window_at setting moments) one ≡ true
    → start_in (window_at setting moments) one.day ≡ Some (start setting.zone one.day)
start_there setting moments one within =
    (window_from-is setting.zone (first_day setting moments) (length setting.window.starts)).starts_are one.day
    ∙ ap (λ (b : Bool). cond b (Some (start setting.zone one.day)) None) (sym (within_at setting moments one) ∙ within)

pub entity_stays : (setting : Setting) (moments later : List ℤ) (one : Recorded)
    → is_within (window_at setting moments) one ≡ true → is_within (window_at setting later) one ≡ true
    → entity (schedule_at setting moments) one ≡ entity (schedule_at setting later) one
entity_stays setting moments later one within still =
    ap (λ (found : Option ℤ). flat_map written (messages_on (schedule_at setting moments) one (option_map (run_from (schedule_at setting moments).table one.trip) found)))
    (start_there setting moments one within ∙ sym (start_there setting later one still))
    ∙ by (option_map (run_from (schedule_at setting moments).table one.trip) (start_in (window_at setting later) one.day))
  where
    by : (run : Option Run) → flat_map written (messages_on (schedule_at setting moments) one run) ≡ flat_map written (messages_on (schedule_at setting later) one run)
    by None = refl
    by (Some run) = refl

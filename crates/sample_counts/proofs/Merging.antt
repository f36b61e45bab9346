-- Readings in the order of their trips say, trip by trip, what a feed says.
use Rattle.std.proofs.Common.{◌≡◌, ◌∙◌, ◌+◌, ◌<◌, ◌≤◌, ◌==◌, ◌&&◌, ◌∷◌, [], ℕ, suc, ℤ, Bool, true, false, cond, List, map, Option, Some, None, All, get_or, refl, sym, ap, subst, arith}
use Rattle.std.specs.Prelude.{filter, int_lt, option_map}
use Rattle.std.specs.List.{AllByRecursion}
use Rattle.std.specs.List.Sorted.{IsSorted}
use Rattle.std.specs.Option.{option_to_list}
use Rattle.std.specs.Ordering.{int_cmp, int_eq, is_lt, nat_cmp, ordering_then}
use Rattle.std.specs.declared.cmp.Ordering.{Ordering}
use Rattle.std.specs.declared.cmp.Ordering.TheVariants.{Equal}
use Rattle.std.proofs.lemmas.Bool.Decides.{nat_tests}
use Rattle.std.proofs.lemmas.Int.{ints}
use Rattle.gw_base.specs.declared.messages.Feed.{Feed}
use Rattle.service_day.specs.Windows.{start_in}
use Rattle.journey_model.specs.FeedReadings.{given_all, is_of, last_reading, readings}
use Rattle.journey_model.specs.Schedules.{Schedule, run_from}
use Rattle.journey_model.specs.declared.readings.DatedReading.{DatedReading}
use Rattle.journey_model.specs.declared.readings.JourneyReading.{JourneyReading}
use Rattle.propagation.specs.Feeds.{IsReading, IsServable, journey_cmp}
use Rattle.propagation.specs.declared.feeds.FeedReading.{FeedReading}
use Rattle.sample_counts.specs.Counts.{HasOneDay, made_day}
use Rattle.sample_counts.specs.Steps.{AreSaid, after_trip, head_said}

-- ---- one trip more

-- what is said of the next trip
pub next_said : (said : ℕ → Option JourneyReading) (trip : ℕ) (rest : List DatedReading) → AreSaid said trip rest → said trip ≡ head_said trip rest
next_said said trip [] h = h trip (omega arith)
next_said said trip (one ∷ others) h = by (one.trip.0 == trip) refl
  where
    by : (b : Bool) → (one.trip.0 == trip) ≡ b → said trip ≡ cond b (Some one.reading) None
    by true e = let same : one.trip.0 ≡ trip = grind (arith, nat_tests) in subst (λ (n : ℕ). said n ≡ Some one.reading) same h.2
    by false e = h.1 trip (omega arith) (grind (arith, nat_tests, h.0))

-- and of those after it
pub after_said : (said : ℕ → Option JourneyReading) (trip : ℕ) (rest : List DatedReading) → AreSaid said trip rest → AreSaid said (trip + 1) (after_trip trip rest)
after_said said trip [] h = λ later from. h later (omega arith)
after_said said trip (one ∷ others) h = by (one.trip.0 == trip) refl
  where
    by : (b : Bool) → (one.trip.0 == trip) ≡ b → AreSaid said (trip + 1) (cond b others (one ∷ others))
    by true e = let same : one.trip.0 ≡ trip = grind (arith, nat_tests) in subst (λ (n : ℕ). AreSaid said (n + 1) others) same h.3
    by false e = (grind (arith, nat_tests, h.0), λ later from below. h.1 later (omega arith) below, h.2, h.3)

-- ---- the readings of a feed

-- readings of trips from a number on
abbrev AllFrom : ℕ → List DatedReading → Type 0
AllFrom least [] = Unit {0}
AllFrom least (one ∷ others) = (least ≤ one.trip.0) × AllFrom least others

abbrev OnDay : DatedReading → Type 0
OnDay one = one.day ≡ made_day

from_less : (less least : ℕ) (xs : List DatedReading) → less ≤ least → AllFrom least xs → AllFrom less xs
from_less less least [] le h = tt
from_less less least (one ∷ others) le h = (omega (arith, h.0), from_less less least others le h.1)

pub all_of : (P : DatedReading → Type 0) (xs : List DatedReading) → All P xs → AllByRecursion P xs
all_of P [] h = tt
all_of P (one ∷ others) h = (h 0 one (omega arith), all_of P others (λ k d below. h (suc k) d (omega arith)))

-- a trip before them has none
none_before : (trip least : ℕ) (xs : List DatedReading) → AllFrom least xs → trip < least → filter (is_of trip made_day) xs ≡ []
none_before trip least [] h below = refl
none_before trip least (one ∷ others) h below = by (one.trip.0 == trip) refl (none_before trip least others h.1 below)
  where
    by : (b : Bool) → (one.trip.0 == trip) ≡ b → filter (is_of trip made_day) others ≡ []
        → cond (b && int_eq one.day made_day) (one ∷ filter (is_of trip made_day) others) (filter (is_of trip made_day) others) ≡ []
    by true e rest = absurd (grind (arith, nat_tests, h.0))
    by false e rest = rest

same_day : (day : ℤ) → int_cmp day day ≡ Equal
same_day day = let not_less : int_lt day day ≡ false = grind (arith, ints) in rw not_less refl

equal_day : (a b : ℤ) → a ≡ b → int_eq a b ≡ true
equal_day a b same = grind (arith, ints)

not_before : (a b : ℕ) → is_lt (nat_cmp a b) ≡ false → b ≤ a
not_before a b h = grind (arith, nat_tests)

-- of two readings of one day, in order
in_order : (one next : DatedReading) → one.day ≡ made_day → next.day ≡ made_day → is_lt (journey_cmp next one) ≡ false → one.trip.0 ≤ next.trip.0
in_order one next here there h =
    let same : int_cmp next.day one.day ≡ Equal = ap (λ (day : ℤ). int_cmp next.day day) (here ∙ sym there) ∙ same_day next.day in
    not_before next.trip.0 one.trip.0 (subst (λ (o : Ordering). is_lt (ordering_then o (nat_cmp next.trip.0 one.trip.0)) ≡ false) same h)

sorted_tail : (one : DatedReading) (others : List DatedReading) → IsSorted journey_cmp (one ∷ others) → IsSorted journey_cmp others
sorted_tail one others h = λ k d low high.
    let next : suc k + 1 ≡ suc (k + 1) = omega arith in
    subst (λ (n : ℕ). is_lt (journey_cmp (get_or (one ∷ others) n d) (get_or others k d)) ≡ false) next (h (suc k) d (omega arith) (omega arith))

rising : (one : DatedReading) (others : List DatedReading) → IsSorted journey_cmp (one ∷ others) → one.day ≡ made_day → AllByRecursion OnDay others → AllFrom one.trip.0 others
rising one [] sorted here there = tt
rising one (next ∷ others) sorted here there =
    let first = in_order one next here there.0 (sorted 0 one (omega arith) (omega arith)) in
    (first, from_less one.trip.0 next.trip.0 others first (rising next others (sorted_tail one (next ∷ others) sorted) there.0 there.1))

none_mapped : (xs : List DatedReading) → map (λ one. one.reading) xs ≡ [] → xs ≡ []
none_mapped [] h = refl
none_mapped (one ∷ others) h = absurd (cc)

none_in : (found : Option JourneyReading) → [] ≡ option_to_list found → found ≡ None
none_in None h = refl
none_in (Some reading) h = absurd (cc)

some_in : (found : Option JourneyReading) (reading : JourneyReading) (others : List JourneyReading) → reading ∷ others ≡ option_to_list found
    → (found ≡ Some reading) × (others ≡ [])
some_in None reading others h = absurd (cc)
some_in (Some one) reading others h = (cc, cc)

-- none is of the trip that the numbers begin with, so that they begin with the next
past : (least : ℕ) (xs : List DatedReading) → AllFrom least xs → AllByRecursion OnDay xs → filter (is_of least made_day) xs ≡ [] → AllFrom (least + 1) xs
past least [] h days none = tt
past least (one ∷ others) h days none = by (one.trip.0 == least) refl (λ left. past least others h.1 days.1 left) (subst (λ (b : Bool). cond ((one.trip.0 == least) && b) (one ∷ filter (is_of least made_day) others) (filter (is_of least made_day) others) ≡ []) (equal_day one.day made_day days.0) none)
  where
    by : (b : Bool) → (one.trip.0 == least) ≡ b → (filter (is_of least made_day) others ≡ [] → AllFrom (least + 1) others)
        → cond (b && true) (one ∷ filter (is_of least made_day) others) (filter (is_of least made_day) others) ≡ [] → AllFrom (least + 1) (one ∷ others)
    by true e rest none = absurd (cc)
    by false e rest none = (grind (arith, nat_tests, h.0), rest none)

abbrev Gives : (ℕ → Option JourneyReading) → ℕ → List DatedReading → Type 0
Gives said least xs = (trip : ℕ) → least ≤ trip → map (λ one. one.reading) (filter (is_of trip made_day) xs) ≡ option_to_list (said trip)

all_said : (said : ℕ → Option JourneyReading) (least : ℕ) (xs : List DatedReading) → IsSorted journey_cmp xs → AllByRecursion OnDay xs → AllFrom least xs → Gives said least xs
    → AreSaid said least xs
all_said said least [] sorted days from gives = λ trip le. none_in (said trip) (gives trip le)
all_said said least (one ∷ others) sorted days from gives =
    (from.0, before, here.0, all_said said (one.trip.0 + 1) others (sorted_tail one others sorted) days.1 (past one.trip.0 others above days.1 (none_mapped (filter (is_of one.trip.0 made_day) others) here.1)) later)
  where
    above : AllFrom one.trip.0 others
    above = rising one others sorted days.0 days.1

    before : (trip : ℕ) → least ≤ trip → trip < one.trip.0 → said trip ≡ None
    before trip le below =
        let all : AllFrom one.trip.0 (one ∷ others) = (omega arith, above) in
        none_in (said trip) (sym (ap (λ (xs : List DatedReading). map (λ one. one.reading) xs) (none_before trip one.trip.0 (one ∷ others) all below)) ∙ gives trip le)

    test : (trip : ℕ) (b : Bool) → (one.trip.0 == trip) ≡ b → is_of trip made_day one ≡ b
    test trip b e = rw (e, equal_day one.day made_day days.0) (ends b)
      where
        ends : (b : Bool) → (b && true) ≡ b
        ends true = refl
        ends false = refl

    kept : (trip : ℕ) (b : Bool) → is_of trip made_day one ≡ b
        → filter (is_of trip made_day) (one ∷ others) ≡ cond b (one ∷ filter (is_of trip made_day) others) (filter (is_of trip made_day) others)
    kept trip b e = ap (λ (t : Bool). cond t (one ∷ filter (is_of trip made_day) others) (filter (is_of trip made_day) others)) e

    its : (one.trip.0 == one.trip.0) ≡ true
    its = grind (arith, nat_tests)

    here : (said one.trip.0 ≡ Some one.reading) × (map (λ one. one.reading) (filter (is_of one.trip.0 made_day) others) ≡ [])
    here = some_in (said one.trip.0) one.reading (map (λ one. one.reading) (filter (is_of one.trip.0 made_day) others))
        (sym (ap (λ (xs : List DatedReading). map (λ one. one.reading) xs) (kept one.trip.0 true (test one.trip.0 true its))) ∙ gives one.trip.0 from.0)

    later : Gives said (one.trip.0 + 1) others
    later trip le =
        let other : (one.trip.0 == trip) ≡ false = grind (arith, nat_tests) in
        sym (ap (λ (xs : List DatedReading). map (λ one. one.reading) xs) (kept trip false (test trip false other))) ∙ gives trip (omega (arith, from.0))

-- each reading of a feed is of the one day of the window
starts_on : (schedule : Schedule) (one : DatedReading) → HasOneDay schedule.window → IsServable schedule one → OnDay one
starts_on schedule one only can = by (start_in schedule.window one.day) refl can.on_day
  where
    by : (start : Option ℤ) → start_in schedule.window one.day ≡ start → option_map (run_from schedule.table one.trip.0) start ≡ Some can.run → OnDay one
    by (Some start) is found = only one.day start is
    by None is found = absurd (cc)

all_on : (schedule : Schedule) (xs : List DatedReading) → HasOneDay schedule.window → AllByRecursion (IsServable schedule) xs → AllByRecursion OnDay xs
all_on schedule [] only can = tt
all_on schedule (one ∷ others) only can = (starts_on schedule one only can.0, all_on schedule others only can.1)

from_first : (xs : List DatedReading) → AllFrom 0 xs
from_first [] = tt
from_first (one ∷ others) = (omega arith, from_first others)

-- so what is read of a feed says what the feed says of each trip
pub reading_says : (schedule : Schedule) (feed : Feed) (found : FeedReading) → HasOneDay schedule.window → IsReading schedule feed found
    → AreSaid (λ trip. last_reading trip made_day (given_all (readings schedule feed))) 0 found.journeys
reading_says schedule feed found only is =
    all_said (λ trip. last_reading trip made_day (given_all (readings schedule feed))) 0 found.journeys is.sorted
    (all_on schedule found.journeys only (all_of (IsServable schedule) found.journeys is.servable)) (from_first found.journeys) (λ trip le. is.each_last trip made_day)

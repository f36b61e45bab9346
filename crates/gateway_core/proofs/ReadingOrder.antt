-- The order of readings, by service day and then trip number, and when a sorted list of them has each journey once.
use Rattle.std.proofs.Common.{◌≡◌, ◌∙◌, ◌≤◌, ◌∷◌, [], ℕ, ℤ, pos, Bool, true, false, cond, List, length, map, Option, Some, None, Ordering, Less, Equal, Greater, refl, sym, ap, arith}
use Rattle.std.proofs.lemmas.Bool.{false≢true, true≢false}
use Rattle.std.proofs.lemmas.List.{length-map}
use Rattle.std.specs.List.{AllByRecursion, filter}
use Rattle.std.specs.Option.{option_to_list}
use Rattle.std.specs.Ordering.{is_eq, is_lt, ordering_reverse}
use Rattle.journey_model.specs.FeedReadings.{is_of}
use Rattle.journey_model.specs.Records.{Recorded}
use Rattle.journey_model.specs.declared.readings.DatedReading.{DatedReading}
use Rattle.journey_model.specs.declared.readings.JourneyReading.{JourneyReading}
use Rattle.gateway_core.specs.Winners.{Key, key_cmp}
use Rattle.gateway_core.proofs.SortedLemmas.{IsRising, IsStrict}
use Rattle.gateway_core.proofs.WinnerLemmas.{journeys as journeys_keyed}

abbrev pub reading_key : DatedReading → Key
reading_key one = (one.day, one.trip.0)

abbrev pub before : DatedReading → DatedReading → Bool
before a b = is_lt (key_cmp (reading_key a) (reading_key b))

abbrev pub same : DatedReading → DatedReading → Bool
same a b = is_eq (key_cmp (reading_key a) (reading_key b))

reversed : (r : Ordering) → r ≡ ordering_reverse r → is_eq r ≡ true
reversed Less e = absurd (true≢false (ap is_lt e))
reversed Equal e = refl
reversed Greater e = absurd (false≢true (ap is_lt e))

less_apart : (r : Ordering) → is_lt r ≡ true → is_eq r ≡ false
less_apart Less e = refl
less_apart Equal e = absurd (false≢true e)
less_apart Greater e = refl

equal_is : (r : Ordering) → is_eq r ≡ true → r ≡ Equal
equal_is Less e = absurd (false≢true e)
equal_is Equal e = refl
equal_is Greater e = absurd (false≢true e)

pub self : (x : DatedReading) → same x x ≡ true
self x = reversed (key_cmp (reading_key x) (reading_key x)) (journeys_keyed.total.antisymm (reading_key x) (reading_key x))

pub apart : (x y : DatedReading) → before x y ≡ true → same x y ≡ false
apart x y less = less_apart (key_cmp (reading_key x) (reading_key y)) less

pub moved : (x y z : DatedReading) → same x z ≡ true → before x y ≡ true → before z y ≡ true
moved x y z equal less =
    ap is_lt (sym (journeys_keyed.total.congr (reading_key x) (reading_key z) (reading_key y) (equal_is (key_cmp (reading_key x) (reading_key z)) equal))) ∙ less

-- ---- each journey once

-- a reading with the trip and the day of a record
as_record : DatedReading → Recorded
as_record one = record { trip = one.trip.0; day = one.day; at = (pos 0, 0); reading = one.reading }

of_same : (x y : DatedReading) → is_of x.trip.0 x.day y ≡ same x y
unfolding as_record
of_same x y = journeys_keyed.its (reading_key x) (as_record y)

-- one that is neither before another nor of its journey is after it
after : (x y : DatedReading) → before y x ≡ false → same x y ≡ false → before x y ≡ true
after x y rises other = by (key_cmp (reading_key x) (reading_key y)) (key_cmp (reading_key y) (reading_key x)) (journeys_keyed.total.antisymm (reading_key y) (reading_key x)) rises other
  where
    by : (r s : Ordering) → s ≡ ordering_reverse r → is_lt s ≡ false → is_eq r ≡ false → is_lt r ≡ true
    by Less s turned not_before other = refl
    by Equal s turned not_before other = absurd (true≢false other)
    by Greater s turned not_before other = absurd (false≢true (sym not_before ∙ ap is_lt turned))

few_options : {X : Type 0} (it : Option X) → length (option_to_list it) ≤ 1
few_options None = omega arith
few_options (Some x) = omega arith

-- of each journey there is one at most
pub once_each : (readings : List DatedReading) (told : Option JourneyReading) (trip : ℕ) (day : ℤ) → map (λ one. one.reading) (filter (is_of trip day) readings) ≡ option_to_list told
    → length (filter (is_of trip day) readings) ≤ 1
once_each readings told trip day e =
    let long = length-map (filter (is_of trip day) readings) (λ (one : DatedReading). one.reading) in
    omega (arith, long, ap length e, few_options told)

none_of : {X : Type 0} (p : X → Bool) (xs : List X) → length (filter p xs) ≡ 0 → AllByRecursion (λ y. p y ≡ false) xs
none_of p [] none = tt
none_of {X} p (x ∷ xs) none = by (p x) refl none (none_of p xs)
  where
    by : (b : Bool) → p x ≡ b → length (cond b (x ∷ filter p xs) (filter p xs)) ≡ 0 → (length (filter p xs) ≡ 0 → AllByRecursion (λ y. p y ≡ false) xs)
        → AllByRecursion (λ y. p y ≡ false) (x ∷ xs)
    by true is none rest = absurd (omega (arith, none))
    by false is none rest = (is, rest none)

all_after : (x : DatedReading) (xs : List DatedReading) → AllByRecursion (λ y. before y x ≡ false) xs → AllByRecursion (λ y. is_of x.trip.0 x.day y ≡ false) xs
    → AllByRecursion (λ y. before x y ≡ true) xs
all_after x [] rises others = tt
all_after x (y ∷ ys) rises others = (after x y rises.0 (sym (of_same x y) ∙ others.0), all_after x ys rises.1 others.1)

-- so a sorted list in which each journey stands once is in strict order
pub strict_once : (readings : List DatedReading) → IsRising before readings → ((trip : ℕ) (day : ℤ) → length (filter (is_of trip day) readings) ≤ 1) → IsStrict before readings
strict_once [] rises few = tt
strict_once (x ∷ xs) rises few = (
  all_after x xs rises.0 (none_of (is_of x.trip.0 x.day) xs (alone (is_of x.trip.0 x.day x) (of_same x x ∙ self x) (few x.trip.0 x.day))),
  strict_once xs rises.1 (λ trip day. fewer (is_of trip day x) (filter (is_of trip day) xs) (few trip day)),
)
  where
    alone : (b : Bool) → b ≡ true → length (cond b (x ∷ filter (is_of x.trip.0 x.day) xs) (filter (is_of x.trip.0 x.day) xs)) ≤ 1 → length (filter (is_of x.trip.0 x.day) xs) ≡ 0
    alone true is most = omega (arith, most)
    alone false is most = absurd (false≢true is)

    fewer : (b : Bool) (rest : List DatedReading) → length (cond b (x ∷ rest) rest) ≤ 1 → length rest ≤ 1
    fewer true rest most = omega (arith, most)
    fewer false rest most = most

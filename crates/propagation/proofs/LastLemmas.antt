-- What the last reading of each journey says of a trip on a day: its last reading, whatever the order.
use Rattle.std.proofs.Common.{◌≡◌, ◌∙◌, ◌≤◌, ◌∷◌, [], ℕ, ℤ, Bool, true, false, List, map, length, Option, Some, None, is_some, if◌then◌else◌, refl, sym, ap, arith}
use Rattle.std.specs.Prelude.{cond}
use Rattle.std.proofs.lemmas.Bool.{false≢true}
use Rattle.std.proofs.lemmas.List.Elements.{All-from_recursion, recursion_from_All}
use Rattle.std.proofs.lemmas.List.Sorted.{All-permutation, sum_by-IsPermutation}
use Rattle.std.proofs.lemmas.List.Sums.{length-filter}
use Rattle.std.specs.List.{AllByRecursion, filter}
use Rattle.std.specs.List.Sorted.{IsPermutation}
use Rattle.std.specs.Option.{option_or, option_to_list}
use Rattle.gw_base.proofs.Elements.{or_none}
use Rattle.journey_model.specs.FeedReadings.{is_last, is_of, last_of_each, last_reading}
use Rattle.journey_model.specs.declared.readings.DatedReading.{DatedReading}
use Rattle.journey_model.specs.declared.readings.JourneyReading.{JourneyReading}
use Rattle.propagation.proofs.FeedLemmas.{same-after}

-- ---- one item that passes a test, in any order

nothing_there : {X : Type 0} (xs : List X) → length xs ≡ 0 → xs ≡ []
nothing_there [] e = refl
nothing_there (x ∷ xs) e = absurd (omega arith)

none_passes : {X : Type 0} (p : X → Bool) (x : X) (xs : List X) → filter p xs ≡ []
    → AllByRecursion (λ y. p y ≡ true → y ≡ x) xs
none_passes p x [] e = tt
none_passes {X} p x (z ∷ xs) e = by (p z) refl (λ same. none_passes p x xs same) e
  where
    by : (b : Bool) → p z ≡ b → (filter p xs ≡ [] → AllByRecursion (λ y. p y ≡ true → y ≡ x) xs)
        → ◌≡◌ {A = List X} (cond b (z ∷ filter p xs) (filter p xs)) []
        → AllByRecursion (λ y. p y ≡ true → y ≡ x) (z ∷ xs)
    by true is rest same = absurd cc
    by false is rest same = (λ yes. absurd (false≢true (sym is ∙ yes)), rest same)

one_passes : {X : Type 0} (p : X → Bool) (x : X) (xs : List X) → filter p xs ≡ x ∷ []
    → AllByRecursion (λ y. p y ≡ true → y ≡ x) xs
one_passes p x [] e = tt
one_passes {X} p x (z ∷ xs) e = by (p z) refl (λ same. one_passes p x xs same) e
  where
    by : (b : Bool) → p z ≡ b → (filter p xs ≡ x ∷ [] → AllByRecursion (λ y. p y ≡ true → y ≡ x) xs)
        → ◌≡◌ {A = List X} (cond b (z ∷ filter p xs) (filter p xs)) (x ∷ [])
        → AllByRecursion (λ y. p y ≡ true → y ≡ x) (z ∷ xs)
    by true is rest same = (λ yes. cc, none_passes p x xs cc)
    by false is rest same = (λ yes. absurd (false≢true (sym is ∙ yes)), rest same)

passes_alone : {X : Type 0} (p : X → Bool) (x : X) (ys : List X) → AllByRecursion (λ y. p y ≡ true → y ≡ x) ys
    → length (filter p ys) ≡ 1 → filter p ys ≡ x ∷ []
passes_alone p x [] h e = absurd (omega arith)
passes_alone {X} p x (z ∷ ys) h e = by (p z) refl (λ one. passes_alone p x ys h.1 one) e
  where
    by : (b : Bool) → p z ≡ b → (length (filter p ys) ≡ 1 → filter p ys ≡ x ∷ [])
        → length (cond b (z ∷ filter p ys) (filter p ys)) ≡ 1
        → cond b (z ∷ filter p ys) (filter p ys) ≡ x ∷ []
    by true is alone one = let rest : filter p ys ≡ [] =
        nothing_there (filter p ys) (omega arith) in rw (rest, h.0 is) refl
    by false is alone one = alone one

filter_turned : {X : Type 0} (p : X → Bool) (xs ys : List X) → IsPermutation xs ys → length (filter p xs) ≤ 1
    → filter p ys ≡ filter p xs
filter_turned {X} p xs ys same few = by (filter p xs) refl few
  where
    long : length (filter p ys) ≡ length (filter p xs)
    long = length-filter p ys ∙ sum_by-IsPermutation (λ x. cond (p x) 1 0) xs ys same ∙ sym (length-filter p xs)

    by : (kept : List X) → filter p xs ≡ kept → length kept ≤ 1 → filter p ys ≡ kept
    by [] is few = nothing_there (filter p ys) (long ∙ ap length is)
    by (x ∷ []) is few =
        let Same : X → Type 0 = λ y. p y ≡ true → y ≡ x in
        passes_alone p x ys
        (recursion_from_All Same ys
        (All-permutation Same xs ys same (All-from_recursion Same xs (one_passes p x xs is)))) (long ∙ ap length is)
    by (x ∷ next ∷ others) is few = absurd (omega arith)

-- ---- the last reading

last_kept : (trip : ℕ) (day : ℤ) (given : List DatedReading)
    → map (λ one. one.reading) (filter (is_of trip day) (last_of_each given))
    ≡ option_to_list (last_reading trip day given)
last_kept trip day [] = refl
last_kept trip day (one ∷ others) =
    by (is_of trip day one) refl (is_some (last_reading one.trip.0 one.day others)) refl (last_kept trip day others)
  where
    alone : (found : Option JourneyReading) → is_some found ≡ false
        → map (λ (one : DatedReading). one.reading) (filter (is_of trip day) (last_of_each others))
        ≡ option_to_list found
        → one.reading ∷ map (λ (one : DatedReading). one.reading) (filter (is_of trip day) (last_of_each others))
        ≡ option_to_list (option_or found (Some one.reading))
    alone None e h = ap (λ (rest : List JourneyReading). one.reading ∷ rest) h
    alone (Some last) e h = absurd (false≢true (sym e))

    passed : (found : Option JourneyReading) → is_some found ≡ true
        → map (λ (one : DatedReading). one.reading) (filter (is_of trip day) (last_of_each others))
        ≡ option_to_list found
        → map (λ (one : DatedReading). one.reading) (filter (is_of trip day) (last_of_each others))
        ≡ option_to_list (option_or found (Some one.reading))
    passed None e h = absurd (false≢true e)
    passed (Some last) e h = h

    by : (own : Bool) → is_of trip day one ≡ own → (seen : Bool)
        → is_some (last_reading one.trip.0 one.day others) ≡ seen
        → map (λ (one : DatedReading). one.reading) (filter (is_of trip day) (last_of_each others))
        ≡ option_to_list (last_reading trip day others)
        → map (λ (one : DatedReading). one.reading)
        (filter (is_of trip day) (if is_last one others then one ∷ last_of_each others else last_of_each others))
        ≡ option_to_list
        (option_or (last_reading trip day others) (if is_of trip day one then Some one.reading else None))
    by true e true seen h =
        rw (e, seen) (passed (last_reading trip day others)
        (ap (λ (found : Option JourneyReading). is_some found) (same-after trip day one others e) ∙ seen) h)
    by true e false new h =
        rw (e, new, e) (alone (last_reading trip day others)
        (ap (λ (found : Option JourneyReading). is_some found) (same-after trip day one others e) ∙ new) h)
    by false e true seen h = rw (e, seen, or_none (last_reading trip day others)) h
    by false e false new h = rw (e, new, e, or_none (last_reading trip day others)) h

at_most_one : {X : Type 0} (found : Option X) → length (option_to_list found) ≤ 1
at_most_one None = omega arith
at_most_one (Some x) = omega arith

length-map : (all : List DatedReading) → length (map (λ one. one.reading) all) ≡ length all
length-map [] = refl
length-map (one ∷ all) = omega (arith, length-map all)

pub last_there : (trip : ℕ) (day : ℤ) (given journeys : List DatedReading) → IsPermutation (last_of_each given) journeys
    → map (λ one. one.reading) (filter (is_of trip day) journeys) ≡ option_to_list (last_reading trip day given)
last_there trip day given journeys same =
    let kept = last_kept trip day given in
    let few : length (filter (is_of trip day) (last_of_each given)) ≤ 1 =
    omega (
      arith,
      length-map (filter (is_of trip day) (last_of_each given)),
      ap length kept,
      at_most_one (last_reading trip day given),
    ) in
    ap (map (λ (one : DatedReading). one.reading))
    (filter_turned (is_of trip day) (last_of_each given) journeys same few) ∙ kept

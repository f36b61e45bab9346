-- What selectors name, kind by kind: how many they are, and that the timetable has them.
use Rattle.std.proofs.Common.{◌≡◌, ◌∙◌, ℕ, ◌+◌, ◌≤◌, ◌<◌, List, [], ◌∷◌, ◌++◌, length, Option, Some, None, refl, ap, subst, append_assoc, arith}
use Rattle.std.specs.List.{AllByRecursion, cons_option, filter, position}
use Rattle.std.specs.Prelude.{◌==◌, Bool, true, false, cond, option_map, option_and_then, ℤ}
use Rattle.std.specs.Str.{bytes_eq}
use Rattle.std.proofs.lemmas.Bool.Decides.{nat_tests}
use Rattle.std.proofs.lemmas.List.{append-nil}
use Rattle.std.proofs.lemmas.List.Elements.{All-filter, All-from_recursion, filter-append}
use Rattle.std.proofs.lemmas.List.Quantifiers.{position-Some}
use Rattle.gw_base.specs.declared.messages.Selector.{Selector}
use Rattle.gw_base.specs.declared.messages.TripDescriptor.{TripDescriptor}
use Rattle.service_day.specs.DayTexts.{day_of}
use Rattle.service_day.specs.declared.days.DayForm.TheVariants.{Compact}
use Rattle.timetable.specs.Table.{Table}
use Rattle.alert_map.specs.Known.{IsKnown}
use Rattle.journey_model.specs.Names.{filled_text, journey_named, route_named, stop_named}
use Rattle.journey_model.specs.declared.situation.Ref.{Ref}
use Rattle.journey_model.specs.declared.situation.Ref.TheVariants.{Route, Stop, Journey}
use Rattle.reverse_alerts.specs.Kept.{all_named, is_journey, is_route, is_stop, journey_dated, described_journey, named, one_named}
use Rattle.reverse_alerts.specs.Naming.{AreKnown, count_of, refs_of, with_named}
use Rattle.reverse_alerts.specs.Progress.{none_named}
use Rattle.reverse_alerts.specs.Taken.{affects_fault}
use Rattle.reverse_alerts.specs.declared.selectors.NamedRefs.{NamedRefs}
use Rattle.reverse_alerts.proofs.Grouped.{count-kinds, journey-no-route, journey-no-stop, route-no-journey, route-no-stop, stop-no-journey, stop-no-route}

-- ---- found one by one

-- what was found, and after it the others by kind
abbrev pub joined : NamedRefs → List Ref → NamedRefs
joined found others = record {
  routes = found.routes ++ filter is_route others;
  stops = found.stops ++ filter is_stop others;
  journeys = found.journeys ++ filter is_journey others;
}

-- one more that is found is one more in front of the others
pub one_joined : (found : NamedRefs) (one : Option Ref) (others : List Ref) → joined (with_named one found) others ≡ joined found (cons_option one others)
one_joined found None others = refl
one_joined found (Some (Route route)) others = simp append_assoc
one_joined found (Some (Stop stop)) others = simp append_assoc
one_joined found (Some (Journey trip day)) others = simp append_assoc

-- nothing is left
pub joined_none : (found : NamedRefs) → joined found [] ≡ found
joined_none found = simp append-nil

-- ---- how many

pub count_is : (found : NamedRefs) (all : List Ref) → found ≡ refs_of all → count_of found ≡ length all
count_is found all is = rw is (count-kinds all)

few : (table : Table) (selectors : List Selector) → length (all_named table selectors) ≤ length selectors
few table [] = omega arith
few table (one ∷ others) = by (named table one) (few table others)
  where
    by : (o : Option Ref) → length (all_named table others) ≤ length others → length (cons_option o (all_named table others)) ≤ length (one ∷ others)
    by None rest = omega (arith, rest)
    by (Some ref) rest = omega (arith, rest)

pub few_named : (table : Table) (selectors : List Selector) (found : NamedRefs) → found ≡ refs_of (all_named table selectors)
    → count_of found ≤ length selectors
few_named table selectors found is = omega (arith, count_is found (all_named table selectors) is, few table selectors)

-- nothing is named where none is
pub none_is : (all : List Ref) → none_named (length all) ≡ affects_fault all
none_is [] = refl
none_is (one ∷ others) =
    let some : (length (one ∷ others) == 0) ≡ false = grind (arith, nat_tests) in
    rw some refl

-- ---- the timetable has them

found_in : (ids : List (List ℕ)) (id : List ℕ) (of : ℕ → Ref) (P : Ref → Type 0) (ref : Ref)
    → ((n : ℕ) → n < length ids → P (of n)) → option_map of (position (bytes_eq id) ids) ≡ Some ref → P ref
found_in ids id of P ref holds h = by (position (bytes_eq id) ids) refl h
  where
    by : (p : Option ℕ) → position (bytes_eq id) ids ≡ p → option_map of p ≡ Some ref → P ref
    by None e h = absurd (cc)
    by (Some n) e h = let same : of n ≡ ref = cc in subst P same (holds n (position-Some (bytes_eq id) ids n [] e).0)

route_known : (table : Table) (id : List ℕ) (ref : Ref) → route_named table id ≡ Some ref → IsKnown table ref
route_known table id ref h = found_in table.routes id (λ n. Route (record { 0 = n })) (IsKnown table) ref (λ n within. within) h

stop_known : (table : Table) (id : List ℕ) (ref : Ref) → stop_named table id ≡ Some ref → IsKnown table ref
stop_known table id ref h = found_in table.stops id (λ n. Stop (record { 0 = n })) (IsKnown table) ref (λ n within. within) h

trip_known : (table : Table) (id : List ℕ) (day : ℤ) (ref : Ref) → journey_named table id day ≡ Some ref → IsKnown table ref
trip_known table id day ref h = found_in table.trips id (λ n. Journey (record { 0 = n }) day) (IsKnown table) ref (λ n within. within) h

dated_known : (table : Table) (id date : List ℕ) (ref : Ref) → journey_dated table id date ≡ Some ref → IsKnown table ref
dated_known table id date ref h = by (day_of Compact date) h
  where
    by : (day : Option ℤ) → option_and_then (journey_named table id) day ≡ Some ref → IsKnown table ref
    by None h = absurd (cc)
    by (Some day) h = trip_known table id day ref h

journey_known : (table : Table) (trip : TripDescriptor) (ref : Ref) → described_journey table trip ≡ Some ref → IsKnown table ref
journey_known table trip ref h = by (filled_text trip.trip_id) (filled_text trip.start_date) h
  where
    by : (id date : Option (List ℕ)) → option_and_then (λ id. option_and_then (journey_dated table id) date) id ≡ Some ref → IsKnown table ref
    by None date h = absurd (cc)
    by (Some id) None h = absurd (cc)
    by (Some id) (Some date) h = dated_known table id date ref h

one_known : (table : Table) (route : Option (List ℕ)) (trip : Option TripDescriptor) (stop : Option (List ℕ)) (ref : Ref)
    → one_named table route trip stop ≡ Some ref → IsKnown table ref
one_known table None None None ref h = absurd (cc)
one_known table (Some route) None None ref h = route_known table route ref h
one_known table None (Some trip) None ref h = journey_known table trip ref h
one_known table None None (Some stop) ref h = stop_known table stop ref h
one_known table (Some route) (Some trip) None ref h = absurd (cc)
one_known table (Some route) None (Some stop) ref h = absurd (cc)
one_known table None (Some trip) (Some stop) ref h = absurd (cc)
one_known table (Some route) (Some trip) (Some stop) ref h = absurd (cc)

in_front : {P : Ref → Type 0} (one : Option Ref) (others : List Ref) → ((ref : Ref) → one ≡ Some ref → P ref) → AllByRecursion P others
    → AllByRecursion P (cons_option one others)
in_front None others first rest = rest
in_front (Some ref) others first rest = (first ref refl, rest)

each_known : (table : Table) (selectors : List Selector) → AllByRecursion (IsKnown table) (all_named table selectors)
each_known table [] = tt
each_known table (one ∷ others) =
    in_front {P = IsKnown table} (named table one) (all_named table others)
    (λ ref h. one_known table (filled_text one.route_id) one.trip (filled_text one.stop_id) ref h) (each_known table others)

-- all that selectors name is there
pub all_known : (table : Table) (selectors : List Selector) (found : NamedRefs) → found ≡ refs_of (all_named table selectors) → AreKnown table found
all_known table selectors found is =
    let all = All-from_recursion (IsKnown table) (all_named table selectors) (each_known table selectors) in
    rw is (
      All-filter is_route (IsKnown table) (all_named table selectors) all,
      (All-filter is_stop (IsKnown table) (all_named table selectors) all, All-filter is_journey (IsKnown table) (all_named table selectors) all),
    )

-- ---- by kind, and by kind again

-- of elements that pass one test and never another
within : (p q : Ref → Bool) → ((one : Ref) → q one ≡ true → p one ≡ true) → (all : List Ref) → filter p (filter q all) ≡ filter q all
within p q same [] = refl
within p q same (one ∷ others) = by (q one) refl (within p q same others)
  where
    by : (b : Bool) → q one ≡ b → filter p (filter q others) ≡ filter q others → filter p (cond b (one ∷ filter q others) (filter q others)) ≡ cond b (one ∷ filter q others) (filter q others)
    by true e rest = rw (same one e) (ap (λ l. one ∷ l) rest)
    by false e rest = rest

apart : (p q : Ref → Bool) → ((one : Ref) → q one ≡ true → p one ≡ false) → (all : List Ref) → filter p (filter q all) ≡ []
apart p q other [] = refl
apart p q other (one ∷ others) = by (q one) refl (apart p q other others)
  where
    by : (b : Bool) → q one ≡ b → filter p (filter q others) ≡ [] → filter p (cond b (one ∷ filter q others) (filter q others)) ≡ []
    by true e rest = rw (other one e) rest
    by false e rest = rest

kinds_again : (p : Ref → Bool) (a b c : List Ref) (a' b' c' : List Ref) → filter p a ≡ a' → filter p b ≡ b' → filter p c ≡ c' → filter p (a ++ b ++ c) ≡ a' ++ b' ++ c'
kinds_again p a b c a' b' c' x y z = rw (filter-append p (a ++ b) c, filter-append p a b, x, y, z) refl

-- of all that is named by kind the lines, the stops and the journeys
pub routes_again : (all : List Ref) → filter is_route (filter is_route all ++ filter is_stop all ++ filter is_journey all) ≡ filter is_route all
routes_again all =
    kinds_again is_route (filter is_route all) (filter is_stop all) (filter is_journey all) (filter is_route all) [] []
    (within is_route is_route (λ one h. h) all) (apart is_route is_stop stop-no-route all) (apart is_route is_journey journey-no-route all)
    ∙ append-nil (filter is_route all ++ []) ∙ append-nil (filter is_route all)

pub stops_again : (all : List Ref) → filter is_stop (filter is_route all ++ filter is_stop all ++ filter is_journey all) ≡ filter is_stop all
stops_again all =
    kinds_again is_stop (filter is_route all) (filter is_stop all) (filter is_journey all) [] (filter is_stop all) []
    (apart is_stop is_route route-no-stop all) (within is_stop is_stop (λ one h. h) all) (apart is_stop is_journey journey-no-stop all)
    ∙ append-nil (filter is_stop all)

pub journeys_again : (all : List Ref) → filter is_journey (filter is_route all ++ filter is_stop all ++ filter is_journey all) ≡ filter is_journey all
journeys_again all =
    kinds_again is_journey (filter is_route all) (filter is_stop all) (filter is_journey all) [] [] (filter is_journey all)
    (apart is_journey is_route route-no-journey all) (apart is_journey is_stop stop-no-journey all) (within is_journey is_journey (λ one h. h) all)

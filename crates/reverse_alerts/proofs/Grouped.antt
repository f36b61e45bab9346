-- References by their kinds: routes, then stops, then journeys.
use Rattle.std.proofs.Common.{◌≡◌, ◌+◌, List, [], ◌∷◌, ◌++◌, length, Bool, true, false, cond, filter, length-append, arith, refl, ap, ◌∙◌}
use Rattle.std.specs.List.{list_all}
use Rattle.std.proofs.lemmas.Bool.{and_from, and_parts}
use Rattle.std.proofs.lemmas.List.Elements.{filter-append}
use Rattle.journey_model.specs.declared.situation.Ref.{Ref}
use Rattle.journey_model.specs.declared.situation.Ref.TheVariants.{Route, Stop, Journey}
use Rattle.reverse_alerts.specs.Kept.{is_journey, is_route, is_stop}

-- ---- filters

-- what a filter keeps passes its test, and what passes it is kept
pub all-filter : {A : Type 0} (test : A → Bool) (xs : List A) → list_all test (filter test xs) ≡ true
all-filter test [] = refl
all-filter test (x ∷ xs) = by (test x) refl (all-filter test xs)
  where
    by : (b : Bool) → test x ≡ b → list_all test (filter test xs) ≡ true → list_all test (cond b (x ∷ filter test xs) (filter test xs)) ≡ true
    by true e rest = and_from (test x) _ e rest
    by false e rest = rest

pub filter-all : {A : Type 0} (test : A → Bool) (xs : List A) → list_all test xs ≡ true → filter test xs ≡ xs
filter-all test [] h = refl
filter-all test (x ∷ xs) h =
    let parts = and_parts (test x) (list_all test xs) h in
    ap (λ b. cond b (x ∷ filter test xs) (filter test xs)) parts.0 ∙ ap (λ rest. x ∷ rest) (filter-all test xs parts.1)

-- what passes another test isn't
pub filter-none : {A : Type 0} (test other : A → Bool) (xs : List A) → ((x : A) → other x ≡ true → test x ≡ false) → list_all other xs ≡ true
    → filter test xs ≡ []
filter-none test other [] apart h = refl
filter-none test other (x ∷ xs) apart h =
    let parts = and_parts (other x) (list_all other xs) h in
    ap (λ b. cond b (x ∷ filter test xs) (filter test xs)) (apart x parts.0) ∙ filter-none test other xs apart parts.1

-- ---- a kind is no other

pub stop-no-route : (ref : Ref) → is_stop ref ≡ true → is_route ref ≡ false
stop-no-route (Route route) h = cc
stop-no-route (Stop stop) h = refl
stop-no-route (Journey trip day) h = refl

pub journey-no-route : (ref : Ref) → is_journey ref ≡ true → is_route ref ≡ false
journey-no-route (Route route) h = cc
journey-no-route (Stop stop) h = refl
journey-no-route (Journey trip day) h = refl

pub route-no-stop : (ref : Ref) → is_route ref ≡ true → is_stop ref ≡ false
route-no-stop (Route route) h = refl
route-no-stop (Stop stop) h = cc
route-no-stop (Journey trip day) h = refl

pub journey-no-stop : (ref : Ref) → is_journey ref ≡ true → is_stop ref ≡ false
journey-no-stop (Route route) h = refl
journey-no-stop (Stop stop) h = cc
journey-no-stop (Journey trip day) h = refl

pub route-no-journey : (ref : Ref) → is_route ref ≡ true → is_journey ref ≡ false
route-no-journey (Route route) h = refl
route-no-journey (Stop stop) h = refl
route-no-journey (Journey trip day) h = cc

pub stop-no-journey : (ref : Ref) → is_stop ref ≡ true → is_journey ref ≡ false
stop-no-journey (Route route) h = refl
stop-no-journey (Stop stop) h = refl
stop-no-journey (Journey trip day) h = cc

-- ---- routes, then stops, then journeys

-- lists of each kind
pub record OfKinds (r s j : List Ref) : Type 0 where
  pub routes : list_all is_route r ≡ true
  pub stops : list_all is_stop s ≡ true
  pub journeys : list_all is_journey j ≡ true

filter-parts : (test : Ref → Bool) (a b c : List Ref) → filter test (a ++ b ++ c) ≡ filter test a ++ filter test b ++ filter test c
filter-parts test a b c = filter-append test (a ++ b) c ∙ ap (λ front. front ++ filter test c) (filter-append test a b)

append-none : {A : Type 0} (xs : List A) → xs ++ [] ≡ xs
append-none [] = refl
append-none (x ∷ xs) = ap (λ rest. x ∷ rest) (append-none xs)

three : {A : Type 0} (a b c x y z : List A) → a ≡ x → b ≡ y → c ≡ z → a ++ b ++ c ≡ x ++ y ++ z
three a b c x y z p q r = λ i. p i ++ q i ++ r i

-- each kind of them is its list
pub routes-of : (r s j : List Ref) → OfKinds r s j → filter is_route (r ++ s ++ j) ≡ r
routes-of r s j h =
    filter-parts is_route r s j
    ∙ three (filter is_route r) (filter is_route s) (filter is_route j) r [] [] (filter-all is_route r h.routes)
    (filter-none is_route is_stop s stop-no-route h.stops) (filter-none is_route is_journey j journey-no-route h.journeys)
    ∙ append-none (r ++ [])
    ∙ append-none r

pub stops-of : (r s j : List Ref) → OfKinds r s j → filter is_stop (r ++ s ++ j) ≡ s
stops-of r s j h =
    filter-parts is_stop r s j
    ∙ three (filter is_stop r) (filter is_stop s) (filter is_stop j) [] s [] (filter-none is_stop is_route r route-no-stop h.routes)
    (filter-all is_stop s h.stops) (filter-none is_stop is_journey j journey-no-stop h.journeys)
    ∙ append-none s

pub journeys-of : (r s j : List Ref) → OfKinds r s j → filter is_journey (r ++ s ++ j) ≡ j
journeys-of r s j h =
    filter-parts is_journey r s j
    ∙ three (filter is_journey r) (filter is_journey s) (filter is_journey j) [] [] j (filter-none is_journey is_route r route-no-journey h.routes)
    (filter-none is_journey is_stop s stop-no-journey h.stops) (filter-all is_journey j h.journeys)

-- so they are in the order of kinds
abbrev pub by_kinds : List Ref → List Ref
by_kinds refs = filter is_route refs ++ filter is_stop refs ++ filter is_journey refs

pub kinds-of : (r s j : List Ref) → OfKinds r s j → by_kinds (r ++ s ++ j) ≡ r ++ s ++ j
kinds-of r s j h = three _ _ _ r s j (routes-of r s j h) (stops-of r s j h) (journeys-of r s j h)

-- the kinds of a list
pub of-kinds : (refs : List Ref) → OfKinds (filter is_route refs) (filter is_stop refs) (filter is_journey refs)
of-kinds refs = record {
  routes = all-filter is_route refs;
  stops = all-filter is_stop refs;
  journeys = all-filter is_journey refs;
}

-- each reference is of a kind
pub count-kinds : (refs : List Ref) → length (filter is_route refs) + length (filter is_stop refs) + length (filter is_journey refs) ≡ length refs
count-kinds [] = refl
count-kinds (Route route ∷ refs) = omega (arith, count-kinds refs)
count-kinds (Stop stop ∷ refs) = omega (arith, count-kinds refs)
count-kinds (Journey trip day ∷ refs) = omega (arith, count-kinds refs)

pub length-kinds : (refs : List Ref) → length (by_kinds refs) ≡ length refs
length-kinds refs =
    length-append (filter is_route refs ++ filter is_stop refs) (filter is_journey refs)
    ∙ ap (λ n. n + length (filter is_journey refs)) (length-append (filter is_route refs) (filter is_stop refs))
    ∙ count-kinds refs

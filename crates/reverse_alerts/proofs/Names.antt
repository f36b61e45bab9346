-- What a selector names is there, and the selector of what is there names it again.
use Rattle.std.proofs.Common.{◌≡◌, ℕ, ◌<◌, List, [], ◌∷◌, length, map, Bool, true, false, cond, nat_lt, bytes_eq, position, option_map, option_and_then, Option, Some, None, refl, ap, subst, ◌∙◌, ℤ, arith, ltb-true}
use Rattle.std.specs.List.{AllByRecursion, cons_option, position_or_len}
use Rattle.gw_base.specs.declared.messages.Selector.{Selector}
use Rattle.gw_base.specs.declared.messages.TripDescriptor.{TripDescriptor}
use Rattle.service_day.specs.Days.{IsDay}
use Rattle.service_day.specs.DayTexts.{compact_text, day_of}
use Rattle.service_day.specs.declared.days.DayForm.TheVariants.{Compact}
use Rattle.service_day.proofs.DayTextLemmas.{compact_day-compact_text, length-compact_text}
use Rattle.timetable.specs.Ids.{are_ids}
use Rattle.timetable.specs.Sound.{IsSound}
use Rattle.timetable.specs.Table.{Table}
use Rattle.journey_model.specs.Ids.{id_of}
use Rattle.journey_model.specs.Names.{filled_text, journey_named, route_named, stop_named}
use Rattle.journey_model.specs.declared.situation.Ref.{Ref}
use Rattle.journey_model.specs.declared.situation.Ref.TheVariants.{Route, Stop, Journey}
use Rattle.alert_map.specs.Alerts.{selector_of}
use Rattle.journey_model.proofs.IdLemmas.{id-at, position-id, some-id}
use Rattle.reverse_alerts.specs.Kept.{all_named, journey_dated, described_journey, named, one_named}
use Rattle.reverse_alerts.proofs.DayRange.{IsDay-day_of}
use Rattle.reverse_alerts.proofs.Sayable.{CanSay}

-- ---- the selector of what is there names it

pub position-id_of : (ids : List (List ℕ)) (place : ℕ) → are_ids ids ≡ true → place < length ids → position (bytes_eq (id_of ids place)) ids ≡ Some place
position-id_of ids place h less = position-id ids place h less

pub some-id_of : (ids : List (List ℕ)) (place : ℕ) → are_ids ids ≡ true → place < length ids → 0 < length (id_of ids place)
some-id_of ids place h less = some-id (id_of ids place) (id-at ids place h less)

pub filled_text-some : (text : List ℕ) → 0 < length text → filled_text (Some text) ≡ Some text
filled_text-some [] h = absurd (omega arith)
filled_text-some (byte ∷ bytes) h = refl

-- the trip on a day
dated-again : (table : Table) (trip : ℕ) (day : ℤ) → are_ids table.trips ≡ true → trip < length table.trips → IsDay day
    → journey_dated table (id_of table.trips trip) (compact_text day) ≡ Some (Journey (record { 0 = trip }) day)
dated-again table trip day ids less on =
    ap (option_and_then (journey_named table (id_of table.trips trip))) (compact_day-compact_text day on)
    ∙ ap (option_map (λ n. Journey (record { 0 = n }) day)) (position-id_of table.trips trip ids less)

journey-again : (table : Table) (id date : List ℕ) (ref : Ref) → filled_text (Some id) ≡ Some id → filled_text (Some date) ≡ Some date
    → journey_dated table id date ≡ Some ref
    → option_and_then (λ id. option_and_then (journey_dated table id) (filled_text (Some date))) (filled_text (Some id)) ≡ Some ref
journey-again table id date ref some some_date found =
    ap (option_and_then (λ id. option_and_then (journey_dated table id) (filled_text (Some date)))) some
    ∙ ap (option_and_then (journey_dated table id)) some_date
    ∙ found

pub named-again : (table : Table) (ref : Ref) → IsSound table → CanSay table ref → named table (selector_of table ref) ≡ Some ref
named-again table (Route route) sound less =
    ap (λ id. one_named table id None None) (filled_text-some (id_of table.routes route.0) (some-id_of table.routes route.0 sound.routes less))
    ∙ ap (option_map (λ n. Route (record { 0 = n }))) (position-id_of table.routes route.0 sound.routes less)
named-again table (Stop stop) sound less =
    ap (λ id. one_named table None None id) (filled_text-some (id_of table.stops stop.0) (some-id_of table.stops stop.0 sound.stops less))
    ∙ ap (option_map (λ n. Stop (record { 0 = n }))) (position-id_of table.stops stop.0 sound.stops less)
named-again table (Journey trip day) sound h =
    let date : 0 < length (compact_text day) = omega (arith, length-compact_text day) in
    journey-again table (id_of table.trips trip.0) (compact_text day) (Journey trip day)
    (filled_text-some (id_of table.trips trip.0) (some-id_of table.trips trip.0 sound.trips h.0))
    (filled_text-some (compact_text day) date) (dated-again table trip.0 day sound.trips h.0 h.1)

-- and so it is for all
pub all-named-again : (table : Table) (refs : List Ref) → IsSound table → AllByRecursion (CanSay table) refs → all_named table (map (selector_of table) refs) ≡ refs
all-named-again table [] sound h = refl
all-named-again table (ref ∷ refs) sound h =
    ap (λ one. cons_option one (all_named table (map (selector_of table) refs))) (named-again table ref sound h.0)
    ∙ ap (λ rest. ref ∷ rest) (all-named-again table refs sound h.1)

-- ---- what a selector names is there

pub position-within : (id : List ℕ) (ids : List (List ℕ)) (place : ℕ) → position (bytes_eq id) ids ≡ Some place → place < length ids
position-within id ids place e = by (nat_lt (position_or_len (bytes_eq id) ids) (length ids)) refl e
  where
    by : (b : Bool) → nat_lt (position_or_len (bytes_eq id) ids) (length ids) ≡ b
        → cond b (Some (position_or_len (bytes_eq id) ids)) None ≡ Some place → place < length ids
    by true less e =
        let same : position_or_len (bytes_eq id) ids ≡ place = cc in
        subst (λ n. n < length ids) same (ltb-true _ _ less)
    by false less e = cc

-- what is said of a value that was made of another
made : {A B : Type 0} (f : A → B) (P : B → Type 0) (from : Option A) (b : B) → option_map f from ≡ Some b → ((a : A) → from ≡ Some a → P (f a)) → P b
made f P None b e each = cc
made f P (Some a) b e each = let same : f a ≡ b = cc in subst P same (each a refl)

going : {A B : Type 0} (f : A → Option B) (P : B → Type 0) (from : Option A) (b : B) → option_and_then f from ≡ Some b
    → ((a : A) → from ≡ Some a → f a ≡ Some b → P b) → P b
going f P None b e each = cc
going f P (Some a) b e each = each a refl e

can-say-route : (table : Table) (id : List ℕ) (ref : Ref) → route_named table id ≡ Some ref → CanSay table ref
can-say-route table id ref e = made (λ n. Route (record { 0 = n })) (CanSay table) (position (bytes_eq id) table.routes) ref e (position-within id table.routes)

can-say-stop : (table : Table) (id : List ℕ) (ref : Ref) → stop_named table id ≡ Some ref → CanSay table ref
can-say-stop table id ref e = made (λ n. Stop (record { 0 = n })) (CanSay table) (position (bytes_eq id) table.stops) ref e (position-within id table.stops)

can-say-journey : (table : Table) (trip : TripDescriptor) (ref : Ref) → described_journey table trip ≡ Some ref → CanSay table ref
can-say-journey table trip ref e =
    going (λ id. option_and_then (journey_dated table id) (filled_text trip.start_date)) (CanSay table) (filled_text trip.trip_id) ref e (λ id of_trip with_id.
    going (journey_dated table id) (CanSay table) (filled_text trip.start_date) ref with_id (λ date of_date dated.
    going (journey_named table id) (CanSay table) (day_of Compact date) ref dated (λ day is on.
    made (λ n. Journey (record { 0 = n }) day) (CanSay table) (position (bytes_eq id) table.trips) ref on
    (λ place here. (position-within id table.trips place here, IsDay-day_of Compact date day is)))))

one-named : (table : Table) (route : Option (List ℕ)) (trip : Option TripDescriptor) (stop : Option (List ℕ)) (ref : Ref)
    → one_named table route trip stop ≡ Some ref → CanSay table ref
one-named table None None None ref e = cc
one-named table (Some route) None None ref e = can-say-route table route ref e
one-named table None (Some trip) None ref e = can-say-journey table trip ref e
one-named table None None (Some stop) ref e = can-say-stop table stop ref e
one-named table (Some route) (Some trip) None ref e = cc
one-named table (Some route) None (Some stop) ref e = cc
one-named table None (Some trip) (Some stop) ref e = cc
one-named table (Some route) (Some trip) (Some stop) ref e = cc

pub can-say-named : (table : Table) (selectors : List Selector) → AllByRecursion (CanSay table) (all_named table selectors)
can-say-named table [] = tt
can-say-named table (one ∷ others) = by (named table one) refl (can-say-named table others)
  where
    by : (ref : Option Ref) → named table one ≡ ref → AllByRecursion (CanSay table) (all_named table others)
        → AllByRecursion (CanSay table) (cons_option ref (all_named table others))
    by None e rest = rest
    by (Some ref) e rest = (one-named table (filled_text one.route_id) one.trip (filled_text one.stop_id) ref e, rest)

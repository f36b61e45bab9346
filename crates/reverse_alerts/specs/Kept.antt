-- What a selector of an alert names that a situation can say (GTFS Realtime reference, EntitySelector): just one of a
-- route, a stop and a trip on a day, which the timetable has. An agency beside it isn't looked at.
use Rattle.std.specs.Prelude.{ℕ, Bool, true, false, List, length, ◌-◌, Option, Some, None, option_and_then}
use Rattle.std.specs.List.{filter_map}
use Rattle.gw_base.specs.declared.messages.Selector.{Selector}
use Rattle.gw_base.specs.declared.messages.TripDescriptor.{TripDescriptor}
use Rattle.service_day.specs.DayTexts.{day_of}
use Rattle.service_day.specs.declared.days.DayForm.TheVariants.{Compact}
use Rattle.timetable.specs.Table.{Table}
use Rattle.journey_model.specs.Names.{filled_text, journey_named, route_named, stop_named}
use Rattle.journey_model.specs.declared.situation.Ref.{Ref}
use Rattle.journey_model.specs.declared.situation.Ref.TheVariants.{Route, Stop, Journey}

-- the trip of a descriptor, with its trip_id and its start_date as `YYYYMMDD`; an empty text counts as missing
abbrev pub journey_dated : Table → List ℕ → List ℕ → Option Ref
journey_dated table id date = option_and_then (journey_named table id) (day_of Compact date)

abbrev pub described_journey : Table → TripDescriptor → Option Ref
described_journey table trip =
    option_and_then (λ id. option_and_then (journey_dated table id) (filled_text trip.start_date))
    (filled_text trip.trip_id)

-- of a route, a trip and a stop just one has to be there
abbrev pub one_named : Table → Option (List ℕ) → Option TripDescriptor → Option (List ℕ) → Option Ref
one_named table None None None = None
one_named table (Some route) None None = route_named table route
one_named table None (Some trip) None = described_journey table trip
one_named table None None (Some stop) = stop_named table stop
one_named table (Some route) (Some trip) None = None
one_named table (Some route) None (Some stop) = None
one_named table None (Some trip) (Some stop) = None
one_named table (Some route) (Some trip) (Some stop) = None

-- what a selector names, where it is kept
abbrev pub named : Table → Selector → Option Ref
named table one = one_named table (filled_text one.route_id) one.trip (filled_text one.stop_id)

-- what selectors name, in their order, and how many of them are passed over
abbrev pub all_named : Table → List Selector → List Ref
all_named table selectors = filter_map (named table) selectors

abbrev pub selectors_passed : Table → List Selector → ℕ
selectors_passed table selectors = length selectors - length (all_named table selectors)

-- the kinds
abbrev pub is_route : Ref → Bool
is_route (Route route) = true
is_route (Stop stop) = false
is_route (Journey trip day) = false

abbrev pub is_stop : Ref → Bool
is_stop (Route route) = false
is_stop (Stop stop) = true
is_stop (Journey trip day) = false

abbrev pub is_journey : Ref → Bool
is_journey (Route route) = false
is_journey (Stop stop) = false
is_journey (Journey trip day) = true

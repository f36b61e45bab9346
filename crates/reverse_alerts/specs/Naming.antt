-- What only private functions cite: what selectors name, by kind.
use Rattle.std.specs.Prelude.{◌+◌, ℕ, List, length, [], ◌∷◌, ◌++◌, Option, Some, None}
use Rattle.std.specs.List.{filter}
use Rattle.alert_map.specs.Known.{IsEachKnown}
use Rattle.timetable.specs.Table.{Table}
use Rattle.journey_model.specs.declared.situation.Ref.{Ref}
use Rattle.reverse_alerts.specs.Kept.{is_journey, is_route, is_stop}
use Rattle.reverse_alerts.specs.declared.selectors.NamedRefs.{NamedRefs}

-- what is named, by kind
abbrev pub refs_of : List Ref → NamedRefs
refs_of all = record { routes = filter is_route all; stops = filter is_stop all; journeys = filter is_journey all }

-- one more after those of its kind
abbrev pub with_ref : NamedRefs → Ref → NamedRefs
with_ref found one = record {
  routes = found.routes ++ filter is_route (one ∷ []);
  stops = found.stops ++ filter is_stop (one ∷ []);
  journeys = found.journeys ++ filter is_journey (one ∷ []);
}

-- and where a selector names none, none
abbrev pub with_named : Option Ref → NamedRefs → NamedRefs
with_named None found = found
with_named (Some one) found = with_ref found one

-- the timetable has all that is named
abbrev pub AreKnown : Table → NamedRefs → Type 0
AreKnown table found =
    IsEachKnown table found.routes × (IsEachKnown table found.stops × IsEachKnown table found.journeys)

-- how many are named
abbrev pub count_of : NamedRefs → ℕ
count_of found = length found.routes + length found.stops + length found.journeys

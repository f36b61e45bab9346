-- What only private functions cite: each thing that a situation refers to is there.
use Rattle.std.specs.Prelude.{◌<◌, List, All, length}
use Rattle.timetable.specs.Table.{Table}
use Rattle.journey_model.specs.declared.situation.Ref.{Ref}
use Rattle.journey_model.specs.declared.situation.Ref.TheVariants.{Route, Stop, Journey}

-- the timetable has the route, the stop or the trip of that number
abbrev pub IsKnown : Table → Ref → Type 0
IsKnown table (Route route) = route.0 < length table.routes
IsKnown table (Stop stop) = stop.0 < length table.stops
IsKnown table (Journey trip day) = trip.0 < length table.trips

abbrev pub IsEachKnown : Table → List Ref → Type 0
IsEachKnown table refs = All (IsKnown table) refs

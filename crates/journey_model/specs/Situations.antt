-- What situations refer to.
use Rattle.std.specs.Prelude.{Bool, List, length, nat_lt, IsTrue}
use Rattle.std.specs.List.{list_all}
use Rattle.timetable.specs.Table.{Table}
use Rattle.journey_model.specs.declared.situation.Ref.{Ref}
use Rattle.journey_model.specs.declared.situation.Ref.TheVariants.{Route, Stop, Journey}

-- what a situation affects is there: the numbers are of routes, stops and trips of the timetable
abbrev pub is_known : Table → Ref → Bool
is_known table (Route route) = nat_lt route.0 (length table.routes)
is_known table (Stop stop) = nat_lt stop.0 (length table.stops)
is_known table (Journey trip day) = nat_lt trip.0 (length table.trips)

abbrev pub AreKnown : Table → List Ref → Type 0
AreKnown table refs = IsTrue (list_all (is_known table) refs)

-- What a clause sees of a timetable.
use Rattle.std.specs.Prelude.{ℕ, ℤ, Bool, List}
use Rattle.timetable.specs.declared.stop_row.StopRow.{StopRow}

-- the ids of the trips that are carried, of the stops and of the routes, in the order of their files, by which they are
-- numbered from 0; of a trip by its number its route's id, its stops, and the days on which it runs; and of a stop by
-- its number that of its station, which is its parent's, or its own where it has none
pub record Table : Type 0 where
  pub trips : List (List ℕ)
  pub stops : List (List ℕ)
  pub routes : List (List ℕ)
  pub route_of : ℕ → List ℕ
  pub stops_of : ℕ → List StopRow
  pub runs : ℕ → ℤ → Bool
  pub station_of : ℕ → ℕ

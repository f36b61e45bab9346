-- The stops of a trip among themselves (GTFS Schedule reference, stop_times.txt).
use Rattle.std.specs.Prelude.{◌&&◌, ℕ, Bool, true, nat_le, nat_lt, List, [], ◌∷◌, length}
use Rattle.std.specs.List.{list_all}
use Rattle.timetable.specs.Limits.{stop_limit, time_limit}
use Rattle.timetable.specs.declared.stop_row.StopRow.{StopRow}

-- each stop has a greater sequence than those before it
abbrev pub are_rising : List StopRow → Bool
are_rising [] = true
are_rising (row ∷ rows) = list_all (λ other. nat_lt row.sequence other.sequence) rows && are_rising rows

-- the numbers of the stops are of this many stops
abbrev pub are_known : ℕ → List StopRow → Bool
are_known stops rows = list_all (λ row. nat_lt row.stop.0 stops) rows

-- the times of a stop are at most 99:59:59 from the start of the service day
abbrev pub is_timed : StopRow → Bool
is_timed row = nat_le row.arrival time_limit && nat_le row.departure time_limit

abbrev pub are_timed : List StopRow → Bool
are_timed rows = list_all is_timed rows

-- they are no more than a trip has, rise in sequence, are of this many stops, and have such times
abbrev pub are_stops_of : ℕ → List StopRow → Bool
are_stops_of stops rows =
    nat_le (length rows) stop_limit && (are_rising rows && (are_known stops rows && are_timed rows))

-- The stations of stops (GTFS Schedule reference, stops.txt).
use Rattle.std.specs.Prelude.{◌==◌, ◌+◌, ℕ, Bool, not, List, [], ◌∷◌, length, position, unwrap_or, Option, Some, None, if◌then◌else◌}
use Rattle.std.specs.Str.{bytes_eq}
use Rattle.stop_schedule.specs.Places.{stops_parent_station}
use Rattle.stop_schedule.specs.Sheet.{Row, nth}

-- the row of a stop names a parent
abbrev pub has_parent : Row → Bool
has_parent row = not (length (nth stops_parent_station row) == 0)

-- the number of a stop's station by its row and its own number, where these are the ids of the stops: that of its
-- parent, or its own where it has none; whether the parent has one too doesn't matter
abbrev pub station_in : List (List ℕ) → Option Row → ℕ → ℕ
station_in stops None stop = stop
station_in stops (Some row) stop =
    if has_parent row then unwrap_or (position (bytes_eq (nth stops_parent_station row)) stops) stop else stop

-- those of all rows, of which the first is a stop of that number
abbrev pub stations_from : List (List ℕ) → ℕ → List Row → List ℕ
stations_from stops number [] = []
stations_from stops number (row ∷ rows) = station_in stops (Some row) number ∷ stations_from stops (number + 1) rows

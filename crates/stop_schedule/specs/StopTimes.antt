-- The stops of a trip (GTFS Schedule reference, stop_times.txt).
use Rattle.std.specs.Prelude.{◌+◌, ◌-◌, ◌*◌, ◌/◌, ℕ, Bool, nat_lt, min, List, [], ◌∷◌, map, filter, take, drop, reverse, length, slice_get, position, unwrap_or, Option, Some, None, if◌then◌else◌}
use Rattle.std.specs.List.{enumerate_from}
use Rattle.std.specs.Str.{bytes_eq}
use Rattle.stop_schedule.specs.Forms.{seconds, sequence}
use Rattle.stop_schedule.specs.Places.{stop_times_trip_id as trip_id, stop_times_stop_sequence as stop_sequence, stop_times_stop_id as stop_id, stop_times_arrival_time as arrival_time, stop_times_departure_time as departure_time}
use Rattle.stop_schedule.specs.Sheet.{Row, nth}
use Rattle.stop_schedule.specs.declared.stop_times.LoadedStop.{LoadedStop}
use Rattle.timetable.specs.declared.stop_row.StopRow.{StopRow}

-- the place of a row in its trip
abbrev pub sequence_of : Row → ℕ
sequence_of row = unwrap_or (sequence (nth stop_sequence row)) 0

-- one time stands for both
abbrev pub both_times : Option ℕ → Option ℕ → Option (ℕ × ℕ)
both_times (Some arrival) (Some departure) = Some (arrival, departure)
both_times (Some arrival) None = Some (arrival, arrival)
both_times None (Some departure) = Some (departure, departure)
both_times None None = None

-- the times of a row, if it has any
abbrev pub times : Row → Option (ℕ × ℕ)
times row = both_times (seconds (nth arrival_time row)) (seconds (nth departure_time row))

-- the number of the stop of a row
abbrev pub stop_of : List (List ℕ) → Row → ℕ
stop_of stops row = unwrap_or (position (bytes_eq (nth stop_id row)) stops) 0

-- a stop by its row and the row's number
abbrev pub loaded : List (List ℕ) → ℕ × Row → LoadedStop
loaded stops numbered = record {
  row = numbered.0;
  sequence = sequence_of numbered.1;
  stop = record { 0 = stop_of stops numbered.1 };
  times = times numbered.1;
}

-- a stop among others, before the first of a greater sequence
abbrev pub placed : LoadedStop → List LoadedStop → List LoadedStop
placed stop [] = stop ∷ []
placed stop (first ∷ others) =
    if nat_lt stop.sequence first.sequence then stop ∷ first ∷ others else first ∷ placed stop others

-- stops in rising sequence
abbrev pub in_sequence : List LoadedStop → List LoadedStop
in_sequence [] = []
in_sequence (stop ∷ stops) = placed stop (in_sequence stops)

-- the rows of a trip among numbered rows
abbrev pub is_of_trip : List ℕ → ℕ × Row → Bool
is_of_trip trip numbered = bytes_eq trip (nth trip_id numbered.1)

-- the stops of a trip by all rows of stop_times.txt, numbered from 1: its rows in rising sequence
abbrev pub stops_in : List (List ℕ) → List Row → List ℕ → List LoadedStop
stops_in stops rows trip = in_sequence (map (loaded stops) (filter (is_of_trip trip) (enumerate_from 1 rows)))

-- the nearest stop with times from the front on: how many stops stand before it, and its times
abbrev pub one_further : Option (ℕ × (ℕ × ℕ)) → Option (ℕ × (ℕ × ℕ))
one_further None = None
one_further (Some found) = Some (found.0 + 1, found.1)

abbrev pub or_further : Option (ℕ × ℕ) → Option (ℕ × (ℕ × ℕ)) → Option (ℕ × (ℕ × ℕ))
or_further (Some times) later = Some (0, times)
or_further None later = one_further later

abbrev pub nearest : List LoadedStop → Option (ℕ × (ℕ × ℕ))
nearest [] = None
nearest (stop ∷ stops) = or_further stop.times (nearest stops)

-- the time between the departure of the nearest stop before and the arrival of the nearest one after, by the places
abbrev pub time_between : Option (ℕ × (ℕ × ℕ)) → Option (ℕ × (ℕ × ℕ)) → ℕ
time_between None after = 0
time_between (Some before) None = 0
time_between (Some before) (Some after) =
    before.1.1 + (after.1.0 - before.1.1) * (before.0 + 1) / (before.0 + after.0 + 2)

-- the times of a stop at a place of its trip
abbrev pub times_or : Option (ℕ × ℕ) → ℕ → ℕ × ℕ
times_or (Some times) between = times
times_or None between = (between, between)

abbrev pub times_at : List LoadedStop → ℕ → LoadedStop → ℕ × ℕ
times_at stops place stop =
    times_or stop.times (time_between (nearest (reverse (take place stops))) (nearest (drop (place + 1) stops)))

abbrev pub stop_row : List LoadedStop → ℕ → LoadedStop → StopRow
stop_row stops place stop = record {
  sequence = stop.sequence;
  stop = stop.stop;
  arrival = (times_at stops place stop).0;
  departure = (times_at stops place stop).1;
}

-- the stops of a trip with their times, from a place on
abbrev pub filled_from : List LoadedStop → ℕ → List LoadedStop → List StopRow
filled_from stops place [] = []
filled_from stops place (stop ∷ later) = stop_row stops place stop ∷ filled_from stops (place + 1) later

abbrev pub filled : List LoadedStop → List StopRow
filled stops = filled_from stops 0 stops

-- the lesser of two numbers, where there are such
abbrev pub lesser : Option ℕ → Option ℕ → Option ℕ
lesser None second = second
lesser (Some first) None = Some first
lesser (Some first) (Some second) = Some (min first second)

-- the row of a stop that has no times
abbrev pub untimed_row : Option (ℕ × ℕ) → ℕ → Option ℕ
untimed_row None row = Some row
untimed_row (Some times) row = None

abbrev pub untimed : Option LoadedStop → Option ℕ
untimed None = None
untimed (Some stop) = untimed_row stop.times stop.row

-- the least row of a trip's first or last stop that has no times
abbrev pub untimed_end : List LoadedStop → Option ℕ
untimed_end stops = lesser (untimed (slice_get stops 0)) (untimed (slice_get stops (length stops - 1)))

-- the least of such rows of some trips
abbrev pub least : List (Option ℕ) → Option ℕ
least [] = None
least (row ∷ rows) = lesser row (least rows)

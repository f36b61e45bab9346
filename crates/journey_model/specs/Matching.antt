-- Which stop of a trip a call or an update is of. Stops are named by their places in the trip, from 0 on.
use Rattle.std.specs.Prelude.{◌==◌, ◌&&◌, ◌||◌, ◌+◌, ◌-◌, ℕ, Bool, true, false, nat_le, List, drop, position, slice_get, Option, Some, None, option_map, Result, Ok, Err, if◌then◌else◌}
use Rattle.std.specs.List.{list_any}
use Rattle.std.specs.Option.{ok_or, option_map_or, option_or}
use Rattle.timetable.specs.declared.stop_row.StopRow.{StopRow}
use Rattle.journey_model.specs.Places.{are_of_station}
use Rattle.journey_model.specs.declared.matching.NamedStop.{NamedStop}
use Rattle.journey_model.specs.declared.matching.NamedStop.TheVariants.{Missing, Unknown, Known}
use Rattle.journey_model.specs.declared.matching.MatchFault.{MatchFault}
use Rattle.journey_model.specs.declared.matching.MatchFault.TheVariants.{UnknownStop, StopMismatch, OutOfOrder}

-- the position from which on a stop lies after the one before, if there was one
abbrev pub position_after : Option ℕ → ℕ
position_after None = 0
position_after (Some position) = position + 1

-- a row is of the stop of that number, or has that sequence
abbrev pub is_of_stop : ℕ → StopRow → Bool
is_of_stop stop row = row.stop.0 == stop

abbrev pub has_sequence : ℕ → StopRow → Bool
has_sequence sequence row = row.sequence == sequence

-- a row is of the station of that stop
abbrev pub is_of_station : (ℕ → ℕ) → ℕ → StopRow → Bool
is_of_station station_of stop row = are_of_station station_of row.stop.0 stop

-- the first position from a position on whose row passes the test
abbrev pub first_from : (StopRow → Bool) → ℕ → List StopRow → Option ℕ
first_from test from stops = option_map (λ position. position + from) (position test (drop from stops))

-- the stop at a position passes the test
abbrev pub stands_at : (StopRow → Bool) → ℕ → List StopRow → Bool
stands_at test position stops = option_map_or test (slice_get stops position) false

-- the stop of that position in the order, counted from 1, passes the test and lies from a position on
abbrev pub fits_order : (StopRow → Bool) → ℕ → ℕ → List StopRow → Bool
fits_order test from order stops =
    nat_le 1 order && (nat_le from (order - 1) && stands_at test (order - 1) stops)

-- the first position of that stop from a position on, else the first of its station
abbrev pub later_position : (ℕ → ℕ) → ℕ → ℕ → List StopRow → Option ℕ
later_position station_of stop from stops =
    option_or (first_from (is_of_stop stop) from stops) (first_from (is_of_station station_of stop) from stops)

-- the position of an order, counted from 1, where the stop there passes the test and lies from a position on
abbrev pub ordered_position : (StopRow → Bool) → ℕ → List StopRow → Option ℕ → Option ℕ
ordered_position test from stops None = None
ordered_position test from stops (Some order) = if fits_order test from order stops then Some (order - 1) else None

-- the position of a call after the one before (SIRI 2.0, EstimatedCall: StopPointRef, Order): by its order where the
-- stop of that order is of its stop's station and lies after, else the first position of its stop after, else the first
-- of its station
abbrev pub call_position : (ℕ → ℕ) → List StopRow → Option ℕ → ℕ → Option ℕ → Option ℕ
call_position station_of stops after stop order =
    option_or (ordered_position (is_of_station station_of stop) (position_after after) stops order)
    (later_position station_of stop (position_after after) stops)

-- a position, where it lies from a position on
abbrev pub in_order : ℕ → ℕ → Result ℕ MatchFault
in_order from position = if nat_le from position then Ok position else Err OutOfOrder

-- what an update names agrees with the stop of its sequence: a stop that it names is that one
abbrev pub agrees : NamedStop → StopRow → Bool
agrees Missing row = true
agrees Unknown row = false
agrees (Known stop) row = is_of_stop stop.0 row

-- the position of an update by its sequence, of which the stop has this position, from a position on; what it names
-- agrees also where it is assigned to a stop of the same name
abbrev pub position_by_sequence : List StopRow → ℕ → NamedStop → Bool → Option ℕ → Result ℕ MatchFault
position_by_sequence stops from named same None = Err UnknownStop
position_by_sequence stops from named same (Some position) =
    if same || stands_at (agrees named) position stops then in_order from position else Err StopMismatch

-- the position of an update by its stop alone, from a position on
abbrev pub position_by_stop : List StopRow → ℕ → NamedStop → Result ℕ MatchFault
position_by_stop stops from Missing = Err UnknownStop
position_by_stop stops from Unknown = Err UnknownStop
position_by_stop stops from (Known stop) =
    if list_any (is_of_stop stop.0) stops then ok_or (first_from (is_of_stop stop.0) from stops) OutOfOrder
    else Err UnknownStop

-- the position of an update after the one before (GTFS Realtime reference, StopTimeUpdate: stop_sequence, stop_id), or
-- why it has none; `same` where its stop_id is the id of the stop to which it is assigned
abbrev pub update_position : List StopRow → Option ℕ → Option ℕ → NamedStop → Bool → Result ℕ MatchFault
update_position stops after None named same = position_by_stop stops (position_after after) named
update_position stops after (Some sequence) named same =
    position_by_sequence stops (position_after after) named same (position (has_sequence sequence) stops)

-- What is kept of the stops of a trip while rows are read.
use Rattle.std.specs.Prelude.{◌≡◌, ◌+◌, ◌*◌, ◌++◌, ℕ, Bool, true, false, min, List, [], ◌∷◌, Some, if◌then◌else◌}
use Rattle.std.specs.Bool.{MatchBool}
use Rattle.timetable.specs.Limits.{number_limit}
use Rattle.stop_schedule.specs.Rising.{all_less, has_sequence, is_rising}
use Rattle.stop_schedule.specs.StopTimes.{placed}
use Rattle.stop_schedule.specs.declared.stop_times.LoadedStop.{LoadedStop}
use Rattle.stop_schedule.specs.declared.trip_stops.BriefStop.{BriefStop}
use Rattle.stop_schedule.specs.declared.trip_stops.BriefStops.{BriefStops}
use Rattle.stop_schedule.specs.declared.trip_stops.TripStops.{TripStops}
use Rattle.stop_schedule.specs.declared.trip_stops.TripStops.TheVariants.{Brief, Wide}

-- two times by the seconds from a start to the first, and from there to the second
abbrev pub times_from : ℕ → ℕ × ℕ → ℕ × ℕ
times_from start brief = (start + brief.0, start + brief.0 + brief.1)

-- the stop of a row that is kept in few bytes, of a trip with that first minute
abbrev pub expanded : ℕ → ℕ → BriefStop → LoadedStop
expanded row minute brief = record {
  row = min row number_limit;
  sequence = brief.sequence;
  stop = record { 0 = brief.stop };
  times = Some (times_from (60 * minute) (brief.since, brief.stay));
}

-- the stops of rows that follow each other from that one on
abbrev pub all_expanded : ℕ → ℕ → List BriefStop → List LoadedStop
all_expanded row minute [] = []
all_expanded row minute (brief ∷ later) = expanded row minute brief ∷ all_expanded (row + 1) minute later

abbrev pub brief_stops : BriefStops → List LoadedStop
brief_stops held = all_expanded held.row held.minute held.stops.items

-- the stops that are kept of a trip
abbrev pub stops_kept : TripStops → List LoadedStop
stops_kept (Brief held) = brief_stops held
stops_kept (Wide held) = held.items

-- the stops with one after them, if it was added
abbrev pub with_stop : Bool → LoadedStop → List LoadedStop → List LoadedStop
with_stop added stop stops = if added then stops ++ stop ∷ [] else stops

-- a stop was added at its place, where no other had its sequence, or else one had
abbrev pub Places : LoadedStop → List LoadedStop → List LoadedStop → Bool → Type 0
Places stop old new added =
    MatchBool added ((has_sequence stop.sequence old ≡ false) × (new ≡ placed stop old))
    (has_sequence stop.sequence old ≡ true)

-- where the stops rise in sequence, this one is greater than theirs
abbrev pub IsBehind : List LoadedStop → ℕ → Type 0
IsBehind stops sequence = is_rising stops ≡ true → all_less sequence stops ≡ true

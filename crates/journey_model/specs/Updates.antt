-- The updates of a trip: their places, and their times there (GTFS Realtime reference, StopTimeUpdate, StopTimeEvent).
use Rattle.std.specs.Prelude.{◌||◌, ◌+◌, ℕ, ℤ, ◌+ℤ◌, Bool, true, false, List, [], ◌∷◌, position, Option, Some, None, option_map, Result, Ok, Err, if◌then◌else◌}
use Rattle.std.specs.Option.{option_or}
use Rattle.std.specs.Ordering.{int_eq}
use Rattle.std.specs.Str.{bytes_eq}
use Rattle.gw_base.specs.Enums.{stop_no_data, stop_scheduled, stop_skipped}
use Rattle.gw_base.specs.declared.messages.Event.{Event}
use Rattle.gw_base.specs.declared.messages.StopUpdate.{StopUpdate}
use Rattle.timetable.specs.declared.numbers.StopNo.{StopNo}
use Rattle.gw_base.specs.Chains.{unless_fault, ◌>>=◌}
use Rattle.journey_model.specs.Matching.{update_position}
use Rattle.journey_model.specs.Names.{filled_text}
use Rattle.journey_model.specs.Places.{are_of_station, place_size, places_fault}
use Rattle.journey_model.specs.Runs.{Run, planned_at, stop_at}
use Rattle.journey_model.specs.Times.{both_times, delay_fault}
use Rattle.journey_model.specs.declared.fault.Fault.{Fault}
use Rattle.journey_model.specs.declared.fault.Fault.TheVariants.{UnknownStop, StopMismatch, OutOfOrder, NoTime, OtherPlace, OtherRelation}
use Rattle.journey_model.specs.declared.matching.MatchFault.{MatchFault}
use Rattle.journey_model.specs.declared.matching.MatchFault.TheVariants as match
use Rattle.journey_model.specs.declared.matching.NamedStop.{NamedStop}
use Rattle.journey_model.specs.declared.matching.NamedStop.TheVariants.{Missing, Unknown, Known}

-- the schedule_relationship of an update: SCHEDULED, SKIPPED or NO_DATA
abbrev pub is_scheduled : StopUpdate → Bool
is_scheduled update = int_eq update.relation stop_scheduled

abbrev pub is_skipped : StopUpdate → Bool
is_skipped update = int_eq update.relation stop_skipped

abbrev pub is_no_data : StopUpdate → Bool
is_no_data update = int_eq update.relation stop_no_data

-- the stop that an id names, among the ids of the timetable's stops
abbrev pub known_stop : Option ℕ → NamedStop
known_stop None = Unknown
known_stop (Some position) = Known (record { 0 = position })

abbrev pub named_by : List (List ℕ) → Option (List ℕ) → NamedStop
named_by ids None = Missing
named_by ids (Some id) = known_stop (position (bytes_eq id) ids)

abbrev pub named_stop : List (List ℕ) → StopUpdate → NamedStop
named_stop ids update = named_by ids (filled_text update.stop_id)

-- the stop to which an update is assigned, where it names one
abbrev pub assigned_stop : List (List ℕ) → StopUpdate → NamedStop
assigned_stop ids update = named_by ids (filled_text update.assigned)

-- an update names the same stop as its own and as the one to which it is assigned
abbrev pub are_same : Option (List ℕ) → Option (List ℕ) → Bool
are_same None other = false
are_same (Some id) None = false
are_same (Some id) (Some other) = bytes_eq id other

abbrev pub names_one : StopUpdate → Bool
names_one update = are_same (filled_text update.stop_id) (filled_text update.assigned)

-- the place of an update of a scheduled stop: the stop to which it is assigned, else the scheduled one
abbrev pub place_by : StopNo → NamedStop → StopNo
place_by scheduled Missing = scheduled
place_by scheduled Unknown = scheduled
place_by scheduled (Known stop) = stop

abbrev pub place_at : Run → ℕ → StopUpdate → StopNo
place_at run position update = place_by (stop_at run position) (assigned_stop run.ids update)

-- a stop to which an update is assigned is of the station of the scheduled one
abbrev pub keeps_station : (ℕ → ℕ) → StopNo → NamedStop → Bool
keeps_station station_of scheduled Missing = true
keeps_station station_of scheduled Unknown = false
keeps_station station_of scheduled (Known stop) = are_of_station station_of stop.0 scheduled.0

-- the time of an event: its `time`, else the planned time and its `delay`; with neither it counts as missing
abbrev pub event_time : ℤ → Option Event → Option ℤ
event_time planned None = None
event_time planned (Some event) = option_or event.time (option_map (λ delay. planned +ℤ delay) event.delay)

-- the times of the events of an update, by the planned ones at its position
abbrev pub arrival_time : ℤ × ℤ → StopUpdate → Option ℤ
arrival_time planned update = event_time planned.0 update.arrival

abbrev pub departure_time : ℤ × ℤ → StopUpdate → Option ℤ
departure_time planned update = event_time planned.1 update.departure

-- an update's own times at its position
abbrev pub times : ℤ × ℤ → StopUpdate → Option (ℤ × ℤ)
times planned update = both_times planned (arrival_time planned update) (departure_time planned update)

-- the fault of the update of that number without a position
abbrev pub match_fault : ℕ → MatchFault → Fault
match_fault number match.UnknownStop = UnknownStop number
match_fault number match.StopMismatch = StopMismatch number
match_fault number match.OutOfOrder = OutOfOrder number

-- the fault of both times of the update of that number: there are none, or else that of their delays
abbrev pub events_fault : ℕ → Option Fault → Option (ℤ × ℤ) → Option Fault
events_fault number late None = Some (NoTime number)
events_fault number late (Some both) = late

-- the fault of a SCHEDULED update at a position: it is assigned to another station, it has no time, or a delay is over
-- a week
abbrev pub place_fault : ℕ → Bool → Option Fault → Option Fault
place_fault number keeps times = if keeps then times else Some (OtherPlace number)

abbrev pub scheduled_fault : Run → ℕ → ℕ → StopUpdate → Option Fault
scheduled_fault run number position update =
    place_fault number (keeps_station run.station_of (stop_at run position) (assigned_stop run.ids update))
    (events_fault number
    (delay_fault number (planned_at run position) (arrival_time (planned_at run position) update)
    (departure_time (planned_at run position) update))
    (times (planned_at run position) update))

abbrev pub update_fault : Run → ℕ → ℕ → StopUpdate → Option Fault
update_fault run number position update =
    if is_scheduled update then scheduled_fault run number position update else None

-- the relation of the update is read
abbrev pub is_read : StopUpdate → Bool
is_read update = is_scheduled update || (is_skipped update || is_no_data update)

abbrev pub position_timed : Run → ℕ → StopUpdate → Result ℕ MatchFault → Result ℕ Fault
position_timed run number update (Err fault) = Err (match_fault number fault)
position_timed run number update (Ok position) =
    unless_fault (update_fault run number position update) position

-- the position of the update of that number after the one before, or its first fault
abbrev pub position_of : Run → ℕ → Option ℕ → StopUpdate → Result ℕ Fault
position_of run number after update =
    if is_read update
    then position_timed run number update
    (update_position run.stops after update.sequence (named_stop run.ids update) (names_one update))
    else Err (OtherRelation update.relation)

-- the positions of updates numbered from that number on, after the position before, or the fault of the first that has
-- one
abbrev pub places_from : Run → ℕ → Option ℕ → List StopUpdate → Result (List ℕ) Fault
places_from run number after [] = Ok []
places_from run number after (update ∷ updates) = do
  position ← position_of run number after update
  others ← places_from run (number + 1) (Some position) updates
  Ok (position ∷ others)

-- the bytes of the id of the place of a SCHEDULED update, where that isn't the scheduled stop
abbrev pub update_size : Run → ℕ → StopUpdate → ℕ
update_size run position update =
    if is_scheduled update then place_size run.ids (stop_at run position).0 (place_at run position update).0 else 0

-- the sum of these bytes over updates at positions
abbrev pub updates_size : Run → List ℕ → List StopUpdate → ℕ
updates_size run [] updates = 0
updates_size run (position ∷ positions) [] = 0
updates_size run (position ∷ positions) (update ∷ updates) =
    update_size run position update + updates_size run positions updates

-- the positions of the updates of a trip, or the first fault; after all updates the one of their places
abbrev pub places : Run → List StopUpdate → Result (List ℕ) Fault
places run updates = do
  positions ← places_from run 0 None updates
  unless_fault (places_fault (updates_size run positions updates)) positions

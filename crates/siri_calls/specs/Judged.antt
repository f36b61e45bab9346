-- What a journey is by its header and its calls: its record, or the first fault for which it is set aside (SIRI 2.0,
-- EstimatedVehicleJourney).
use Rattle.std.specs.Prelude.{◌==◌, ◌+◌, ℕ, ℤ, Bool, true, false, List, [], ◌∷◌, length, map, position, find, Option, Some, None, option_and_then, Result, Ok, Err, if◌then◌else◌}
use Rattle.std.specs.List.{list_any, range_with_len}
use Rattle.std.specs.Option.{ok_or, option_or}
use Rattle.std.specs.Str.{bytes_eq}
use Rattle.gw_base.specs.Chains.{unless_fault, ◌>>=◌}
use Rattle.journey_model.specs.Matching.{call_position, is_of_station}
use Rattle.journey_model.specs.Places.{places_fault, readings_size}
use Rattle.journey_model.specs.Propagation.{timed}
use Rattle.journey_model.specs.Records.{Recorded}
use Rattle.journey_model.specs.Runs.{Run, planned_at}
use Rattle.journey_model.specs.Schedules.{Schedule, run_on}
use Rattle.journey_model.specs.Times.{both_times, delay_fault}
use Rattle.journey_model.specs.declared.fault.Fault.{Fault}
use Rattle.journey_model.specs.declared.fault.Fault.TheVariants.{AddedJourney, UnknownJourney, OutOfWindow, NotRunning, UnknownStop, OutOfOrder}
use Rattle.journey_model.specs.declared.readings.JourneyReading.{JourneyReading}
use Rattle.journey_model.specs.declared.readings.JourneyReading.TheVariants.{Cancelled, Stops}
use Rattle.journey_model.specs.declared.readings.StopReading.{StopReading}
use Rattle.journey_model.specs.declared.readings.StopReading.TheVariants.{Absent, Skipped}
use Rattle.siri_calls.specs.Journeys.{Header, Call}

-- the calls that are read, each with its number among all
abbrev pub numbered : ℕ → List (Option Call) → List (ℕ × Call)
numbered number [] = []
numbered number (None ∷ others) = numbered (number + 1) others
numbered number (Some one ∷ others) = (number, one) ∷ numbered (number + 1) others

-- the number of a call's stop, where a stop of the trip is of its station
abbrev pub stop_of_trip : Run → ℕ → Option ℕ
stop_of_trip run stop = if list_any (is_of_station run.station_of stop) run.stops then Some stop else None

abbrev pub stop_named : Run → List ℕ → Option ℕ
stop_named run id = option_and_then (stop_of_trip run) (position (bytes_eq id) run.ids)

-- the stops of all calls, or the fault of the first call of no station of the trip
abbrev pub stops_named : Run → List (ℕ × Call) → Result (List (ℕ × (ℕ × Call))) Fault
stops_named run [] = Ok []
stops_named run (one ∷ others) = do
  stop ← ok_or (stop_named run one.1.stop) (UnknownStop one.0)
  rest ← stops_named run others
  Ok ((stop, one) ∷ rest)

-- the positions of calls with their stops, after the position before, or the fault of the first call of no later stop
abbrev pub placed_calls : Run → Option ℕ → List (ℕ × (ℕ × Call)) → Result (List (ℕ × (ℕ × (ℕ × Call)))) Fault
placed_calls run after [] = Ok []
placed_calls run after (one ∷ others) = do
  position ← ok_or (call_position run.station_of run.stops after one.0 one.1.1.order) (OutOfOrder one.1.0)
  rest ← placed_calls run (Some position) others
  Ok ((position, one) ∷ rest)

-- the fault of the first event whose delay is over a week; a call that skips its stop has no event
abbrev pub fault_of_delay : Run → ℕ × (ℕ × (ℕ × Call)) → Option Fault
fault_of_delay run one =
    if one.1.1.1.skip then None
    else delay_fault one.1.1.0 (planned_at run one.0) one.1.1.1.arrival one.1.1.1.departure

abbrev pub delays_fault : Run → List (ℕ × (ℕ × (ℕ × Call))) → Option Fault
delays_fault run [] = None
delays_fault run (one ∷ others) = option_or (fault_of_delay run one) (delays_fault run others)

-- how a call reads at its stop; where it has a time, its place is the stop that it names
abbrev pub call_reading : ℤ × ℤ → ℕ → Call → StopReading
call_reading planned stop one =
    if one.skip then Skipped else timed (record { 0 = stop }) (both_times planned one.arrival one.departure)

-- the dense reading: at each stop the call that is matched to it; a stop without a call is absent
abbrev pub reading_at : Run → ℕ → Option (ℕ × (ℕ × (ℕ × Call))) → StopReading
reading_at run position None = Absent
reading_at run position (Some one) = call_reading (planned_at run position) one.1.0 one.1.1.1

abbrev pub dense : Run → List (ℕ × (ℕ × (ℕ × Call))) → ℕ → StopReading
dense run placed position = reading_at run position (find (λ one. one.0 == position) placed)

abbrev pub all_dense : Run → List (ℕ × (ℕ × (ℕ × Call))) → List StopReading
all_dense run placed = map (dense run placed) (range_with_len 0 (length run.stops))

-- the calls with their positions: each is of a station of the trip before any is matched
abbrev pub calls_placed : Run → List (Option Call) → Result (List (ℕ × (ℕ × (ℕ × Call)))) Fault
calls_placed run all = do
  named ← stops_named run (numbered 0 all)
  placed_calls run None named

-- the fault of places that aren't the scheduled stops, of which the ids are too long in sum
abbrev pub long_places : Run → List StopReading → Option Fault
long_places run readings = places_fault (readings_size run.ids run.stops readings)

-- the fault of calls with their positions: that of their times, and else that of their places
abbrev pub placed_fault : Run → List (ℕ × (ℕ × (ℕ × Call))) → Option Fault
placed_fault run placed = option_or (delays_fault run placed) (long_places run (all_dense run placed))

-- how the calls of a journey read its trip on its day, or the first fault
abbrev pub stops_read : Run → List (Option Call) → Result JourneyReading Fault
stops_read run all = do
  placed ← calls_placed run all
  unless_fault (placed_fault run placed) (Stops (all_dense run placed))

abbrev pub journey_read : Run → Bool → List (Option Call) → Result JourneyReading Fault
journey_read run true all = Ok Cancelled
journey_read run false all = stops_read run all

-- how many calls are extra ones
abbrev pub extras : List (Option Call) → ℕ
extras [] = 0
extras (None ∷ others) = extras others + 1
extras (Some one ∷ others) = extras others

-- what a journey of a trip that runs on the day is, with how many calls were passed over
abbrev pub taken : Header → ℕ → List (Option Call) → JourneyReading → Recorded × ℕ
taken head trip all reading = (record { trip = trip; day = head.day; at = head.at; reading = reading }, extras all)

abbrev pub unless_extra : Bool → Result ℕ Fault
unless_extra true = Err AddedJourney
unless_extra false = Ok 0

-- the number of the trip that a journey is of, unless it is an extra journey
abbrev pub trip_named : Schedule → Header → Result ℕ Fault
trip_named schedule head = do
  none ← unless_extra head.extra
  ok_or (position (bytes_eq head.trip_id) schedule.table.trips) UnknownJourney

abbrev pub running : Schedule → ℕ → ℤ → Run → Result Run Fault
running schedule trip on run = if schedule.table.runs trip on then Ok run else Err NotRunning

-- a trip on a day of the window on which it runs
abbrev pub run_named : Schedule → ℕ → ℤ → Result Run Fault
run_named schedule trip on = do
  run ← ok_or (run_on schedule trip on) OutOfWindow
  running schedule trip on run

-- how a journey of a trip reads on its day, or the first fault
abbrev pub trip_read : Schedule → ℕ → Header → List (Option Call) → Result JourneyReading Fault
trip_read schedule trip head all = do
  run ← run_named schedule trip head.day
  journey_read run head.cancelled all

-- what a journey is by its header and its calls: the first fault in this order, or its record
abbrev pub judged : Schedule → Header → List (Option Call) → Result (Recorded × ℕ) Fault
judged schedule head all = do
  trip ← trip_named schedule head
  reading ← trip_read schedule trip head all
  Ok (taken head trip all reading)

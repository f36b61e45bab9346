-- Which calls of journeys a board shows, and in which order (SIRI 2.0, StopMonitoring service: MonitoredStopVisit).
use Rattle.std.specs.Prelude.{◌==◌, ◌&&◌, ◌*◌, ℕ, ℤ, pos, ◌+ℤ◌, int_le, int_lt, Bool, List, [], Option, Some, None, if◌then◌else◌}
use Rattle.std.specs.List.{enumerate_from, flat_map}
use Rattle.std.specs.Option.{option_to_list}
use Rattle.std.specs.List.Sorted.{IsPermutation, IsSorted, IsStable}
use Rattle.std.specs.Ordering.{int_cmp, nat_cmp, ordering_then}
use Rattle.std.specs.declared.cmp.Ordering.{Ordering}
use Rattle.journey_model.specs.declared.readings.DatedReading.{DatedReading}
use Rattle.journey_model.specs.declared.readings.JourneyReading.{JourneyReading}
use Rattle.journey_model.specs.declared.readings.JourneyReading.TheVariants.{Cancelled, Stops}
use Rattle.journey_model.specs.declared.readings.StopReading.{StopReading}
use Rattle.journey_model.specs.declared.readings.StopReading.TheVariants.{Absent, Skipped, Timed}
use Rattle.stop_board.specs.declared.visits.Asked.{Asked}
use Rattle.stop_board.specs.declared.visits.Visit.{Visit}

-- a call falls within the minutes: the vehicle departs when the board begins or later, and arrives before it ends
abbrev pub is_within : Asked → ℤ → ℤ → Bool
is_within asked arrival departure =
    int_le asked.from departure && int_lt arrival (asked.from +ℤ pos (60 * asked.minutes))

-- the visit at a position of a journey that was recorded at that moment: the vehicle calls there at the board's stop,
-- within the minutes; at a stop that is skipped, or of which nothing is known, there is none
abbrev pub visit_at : Asked → DatedReading → ℤ → ℕ → StopReading → Option Visit
visit_at asked journey recorded position Absent = None
visit_at asked journey recorded position Skipped = None
visit_at asked journey recorded position (Timed arrival departure place) =
    if (place.0 == asked.stop.0) && is_within asked arrival departure
    then Some (record {
      arrival = arrival;
      departure = departure;
      day = journey.day;
      trip = journey.trip;
      position = position;
      recorded = recorded;
    })
    else None

-- how each stop of a journey reads; a cancelled one calls nowhere
abbrev pub stops_of : JourneyReading → List StopReading
stops_of Cancelled = []
stops_of (Stops readings) = readings

-- the visits at the stops that read so: of all positions, counted from 0, those at which there is one
abbrev pub visits_among : Asked → DatedReading → ℤ → List StopReading → List Visit
visits_among asked journey recorded readings =
    flat_map (λ one. option_to_list (visit_at asked journey recorded one.0 one.1)) (enumerate_from 0 readings)

-- the visits of a journey by when it was recorded; one without a record has none
abbrev pub visits_by : Asked → DatedReading → Option ℤ → List Visit
visits_by asked journey None = []
visits_by asked journey (Some recorded) = visits_among asked journey recorded (stops_of journey.reading)

abbrev pub visits_of : Asked → DatedReading → List Visit
visits_of asked journey = visits_by asked journey journey.recorded

-- of two visits the first is that of the earlier arrival, then the earlier departure, the earlier service day, the
-- lesser trip number, the lesser position
abbrev pub visit_cmp : Visit → Visit → Ordering
visit_cmp a b =
    ordering_then (ordering_then (ordering_then (ordering_then
    (int_cmp a.arrival b.arrival) (int_cmp a.departure b.departure))
    (int_cmp a.day b.day)) (nat_cmp a.trip.0 b.trip.0)) (nat_cmp a.position b.position)

-- a list has just these visits, sorted; where all five are equal, which no two visits of different journeys have, the
-- one that came first stands first
pub record AreSorted (visits sorted : List Visit) : Type 0 where
  pub same : IsPermutation visits sorted
  pub in_order : IsSorted visit_cmp sorted
  pub in_turn : IsStable visit_cmp visits sorted

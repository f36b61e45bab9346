-- The names of the members that are read of a delivery of estimated timetables (SIRI 2.0, EstimatedVehicleJourney, and
-- the way down to it; `value` in JSON after SIRI Lite). What stands under another name says nothing.
use Rattle.std.specs.Prelude.{◌||◌, ℕ, Bool, List, codes}
use Rattle.std.specs.Str.{bytes_eq}

-- a member of a call, or under which a text stands
abbrev pub is_call_member : List ℕ → Bool
is_call_member name =
    bytes_eq name (codes "value")
    || (bytes_eq name (codes "StopPointRef")
    || (bytes_eq name (codes "Order")
    || (bytes_eq name (codes "ExpectedArrivalTime")
    || (bytes_eq name (codes "ExpectedDepartureTime")
    || (bytes_eq name (codes "ArrivalStatus")
    || (bytes_eq name (codes "DepartureStatus")
    || (bytes_eq name (codes "Cancellation")
    || (bytes_eq name (codes "ExtraCall")
    || (bytes_eq name (codes "ActualArrivalTime")
    || bytes_eq name (codes "ActualDepartureTime"))))))))))

-- a member of a journey
abbrev pub is_journey_member : List ℕ → Bool
is_journey_member name =
    bytes_eq name (codes "RecordedAtTime")
    || (bytes_eq name (codes "FramedVehicleJourneyRef")
    || (bytes_eq name (codes "DataFrameRef")
    || (bytes_eq name (codes "DatedVehicleJourneyRef")
    || (bytes_eq name (codes "ExtraJourney")
    || (bytes_eq name (codes "EstimatedCalls")
    || (bytes_eq name (codes "EstimatedCall")
    || (bytes_eq name (codes "RecordedCalls")
    || bytes_eq name (codes "RecordedCall"))))))))

-- a member on the way down to the journeys
abbrev pub is_frame_member : List ℕ → Bool
is_frame_member name =
    bytes_eq name (codes "EstimatedVehicleJourney")
    || (bytes_eq name (codes "EstimatedJourneyVersionFrame")
    || (bytes_eq name (codes "EstimatedTimetableDelivery")
    || (bytes_eq name (codes "ResponseTimestamp")
    || (bytes_eq name (codes "ServiceDelivery")
    || bytes_eq name (codes "Siri")))))

-- a member of this name is read
abbrev pub is_read : List ℕ → Bool
is_read name = is_call_member name || (is_journey_member name || is_frame_member name)

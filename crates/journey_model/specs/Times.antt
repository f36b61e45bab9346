-- Times of arrival and departure against the planned ones (GTFS Realtime reference, StopTimeEvent; SIRI 2.0, the
-- times of EstimatedCall).
use Rattle.std.specs.Prelude.{ℕ, ℤ, pos, negsuc, ◌+ℤ◌, ◌-ℤ◌, ◌≤ℤ◌, Bool, ◌&&◌, int_le, Option, Some, None, if◌then◌else◌}
use Rattle.std.specs.Option.{option_or}
use Rattle.journey_model.specs.declared.fault.Fault.{Fault}
use Rattle.journey_model.specs.declared.fault.Fault.TheVariants.{DelayRange}

-- both times by the planned ones, where one is known: one event gives its delay to the other
abbrev pub both_times : ℤ × ℤ → Option ℤ → Option ℤ → Option (ℤ × ℤ)
both_times planned (Some arrival) (Some departure) = Some (arrival, departure)
both_times planned (Some arrival) None = Some (arrival, planned.1 +ℤ (arrival -ℤ planned.0))
both_times planned None (Some departure) = Some (planned.0 +ℤ (departure -ℤ planned.1), departure)
both_times planned None None = None

-- a delay is at most a week, 604,800 seconds, either way
abbrev pub is_delay : ℤ → Bool
is_delay delay = int_le (negsuc 604799) delay && int_le delay (pos 604800)

-- the fault of an event whose delay is more, in the call or the update of that number
abbrev pub event_fault : ℕ → ℤ → Option ℤ → Option Fault
event_fault number planned None = None
event_fault number planned (Some time) =
    if is_delay (time -ℤ planned) then None else Some (DelayRange number (time -ℤ planned))

-- the first such fault of two events, the arrival before the departure
abbrev pub delay_fault : ℕ → ℤ × ℤ → Option ℤ → Option ℤ → Option Fault
delay_fault number planned arrival departure =
    option_or (event_fault number planned.0 arrival) (event_fault number planned.1 departure)

-- a planned time is a moment and at most as many seconds more as a row of a stop counts
abbrev pub IsPlanned : ℤ → Type 0
IsPlanned secs = (pos 0 ≤ℤ secs) × (secs ≤ℤ pos 257665732094)

abbrev pub ArePlanned : ℤ × ℤ → Type 0
ArePlanned planned = IsPlanned planned.0 × IsPlanned planned.1

-- a time that can be told apart from a planned one in 64 bits: a moment is one, and so is one a week from a planned one
abbrev pub IsTime : ℤ → Type 0
IsTime secs = (negsuc 604799 ≤ℤ secs) × (secs ≤ℤ pos 257666336894)

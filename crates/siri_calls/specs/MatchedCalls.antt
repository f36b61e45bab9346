-- What calls show with their positions, and the fault of calls without.
use Rattle.std.specs.Prelude.{◌+◌, ◌&&◌, ℕ, Bool, true, false, not, nat_le, List, [], ◌∷◌, Option, Some, None, is_some, option_and_then, option_map, position, Result, Ok, Err}
use Rattle.std.specs.Str.{bytes_eq}
use Rattle.journey_model.specs.Matching.{call_position}
use Rattle.journey_model.specs.Runs.{Run}
use Rattle.journey_model.specs.declared.fault.Fault.{Fault}
use Rattle.journey_model.specs.declared.fault.Fault.TheVariants.{OutOfOrder}
use Rattle.siri_calls.specs.Journeys.{Call}
use Rattle.siri_calls.specs.Judged.{stop_named}
use Rattle.siri_calls.specs.Seen.{call_of}
use Rattle.siri_calls.specs.declared.matching_calls.PlacedCall.{PlacedCall}

-- its position, its stop, and the call with its number
abbrev pub placed_call : PlacedCall → ℕ × (ℕ × (ℕ × Call))
placed_call one = (one.position, (one.stop.0, (one.number, call_of one.call.now)))

-- the positions rise, from one on
abbrev pub rise_from : ℕ → List (ℕ × (ℕ × (ℕ × Call))) → Bool
rise_from position [] = true
rise_from position (one ∷ others) = nat_le position one.0 && rise_from (one.0 + 1) others

-- a call of that stop with its position after the one before, where it has one
abbrev pub placed_at_stop : Run → Option ℕ → ℕ × Call → ℕ → Option (ℕ × (ℕ × (ℕ × Call)))
placed_at_stop run after one stop =
    option_map (λ position. (position, (stop, one))) (call_position run.station_of run.stops after stop one.1.order)

-- a call with its position after the one before, where its stop has one
abbrev pub placed_named : Run → Option ℕ → ℕ × Call → Option (ℕ × (ℕ × (ℕ × Call)))
placed_named run after one =
    option_and_then (placed_at_stop run after one) (position (bytes_eq one.1.stop) run.ids)

-- a call is of no station of the trip; an extra call isn't looked at
abbrev pub is_unknown : Run → Option Call → Bool
is_unknown run None = false
is_unknown run (Some one) = not (is_some (stop_named run one.stop))

-- the fault of calls of which the one of that number has no position, by the stops of all
abbrev pub unplaced : ℕ → Result (List (ℕ × (ℕ × Call))) Fault → Fault
unplaced number (Err fault) = fault
unplaced number (Ok named) = OutOfOrder number

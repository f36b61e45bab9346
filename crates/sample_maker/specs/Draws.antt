-- The draws of a sample, by a linear congruential generator, and what they say of each stop of each trip.
use Rattle.std.specs.Prelude.{ℕ, zero, suc, ◌+◌, ◌*◌, ◌/◌, ◌%◌, ◌==◌, Bool, ◌&&◌, nat_le, if◌then◌else◌, ℤ, pos, ◌-ℤ◌}
use Rattle.sample_maker.specs.declared.draws.DrawnCall.{DrawnCall}
use Rattle.sample_maker.specs.declared.draws.DrawnCall.TheVariants.{Cancelled, Unsaid, Expected}
use Rattle.sample_maker.specs.declared.draws.Draws.{Draws}

-- what the generator holds after one draw more
abbrev pub drawn : ℕ → ℕ
drawn held = (held * 1103515245 + 12345) % 2147483648

-- the number that a draw gives, by what the generator holds after it
abbrev pub number_of : ℕ → ℕ
number_of held = held / 65536

-- the number asks for a second draw, which sets the delay
abbrev pub sets_delay : ℕ → Bool
sets_delay number = nat_le 2 (number % 16) && nat_le (number % 16) 5

-- the delay that a number sets, in seconds: from one minute early to nine minutes late
abbrev pub delay_of : ℕ → ℤ
delay_of number = pos (number % 601) -ℤ pos 60

-- after the draws for a stop, where the generator holds `first` after the first of them
abbrev pub after_first : Draws → ℕ → Draws
after_first draws first =
    if sets_delay (number_of first)
    then record { held = drawn first; delay = delay_of (number_of (drawn first)) }
    else record { held = first; delay = draws.delay }

abbrev pub after_stop : Draws → Draws
after_stop draws = after_first draws (drawn draws.held)

-- the call that a number gives: of 16 numbers one cancels it, and at one there is none
abbrev pub call_by : ℕ → DrawnCall
call_by number = if number % 16 == 0 then Cancelled else (if number % 16 == 1 then Unsaid else Expected)

-- the call at the stop for which the next draws are made
abbrev pub call_of : Draws → DrawnCall
call_of draws = call_by (number_of (drawn draws.held))

-- after the draws for so many stops of a trip, which begins without delay
unfoldable pub after_stops : ℕ → ℕ → Draws
after_stops held zero = record { held = held; delay = pos 0 }
after_stops held (suc n) = after_stop (after_stops held n)

-- what the generator holds after so many trips, each of so many stops, where it began with `held`
unfoldable pub after_trips : ℕ → ℕ → ℕ → ℕ
after_trips stops held zero = held
after_trips stops held (suc n) = (after_stops (after_trips stops held n) stops).held

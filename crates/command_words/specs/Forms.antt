-- The forms of values, and what a value of a form is read as.
use Rattle.std.specs.Prelude.{◌&&◌, ◌+◌, ◌-◌, ◌*◌, ℕ, ℤ, Bool, true, false, pos, ◌+ℤ◌, ◌-ℤ◌, int_le, nat_le, nat_lt, List, [], ◌∷◌, length, Option, Some, None, is_some, option_and_then, if◌then◌else◌}
use Rattle.std.specs.Char.{is_ascii_digit}
use Rattle.std.specs.List.{list_all}
use Rattle.command_words.specs.Tables.{Form}
use Rattle.service_day.specs.DayTexts.{day_of}
use Rattle.service_day.specs.Utc.{utc_of}
use Rattle.service_day.specs.declared.days.DayForm.TheVariants.{Dashed}

-- the first and the last day that a window may have, 1971-01-01 and 9997-12-31, and the most days of a window
abbrev pub first_day : ℤ
first_day = pos 365

abbrev pub last_day : ℤ
last_day = pos 2932166

abbrev pub most_days : ℕ
most_days = 32

-- the most days that are kept before the local one, and the most connections
abbrev pub most_kept : ℕ
most_kept = 31

abbrev pub most_connections : ℕ
most_connections = 4294967295

-- the greatest seed of a sample, and the most trips and the fewest and the most stops that it has
abbrev pub most_seed : ℕ
most_seed = 2147483647

abbrev pub most_trips : ℕ
most_trips = 20000

abbrev pub fewest_stops : ℕ
fewest_stops = 2

abbrev pub most_stops : ℕ
most_stops = 100

-- the most minutes of a board, and the most visits that it shows
abbrev pub most_minutes : ℕ
most_minutes = 1440

abbrev pub most_visits : ℕ
most_visits = 10000

-- the most digits of a number
abbrev pub most_digits : ℕ
most_digits = 10

-- the number that digits go on with, and the number of a text of 1 to 10 decimal digits
abbrev pub going_on : ℕ → List ℕ → ℕ
going_on number [] = number
going_on number (digit ∷ digits) = going_on (10 * number + (digit - 48)) digits

abbrev pub is_number : List ℕ → Bool
is_number text = nat_le 1 (length text) && nat_le (length text) most_digits && list_all is_ascii_digit text

abbrev pub decimal_number : List ℕ → Option ℕ
decimal_number text = if is_number text then Some (going_on 0 text) else None

-- a day that a window may begin with
abbrev pub beginning : List ℕ → Option ℤ
beginning word =
    option_and_then (λ day. if int_le first_day day && int_le day last_day then Some day else None) (day_of Dashed word)

-- such a number that is in a range
abbrev pub number_in : ℕ → ℕ → List ℕ → Option ℕ
number_in least most word =
    option_and_then (λ number. if nat_le least number && nat_le number most then Some number else None)
    (decimal_number word)

-- a number of days of a window
abbrev pub day_count : List ℕ → Option ℕ
day_count word = number_in 1 most_days word

-- a number of days that are kept
abbrev pub kept_count : List ℕ → Option ℕ
kept_count word = number_in 0 most_kept word

-- a number of connections
abbrev pub connection_count : List ℕ → Option ℕ
connection_count word = number_in 1 most_connections word

-- a seed, and a number of trips and of stops
abbrev pub seed_number : List ℕ → Option ℕ
seed_number word = number_in 0 most_seed word

abbrev pub trip_count : List ℕ → Option ℕ
trip_count word = number_in 1 most_trips word

abbrev pub stop_count : List ℕ → Option ℕ
stop_count word = number_in fewest_stops most_stops word

-- a number of minutes, and a number of visits
abbrev pub minute_count : List ℕ → Option ℕ
minute_count word = number_in 1 most_minutes word

abbrev pub visit_count : List ℕ → Option ℕ
visit_count word = number_in 1 most_visits word

-- that many days from the first one on, if there is a first one, end in time
abbrev pub ends_in_time : Option ℤ → Option ℕ → Bool
ends_in_time first None = false
ends_in_time None (Some days) = true
ends_in_time (Some first) (Some days) = int_le (first +ℤ pos days -ℤ pos 1) last_day

-- fewer days are kept than the window has, if it has any
abbrev pub keeps_fewer : Option ℕ → Option ℕ → Bool
keeps_fewer days None = false
keeps_fewer None (Some kept) = true
keeps_fewer (Some days) (Some kept) = nat_lt kept days

-- the forms: a text that isn't empty, a day, a number of days from the day before on, a number of days that are kept of
-- the window before, a number of connections, a moment, the three numbers of a sample, and the two of a board
abbrev pub is_filled : Form
is_filled before [] = false
is_filled before (_ ∷ _) = true

abbrev pub is_day : Form
is_day before word = is_some (beginning word)

abbrev pub is_day_count : Form
is_day_count before word = ends_in_time (beginning before) (day_count word)

abbrev pub is_kept_count : Form
is_kept_count before word = keeps_fewer (day_count before) (kept_count word)

abbrev pub is_connection_count : Form
is_connection_count before word = is_some (connection_count word)

abbrev pub is_moment : Form
is_moment before word = is_some (utc_of word)

abbrev pub is_seed : Form
is_seed before word = is_some (seed_number word)

abbrev pub is_trip_count : Form
is_trip_count before word = is_some (trip_count word)

abbrev pub is_stop_count : Form
is_stop_count before word = is_some (stop_count word)

abbrev pub is_minute_count : Form
is_minute_count before word = is_some (minute_count word)

abbrev pub is_visit_count : Form
is_visit_count before word = is_some (visit_count word)

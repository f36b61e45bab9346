-- The six files of a sample's folder (GTFS Schedule): one agency, one route, one service on every day of 2024, and
-- trips that stop at all stops in order, two minutes apart. A file's first line names its columns.
use Rattle.std.specs.Prelude.{ℕ, ◌+◌, ◌*◌, ◌%◌, List, [], ◌∷◌, ◌++◌, codes, decimal}
use Rattle.service_day.specs.Utc.{clock_text}
use Rattle.sample_maker.specs.Pieces.{all_below, led}

abbrev pub agency_text : List ℕ
agency_text = codes "agency_timezone\nUTC\n"

abbrev pub routes_text : List ℕ
routes_text = codes "route_id\nR\n"

-- one service, on every day of the week
abbrev pub calendar_text : List ℕ
calendar_text =
    codes "service_id,monday,tuesday,wednesday,thursday,friday,saturday,sunday,start_date,end_date\n"
    ++ codes "S,1,1,1,1,1,1,1,20240101,20241231\n"

-- stops are numbered from 1; these lines are for the stop after so many others
abbrev pub stop_line : ℕ → List ℕ
stop_line place = led (codes "P") (decimal (place + 1)) ++ codes "\n"

abbrev pub stops_text : ℕ → List ℕ
stops_text stops = codes "stop_id\n" ++ all_below stop_line stops

-- trips are numbered from 0
abbrev pub trip_line : ℕ → List ℕ
trip_line trip = led (codes "G") (decimal trip) ++ codes ",R,S\n"

abbrev pub trips_text : ℕ → List ℕ
trips_text trips = codes "trip_id,route_id,service_id\n" ++ all_below trip_line trips

-- when a trip is at a stop, in seconds of the service day: trips start a minute apart from 6 o'clock on, in ten hours
abbrev pub second_at : ℕ → ℕ → ℕ
second_at trip place = 21600 + trip % 600 * 60 + place * 120

-- a stop time, with the same arrival and departure
abbrev pub stop_time_line : ℕ → ℕ → List ℕ
stop_time_line trip place =
    led (codes "G") (decimal trip)
    ++ led (codes ",") (decimal (place + 1))
    ++ led (codes ",P") (decimal (place + 1))
    ++ led (codes ",") (clock_text (second_at trip place))
    ++ led (codes ",") (clock_text (second_at trip place))
    ++ codes "\n"

abbrev pub stop_times_of : ℕ → ℕ → List ℕ
stop_times_of stops trip = all_below (stop_time_line trip) stops

abbrev pub stop_times_text : ℕ → ℕ → List ℕ
stop_times_text trips stops =
    codes "trip_id,stop_sequence,stop_id,arrival_time,departure_time\n" ++ all_below (stop_times_of stops) trips

-- the files with their names
abbrev pub folder : ℕ → ℕ → List (List ℕ × List ℕ)
folder trips stops =
    (codes "agency.txt", agency_text)
    ∷ (codes "stops.txt", stops_text stops)
    ∷ (codes "routes.txt", routes_text)
    ∷ (codes "trips.txt", trips_text trips)
    ∷ (codes "calendar.txt", calendar_text)
    ∷ (codes "stop_times.txt", stop_times_text trips stops)
    ∷ []

-- The limits of a timetable: each is written once, here. What cites one names it.
use Rattle.std.specs.Prelude.{ℕ}

-- the trips
abbrev pub trip_limit : ℕ
trip_limit = 200000

-- the bytes of an id
abbrev pub id_limit : ℕ
id_limit = 200

-- the stops of a trip
abbrev pub stop_limit : ℕ
stop_limit = 250

-- the seconds of a time from the start of the service day: 99:59:59, the last one of two digits of hours
abbrev pub time_limit : ℕ
time_limit = 359999

-- a number of 32 bits: the sequence of a stop, and how many ids are numbered
abbrev pub number_limit : ℕ
number_limit = 4294967295

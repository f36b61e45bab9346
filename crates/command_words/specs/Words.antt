-- The words of the commands: their table, and what the words of each say.
use Rattle.std.specs.Prelude.{◌≡◌, ℕ, ℤ, List, [], ◌∷◌, drop, codes, Option, Some, option_and_then, slice_get, nat_eq, if◌then◌else◌}
use Rattle.std.specs.Cmp.Lexicographic.{pointwise}
use Rattle.command_words.specs.Forms.{is_connection_count, is_day, is_day_count, is_filled, is_kept_count, is_minute_count, is_moment, is_seed, is_stop_count, is_trip_count, is_visit_count, beginning, connection_count, day_count, kept_count, minute_count, seed_number, stop_count, trip_count, visit_count}
use Rattle.command_words.specs.Tables.{Command, Pair, IsAccepted, StopsAt}
use Rattle.service_day.specs.Utc.{utc_of}

-- the pairs that each command but `make` begins with: what it works over
abbrev pub over_a_folder : List Pair → List Pair
over_a_folder further =
    record { flags = codes "--gtfs" ∷ []; form = is_filled }
    ∷ record { flags = codes "--zone-rule" ∷ codes "--zone-file" ∷ []; form = is_filled }
    ∷ record { flags = codes "--from" ∷ []; form = is_day }
    ∷ record { flags = codes "--days" ∷ []; form = is_day_count }
    ∷ further

abbrev pub at_pair : Pair
at_pair = record { flags = codes "--at" ∷ []; form = is_moment }

abbrev pub feed_pair : Pair
feed_pair = record { flags = codes "--feed" ∷ []; form = is_filled }

abbrev pub keep_pair : Pair
keep_pair = record { flags = codes "--keep" ∷ []; form = is_kept_count }

abbrev pub listen_pair : Pair
listen_pair = record { flags = codes "--listen" ∷ []; form = is_filled }

abbrev pub connections_pair : Pair
connections_pair = record { flags = codes "--connections" ∷ []; form = is_connection_count }

abbrev pub journal_pair : Pair
journal_pair = record { flags = codes "--journal" ∷ []; form = is_filled }

abbrev pub stop_pair : Pair
stop_pair = record { flags = codes "--stop" ∷ []; form = is_filled }

abbrev pub minutes_pair : Pair
minutes_pair = record { flags = codes "--minutes" ∷ []; form = is_minute_count }

abbrev pub max_pair : Pair
max_pair = record { flags = codes "--max" ∷ []; form = is_visit_count }

abbrev pub seed_pair : Pair
seed_pair = record { flags = codes "--seed" ∷ []; form = is_seed }

abbrev pub trips_pair : Pair
trips_pair = record { flags = codes "--trips" ∷ []; form = is_trip_count }

abbrev pub stops_pair : Pair
stops_pair = record { flags = codes "--stops" ∷ []; form = is_stop_count }

-- no further pair: it has no flag
abbrev pub no_pair : Pair
no_pair = record { flags = []; form = is_filled }

-- `serve`, with these optional pairs
unfoldable pub serve : List Pair → Command
serve optional = record {
  name = codes "serve";
  pairs = over_a_folder (keep_pair ∷ listen_pair ∷ connections_pair ∷ []);
  optional = optional;
  repeated = no_pair;
}

unfoldable pub to_gtfsrt : Command
to_gtfsrt = record {
  name = codes "to-gtfsrt";
  pairs = over_a_folder (at_pair ∷ []);
  optional = [];
  repeated = record { flags = codes "--et" ∷ codes "--sx" ∷ []; form = is_filled };
}

unfoldable pub to_siri : Command
to_siri = record {
  name = codes "to-siri";
  pairs = over_a_folder (at_pair ∷ feed_pair ∷ []);
  optional = [];
  repeated = no_pair;
}

unfoldable pub to_siri_sx : Command
to_siri_sx = record {
  name = codes "to-siri-sx";
  pairs = over_a_folder (at_pair ∷ feed_pair ∷ []);
  optional = [];
  repeated = no_pair;
}

unfoldable pub show : Command
show = record {
  name = codes "show";
  pairs = over_a_folder (feed_pair ∷ []);
  optional = [];
  repeated = no_pair;
}

unfoldable pub board : Command
board = record {
  name = codes "board";
  pairs = over_a_folder (at_pair ∷ stop_pair ∷ minutes_pair ∷ max_pair ∷ []);
  optional = [];
  repeated = record { flags = codes "--et" ∷ []; form = is_filled };
}

unfoldable pub make : Command
make = record {
  name = codes "make";
  pairs = seed_pair ∷ trips_pair ∷ stops_pair ∷ [];
  optional = [];
  repeated = no_pair;
}

-- the commands, where `serve` has these optional pairs: none where there is no disk for a journal, and else one
unfoldable pub commands : List Pair → List Command
commands optional = serve optional ∷ to_gtfsrt ∷ to_siri ∷ to_siri_sx ∷ show ∷ board ∷ make ∷ []

abbrev pub with_journal : List Pair
with_journal = journal_pair ∷ []

-- a zone by a POSIX rule, or by a TZif file of that path
pub data NamedZone : Type 0 where
  by_rule : List ℕ → NamedZone
  by_file : List ℕ → NamedZone

-- the zone that a flag and its value name
abbrev pub zone_by : List ℕ → List ℕ → NamedZone
zone_by flag value = if pointwise nat_eq flag (codes "--zone-file") then by_file value else by_rule value

-- what a command works over: the folder, the zone, and the first day and the number of days of the window
pub record Scope : Type 0 where
  pub gtfs : List ℕ
  pub zone : NamedZone
  pub from : ℤ
  pub days : ℕ

-- what the words of `serve` say: what it works over, how many days before the local one are kept, the address, how many
-- connections are served, and the file of its journal, if it has one
pub record Serve : Type 0 where
  pub scope : Scope
  pub keep : ℕ
  pub listen : List ℕ
  pub connections : ℕ
  pub journal : Option (List ℕ)

-- what the words of `to-gtfsrt` say: what it works over, the second since 1970 at which the feed is made, and the words
-- of the deliveries, for each a flag and a file
pub record ToGtfsrt : Type 0 where
  pub scope : Scope
  pub at : ℤ
  pub more : List (List ℕ)

-- what the words of `to-siri` and of `to-siri-sx` say: what it works over, the second at which the delivery is made,
-- and the feed's file
pub record ToSiri : Type 0 where
  pub scope : Scope
  pub at : ℤ
  pub feed : List ℕ

-- what the words of `show` say: what it works over, and the feed's file
pub record Show : Type 0 where
  pub scope : Scope
  pub feed : List ℕ

-- what the words of `board` say: what it works over, the second at which the board is made and from which on it shows
-- visits, the stop, of how many minutes and how many at most, and the words of the deliveries
pub record Board : Type 0 where
  pub scope : Scope
  pub at : ℤ
  pub stop : List ℕ
  pub minutes : ℕ
  pub most : ℕ
  pub more : List (List ℕ)

-- what the words of `make` say: the seed of a sample, and how many trips and stops it has
pub record Make : Type 0 where
  pub seed : ℕ
  pub trips : ℕ
  pub stops : ℕ

-- a command that writes its result and ends
pub data Task : Type 0 where
  gtfsrt_task : ToGtfsrt → Task
  siri_task : ToSiri → Task
  sx_task : ToSiri → Task
  show_task : Show → Task
  board_task : Board → Task
  make_task : Make → Task

-- a command with what its words say
pub data Job : Type 0 where
  serve_job : Serve → Job
  task_job : Task → Job

-- the words say this: the value of the pair of number n, from 0 on, is the word of number 2n + 2
pub record SaysScope (words : List (List ℕ)) (scope : Scope) : Type 0 where
  pub gtfs : slice_get words 2 ≡ Some scope.gtfs
  pub zone : (flag value : List ℕ) × (slice_get words 3 ≡ Some flag) × (slice_get words 4 ≡ Some value)
      × (scope.zone ≡ zone_by flag value)
  pub from : option_and_then beginning (slice_get words 6) ≡ Some scope.from
  pub days : option_and_then day_count (slice_get words 8) ≡ Some scope.days

pub record SaysServe (words : List (List ℕ)) (command : Serve) : Type 0 where
  pub name : slice_get words 0 ≡ Some (codes "serve")
  pub scope : SaysScope words command.scope
  pub keep : option_and_then kept_count (slice_get words 10) ≡ Some command.keep
  pub listen : slice_get words 12 ≡ Some command.listen
  pub connections : option_and_then connection_count (slice_get words 14) ≡ Some command.connections
  pub journal : slice_get words 16 ≡ command.journal

pub record SaysToGtfsrt (words : List (List ℕ)) (command : ToGtfsrt) : Type 0 where
  pub name : slice_get words 0 ≡ Some (codes "to-gtfsrt")
  pub scope : SaysScope words command.scope
  pub at : option_and_then utc_of (slice_get words 10) ≡ Some command.at
  pub more : drop 11 words ≡ command.more

pub record SaysToSiri (words : List (List ℕ)) (command : ToSiri) : Type 0 where
  pub name : slice_get words 0 ≡ Some (codes "to-siri")
  pub scope : SaysScope words command.scope
  pub at : option_and_then utc_of (slice_get words 10) ≡ Some command.at
  pub feed : slice_get words 12 ≡ Some command.feed

pub record SaysToSiriSx (words : List (List ℕ)) (command : ToSiri) : Type 0 where
  pub name : slice_get words 0 ≡ Some (codes "to-siri-sx")
  pub scope : SaysScope words command.scope
  pub at : option_and_then utc_of (slice_get words 10) ≡ Some command.at
  pub feed : slice_get words 12 ≡ Some command.feed

pub record SaysShow (words : List (List ℕ)) (command : Show) : Type 0 where
  pub name : slice_get words 0 ≡ Some (codes "show")
  pub scope : SaysScope words command.scope
  pub feed : slice_get words 10 ≡ Some command.feed

pub record SaysBoard (words : List (List ℕ)) (command : Board) : Type 0 where
  pub name : slice_get words 0 ≡ Some (codes "board")
  pub scope : SaysScope words command.scope
  pub at : option_and_then utc_of (slice_get words 10) ≡ Some command.at
  pub stop : slice_get words 12 ≡ Some command.stop
  pub minutes : option_and_then minute_count (slice_get words 14) ≡ Some command.minutes
  pub most : option_and_then visit_count (slice_get words 16) ≡ Some command.most
  pub more : drop 17 words ≡ command.more

pub record SaysMake (words : List (List ℕ)) (command : Make) : Type 0 where
  pub name : slice_get words 0 ≡ Some (codes "make")
  pub seed : option_and_then seed_number (slice_get words 2) ≡ Some command.seed
  pub trips : option_and_then trip_count (slice_get words 4) ≡ Some command.trips
  pub stops : option_and_then stop_count (slice_get words 6) ≡ Some command.stops

abbrev pub SaysTask : List (List ℕ) → Task → Type 0
SaysTask words (gtfsrt_task command) = SaysToGtfsrt words command
SaysTask words (siri_task command) = SaysToSiri words command
SaysTask words (sx_task command) = SaysToSiriSx words command
SaysTask words (show_task command) = SaysShow words command
SaysTask words (board_task command) = SaysBoard words command
SaysTask words (make_task command) = SaysMake words command

abbrev pub Says : List (List ℕ) → Job → Type 0
Says words (serve_job command) = SaysServe words command
Says words (task_job task) = SaysTask words task

-- the list of words is accepted, where `serve` has these optional pairs, as the command that says this
pub record IsJobWith (optional : List Pair) (words : List (List ℕ)) (job : Job) : Type 0 where
  pub accepted : IsAccepted (commands optional) words
  pub says : Says words job

abbrev pub IsJob : List (List ℕ) → Job → Type 0
IsJob words job = IsJobWith [] words job

-- the list isn't accepted, and its longest prefix that an accepted list starts with has that many words
pub record IsRefusedWith (optional : List Pair) (words : List (List ℕ)) (at : ℕ) : Type 0 where
  pub stops : StopsAt (IsAccepted (commands optional)) words at

abbrev pub IsRefusedAt : List (List ℕ) → ℕ → Type 0
IsRefusedAt words at = IsRefusedWith [] words at

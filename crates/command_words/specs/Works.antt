-- What the code's values of commands say, in the words of `Words.antt`.
use Rattle.std.specs.Prelude.{option_map}
use Rattle.command_words.specs.Words.{Board as AtStopSaid, Job, NamedZone, Scope as Said, Serve, Task as SaidTask, by_rule, by_file, board_task, gtfsrt_task, make_task, serve_job, show_task, siri_task, sx_task, task_job}
use Rattle.command_words.specs.declared.words.AtStop.{AtStop}
use Rattle.command_words.specs.declared.words.Scope.{Scope}
use Rattle.command_words.specs.declared.words.Server.{Server}
use Rattle.command_words.specs.declared.words.Task.{Task}
use Rattle.command_words.specs.declared.words.Task.TheVariants.{Board, ToGtfsrt, ToSiri, ToSiriSx, Show, Make}
use Rattle.command_words.specs.declared.words.Work.{Work}
use Rattle.command_words.specs.declared.words.Work.TheVariants as work
use Rattle.command_words.specs.declared.words.ZoneWord.{ZoneWord}
use Rattle.command_words.specs.declared.words.ZoneWord.TheVariants.{Rule, File}

-- the zone that is named
abbrev pub zone_of : ZoneWord → NamedZone
zone_of (Rule text) = by_rule text.now
zone_of (File path) = by_file path.now

-- what a command works over
abbrev pub scope_of : Scope → Said
scope_of scope = record { gtfs = scope.gtfs.now; zone = zone_of scope.zone; from = scope.from; days = scope.days }

-- what `serve` says
abbrev pub server_of : Server → Serve
server_of server =
    record {
      scope = scope_of server.scope;
      keep = server.keep;
      listen = server.listen.now;
      connections = server.connections;
      journal = option_map (λ file. file.now) server.journal;
    }

-- what `board` says
abbrev pub board_of : AtStop → AtStopSaid
board_of board =
    record {
      scope = scope_of board.scope;
      at = board.at;
      stop = board.stop.now;
      minutes = board.minutes;
      most = board.most;
      more = board.more.now;
    }

-- what a command says that writes its result and ends
abbrev pub task_of : Task → SaidTask
task_of (ToGtfsrt scope at more) = gtfsrt_task (record { scope = scope_of scope; at = at; more = more.now })
task_of (ToSiri scope at feed) = siri_task (record { scope = scope_of scope; at = at; feed = feed.now })
task_of (ToSiriSx scope at feed) = sx_task (record { scope = scope_of scope; at = at; feed = feed.now })
task_of (Show scope feed) = show_task (record { scope = scope_of scope; feed = feed.now })
task_of (Board board) = board_task (board_of board)
task_of (Make seed trips stops) = make_task (record { seed = seed; trips = trips; stops = stops })

-- what the command says
abbrev pub job_of : Work → Job
job_of (work.Serve server) = serve_job (server_of server)
job_of (work.Task task) = task_job (task_of task)

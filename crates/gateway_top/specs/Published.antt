-- What the commands publish, in the words of the two standards (SIRI 2.0, EstimatedVehicleJourney, PtSituationElement;
-- GTFS Realtime 2.0, FeedMessage).
use Rattle.std.specs.Prelude.{◌≡◌, ℕ, false, List, [], Option, Some, None, Ok, IfSome}
use Rattle.gw_base.specs.Directory.{bytes_of}
use Rattle.gw_base.specs.Told.{with_bytes}
use Rattle.gw_base.specs.declared.messages.Feed.{Feed}
use Rattle.service_day.specs.Windows.{IsWindow}
use Rattle.service_day.specs.Zones.{IsRuleZone, IsTableZone}
use Rattle.service_day.specs.declared.zones.Rules.{Rules}
use Rattle.timetable.specs.Seen.{seen}
use Rattle.timetable.specs.declared.numbers.StopNo.{StopNo}
use Rattle.board_command.specs.Shown.{ShowsBoard}
use Rattle.stop_schedule.specs.Timetable.{timetable}
use Rattle.feed_reading.specs.Tables.{MeansFeed}
use Rattle.journey_model.specs.FeedReadings.{is_differential}
use Rattle.journey_model.specs.declared.report.Report.{Report}
use Rattle.propagation.specs.Feeds.{IsReading}
use Rattle.propagation.specs.declared.feeds.FeedReading.{FeedReading}
use Rattle.show_command.specs.Lines.{shown}
use Rattle.reverse_alerts.specs.Sx.{IsSx}
use Rattle.reverse_calls.specs.Siri.{IsSiri}
use Rattle.gateway_core.specs.Arrivals.{moments_of, present, schedule_at}
use Rattle.gateway_core.specs.Deliveries.{schedule_in}
use Rattle.gateway_core.specs.Gives.{GivesEach}
use Rattle.gateway_core.specs.Recording.{IsRebuiltOf}
use Rattle.command_words.specs.Tables.{Pair}
use Rattle.command_words.specs.Words.{Board, IsJobWith, Job, Make, NamedZone, Scope, Show, Task, ToGtfsrt, ToSiri, by_rule, by_file, board_task, gtfsrt_task, make_task, serve_job, show_task, siri_task, sx_task, task_job}
use Rattle.file_commands.specs.Samples.{IsCountOfSample}
use Rattle.file_commands.specs.Tasks.{OverFiles}
use Rattle.file_commands.specs.Work.{Arrived, Arrives, Directory, IsStop, nothing}
use Rattle.gateway_core.specs.declared.setting.Setting.{Setting}
use Rattle.sample_counts.specs.Counts.{counts_text}
use Rattle.sample_counts.specs.declared.counts.SampleCounts.{SampleCounts}

-- a zone is the one that is named: of a rule, or of the bytes of a file
abbrev pub IsZone : NamedZone → Directory → Rules → Type 0
IsZone (by_rule text) files zone = IsRuleZone text zone
IsZone (by_file path) files zone = (bytes : List ℕ) × (bytes_of files path ≡ Some bytes) × IsTableZone bytes zone

-- the folder has a timetable, and the days make a window in the zone that is named, of which so many days are kept as
-- it rolls, or which stays: together they are the setting
pub record IsSetting (scope : Scope) (keep : Option ℕ) (files : Directory) (setting : Setting) : Type 0 where
  pub folder : timetable files scope.gtfs ≡ Ok (seen setting.table)
  pub zone : IsZone scope.zone files setting.zone
  pub window : IsWindow setting.zone scope.from scope.days setting.window
  pub keeps : setting.keep ≡ keep

-- standard output got the feed that is rebuilt of what arrived of the files' deliveries, in order, each taken after
-- those before. Read as protobuf, its bytes mean a full dataset of version 2.0, made at the moment of the command; and
-- this feed, propagated by GTFS Realtime's rules, gives every stop of every journey exactly the time and place, skip or
-- absence of the last-recorded SIRI journey
pub record PublishesFeed (command : ToGtfsrt) (files : Directory) (before now : Option (List ℕ)) : Type 0 where
  pub setting : Setting
  pub has_setting : IsSetting command.scope None files setting
  pub arrived : Arrived
  pub read : Arrives setting command.at files command.more nothing (Ok arrived)
  pub bytes : List ℕ
  pub written : now ≡ with_bytes before bytes
  pub rebuilt : IsRebuiltOf setting command.at arrived.arrivals bytes
  pub gives : GivesEach command.at (schedule_at setting (moments_of arrived.arrivals))
      (present setting arrived.arrivals) bytes

-- the file has these bytes, and they mean this feed, which is a full dataset
pub record IsFullFeed (name : List ℕ) (files : Directory) (feed : Feed) : Type 0 where
  pub body : List ℕ
  pub file : bytes_of files name ≡ Some body
  pub means : MeansFeed body feed
  pub full : is_differential feed ≡ false

-- standard output got the delivery that says what the file's feed says: each call has the propagated time and place of
-- its stop, and read again it gives just the journeys of the feed with their readings
pub record PublishesSiri (command : ToSiri) (files : Directory) (before now : Option (List ℕ)) : Type 0 where
  pub setting : Setting
  pub has_setting : IsSetting command.scope None files setting
  pub feed : Feed
  pub read : IsFullFeed command.feed files feed
  pub text : List ℕ
  pub written : now ≡ with_bytes before text
  pub report : Report
  pub says : IsSiri (schedule_in setting) feed command.at text report

-- standard output got the delivery that says the alerts of the file's feed: read again it gives just the situations of
-- those that are taken, in order, each of which is served, and the alert of each has the sense of the one that it came
-- from
pub record PublishesSituations (command : ToSiri) (files : Directory) (before now : Option (List ℕ)) : Type 0 where
  pub setting : Setting
  pub has_setting : IsSetting command.scope None files setting
  pub feed : Feed
  pub read : IsFullFeed command.feed files feed
  pub text : List ℕ
  pub written : now ≡ with_bytes before text
  pub report : Report
  pub says : IsSx (schedule_in setting) feed command.at text report

-- standard output got the lines of what the file's feed says of each journey
pub record PublishesLines (command : Show) (files : Directory) (before now : Option (List ℕ)) : Type 0 where
  pub setting : Setting
  pub has_setting : IsSetting command.scope None files setting
  pub feed : Feed
  pub read : IsFullFeed command.feed files feed
  pub reading : FeedReading
  pub is_reading : IsReading (schedule_in setting) feed reading
  pub written : now ≡ with_bytes before (shown (schedule_in setting) reading)

-- standard output got the board of the stop (SIRI 2.0, StopMonitoringDelivery): of what arrived of the files'
-- deliveries, in order, each taken after those before, the first so many visits that the journeys of the feed make
-- which is rebuilt of it, and which gives every stop exactly the time and place, skip or absence of the last-recorded
-- SIRI journey
pub record PublishesBoard (command : Board) (files : Directory) (before now : Option (List ℕ)) : Type 0 where
  pub setting : Setting
  pub has_setting : IsSetting command.scope None files setting
  pub stop : StopNo
  pub is_stop : IsStop command.stop setting (Ok stop)
  pub arrived : Arrived
  pub read : Arrives setting command.at files command.more nothing (Ok arrived)
  pub text : List ℕ
  pub written : now ≡ with_bytes before text
  pub shows : ShowsBoard setting command.at arrived.arrivals stop command.minutes command.most text

-- standard output got the line of what is counted of a sample: its made deliveries are taken over its made folder, each
-- after those before, and of the feed that is rebuilt of them the line says how it reads at each stop of each trip
pub record PublishesCounts (command : Make) (before now : Option (List ℕ)) : Type 0 where
  pub counts : SampleCounts
  pub counted : IsCountOfSample command.seed command.trips command.stops (Ok counts)
  pub written : now ≡ with_bytes before (counts_text command.trips command.stops counts)

-- what a command that ends publishes
abbrev pub PublishesTask : Task → Directory → Option (List ℕ) → Option (List ℕ) → Type 0
PublishesTask (gtfsrt_task command) = PublishesFeed command
PublishesTask (siri_task command) = PublishesSiri command
PublishesTask (sx_task command) = PublishesSituations command
PublishesTask (show_task command) = PublishesLines command
PublishesTask (board_task command) = PublishesBoard command
PublishesTask (make_task command) = λ files. PublishesCounts command

-- a server shows what it has to whoever connects, and writes nothing to standard output
abbrev pub PublishesOf : Job → Directory → Option (List ℕ) → Option (List ℕ) → Type 0
PublishesOf (serve_job command) files before now = now ≡ before
PublishesOf (task_job task) files before now = PublishesTask task files before now

-- over the files that are told; what `make` publishes needs none
abbrev pub OverTold : Job → Option Directory → (Directory → Type 0) → Type 0
OverTold (serve_job command) told Says = IfSome told Says
OverTold (task_job task) told Says = OverFiles task told Says

-- what a run of these words published, where `serve` has these optional pairs
pub record PublishesWith (optional : List Pair) (words : List (List ℕ)) (told : Option Directory)
    (before now : Option (List ℕ)) : Type 0 where
  pub job : Job
  pub accepted : IsJobWith optional words job
  pub published : OverTold job told (λ files. PublishesOf job files before now)

abbrev pub Publishes : List (List ℕ) → Option Directory → Option (List ℕ) → Option (List ℕ) → Type 0
Publishes words told before now = PublishesWith [] words told before now

-- What is published where the work was done.
use Rattle.std.proofs.Common.{◌≡◌, ℕ, Bool, true, false, List, length, Result, Ok, Err, Option, Some, None, IfSome, codes, ◌++◌, sym, ap, subst, ◌∙◌, refl, if◌then◌else◌}
use Rattle.std.specs.Prelude.{nat_le}
use Rattle.gw_base.specs.Directory.{bytes_of}
use Rattle.gw_base.specs.Told.{with_bytes}
use Rattle.gw_base.specs.declared.messages.Feed.{Feed}
use Rattle.gw_base.specs.Limits.{body_limit}
use Rattle.service_day.specs.Windows.{IsWindow}
use Rattle.service_day.specs.declared.zones.Rules.{Rules}
use Rattle.timetable.specs.Seen.{seen}
use Rattle.timetable.specs.Table.{Table}
use Rattle.stop_schedule.specs.Timetable.{timetable}
use Rattle.timetable.specs.declared.timetable.Timetable.{Timetable}
use Rattle.stop_schedule.specs.declared.table_fault.TableFault.{TableFault}
use Rattle.feed_reading.specs.Tables.{MeansFeed}
use Rattle.journey_model.specs.FeedReadings.{is_differential}
use Rattle.file_commands.specs.Bodies.{differential_end}
use Rattle.file_commands.specs.Done.{Done}
use Rattle.gateway_top.specs.Published.{IsFullFeed, IsSetting, IsZone, PublishesWith, PublishesBoard, PublishesCounts, PublishesFeed, PublishesLines, PublishesSiri, PublishesSituations, PublishesTask}
use Rattle.command_words.specs.Tables.{Pair}
use Rattle.command_words.specs.Words.{Board, IsJobWith, Make, NamedZone, Scope, Serve, Show, Task, ToGtfsrt, ToSiri, by_rule, by_file, board_task, gtfsrt_task, make_task, serve_job, show_task, siri_task, sx_task, task_job}
use Rattle.file_commands.specs.Samples.{IsMakeWork}
use Rattle.file_commands.specs.Tasks.{IsTaskWork, OverFiles}
use Rattle.file_commands.specs.Work.{Directory, IsBoardWork, IsFileFeed, IsSettingOf, IsShowWork, IsToGtfsrtWork, IsToSiriSxWork, IsToSiriWork, IsNamedZone, folder, full, further, zone_limit}
use Rattle.file_commands.specs.declared.exit.Exit.{Exit}
use Rattle.file_commands.specs.declared.exit.Exit.TheVariants.{Refused}
use Rattle.gateway_core.specs.declared.setting.Setting.{Setting}

-- what a step found, by its answer

found_table : (dir : List ℕ) (read : Result Table TableFault) (table : Table) → Ok table ≡ folder dir read → read ≡ Ok table
found_table dir (Ok other) table e = ap (λ t. Ok t) (sym (same_ok table other e))
  where
    same_ok : (a b : Table) → ◌≡◌ {A = Result Table Exit} (Ok a) (Ok b) → a ≡ b
    same_ok a b e = cc
found_table dir (Err fault) table e = absurd cc

found_body : (limit : ℕ) (name : List ℕ) (there : Option (List ℕ)) (body : List ℕ) → Ok body ≡ further limit name there → there ≡ Some body
found_body limit name None body e = absurd cc
found_body limit name (Some bytes) body e = by (nat_le (length bytes) limit) e
  where
    by : (fits : Bool) → ◌≡◌ {A = Result (List ℕ) Exit} (Ok body) (if fits then Ok bytes else Err (Refused (codes "TooLong " ++ name))) → Some bytes ≡ Some body
    by true e = let same : body ≡ bytes = cc in ap Some (sym same)
    by false e = absurd cc

found_zone : (named : NamedZone) (files : Directory) (zone : Rules) → IsNamedZone named files (Ok zone) → IsZone named files zone
found_zone (by_rule text) files zone is = is
found_zone (by_file path) files zone (bytes, read, is) = (bytes, found_body zone_limit path (bytes_of files path) bytes read, is)

pub is_setting : (scope : Scope) (keep : Option ℕ) (files : Directory) (setting : Setting) → IsSettingOf scope keep files (Ok setting) → IsSetting scope keep files setting
is_setting scope keep files setting (table, folder_is, (zone, zone_is, (table_same, zone_same, window_is, keeps))) = record {
  folder = subst (λ (t : Timetable). timetable files scope.gtfs ≡ Ok (seen t)) (sym table_same) (found_table scope.gtfs (timetable files scope.gtfs) (seen table) folder_is);
  zone = subst (λ (z : Rules). IsZone scope.zone files z) (sym zone_same) (found_zone scope.zone files zone zone_is);
  window = subst (λ (z : Rules). IsWindow z scope.from scope.days setting.window) (sym zone_same) window_is;
  keeps = keeps;
}

-- a feed that was read of a file is a full dataset
found_full : (name : List ℕ) (read feed : Feed) → Ok feed ≡ full name read → (feed ≡ read) × (is_differential read ≡ false)
found_full name read feed e = by (is_differential read) refl e
  where
    by : (b : Bool) → is_differential read ≡ b → ◌≡◌ {A = Result Feed Exit} (Ok feed) (if b then Err (differential_end name) else Ok read)
        → (feed ≡ read) × (is_differential read ≡ false)
    by true is h = absurd cc
    by false is h = (cc, is)

is_full_feed : (name : List ℕ) (files : Directory) (feed : Feed) → IsFileFeed name files (Ok feed) → IsFullFeed name files feed
is_full_feed name files feed (body, file, (read, means, full_is)) =
    let same = found_full name read feed full_is in
    record {
      body = body;
      file = found_body body_limit name (bytes_of files name) body file;
      means = subst (λ f. MeansFeed body f) (sym same.0) means.means;
      full = subst (λ (f : Feed). is_differential f ≡ false) (sym same.0) same.1;
    }

-- the feed of what arrived gives just the readings of the latest records
feed_published : (files : Directory) (command : ToGtfsrt) (done : Done) (before now : Option (List ℕ))
    → IsToGtfsrtWork command files (Ok done) → now ≡ with_bytes before done.out → PublishesFeed command files before now
feed_published files command done before now (setting, setting_is, (arrived, read, converted)) written =
    record {
      setting = setting;
      has_setting = is_setting command.scope None files setting setting_is;
      arrived = arrived;
      read = read;
      bytes = done.out;
      written = written;
      rebuilt = converted.0;
      gives = converted.1;
    }

-- the delivery of the feed that was read says what it says
siri_published : (files : Directory) (command : ToSiri) (done : Done) (before now : Option (List ℕ))
    → IsToSiriWork command files (Ok done) → now ≡ with_bytes before done.out → PublishesSiri command files before now
siri_published files command done before now (setting, setting_is, (feed, read, (report, says, reported))) written =
    record {
      setting = setting;
      has_setting = is_setting command.scope None files setting setting_is;
      feed = feed;
      read = is_full_feed command.feed files feed read;
      text = done.out;
      written = written;
      report = report;
      says = says;
    }

-- and so do its situations
situations_published : (files : Directory) (command : ToSiri) (done : Done) (before now : Option (List ℕ))
    → IsToSiriSxWork command files (Ok done) → now ≡ with_bytes before done.out → PublishesSituations command files before now
situations_published files command done before now (setting, setting_is, (feed, read, (report, says, reported))) written =
    record {
      setting = setting;
      has_setting = is_setting command.scope None files setting setting_is;
      feed = feed;
      read = is_full_feed command.feed files feed read;
      text = done.out;
      written = written;
      report = report;
      says = says;
    }

-- and so do its lines
lines_published : (files : Directory) (command : Show) (done : Done) (before now : Option (List ℕ))
    → IsShowWork command files (Ok done) → now ≡ with_bytes before done.out → PublishesLines command files before now
lines_published files command done before now (setting, setting_is, (feed, read, (reading, is_reading, lines, none))) written =
    record {
      setting = setting;
      has_setting = is_setting command.scope None files setting setting_is;
      feed = feed;
      read = is_full_feed command.feed files feed read;
      reading = reading;
      is_reading = is_reading;
      written = written ∙ ap (with_bytes before) lines;
    }

-- and the board of the stop that was found
board_published : (files : Directory) (command : Board) (done : Done) (before now : Option (List ℕ))
    → IsBoardWork command files (Ok done) → now ≡ with_bytes before done.out → PublishesBoard command files before now
board_published files command done before now (setting, setting_is, (stop, stop_is, (arrived, read, (shows, reported)))) written =
    record {
      setting = setting;
      has_setting = is_setting command.scope None files setting setting_is;
      stop = stop;
      is_stop = stop_is;
      arrived = arrived;
      read = read;
      text = done.out;
      written = written;
      shows = shows;
    }

-- and the line of a sample its counts
counts_published : (command : Make) (done : Done) (before now : Option (List ℕ)) → IsMakeWork command (Ok done) → now ≡ with_bytes before done.out
    → PublishesCounts command before now
counts_published command done before now (counts, counted, line, none) written =
    record { counts = counts; counted = counted; written = written ∙ ap (with_bytes before) line }

-- what is done publishes
pub publishes_task : (files : Directory) (task : Task) (done : Done) (before now : Option (List ℕ)) → IsTaskWork task files (Ok done) → now ≡ with_bytes before done.out
    → PublishesTask task files before now
publishes_task files (gtfsrt_task command) done before now work written = feed_published files command done before now work written
publishes_task files (siri_task command) done before now work written = siri_published files command done before now work written
publishes_task files (sx_task command) done before now work written = situations_published files command done before now work written
publishes_task files (show_task command) done before now work written = lines_published files command done before now work written
publishes_task files (board_task command) done before now work written = board_published files command done before now work written
publishes_task files (make_task command) done before now work written = counts_published command done before now work written

told_published : (files : Option Directory) (task : Task) (done : Done) (before now : Option (List ℕ))
    → IfSome files (λ told. IsTaskWork task told (Ok done)) → now ≡ with_bytes before done.out
    → IfSome files (λ told. PublishesTask task told before now)
told_published None task done before now work written = tt
told_published (Some told) task done before now work written = publishes_task told task done before now work written

pub publishes : (files : Option Directory) (task : Task) (done : Done) (before now : Option (List ℕ))
    → OverFiles task files (λ told. IsTaskWork task told (Ok done)) → now ≡ with_bytes before done.out
    → OverFiles task files (λ told. PublishesTask task told before now)
publishes files (gtfsrt_task command) done before now work written = told_published files (gtfsrt_task command) done before now work written
publishes files (siri_task command) done before now work written = told_published files (siri_task command) done before now work written
publishes files (sx_task command) done before now work written = told_published files (sx_task command) done before now work written
publishes files (show_task command) done before now work written = told_published files (show_task command) done before now work written
publishes files (board_task command) done before now work written = told_published files (board_task command) done before now work written
publishes files (make_task command) done before now work written = counts_published command done before now work written

-- the same by the words
pub by_task : (optional : List Pair) (words : List (List ℕ)) (files : Option Directory) (task : Task) (before now : Option (List ℕ)) → IsJobWith optional words (task_job task)
    → OverFiles task files (λ told. PublishesTask task told before now) → PublishesWith optional words files before now
by_task optional words files task before now accepted published = record { job = task_job task; accepted = accepted; published = published }

-- a server writes nothing
pub by_server : (optional : List Pair) (words : List (List ℕ)) (files : Option Directory) (command : Serve) (told : Option (List ℕ)) → IsJobWith optional words (serve_job command)
    → PublishesWith optional words files told told
by_server optional words files command told accepted = record { job = serve_job command; accepted = accepted; published = stays files }
  where
    stays : (files : Option Directory) → IfSome files (λ folder. told ≡ told)
    stays None = tt
    stays (Some folder) = refl

-- The order of work of the commands: the timetable, the zone, the window, each further file and its content. Each step
-- finds something or ends the work, and the first end counts.
use Rattle.std.specs.Prelude.{◌≡◌, ℕ, ℤ, List, [], ◌∷◌, ◌++◌, codes, length, position, nat_le, if◌then◌else◌, Option, Some, None, Result, Ok, Err}
use Rattle.std.specs.Bool.{MatchBool}
use Rattle.std.specs.Str.{bytes_eq}
use Rattle.gw_base.specs.Directory.{bytes_of}
use Rattle.gw_base.specs.Steps.{◌>>=◌}
use Rattle.gw_base.specs.declared.messages.Feed.{Feed}
use Rattle.gw_base.specs.Limits.{body_limit}
use Rattle.feed_reading.specs.Faults.{IsTold}
use Rattle.feed_reading.specs.declared.fault.FeedFault.{FeedFault}
use Rattle.journey_model.specs.FeedReadings.{is_differential}
use Rattle.journey_model.specs.declared.report.Report.{Report}
use Rattle.propagation.specs.Feeds.{IsReading}
use Rattle.propagation.specs.declared.feeds.FeedReading.{FeedReading}
use Rattle.show_command.specs.Lines.{shown as shown_lines}
use Rattle.reverse_alerts.specs.Sx.{IsSx}
use Rattle.reverse_calls.specs.Siri.{HasTooMany, IsSiri}
use Rattle.service_day.specs.Windows.{IsWindow}
use Rattle.service_day.specs.Zones.{IsRuleZone, IsBadRule, IsTableZone, IsBadTable}
use Rattle.service_day.specs.declared.zones.Rules.{Rules}
use Rattle.service_day.specs.declared.zones.ZoneFault.{ZoneFault}
use Rattle.service_day.specs.declared.zones.ZoneFault.TheVariants as zones
use Rattle.timetable.specs.Seen.{seen}
use Rattle.timetable.specs.Table.{Table}
use Rattle.stop_schedule.specs.Timetable.{timetable}
use Rattle.stop_schedule.specs.declared.table_fault.TableFault.{TableFault}
use Rattle.timetable.specs.declared.numbers.StopNo.{StopNo}
use Rattle.timetable.specs.declared.timetable.Timetable.{Timetable}
use Rattle.board_command.specs.Shown.{ShowsBoard}
use Rattle.file_commands.specs.Exits.{missing, too_long}
use Rattle.file_commands.specs.FolderTexts.{folder_end}
use Rattle.gateway_core.specs.Arrivals.{Arrival, Given, journeys, moments_of, present, schedule_at, situations}
use Rattle.gateway_core.specs.Deliveries.{schedule_in}
use Rattle.gateway_core.specs.Gives.{GivesEach}
use Rattle.gateway_core.specs.Recording.{IsRebuiltOf}
use Rattle.gateway_core.specs.Reports.{feed_report}
use Rattle.gateway_core.specs.Taking.{TakesJourneys, TakesSituations}
use Rattle.gateway_core.specs.declared.setting.Setting.{Setting}
use Rattle.gateway_core.specs.FeedTexts.{IsFeed}
use Rattle.journey_model.specs.Records.{Recorded}
use Rattle.journey_model.specs.declared.situation.Situation.{Situation}
use Rattle.siri_calls.specs.Deliveries.{ReadsBody}
use Rattle.siri_json.specs.declared.delivery.DeliveryFault.{DeliveryFault}
use Rattle.siri_situations.specs.Deliveries.{ReadsSituations}
use Rattle.file_commands.specs.Bodies.{body_end, differential_end, feed_end, many_calls_end}
use Rattle.file_commands.specs.Done.{Done}
use Rattle.command_words.specs.Words.{Board, NamedZone, Scope, Show, ToGtfsrt, ToSiri, by_rule, by_file}
use Rattle.file_commands.specs.declared.exit.Exit.{Exit}
use Rattle.file_commands.specs.declared.exit.Exit.TheVariants.{Memory, Refused}

-- files by name, of which the first with a name counts
abbrev pub Directory : Type 0
Directory = List (List ℕ × List ℕ)

-- the timetable of a folder, or the end that its fault is
abbrev pub folder : List ℕ → Result Table TableFault → Result Table Exit
folder dir (Ok table) = Ok table
folder dir (Err fault) = Err (folder_end dir fault)

-- what an answer shows
abbrev pub shown : Result Timetable Exit → Result Table Exit
shown (Ok table) = Ok (seen table)
shown (Err end) = Err end

abbrev pub IsFolder : List ℕ → Directory → Result Timetable Exit → Type 0
IsFolder dir files answer = shown answer ≡ folder dir (timetable files dir)

-- the most bytes of a zone file
abbrev pub zone_limit : ℕ
zone_limit = 1048576

-- the bytes of a further file, which may be missing or too long
abbrev pub further : ℕ → List ℕ → Option (List ℕ) → Result (List ℕ) Exit
further limit name None = Err (missing name)
further limit name (Some bytes) = if nat_le (length bytes) limit then Ok bytes else Err (too_long name)

abbrev pub IsFurtherFile : ℕ → List ℕ → Directory → Result (List ℕ) Exit → Type 0
IsFurtherFile limit name files answer = answer ≡ further limit name (bytes_of files name)

-- the end that a fault of a zone is
abbrev pub zone_end : ZoneFault → Exit
zone_end zones.Refused = Refused (codes "zone refused")
zone_end zones.Memory = Memory

-- the zone of a POSIX rule
abbrev pub IsZoneOfRule : List ℕ → Result Rules Exit → Type 0
IsZoneOfRule text (Ok zone) = IsRuleZone text zone
IsZoneOfRule text (Err end) = IsBadRule text × (end ≡ zone_end zones.Refused)

-- the zone of the bytes of a TZif file
abbrev pub IsZoneOfTable : List ℕ → Result Rules Exit → Type 0
IsZoneOfTable bytes (Ok zone) = IsTableZone bytes zone
IsZoneOfTable bytes (Err end) = IsBadTable bytes × (end ≡ zone_end zones.Refused)

-- the zone that is named
abbrev pub IsNamedZone : NamedZone → Directory → Result Rules Exit → Type 0
IsNamedZone (by_rule text) files = IsZoneOfRule text
IsNamedZone (by_file path) files = do
  bytes ← IsFurtherFile zone_limit path files
  IsZoneOfTable bytes

-- a step that finds this
abbrev pub IsFound : {A : Type 0} → A → Result A Exit → Type 0
IsFound found answer = answer ≡ Ok found

-- the timetable and the zone, with the window of so many days from the first on in that zone, and how many days are
-- kept of it as it rolls: without a number it stays
abbrev pub IsWindowed : Timetable → Rules → ℤ → ℕ → Option ℕ → Result Setting Exit → Type 0
IsWindowed table zone first days keep (Ok setting) =
    (setting.table ≡ table) × (setting.zone ≡ zone) × IsWindow zone first days setting.window × (setting.keep ≡ keep)
IsWindowed table zone first days keep (Err end) = ⊥

-- the zone and the window after a timetable
abbrev pub IsSettingOver : Timetable → NamedZone → ℤ → ℕ → Option ℕ → Directory → Result Setting Exit → Type 0
IsSettingOver table named first days keep files = do
  zone ← IsNamedZone named files
  IsWindowed table zone first days keep

-- what a command works over, and how many days it keeps
abbrev pub IsSettingOf : Scope → Option ℕ → Directory → Result Setting Exit → Type 0
IsSettingOf scope keep files = do
  table ← IsFolder scope.gtfs files
  IsSettingOver table scope.zone scope.from scope.days keep files

-- what a delivery's body gives at that moment after some arrivals, with the report on it; or the end that its fault is
abbrev pub GivesJourneys : Setting → ℤ → List ℕ → List ℕ → List Arrival → Result (Given × Report) Exit → Type 0
GivesJourneys setting at name body arrivals (Ok found) =
    (records : List Recorded) × (found.0 ≡ journeys records) × TakesJourneys setting arrivals at body found.1 records
GivesJourneys setting at name body arrivals (Err end) =
    (fault : DeliveryFault) × ReadsBody (schedule_at setting (at ∷ moments_of arrivals)) body (Err fault)
    × (end ≡ body_end name fault)

-- the same of one of situations
abbrev pub GivesSituations : Setting → ℤ → List ℕ → List ℕ → List Arrival → Result (Given × Report) Exit → Type 0
GivesSituations setting at name body arrivals (Ok found) =
    (all : List Situation) × (found.0 ≡ situations all) × TakesSituations setting arrivals at body found.1 all
GivesSituations setting at name body arrivals (Err end) =
    (fault : DeliveryFault) × ReadsSituations (schedule_at setting (at ∷ moments_of arrivals)) body (Err fault)
    × (end ≡ body_end name fault)

-- what a body gives: after the flag `--sx` situations, and after `--et` journeys
abbrev pub GivesBody : Setting → ℤ → List ℕ → List ℕ → List ℕ → List Arrival → Result (Given × Report) Exit → Type 0
GivesBody setting at flag name body arrivals answer =
    MatchBool (bytes_eq flag (codes "--sx"))
    (GivesSituations setting at name body arrivals answer) (GivesJourneys setting at name body arrivals answer)

-- what a file gives
abbrev pub GivesFile : Setting → ℤ → List ℕ → List ℕ → Directory → List Arrival → Result (Given × Report) Exit → Type 0
GivesFile setting at flag name files arrivals = do
  body ← IsFurtherFile body_limit name files
  GivesBody setting at flag name body arrivals

-- what arrived of some files, the newest first, and the reports on them, in order
pub record Arrived : Type 0 where
  pub arrivals : List Arrival
  pub reports : List ℕ

abbrev pub nothing : Arrived
nothing = record { arrivals = []; reports = [] }

-- with what a file more gives at that moment, and the report on it
abbrev pub with_file : ℤ → List ℕ → Arrived → Given × Report → Arrived
with_file at name before found = record {
  arrivals = record { moment = at; gives = found.0 } ∷ before.arrivals;
  reports = before.reports ++ feed_report name found.1;
}

-- what arrives at that moment of the files that words name, a flag before each, after what arrived before
abbrev pub Arrives : Setting → ℤ → Directory → List (List ℕ) → Arrived → Result Arrived Exit → Type 0
Arrives setting at files [] before = IsFound before
Arrives setting at files (flag ∷ []) before = IsFound before
Arrives setting at files (flag ∷ name ∷ words) before = do
  found ← GivesFile setting at flag name files before.arrivals
  Arrives setting at files words (with_file at name before found)

-- the feed that is rebuilt of what arrived, made at that moment, which gives each journey its latest reading, and the
-- reports
abbrev pub IsConverted : ℤ → Setting → Arrived → Result Done Exit → Type 0
IsConverted at setting arrived (Ok done) =
    IsRebuiltOf setting at arrived.arrivals done.out
    × GivesEach at (schedule_at setting (moments_of arrived.arrivals)) (present setting arrived.arrivals) done.out
    × (done.err ≡ arrived.reports)
IsConverted at setting arrived (Err end) = ⊥

-- the conversion of the files' deliveries
abbrev pub IsConversion : ℤ → Setting → List (List ℕ) → Directory → Result Done Exit → Type 0
IsConversion at setting words files = do
  arrived ← Arrives setting at files words nothing
  IsConverted at setting arrived

-- the work of `to-gtfsrt`
abbrev pub IsToGtfsrtWork : ToGtfsrt → Directory → Result Done Exit → Type 0
IsToGtfsrtWork command files = do
  setting ← IsSettingOf command.scope None files
  IsConversion command.at setting command.more files

-- the feed that bytes mean, or the end that their fault is
abbrev pub IsFeedIn : List ℕ → List ℕ → Result Feed Exit → Type 0
IsFeedIn name body (Ok feed) = IsFeed body feed
IsFeedIn name body (Err end) = (fault : FeedFault) × IsTold body fault × (end ≡ feed_end name fault)

-- the feed, which is a full dataset: one that only tells what changed is refused
abbrev pub full : List ℕ → Feed → Result Feed Exit
full name feed = if is_differential feed then Err (differential_end name) else Ok feed

abbrev pub IsFullDataset : List ℕ → Feed → Result Feed Exit → Type 0
IsFullDataset name feed answer = answer ≡ full name feed

-- the feed of a body, and of a file
abbrev pub IsBodyFeed : List ℕ → List ℕ → Result Feed Exit → Type 0
IsBodyFeed name body = do
  feed ← IsFeedIn name body
  IsFullDataset name feed

abbrev pub IsFileFeed : List ℕ → Directory → Result Feed Exit → Type 0
IsFileFeed name files = do
  body ← IsFurtherFile body_limit name files
  IsBodyFeed name body

-- the delivery that says what a feed says, and the report on its entities; or that its journeys have too many calls
abbrev pub IsSiriOf : ℤ → Setting → List ℕ → Feed → Result Done Exit → Type 0
IsSiriOf at setting name feed (Ok done) =
    (report : Report) × IsSiri (schedule_in setting) feed at done.out report × (done.err ≡ feed_report name report)
IsSiriOf at setting name feed (Err end) =
    (count : ℕ) × HasTooMany (schedule_in setting) feed count × (end ≡ many_calls_end name count)

abbrev pub IsSiriOfFile : ℤ → Setting → List ℕ → Directory → Result Done Exit → Type 0
IsSiriOfFile at setting name files = do
  feed ← IsFileFeed name files
  IsSiriOf at setting name feed

-- the work of `to-siri`
abbrev pub IsToSiriWork : ToSiri → Directory → Result Done Exit → Type 0
IsToSiriWork command files = do
  setting ← IsSettingOf command.scope None files
  IsSiriOfFile command.at setting command.feed files

-- the delivery of the situations that a feed's alerts are, and the report on its entities
abbrev pub IsSxOf : ℤ → Setting → List ℕ → Feed → Result Done Exit → Type 0
IsSxOf at setting name feed (Ok done) =
    (report : Report) × IsSx (schedule_in setting) feed at done.out report × (done.err ≡ feed_report name report)
IsSxOf at setting name feed (Err end) = ⊥

abbrev pub IsSxOfFile : ℤ → Setting → List ℕ → Directory → Result Done Exit → Type 0
IsSxOfFile at setting name files = do
  feed ← IsFileFeed name files
  IsSxOf at setting name feed

-- the work of `to-siri-sx`
abbrev pub IsToSiriSxWork : ToSiri → Directory → Result Done Exit → Type 0
IsToSiriSxWork command files = do
  setting ← IsSettingOf command.scope None files
  IsSxOfFile command.at setting command.feed files

-- the lines of what a feed says
abbrev pub IsLinesOf : Setting → Feed → Result Done Exit → Type 0
IsLinesOf setting feed (Ok done) =
    (reading : FeedReading) × IsReading (schedule_in setting) feed reading
    × (done.out ≡ shown_lines (schedule_in setting) reading) × (done.err ≡ [])
IsLinesOf setting feed (Err end) = ⊥

abbrev pub IsLinesOfFile : Setting → List ℕ → Directory → Result Done Exit → Type 0
IsLinesOfFile setting name files = do
  feed ← IsFileFeed name files
  IsLinesOf setting feed

-- the work of `show`
abbrev pub IsShowWork : Show → Directory → Result Done Exit → Type 0
IsShowWork command files = do
  setting ← IsSettingOf command.scope None files
  IsLinesOfFile setting command.feed files

-- the end where no stop has the id
abbrev pub stop_end : List ℕ → Exit
stop_end id = Refused (codes "UnknownStop " ++ id)

-- the stop of that id
abbrev pub IsStop : List ℕ → Setting → Result StopNo Exit → Type 0
IsStop id setting (Ok stop) = position (bytes_eq id) setting.table.stops ≡ Some stop.0
IsStop id setting (Err end) = (position (bytes_eq id) setting.table.stops ≡ None) × (end ≡ stop_end id)

-- the board of what arrived, and the reports
abbrev pub IsBoardOf : Board → Setting → StopNo → Arrived → Result Done Exit → Type 0
IsBoardOf command setting stop arrived (Ok done) =
    ShowsBoard setting command.at arrived.arrivals stop command.minutes command.most done.out
    × (done.err ≡ arrived.reports)
IsBoardOf command setting stop arrived (Err end) = ⊥

-- of the files' deliveries
abbrev pub IsBoardOfFiles : Board → Setting → Directory → StopNo → Result Done Exit → Type 0
IsBoardOfFiles command setting files stop = do
  arrived ← Arrives setting command.at files command.more nothing
  IsBoardOf command setting stop arrived

-- at the stop that is named
abbrev pub IsBoardAt : Board → Setting → Directory → Result Done Exit → Type 0
IsBoardAt command setting files = do
  stop ← IsStop command.stop setting
  IsBoardOfFiles command setting files stop

-- the work of `board`
abbrev pub IsBoardWork : Board → Directory → Result Done Exit → Type 0
IsBoardWork command files = do
  setting ← IsSettingOf command.scope None files
  IsBoardAt command setting files

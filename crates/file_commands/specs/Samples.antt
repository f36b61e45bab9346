-- The work of `make`, which is that of `to-gtfsrt` over files in memory, the folder and the deliveries of a sample;
-- then it is counted how the feed reads at every stop (GTFS Realtime, FeedMessage).
use Rattle.std.specs.Prelude.{◌≡◌, ℕ, List, [], ◌∷◌, codes, None, Result, Ok, Err}
use Rattle.gw_base.specs.Steps.{◌>>=◌}
use Rattle.gw_base.specs.declared.messages.Feed.{Feed}
use Rattle.journey_model.specs.declared.report.Report.{Report}
use Rattle.sample_counts.specs.Counts.{counts_of, counts_text}
use Rattle.sample_counts.specs.declared.counts.SampleCounts.{SampleCounts}
use Rattle.sample_maker.specs.Deliveries.{deliveries}
use Rattle.gateway_core.specs.Arrivals.{Arrival, Given, moments_of, schedule_at}
use Rattle.gateway_core.specs.FeedTexts.{IsFeed}
use Rattle.gateway_core.specs.Recording.{IsRebuiltOf}
use Rattle.gateway_core.specs.declared.setting.Setting.{Setting}
use Rattle.command_words.specs.Words.{Make}
use Rattle.file_commands.specs.Done.{Done}
use Rattle.file_commands.specs.Made.{made, made_at, made_files, made_scope}
use Rattle.file_commands.specs.Work.{GivesFile, IsFound, IsSettingOf}
use Rattle.file_commands.specs.declared.exit.Exit.{Exit}
use Rattle.file_commands.specs.declared.exit.Exit.TheVariants.{Failed, Memory}

-- files in memory are read or found missing: one that could not be read counts as want of memory
abbrev pub from_memory : Exit → Exit
from_memory Failed = Memory
from_memory end = end

-- what a sample is worked over
abbrev pub IsMadeSetting : ℕ → ℕ → Result Setting Exit → Type 0
IsMadeSetting trips stops = IsSettingOf made_scope None (made_files trips stops)

-- what a delivery gives that is the file `made`
abbrev pub GivesText : Setting → List ℕ → List Arrival → Result (Given × Report) Exit → Type 0
GivesText setting text arrivals = GivesFile setting made_at (codes "--et") made ((made, text) ∷ []) arrivals

-- what arrived with what a delivery more gives
abbrev pub with_text : List Arrival → Given × Report → List Arrival
with_text before found = record { moment = made_at; gives = found.0 } ∷ before

-- what arrives of deliveries, in order, after what arrived before
abbrev pub ArrivesOf : Setting → List (List ℕ) → List Arrival → Result (List Arrival) Exit → Type 0
ArrivesOf setting [] before = IsFound before
ArrivesOf setting (text ∷ texts) before = do
  found ← GivesText setting text before
  ArrivesOf setting texts (with_text before found)

-- the bytes of the feed that is rebuilt of what arrived
abbrev pub IsRebuiltBytes : Setting → List Arrival → Result (List ℕ) Exit → Type 0
IsRebuiltBytes setting arrivals (Ok bytes) = IsRebuiltOf setting made_at arrivals bytes
IsRebuiltBytes setting arrivals (Err end) = ⊥

-- the feed that bytes mean, which have no fault
abbrev pub IsMeantBy : List ℕ → Result Feed Exit → Type 0
IsMeantBy bytes (Ok feed) = IsFeed bytes feed
IsMeantBy bytes (Err end) = ⊥

-- the counts of bytes: those of the feed that they mean, as it reads over what the deliveries were read over
abbrev pub IsCountsOf : Setting → List Arrival → List ℕ → Result SampleCounts Exit → Type 0
IsCountsOf setting arrivals bytes = do
  feed ← IsMeantBy bytes
  IsFound (counts_of (schedule_at setting (moments_of arrivals)) bytes feed)

-- the counts of the feed of what arrived
abbrev pub IsCounted : Setting → List Arrival → Result SampleCounts Exit → Type 0
IsCounted setting arrivals = do
  bytes ← IsRebuiltBytes setting arrivals
  IsCountsOf setting arrivals bytes

-- the counts of the sample's deliveries over a setting
abbrev pub IsCountOfDeliveries : ℕ → ℕ → ℕ → Setting → Result SampleCounts Exit → Type 0
IsCountOfDeliveries seed trips stops setting = do
  arrivals ← ArrivesOf setting (deliveries seed trips stops) []
  IsCounted setting arrivals

-- the counts of the sample of these three numbers
abbrev pub IsCountOfSample : ℕ → ℕ → ℕ → Result SampleCounts Exit → Type 0
IsCountOfSample seed trips stops = do
  setting ← IsMadeSetting trips stops
  IsCountOfDeliveries seed trips stops setting

-- the work of `make`: the line of the sample's counts
abbrev pub IsMakeWork : Make → Result Done Exit → Type 0
IsMakeWork command (Ok done) =
    (counts : SampleCounts) × IsCountOfSample command.seed command.trips command.stops (Ok counts)
    × (done.out ≡ counts_text command.trips command.stops counts) × (done.err ≡ [])
IsMakeWork command (Err end) = IsCountOfSample command.seed command.trips command.stops (Err end)

-- What the board of a stop shows of what arrived at a gateway (SIRI 2.0, StopMonitoringDelivery).
use Rattle.std.specs.Prelude.{ℕ, ℤ, List}
use Rattle.std.specs.List.{flat_map}
use Rattle.journey_model.specs.Records.{Recorded}
use Rattle.latest_store.specs.Latest.{was_later}
use Rattle.latest_store.specs.Reads.{dated_reading}
use Rattle.gateway_core.specs.Arrivals.{Arrival, moments_of, present, schedule_at}
use Rattle.gateway_core.specs.Feeds.{comes_before}
use Rattle.gateway_core.specs.Keeping.{AreLatest}
use Rattle.gateway_core.specs.Winners.{has_key}
use Rattle.gateway_core.specs.declared.setting.Setting.{Setting}
use Rattle.stop_board.specs.BoardTree.{IsBoardText}
use Rattle.stop_board.specs.Visits.{visits_of}
use Rattle.stop_board.specs.declared.visits.Visit.{Visit}
use Rattle.timetable.specs.declared.numbers.StopNo.{StopNo}

-- the visits at a stop of journeys by their records, from a moment on for so many minutes: one for each call that a
-- record has there within the minutes, with the second in which it was recorded
abbrev pub visits : List Recorded → StopNo → ℤ → ℕ → List Visit
visits records stop from minutes =
    flat_map (λ one. visits_of (record { stop = stop; from = from; minutes = minutes }) (dated_reading one)) records

-- the text shows the first so many of the visits at a stop from that moment on for so many minutes: those of the
-- latest record of each journey that is present
pub record ShowsBoard (setting : Setting) (at : ℤ) (arrivals : List Arrival) (stop : StopNo) (minutes most : ℕ)
    (text : List ℕ) : Type 0 where
  pub latest : List Recorded
  pub are_latest : AreLatest has_key was_later comes_before (present setting arrivals) latest
  pub shows : IsBoardText (schedule_at setting (moments_of arrivals)) stop (visits latest stop at minutes) at most text

-- What an update says of a trip on a day of the window.
use Rattle.std.proofs.Common.{◌≡◌, ℕ, ℤ, true, Option, Some, Result}
use Rattle.gw_base.specs.declared.messages.Feed.{Feed}
use Rattle.gw_base.specs.declared.messages.TripUpdate.{TripUpdate}
use Rattle.journey_model.specs.FeedReadings.{reading_said, recorded_in, said_on, with_reading}
use Rattle.journey_model.specs.Runs.{Run}
use Rattle.journey_model.specs.Schedules.{Schedule}
use Rattle.journey_model.specs.declared.readings.DatedReading.{DatedReading}
use Rattle.propagation.specs.Answers.{Propagates}
use Rattle.propagation.specs.declared.update_fault.UpdateFault.{UpdateFault}

pub said_there : (schedule : Schedule) (feed : Feed) (update : TripUpdate) (trip trip' : ℕ) (day day' : ℤ)
    (found : Option Run) (run : Run) (result : Result DatedReading UpdateFault)
    → Some run ≡ found → trip' ≡ trip → day' ≡ day → schedule.table.runs trip day ≡ true
    → Propagates (with_reading trip' day' (recorded_in feed update) (reading_said run update)) result
    → Propagates (said_on schedule feed update trip day found) result
said_there schedule feed update trip trip' day day' found run result is same_trip same_day runs h =
    rw (← is, runs) (rw (same_trip, same_day) at h)

-- Readings that a delivery can say.
use Rattle.std.specs.Prelude.{IfSome}
use Rattle.service_day.specs.Days.{IsDay}
use Rattle.service_day.specs.Starts.{IsDayStart}
use Rattle.gw_base.specs.Moments.{IsMoment}
use Rattle.service_day.specs.Windows.{start_in}
use Rattle.journey_model.specs.Schedules as schedules
use Rattle.journey_model.specs.Schedules.{Schedule}
use Rattle.journey_model.specs.declared.readings.DatedReading.{DatedReading}

-- a reading can be served for its trip on its day, and its day, the start of that day and the moment at which it was
-- recorded are in the ranges of the texts that name them
pub record IsSayable (schedule : Schedule) (one : DatedReading) : Type 0 where
  pub servable : schedules.IsServable schedule one.trip.0 one.day one.reading
  pub is_day : IsDay one.day
  pub is_start : IfSome (start_in schedule.window one.day) IsDayStart
  pub is_recorded : IfSome one.recorded IsMoment

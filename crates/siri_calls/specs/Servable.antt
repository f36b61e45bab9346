-- Records that can be served.
use Rattle.journey_model.specs.Schedules as schedules
use Rattle.journey_model.specs.Schedules.{Schedule}
use Rattle.journey_model.specs.declared.readings.JourneyRecord.{JourneyRecord}

-- a record's reading can be served for its trip on its day
abbrev pub IsServable : Schedule → JourneyRecord → Type 0
IsServable schedule one = schedules.IsServable schedule one.trip.0 one.day one.reading

-- What a delivery that was written says when it is read again.
use Rattle.std.specs.Prelude.{◌≡◌, ℕ, ℤ, List, map, unwrap_or, Some, Result, Ok}
use Rattle.journey_model.specs.Records.{Recorded}
use Rattle.journey_model.specs.Schedules.{Schedule}
use Rattle.journey_model.specs.declared.fault.Fault.{Fault}
use Rattle.journey_model.specs.declared.readings.DatedReading.{DatedReading}
use Rattle.serde_json.specs.Data.{Data}
use Rattle.siri_calls.specs.Verdicts.{verdicts}
use Rattle.siri_json.specs.Deliveries.{tree_of}

-- a reading as a record: recorded at the moment that it has, else at the delivery's
abbrev pub said_again : ℤ → DatedReading → Recorded
said_again moment one =
    record { trip = one.trip.0; day = one.day; at = (unwrap_or one.recorded moment, 0); reading = one.reading }

-- such a record is taken, with no call passed over
abbrev pub taken_again : ℤ → DatedReading → Result (Recorded × ℕ) Fault
taken_again moment one = Ok (said_again moment one, 0)

-- the text is JSON, and its items are just these journeys with these readings, in order: each is taken, and nothing is
-- set aside
pub record SaysAgain (schedule : Schedule) (moment : ℤ) (journeys : List DatedReading) (text : List ℕ) : Type 0 where
  pub tree : Data
  pub is_tree : tree_of text ≡ Some tree
  pub all : verdicts schedule tree ≡ Ok (map (taken_again moment) journeys)

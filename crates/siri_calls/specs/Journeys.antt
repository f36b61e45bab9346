-- What an item of a delivery says of a journey (SIRI 2.0, EstimatedVehicleJourney, RecordedCall and EstimatedCall).
use Rattle.std.specs.Prelude.{ℕ, ℤ, Bool, List, Option}

-- what an item says before its calls: the instant of recording, the service day, the trip's id, and whether the journey
-- is cancelled or an extra one
pub record Header : Type 0 where
  pub at : ℤ × ℕ
  pub day : ℤ
  pub trip_id : List ℕ
  pub cancelled : Bool
  pub extra : Bool

-- a call that is read: the id of its stop, its number in the order of stops, from 1, whether the stop is skipped, and
-- the seconds since 1970 at which the journey arrives and departs there
pub record Call : Type 0 where
  pub stop : List ℕ
  pub order : Option ℕ
  pub skip : Bool
  pub arrival : Option ℤ
  pub departure : Option ℤ

-- What it is that a list of updates says how a trip's stops read, and that another list has an update wherever it has
-- one.
use Rattle.std.specs.Prelude.{◌≡◌, ◌==◌, ℕ, IsTrue, List, Ok, ⊤}
use Rattle.std.specs.List.{list_any}
use Rattle.gw_base.specs.declared.messages.StopUpdate.{StopUpdate}
use Rattle.journey_model.specs.Propagation.{propagated}
use Rattle.journey_model.specs.Runs.{Run}
use Rattle.journey_model.specs.Updates.{places}
use Rattle.journey_model.specs.declared.readings.JourneyReading.{JourneyReading}
use Rattle.journey_model.specs.declared.readings.JourneyReading.TheVariants.{Cancelled, Stops}
use Rattle.journey_model.specs.declared.readings.StopReading.{StopReading}

-- the updates have places without a fault, and their propagation is this reading of every stop
pub record SaysStops (run : Run) (updates : List StopUpdate) (readings : List StopReading) : Type 0 where
  pub at : List ℕ
  pub placed : places run updates ≡ Ok at
  pub read : propagated run at updates ≡ readings

abbrev pub Says : Run → List StopUpdate → JourneyReading → Type 0
Says run updates Cancelled = ⊤
Says run updates (Stops readings) = SaysStops run updates readings

-- there is a position among places
abbrev pub HasPlace : ℕ → List ℕ → Type 0
HasPlace position places = IsTrue (list_any (λ other. other == position) places)

-- every list of updates that says the same has an update at each position of these
abbrev pub IsLeast : Run → List StopUpdate → List StopReading → Type 0
IsLeast run updates readings =
    (mine : SaysStops run updates readings) (others : List StopUpdate) (theirs : SaysStops run others readings)
    (position : ℕ)
    → HasPlace position mine.at → HasPlace position theirs.at

abbrev pub IsLeastOf : Run → List StopUpdate → JourneyReading → Type 0
IsLeastOf run updates Cancelled = ⊤
IsLeastOf run updates (Stops readings) = IsLeast run updates readings

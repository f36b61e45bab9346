-- Where a later reading of a journey stands in the place of an earlier one.
use Rattle.std.specs.Prelude.{◌≡◌, ◌<◌, ◌++◌, ◌∷◌, [], ℕ, List, length, slice_index_or, slice_set, true, Option, Some, None, IfSome}
use Rattle.journey_model.specs.FeedReadings.{is_of}
use Rattle.journey_model.specs.declared.readings.DatedReading.{DatedReading}
use Rattle.propagation.specs.declared.entity_said.EntitySaid.{EntitySaid}
use Rattle.propagation.specs.declared.entity_said.EntitySaid.TheVariants.{Given, Replaced}

-- at a place a reading is held of the journey of which this reads, with its number
pub record IsEarlier (held : List (ℕ × EntitySaid)) (reading : DatedReading) (at : ℕ × ℕ) : Type 0 where
  pub one : DatedReading
  pub within : at.0 < length held
  pub is : slice_index_or held at.0 (at.1, Given one) ≡ (at.1, Given one)
  pub same : is_of reading.trip.0 reading.day one ≡ true

-- what is held, with the one at a place replaced
abbrev pub replaced_at : Option (ℕ × ℕ) → List (ℕ × EntitySaid) → List (ℕ × EntitySaid)
replaced_at None held = held
replaced_at (Some at) held = slice_set held at.0 (at.1, Replaced)

-- of what an entity says: a reading of the same journey at that place
abbrev pub IsEarlierOf : List (ℕ × EntitySaid) → EntitySaid → ℕ × ℕ → Type 0
IsEarlierOf held said at = (reading : DatedReading) × (said ≡ Given reading) × IsEarlier held reading at

-- what an entity says is held at the end, and an earlier reading of its journey may be replaced
pub record Holds (held now : List (ℕ × EntitySaid)) (number : ℕ) (said : EntitySaid) : Type 0 where
  pub earlier : Option (ℕ × ℕ)
  pub is_earlier : IfSome earlier (IsEarlierOf held said)
  pub held_is : now ≡ replaced_at earlier (held ++ (number, said) ∷ [])

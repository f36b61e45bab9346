-- The entities of a feed, sorted out.
use Rattle.std.specs.Prelude.{◌≡◌, ◌==◌, ◌&&◌, ℕ, ℤ, Bool, Option, is_some, Result, List, length, reverse}
use Rattle.std.specs.List.{list_any}
use Rattle.std.specs.Ordering.{int_eq}
use Rattle.journey_model.specs.FeedReadings.{aside_all, given_all, last_of_each, last_reading, passed_count}
use Rattle.journey_model.specs.declared.fault.Fault.{Fault}
use Rattle.journey_model.specs.declared.readings.DatedReading.{DatedReading}
use Rattle.propagation.specs.declared.feeds.SortedOut.{SortedOut}

-- a trip on a day, by their numbers
abbrev pub same_key : ℤ × ℕ → ℤ × ℕ → Bool
same_key a b = int_eq a.0 b.0 && (a.1 == b.1)

abbrev pub key_of : DatedReading → ℤ × ℕ
key_of one = (one.day, one.trip.0)

-- of readings that came from the last on, the journeys that were seen, and the last reading of each
pub record AreLast (after : List DatedReading) (keys : List (ℤ × ℕ)) (last : List DatedReading) : Type 0 where
  pub saw : (one : DatedReading)
      → list_any (same_key (key_of one)) keys ≡ is_some (last_reading one.trip.0 one.day after)
  pub last_is : last ≡ reverse (last_of_each after)

-- where the entities say this: of the readings of one journey the last, from the last on, how many were taken and
-- passed, and which were set aside
pub record IsSortedOut (said : List (Option (Result DatedReading Fault))) (sorted : SortedOut) : Type 0 where
  pub last : sorted.last.items ≡ reverse (last_of_each (given_all said))
  pub taken : sorted.taken ≡ length (given_all said)
  pub passed : sorted.passed ≡ passed_count said
  pub aside : sorted.aside ≡ aside_all said

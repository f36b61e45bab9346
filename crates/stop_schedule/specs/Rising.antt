-- Stops in rising sequence, and the place of one more among them.
use Rattle.std.specs.Prelude.{◌≡◌, ◌==◌, ◌&&◌, ℕ, Bool, true, nat_lt, List, [], ◌∷◌, take, drop}
use Rattle.std.specs.List.{list_all, list_any}
use Rattle.stop_schedule.specs.declared.stop_times.LoadedStop.{LoadedStop}

-- a stop has that sequence
abbrev pub has_sequence : ℕ → List LoadedStop → Bool
has_sequence sequence stops = list_any (λ stop. sequence == stop.sequence) stops

-- each stop's sequence is less than that, or greater
abbrev pub all_less : ℕ → List LoadedStop → Bool
all_less sequence stops = list_all (λ stop. nat_lt stop.sequence sequence) stops

abbrev pub all_greater : ℕ → List LoadedStop → Bool
all_greater sequence stops = list_all (λ stop. nat_lt sequence stop.sequence) stops

-- each stop has a greater sequence than those before it
abbrev pub is_rising : List LoadedStop → Bool
is_rising [] = true
is_rising (stop ∷ stops) = all_greater stop.sequence stops && is_rising stops

-- the sequence is greater than those of the stops before a place, and less than those of the others
pub record IsBetween (stops : List LoadedStop) (sequence place : ℕ) : Type 0 where
  pub before : all_less sequence (take place stops) ≡ true
  pub after : all_greater sequence (drop place stops) ≡ true

-- What is known of what was made of rows, whatever they say.
use Rattle.std.proofs.Common.{◌≡◌, ◌<◌, ℕ, zero, suc, true, false, nat_le, nat_lt, List, [], ◌∷◌, length, replicate, get_or, refl, arith}
use Rattle.std.specs.Cmp.Derive.{both_true}
use Rattle.std.proofs.lemmas.Bool.{le-leb, ltb-true}
use Rattle.stop_schedule.specs.Keeping.{all_loaded, are_below, are_loaded, is_loaded}
use Rattle.timetable.specs.Limits.{stop_limit}
use Rattle.stop_schedule.specs.Rising.{has_sequence, is_rising}
use Rattle.stop_schedule.specs.StopTimes.{placed}
use Rattle.stop_schedule.specs.declared.stop_times.LoadedStop.{LoadedStop}
use Rattle.timetable.proofs.IdLemmas.{and-left, and-right}
use Rattle.stop_schedule.proofs.SequenceLemmas.{all-placed, length-placed, rising-placed}

-- no trip has stops yet
none : (stops n : ℕ) → all_loaded stops (replicate n []) ≡ true
none stops zero = refl
none stops (suc n) = none stops n

pub none-loaded : (stops n : ℕ) (by_trip : List (List LoadedStop)) → by_trip ≡ replicate n []
    → all_loaded stops by_trip ≡ true
none-loaded stops n by_trip is = rw is (none stops n)

pub loaded-placed : (stops : ℕ) (stop : LoadedStop) (held : List LoadedStop) → is_loaded stops stop ≡ true
    → are_loaded stops held ≡ true
    → length held < stop_limit → has_sequence stop.sequence held ≡ false → are_loaded stops (placed stop held) ≡ true
loaded-placed stops stop held one all few none_has =
    let rest = and-right (nat_le (length held) stop_limit) _ all in
    let long : length (placed stop held) ≡ suc (length held) = length-placed stop held in
    both_true (le-leb (length (placed stop held)) stop_limit (omega arith))
    (both_true (rising-placed stop held (and-left (is_rising held) _ rest) none_has)
    (all-placed (is_loaded stops) stop held one (and-right (is_rising held) _ rest)))

pub loaded-at : (stops : ℕ) (by_trip : List (List LoadedStop)) (place : ℕ) → all_loaded stops by_trip ≡ true
    → are_loaded stops (get_or by_trip place []) ≡ true
loaded-at stops [] place all = refl
loaded-at stops (held ∷ by_trip) zero all = and-left (are_loaded stops held) _ all
loaded-at stops (held ∷ by_trip) (suc place) all =
    loaded-at stops by_trip place (and-right (are_loaded stops held) _ all)

pub below-at : (limit : ℕ) (numbers : List ℕ) (place : ℕ) → are_below limit numbers ≡ true → place < length numbers
    → get_or numbers place 0 < limit
below-at limit [] place all within = absurd (omega arith)
below-at limit (number ∷ numbers) zero all within = ltb-true number limit (and-left (nat_lt number limit) _ all)
below-at limit (number ∷ numbers) (suc place) all within =
    below-at limit numbers place (and-right (nat_lt number limit) _ all) (omega arith)

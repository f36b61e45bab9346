-- A stop of a trip is known.
use Rattle.std.proofs.Common.{◌≡◌, ℕ, ◌<◌, nat_lt, true, List, [], ◌∷◌, slice_get, Some, zero, suc, ltb-true}
use Rattle.std.proofs.lemmas.Bool.{and_parts}
use Rattle.timetable.specs.Stops.{are_known}
use Rattle.timetable.specs.declared.stop_row.StopRow.{StopRow}

-- each stop of a trip is one of so many
pub known_at : (stops : ℕ) (rows : List StopRow) (position : ℕ) (row : StopRow) → are_known stops rows ≡ true
    → slice_get rows position ≡ Some row → row.stop.0 < stops
known_at stops [] position row known at = absurd (cc)
known_at stops (first ∷ rows) zero row known at =
    let same : first ≡ row = cc in
    rw (← same) (ltb-true _ _ (and_parts (nat_lt first.stop.0 stops) (are_known stops rows) known).0)
known_at stops (first ∷ rows) (suc position) row known at =
    known_at stops rows position row (and_parts (nat_lt first.stop.0 stops) (are_known stops rows) known).1 at

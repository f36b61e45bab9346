-- The ids of a timetable, by which trips, stops and routes are numbered.
use Rattle.std.specs.Prelude.{ℕ, List, [], slice_index_or}

-- the id of that number
abbrev pub id_of : List (List ℕ) → ℕ → List ℕ
id_of ids number = slice_index_or ids number []

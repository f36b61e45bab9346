-- Ids of trips, stops and routes.
use Rattle.std.specs.Prelude.{◌&&◌, ◌++◌, ℕ, Bool, true, not, nat_le, List, [], ◌∷◌, length, if◌then◌else◌}
use Rattle.std.specs.List.{list_all, list_any}
use Rattle.std.specs.Str.{bytes_eq, is_utf8}
use Rattle.timetable.specs.Limits.{id_limit}

-- at least one byte, and no more than an id has
abbrev pub has_id_len : List ℕ → Bool
has_id_len id = nat_le 1 (length id) && nat_le (length id) id_limit

-- UTF-8 text of so many bytes
abbrev pub is_id : List ℕ → Bool
is_id id = has_id_len id && is_utf8 id

-- whether a list has that id
abbrev pub has_id : List ℕ → List (List ℕ) → Bool
has_id id ids = list_any (bytes_eq id) ids

-- no id of the list stands in it again
abbrev pub are_distinct : List (List ℕ) → Bool
are_distinct [] = true
are_distinct (id ∷ ids) = not (has_id id ids) && are_distinct ids

-- each is an id, and none stands there twice
abbrev pub are_ids : List (List ℕ) → Bool
are_ids ids = list_all is_id ids && are_distinct ids

-- the ids with one more, if they lack it
abbrev pub with_id : List ℕ → List (List ℕ) → List (List ℕ)
with_id id ids = if has_id id ids then ids else ids ++ id ∷ []

-- The fields of a row, without the blanks round them.
use Rattle.std.specs.Prelude.{◌==◌, ◌||◌, ℕ, Bool, List, [], ◌∷◌, reverse, slice_get, unwrap_or, if◌then◌else◌}

-- a space or a tab
abbrev pub is_blank : ℕ → Bool
is_blank byte = (byte == 32) || (byte == 9)

-- the bytes from the first that is no blank
abbrev pub skip_blanks : List ℕ → List ℕ
skip_blanks [] = []
skip_blanks (byte ∷ bytes) = if is_blank byte then skip_blanks bytes else byte ∷ bytes

-- the bytes up to the last that is no blank
abbrev pub drop_blanks : List ℕ → List ℕ
drop_blanks bytes = reverse (skip_blanks (reverse bytes))

-- the bytes without the spaces and tabs at both ends
abbrev pub trimmed : List ℕ → List ℕ
trimmed bytes = drop_blanks (skip_blanks bytes)

-- the trimmed field of a row at a place, which is empty where the row is shorter
abbrev pub field_of : ℕ → List (List ℕ) → List ℕ
field_of place row = trimmed (unwrap_or (slice_get row place) [])

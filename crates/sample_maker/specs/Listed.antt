-- Texts with commas between them, as JSON lists its items.
use Rattle.std.specs.Prelude.{ℕ, Bool, true, false, List, [], ◌∷◌, ◌++◌}
use Rattle.std.specs.List.{join_with_byte}

abbrev pub listed : List (List ℕ) → List ℕ
listed texts = join_with_byte 44 texts

-- for the clauses of what writes them one after the other: whether any text stands there, a comma where one does, and
-- the texts that follow
unfoldable pub has_some : List (List ℕ) → Bool
has_some [] = false
has_some (text ∷ texts) = true

abbrev pub comma_if : Bool → List ℕ
comma_if true = 44 ∷ []
comma_if false = []

unfoldable pub following : Bool → List (List ℕ) → List ℕ
following later [] = []
following later (text ∷ []) = comma_if later ++ text
following later (text ∷ next ∷ texts) = comma_if later ++ text ++ following true (next ∷ texts)

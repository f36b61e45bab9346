-- Lists that are made of one piece for each number.
use Rattle.std.specs.Prelude.{ℕ, zero, suc, List, [], ◌++◌}

-- the pieces for the numbers below that one, in order
unfoldable pub all_below : {A : Type 0} → (ℕ → List A) → ℕ → List A
all_below piece zero = []
all_below piece (suc n) = all_below piece n ++ piece n

-- a text after what leads to it
unfoldable pub led : List ℕ → List ℕ → List ℕ
led lead text = lead ++ text

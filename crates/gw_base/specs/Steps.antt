-- Work in steps. A step is said by its answers: what it may find, and how it may end the work.
use Rattle.std.specs.Prelude.{Result, Ok, Err, ◌⊎◌}

-- a step, and the next one with what it found: the first end counts
abbrev pub Then : {A B E : Type 0} → (Result A E → Type 0) → (A → Result B E → Type 0) → Result B E → Type 0
Then {A} First Next (Ok last) = (found : A) × First (Ok found) × Next found (Ok last)
Then {A} First Next (Err end) = First (Err end) ⊎ ((found : A) × First (Ok found) × Next found (Err end))

infixl 10 ◌>>=◌
abbrev pub ◌>>=◌ : {A B E : Type 0} → (Result A E → Type 0) → (A → Result B E → Type 0) → Result B E → Type 0
First >>= Next = λ answer. Then First Next answer

-- What an object of the outside tells of its content. It may tell nothing.
use Rattle.std.specs.Prelude.{◌≡◌, ◌<◌, ◌≤◌, ℕ, List, ◌++◌, length, take, Option, option_map}

-- what is told of a sink's content after these bytes were appended; a sink that tells nothing still tells nothing
abbrev pub with_bytes : Option (List ℕ) → List ℕ → Option (List ℕ)
with_bytes told bytes = option_map (λ written. written ++ bytes) told

-- a sink got a prefix of a text after what it held, and less than the whole only for this cause
abbrev pub PutsUnless : Type 0 → Option (List ℕ) → Option (List ℕ) → List ℕ → Type 0
PutsUnless Cause before now text =
    (n : ℕ) × (n ≤ length text) × (now ≡ with_bytes before (take n text)) × (n < length text → Cause)

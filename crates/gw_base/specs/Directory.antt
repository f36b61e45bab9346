-- Files by name, as a list of names and bytes.
use Rattle.std.specs.Prelude.{◌≡◌, ℕ, ◌<◌, ◌≤◌, List, [], ◌∷◌, ◌++◌, length, Option, Some, None, if◌then◌else◌}
use Rattle.std.specs.Str.{bytes_eq}

-- the bytes of the first file of that name, if there is one
abbrev pub bytes_of : List (List ℕ × List ℕ) → List ℕ → Option (List ℕ)
bytes_of [] name = None
bytes_of (file ∷ files) name = if bytes_eq file.0 name then Some file.1 else bytes_of files name

-- there is a file, of at most so many bytes, and they follow what stood there
abbrev pub IsRead : Option (List ℕ) → ℕ → List ℕ → List ℕ → Type 0
IsRead None limit before now = ⊥
IsRead (Some bytes) limit before now = (length bytes ≤ limit) × (now ≡ before ++ bytes)

-- there is a file, of more bytes than that
abbrev pub IsLonger : Option (List ℕ) → ℕ → Type 0
IsLonger None limit = ⊥
IsLonger (Some bytes) limit = limit < length bytes

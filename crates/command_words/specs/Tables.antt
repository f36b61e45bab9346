-- Commands as tables of pairs of words: which lists of words a table accepts, and where another list stops being the
-- start of an accepted one. All of it is said of any table.
use Rattle.std.specs.Prelude.{◌<◌, ◌≤◌, ◌+◌, ℕ, Bool, IsTrue, IsSomeAnd, Option, List, [], ◌∷◌, ◌++◌, take, length, nat_eq, find}
use Rattle.std.proofs.Common.{get_or}
use Rattle.std.specs.List.{AllByRecursion, list_any}
use Rattle.std.specs.Cmp.Lexicographic.{pointwise}

-- a test of a value, given the value before it
abbrev pub Form : Type 0
Form = List ℕ → List ℕ → Bool

-- a pair of words: one of these flags, and after it a value of this form
pub record Pair : Type 0 where
  pub flags : List (List ℕ)
  pub form : Form

-- a command: its name, its pairs, those that may follow them, of which the last ones may be missing, and the pair that
-- may be repeated after all of them (none where that has no flag)
pub record Command : Type 0 where
  pub name : List ℕ
  pub pairs : List Pair
  pub optional : List Pair
  pub repeated : Pair

-- a word is a flag of the pair
abbrev pub is_flag : Pair → List ℕ → Bool
is_flag pair word = list_any (λ flag. pointwise nat_eq flag word) pair.flags

-- the pair of that number: after the last one, the repeated one
abbrev pub pair_at : Command → ℕ → Pair
pair_at command number = get_or (command.pairs ++ command.optional) number command.repeated

-- the words are the pairs of the command from that number on, after the value before: each of its pairs once, in their
-- order, then those of the optional ones that are there, and then any number of repeated ones
abbrev pub ArePairs : Command → ℕ → List ℕ → List (List ℕ) → Type 0
ArePairs command number before [] = length command.pairs ≤ number
ArePairs command number before (flag ∷ []) = ⊥
ArePairs command number before (flag ∷ value ∷ words) =
    IsTrue (is_flag (pair_at command number) flag)
    × IsTrue ((pair_at command number).form before value)
    × ArePairs command (number + 1) value words

-- the command of that name
abbrev pub with_name : List Command → List ℕ → Option Command
with_name commands name = find (λ command. pointwise nat_eq command.name name) commands

-- the words are the name of one of these commands, which is the value before the first one, and its pairs
abbrev pub IsAccepted : List Command → List (List ℕ) → Type 0
IsAccepted commands [] = ⊥
IsAccepted commands (name ∷ words) = IsSomeAnd (with_name commands name) (λ command. ArePairs command 0 name words)

-- the words are the start of an accepted list, which may be the whole of it
abbrev pub IsStart : (List (List ℕ) → Type 0) → List (List ℕ) → Type 0
IsStart Accepted words = (rest : List (List ℕ)) × Accepted (words ++ rest)

-- the list isn't accepted, and its longest prefix that an accepted list starts with has that many words
pub record StopsAt (Accepted : List (List ℕ) → Type 0) (words : List (List ℕ)) (at : ℕ) : Type 0 where
  pub none : ¬ (Accepted words)
  pub within : at ≤ length words
  pub start : IsStart Accepted (take at words)
  pub longest : (n : ℕ) → n ≤ length words → IsStart Accepted (take n words) → n ≤ at

-- the form can be met, whatever the value before
abbrev pub CanBeMet : Form → Type 0
CanBeMet form = (before : List ℕ) → (value : List ℕ) × IsTrue (form before value)

abbrev pub CanStand : Pair → Type 0
CanStand pair = (0 < length pair.flags) × CanBeMet pair.form

-- each pair has a flag and a form that can be met: then what is right so far is the start of an accepted list
pub record IsSatisfiable (command : Command) : Type 0 where
  pub pairs : AllByRecursion CanStand (command.pairs ++ command.optional)
  pub repeated : CanBeMet command.repeated.form

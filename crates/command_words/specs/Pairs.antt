-- Where a list of words that is to begin with a pair goes wrong: at its flag, or at the value after it.
use Rattle.std.specs.Prelude.{◌≡◌, ℕ, false, MatchBool, List, [], ◌∷◌}
use Rattle.command_words.specs.Tables.{Form, Pair, is_flag}

-- there is no value of that form
abbrev pub HasNoValue : Form → List ℕ → List (List ℕ) → Type 0
HasNoValue form before [] = Unit {0}
HasNoValue form before (value ∷ words) = form before value ≡ false

-- the words don't begin with the pair: the flag is wrong at 0, the value at 1
abbrev pub IsWrongAt : Pair → List ℕ → List (List ℕ) → ℕ → Type 0
IsWrongAt pair before [] at = at ≡ 0
IsWrongAt pair before (flag ∷ words) at =
    MatchBool (is_flag pair flag) (HasNoValue pair.form before words × (at ≡ 1)) (at ≡ 0)

-- Decimal digits at the places of a text.
use Rattle.std.specs.Char.{is_ascii_digit}
use Rattle.std.specs.Prelude.{ℕ, ◌≤◌, ◌+◌, ◌-◌, ◌*◌, ◌/◌, ◌%◌, Bool, true, false, ◌&&◌, ◌==◌, if◌then◌else◌, List, [], ◌∷◌, ◌++◌, slice_index}

-- the character is an ASCII digit, as a fact
abbrev pub IsDigit : ℕ → Type 0
IsDigit c = (48 ≤ c) × (c ≤ 57)

-- the character may stand at a place of a form: `0` (48) takes any digit, another character itself
abbrev pub is_at : ℕ → ℕ → Bool
is_at place c = if place == 48 then is_ascii_digit c else place == c

-- each place of the text takes its character, and none is missing or left over
unfoldable pub has_form : List ℕ → List ℕ → Bool
has_form [] [] = true
has_form [] (c ∷ cs) = false
has_form (p ∷ ps) [] = false
has_form (p ∷ ps) (c ∷ cs) = is_at p c && has_form ps cs

-- what the digit at a place stands for
abbrev pub digit_at : List ℕ → ℕ → ℕ
digit_at text at = slice_index text at - 48

-- the number that the two digits from a place on spell
abbrev pub two_at : List ℕ → ℕ → ℕ
two_at text at = 10 * digit_at text at + digit_at text (at + 1)

-- the number that the four digits from a place on spell
abbrev pub four_at : List ℕ → ℕ → ℕ
four_at text at = 100 * two_at text at + two_at text (at + 2)

-- a number below 100 in two digits
abbrev pub two_digits : ℕ → List ℕ
two_digits n = (48 + n / 10) ∷ (48 + n % 10) ∷ []

-- a number below 10000 in four digits
abbrev pub four_digits : ℕ → List ℕ
four_digits n = two_digits (n / 100) ++ two_digits (n % 100)

-- Numbers in decimal digits.
use Rattle.std.specs.Prelude.{◌+◌, ◌-◌, ◌*◌, ℕ, List, [], ◌∷◌}

-- the number that digits name after those that name this value
abbrev pub digits_value : ℕ → List ℕ → ℕ
digits_value value [] = value
digits_value value (digit ∷ digits) = digits_value (value * 10 + (digit - 48)) digits

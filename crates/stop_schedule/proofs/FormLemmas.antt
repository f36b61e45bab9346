-- Numbers that digits name.
use Rattle.std.proofs.Common.{◌≡◌, ◌≤◌, ◌<◌, ◌+◌, ◌-◌, ◌*◌, ℕ, false, List, [], ◌∷◌, nat_le, None, refl, arith}
use Rattle.std.proofs.lemmas.Bool.Decides.{nat_tests}
use Rattle.stop_schedule.specs.Forms.{small}
use Rattle.timetable.specs.Digits.{digits_value}
use Rattle.timetable.specs.Limits.{number_limit}

-- further digits make a number no less
pub digits_value-grows : (value : ℕ) (text : List ℕ) → value ≤ digits_value value text
digits_value-grows value [] = omega arith
digits_value-grows value (digit ∷ digits) =
    let more = digits_value-grows (value * 10 + (digit - 48)) digits in
    omega (arith, more)

-- a number that is too great stays so
pub too-great : (value : ℕ) (text : List ℕ) → number_limit < value → small (digits_value value text) ≡ None
too-great value text over =
    let more = digits_value-grows value text in
    let above : nat_le (digits_value value text) number_limit ≡ false = grind (arith, nat_tests, more) in
    rw above refl

-- What a text of decimal digits says as a number of 64 bits, and a text that is filled.
use Rattle.std.proofs.Common.{◌≡◌, refl, ap, ℕ, ◌≤◌, ◌<◌, ◌^◌, List, Result, Ok, Err, length, arith, rules, [], ◌∷◌, Bool, true, false, ◌&&◌, if◌then◌else◌}
use Rattle.std.specs.Prelude.{nat_le, nat_lt}
use Rattle.std.proofs.lemmas.Bool.Decides.{nat_tests}
use Rattle.std.specs.Char.{is_ascii_digit}
use Rattle.std.specs.List.{list_all}
use Rattle.std.specs.Str.Parse.{ParsesUnsigned}
use Rattle.std.proofs.lemmas.Str.Parse.{IsNumeralModel, numerals_by_fold, parse_digits}
use Rattle.timetable.specs.Digits.{digits_value}
use Rattle.siri_json.specs.Forms.{filled, whole_named}
use Rattle.siri_json.specs.declared.forms.Form.{Form}
use Rattle.siri_json.specs.declared.forms.Form.TheVariants.{Wrong, Found}

own : IsNumeralModel (λ ds. list_all is_ascii_digit ds ≡ true) (digits_value 0)
own = numerals_by_fold _ (search rules) digits_value (search rules)

-- the number that was parsed, and no number
pub whole_parsed : {E : Type 0} (t : List ℕ) (r : Result ℕ E) (number : ℕ) → r ≡ Ok number → ParsesUnsigned 64 10 t r → list_all is_ascii_digit t ≡ true → length t ≤ 20
    → Found number ≡ whole_named t
whole_parsed t r number is h digits short =
    let parsed = rw is at (parse_digits own 64 t r h digits) in
    let some : nat_le 1 (length t) ≡ true = grind (arith, nat_tests, parsed.0.0) in
    let few : nat_le (length t) 20 ≡ true = grind (arith, nat_tests, short) in
    let fits : nat_lt (digits_value 0 t) (2 ^ 64) ≡ true = grind (arith, nat_tests, parsed.0.1) in
    rw (some, few, digits, fits) (ap Found parsed.1)

none_by : (t : List ℕ) (some fits : Bool) → nat_le 1 (length t) ≡ some → nat_lt (digits_value 0 t) (2 ^ 64) ≡ fits
    → ((0 < length t) × (digits_value 0 t < 2 ^ 64) → ⊥) → (some && fits) ≡ false
none_by t true true e f never = absurd (never (grind (arith, nat_tests, e), grind (arith, nat_tests, f)))
none_by t true false e f never = refl
none_by t false fits e f never = refl

wrong_by : (some few digits fits : Bool) (found : Form ℕ) → (some && fits) ≡ false → Wrong ≡ (if some && (few && (digits && fits)) then found else Wrong)
wrong_by false few digits fits found never = refl
wrong_by true false digits fits found never = refl
wrong_by true true false fits found never = refl
wrong_by true true true false found never = refl
wrong_by true true true true found never = absurd (cc)

pub whole_not_parsed : {E : Type 0} (t : List ℕ) (r : Result ℕ E) (fault : E) → r ≡ Err fault → ParsesUnsigned 64 10 t r → list_all is_ascii_digit t ≡ true → Wrong ≡ whole_named t
whole_not_parsed t r fault is h digits =
    let none = rw is at (parse_digits own 64 t r h digits) in
    wrong_by (nat_le 1 (length t)) (nat_le (length t) 20) (list_all is_ascii_digit t) (nat_lt (digits_value 0 t) (2 ^ 64)) (Found (digits_value 0 t))
    (none_by t _ _ refl refl none)

-- a text that isn't empty is found
pub filled-some : (t : List ℕ) → 0 < length t → filled t ≡ Found t
filled-some [] h = absurd (omega arith)
filled-some (byte ∷ bytes) h = refl

-- The digits of a fraction, one after another.
use Rattle.std.proofs.Common.{◌≡◌, ℕ, suc, ◌+◌, ◌-◌, ◌*◌, ◌/◌, ◌<◌, ◌≤◌, Bool, true, false, if◌then◌else◌, List, [], ◌∷◌, length, drop, take, get_or, drop-cons, add-one, arith, refl, ap, ◌∙◌, ◌≢◌, ℤ, Some, None}
use Rattle.std.proofs.lemmas.Bool.Decides.{nat_tests}
use Rattle.std.proofs.lemmas.List.{drop_all, length-drop, length-take}
use Rattle.std.proofs.Math.Seq.{take-length}
use Rattle.std.proofs.Math.Nat.{mul-le-mul_right}
use Rattle.std.specs.Char.{is_ascii_digit}
use Rattle.service_day.specs.Moments.{digits_len, tenths, shown_form, shown_part, fraction_part, offset_part, second_at, instant_if, moment_of}
use Rattle.service_day.specs.declared.moments.Offset.{Offset}
use Rattle.service_day.specs.declared.zones.Rules.{Rules}
use Rattle.service_day.proofs.FormLemmas.{has_form-other_length}

digits_len-cons : (c : ℕ) (cs : List ℕ) → is_ascii_digit c ≡ true → digits_len (c ∷ cs) ≡ digits_len cs + 1
unfolding digits_len
digits_len-cons c cs good = rw good (omega arith)

cons_at : (text : List ℕ) (i : ℕ) → i < length text → drop i text ≡ get_or text i 0 ∷ drop (i + 1) text
cons_at text i h = rw add-one (drop-cons text i 0 h)

pub digits_len-digit : (text : List ℕ) (i : ℕ) → i < length text → is_ascii_digit (get_or text i 0) ≡ true → digits_len (drop i text) ≡ digits_len (drop (i + 1) text) + 1
digits_len-digit text i h good = ap digits_len (cons_at text i h) ∙ digits_len-cons (get_or text i 0) (drop (i + 1) text) good

pub digits_len-other : (text : List ℕ) (i : ℕ) → i < length text → is_ascii_digit (get_or text i 0) ≡ false → digits_len (drop i text) ≡ 0
unfolding digits_len
digits_len-other text i h bad = rw (drop-cons text i 0, bad) refl

pub digits_len-end : (text : List ℕ) (i : ℕ) → length text ≤ i → digits_len (drop i text) ≡ 0
unfolding digits_len
digits_len-end text i h = rw (drop_all i text h) refl

pub tenths-next : (unit : ℕ) (digits : List ℕ) (i : ℕ) → i < length digits → tenths unit (drop i digits) ≡ (get_or digits i 0 - 48) * unit + tenths (unit / 10) (drop (i + 1) digits)
unfolding tenths
tenths-next unit digits i h = rw (drop-cons digits i 0, add-one) refl

pub tenths-end : (unit : ℕ) (digits : List ℕ) (i : ℕ) → length digits ≤ i → tenths unit (drop i digits) ≡ 0
unfolding tenths
tenths-end unit digits i h = rw (drop_all i digits h) refl

digit_small : (c : ℕ) → is_ascii_digit c ≡ true → c - 48 ≤ 9
digit_small c h = grind (arith, nat_tests)

small_step : (unit c : ℕ) (cs : List ℕ) (good : Bool) → is_ascii_digit c ≡ good → tenths (unit / 10) (take (digits_len cs) cs) ≤ 10 * (unit / 10) - 1
    → tenths unit (take (if good then suc (digits_len cs) else 0) (c ∷ cs)) ≤ 10 * unit - 1
unfolding tenths
small_step unit c cs true e rest = omega (arith, rest, mul-le-mul_right unit (digit_small c e))
small_step unit c cs false e rest = omega arith

-- digits in units come to less than ten units
digits_small : (unit : ℕ) (text : List ℕ) → tenths unit (take (digits_len text) text) ≤ 10 * unit - 1
unfolding digits_len tenths
digits_small unit [] = omega arith
digits_small unit (c ∷ cs) = small_step unit c cs (is_ascii_digit c) refl (digits_small (unit / 10) cs)

-- the digits of a fraction come to less than a second
pub fraction_small : (text : List ℕ) → tenths 100000000 (take (digits_len text) text) < 1000000000
fraction_small text = omega (arith, digits_small 100000000 text)

take_rest : (text : List ℕ) (k : ℕ) → take (length text - k) (drop k text) ≡ drop k text
take_rest text k = rw (← length-drop k text) (take-length (drop k text))

short_shown : (text : List ℕ) → length text < 19 → shown_part (take 19 text) ≡ None
unfolding shown_part
short_shown text h =
    let other : length (take 19 text) ≢ length shown_form = omega (arith, length-take 19 text) in
    rw (has_form-other_length shown_form (take 19 text) other) refl

-- a text whose first part shows no time names no moment
pub moment_of-no_shown : (zone : Rules) (text : List ℕ) → shown_part (take 19 text) ≡ None → moment_of zone text ≡ None
unfolding moment_of
moment_of-no_shown zone text e = rw e refl

pub moment_of-short : (zone : Rules) (text : List ℕ) → length text < 19 → moment_of zone text ≡ None
moment_of-short zone text h = moment_of-no_shown zone text (short_shown text h)

pub moment_of-no_fraction : (zone : Rules) (text : List ℕ) (shown : ℤ × ℕ) → shown_part (take 19 text) ≡ Some shown → fraction_part (drop 19 text) ≡ None → moment_of zone text ≡ None
unfolding moment_of
moment_of-no_fraction zone text shown e f = rw (e, f) refl

-- the rest of a text after its fraction
abbrev pub rest_of : List ℕ → ℕ → List ℕ
rest_of text end = take (length (drop 19 text) - end) (drop end (drop 19 text))

pub moment_of-no_offset : (zone : Rules) (text : List ℕ) (shown : ℤ × ℕ) (fraction : ℕ × ℕ) → shown_part (take 19 text) ≡ Some shown → fraction_part (drop 19 text) ≡ Some fraction
    → offset_part (rest_of text fraction.1) ≡ None → moment_of zone text ≡ None
unfolding moment_of
moment_of-no_offset zone text shown fraction e f g = rw (e, f, rw (take_rest (drop 19 text) fraction.1) at g) refl

pub moment_of-all : (zone : Rules) (text : List ℕ) (shown : ℤ × ℕ) (fraction : ℕ × ℕ) (offset : Offset) → shown_part (take 19 text) ≡ Some shown → fraction_part (drop 19 text) ≡ Some fraction
    → offset_part (rest_of text fraction.1) ≡ Some offset → moment_of zone text ≡ instant_if (second_at zone offset shown.0 shown.1) fraction.0
unfolding moment_of
moment_of-all zone text shown fraction offset e f g = rw (e, f, rw (take_rest (drop 19 text) fraction.1) at g) refl

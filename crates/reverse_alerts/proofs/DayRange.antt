-- What a text names is in range: a day in the calendar's, a moment in the program's.
use Rattle.std.proofs.Common.{◌≡◌, ℕ, ◌≤◌, List, Bool, true, false, if◌then◌else◌, option_and_then, Option, Some, None, refl, subst, ℤ, pos, arith, drop, take}
use Rattle.std.proofs.lemmas.Bool.Decides.{nat_tests}
use Rattle.std.proofs.lemmas.Option.{same_Some}
use Rattle.jiff_core.specs.Calendar.{days_from_civil}
use Rattle.jiff_core.specs.declared.civil.date.Date.{Date}
use Rattle.jiff_core.proofs.SignedLemmas.{signed_arith}
use Rattle.gw_base.specs.Moments.{is_moment}
use Rattle.service_day.specs.Days.{IsDay, date_number, is_date}
use Rattle.service_day.specs.DayTexts.{compact_day, compact_form, dashed_day, dashed_form, day_of}
use Rattle.service_day.specs.Digits.{four_at, has_form, two_at}
use Rattle.service_day.specs.Moments.{fraction_part, instant_if, moment_of, offset_part, second_at, shown_part}
use Rattle.service_day.specs.declared.days.DayForm.{DayForm}
use Rattle.service_day.specs.declared.days.DayForm.TheVariants.{Dashed, Compact, Either}
use Rattle.service_day.specs.declared.zones.Rules.{Rules}
use Rattle.service_day.proofs.DayLemmas.{civil_of, day_of_date}

-- ---- days

from-one : (y m d : ℕ) → is_date y m d ≡ true → 1 ≤ y
from-one y m d h = grind (arith, nat_tests)

IsDay-date : (y m d : ℕ) → is_date y m d ≡ true → IsDay (days_from_civil (pos y) m d)
IsDay-date y m d h =
    let civil = civil_of y m d h in
    let date : Date = record { year = pos y; month = m; day = d; year_in = civil.0; month_in = civil.1; day_in = civil.2 } in
    day_of_date date (omega (arith, signed_arith, from-one y m d h))

IsDay-date_number : (y m d : ℕ) (n : ℤ) → date_number y m d ≡ Some n → IsDay n
IsDay-date_number y m d n e = by (is_date y m d) refl e
  where
    by : (b : Bool) → is_date y m d ≡ b → (if b then Some (days_from_civil (pos y) m d) else None) ≡ Some n → IsDay n
    by true h e = let same : days_from_civil (pos y) m d ≡ n = cc in subst IsDay same (IsDay-date y m d h)
    by false h e = cc

IsDay-dashed_day : (text : List ℕ) (n : ℤ) → dashed_day text ≡ Some n → IsDay n
unfolding dashed_day
IsDay-dashed_day text n e = by (has_form dashed_form text) e
  where
    by : (b : Bool) → (if b then date_number (four_at text 0) (two_at text 5) (two_at text 8) else None) ≡ Some n → IsDay n
    by true e = IsDay-date_number (four_at text 0) (two_at text 5) (two_at text 8) n e
    by false e = cc

IsDay-compact_day : (text : List ℕ) (n : ℤ) → compact_day text ≡ Some n → IsDay n
unfolding compact_day
IsDay-compact_day text n e = by (has_form compact_form text) e
  where
    by : (b : Bool) → (if b then date_number (four_at text 0) (two_at text 4) (two_at text 6) else None) ≡ Some n → IsDay n
    by true e = IsDay-date_number (four_at text 0) (two_at text 4) (two_at text 6) n e
    by false e = cc

pub IsDay-day_of : (form : DayForm) (text : List ℕ) (n : ℤ) → day_of form text ≡ Some n → IsDay n
IsDay-day_of Dashed text n e = IsDay-dashed_day text n e
IsDay-day_of Compact text n e = IsDay-compact_day text n e
IsDay-day_of Either text n e = by (has_form dashed_form text) e
  where
    by : (b : Bool) → (if b then dashed_day text else compact_day text) ≡ Some n → IsDay n
    by true e = IsDay-dashed_day text n e
    by false e = IsDay-compact_day text n e

-- ---- moments

instant-moment : (secs : ℤ) (nanos : ℕ) (instant : ℤ × ℕ) → instant_if secs nanos ≡ Some instant → is_moment instant.0 ≡ true
instant-moment secs nanos instant e = by (is_moment secs) refl e
  where
    by : (b : Bool) → is_moment secs ≡ b → (if b then Some (secs, nanos) else None) ≡ Some instant → is_moment instant.0 ≡ true
    by true h e =
        let same : (secs, nanos) ≡ instant = same_Some _ _ e in
        subst (λ (one : ℤ × ℕ). is_moment one.0 ≡ true) same h
    by false h e = cc

going : {A B : Type 0} (f : A → Option B) (P : B → Type 0) (from : Option A) (b : B) → option_and_then f from ≡ Some b
    → ((a : A) → f a ≡ Some b → P b) → P b
going f P None b e each = cc
going f P (Some a) b e each = each a e

pub is_moment-moment_of : (zone : Rules) (text : List ℕ) (instant : ℤ × ℕ) → moment_of zone text ≡ Some instant → is_moment instant.0 ≡ true
unfolding moment_of
is_moment-moment_of zone text instant e =
    let P = λ (one : ℤ × ℕ). is_moment one.0 ≡ true in
    going _ P (shown_part (take 19 text)) instant e (λ shown with_shown.
    going _ P (fraction_part (drop 19 text)) instant with_shown (λ fraction with_fraction.
    going _ P (offset_part (drop fraction.1 (drop 19 text))) instant with_fraction (λ offset is.
    instant-moment (second_at zone offset shown.0 shown.1) fraction.0 instant is)))

-- What is written of a moment is read as that moment in every zone, what is written of a day as that day, and both are UTF-8.
use Rattle.std.proofs.Common.{◌≡◌, ℕ, zero, suc, ◌+◌, ◌*◌, ◌/◌, ◌%◌, ◌<◌, ◌≤◌, List, [], ◌∷◌, ◌++◌, length, Bool, true, false, if◌then◌else◌, IsUtf8, IsAscii, inl, inr, arith, lit<, lt-ltb, le-leb, refl, ap, ◌∙◌, ℤ, pos, negsuc, ◌+ℤ◌, ◌-ℤ◌, ◌*ℤ◌, ◌≤ℤ◌, Some, None}
use Rattle.std.proofs.lemmas.Bool.{cases_lt}
use Rattle.std.proofs.lemmas.Bool.Decides.{nat_tests}
use Rattle.std.proofs.lemmas.Int.{ints}
use Rattle.std.proofs.lemmas.Str.{IsUtf8-append, IsUtf8-nil, IsUtf8-from_ascii}
use Rattle.jiff_core.specs.Calendar.{IsCivilDate, day_count}
use Rattle.jiff_core.proofs.SignedLemmas.{signed_arith}
use Rattle.jiff_core.proofs.CalendarLemmas.{days_from_civil-day_count, days_in_month_bounds, day_count-lt_year, day_count-day_of_year, day_count-last_of_year, day_count-epoch}
use Rattle.jiff_core.proofs.DateLemmas.{days_from_civil-max}
use Rattle.service_day.specs.Days.{IsDay, date_number, year_of, month_of, day_of_month}
use Rattle.service_day.specs.DateBounds.{year_in}
use Rattle.service_day.specs.DayTexts.{dashed_form, dashed_day, compact_day, dashed_text, day_of}
use Rattle.service_day.specs.Digits.{has_form, two_at, four_at, two_digits, four_digits}
use Rattle.service_day.specs.Moments.{shown_form, shown_part, fraction_part, offset_part, instant_if, moment_of}
use Rattle.gw_base.specs.Moments.{IsMoment}
use Rattle.service_day.specs.Utc.{moment_text}
use Rattle.service_day.specs.declared.days.DayForm.TheVariants.{Either}
use Rattle.service_day.specs.declared.moments.Offset.TheVariants.{Ahead}
use Rattle.service_day.specs.declared.zones.Rules.{Rules}
use Rattle.service_day.proofs.FormLemmas.{is_digit-written}
use Rattle.service_day.proofs.DayLemmas.{date_number-parts, days_from_civil-parts, year_high, month_low, month_high, day_low, day_high}
use Rattle.service_day.proofs.DayTextLemmas.{dashed_day-dashed_text}
use Rattle.service_day.proofs.MomentLemmas.{moment_of-all}

-- ---- the year of a moment's day

civil : (n : ℤ) → IsDay n → IsCivilDate (pos (year_of n)) (month_of n) (day_of_month n)
civil n h = (year_in n, (month_low n, month_high n), (day_low n, day_high n h))

from-1970 : (n : ℤ) → IsDay n → pos 0 ≤ℤ n → 1970 ≤ year_of n
from-1970 n h low = elim (cases_lt (year_of n) 1970) [
  | inl early ↦
      let before = day_count-lt_year (pos (year_of n)) (month_of n) (day_of_month n) (pos 1970) 1 1 (civil n h) (omega arith) (omega (arith, signed_arith)) in
      absurd (omega (arith, signed_arith, low, before, day_count-epoch, days_from_civil-parts n h, days_from_civil-day_count (pos (year_of n)) (month_of n) (day_of_month n)))
  | inr late ↦ late
]

to-9998 : (n : ℤ) → IsDay n → n ≤ℤ pos 2932531 → year_of n ≤ 9998
to-9998 n h high = elim (cases_lt 9998 (year_of n)) [
  | inl late ↦
      let same : year_of n ≡ 9999 = omega (arith, year_high n) in
      let first : day_count (pos (year_of n)) 1 1 ≡ day_count (pos 9999) 1 1 = ap (λ y. day_count (pos y) 1 1) same in
      let here = day_count-day_of_year (pos (year_of n)) (month_of n) (day_of_month n) (day_low n) in
      absurd (omega (arith, signed_arith, high, first, here, day_low n, days_from_civil-max, days_from_civil-parts n h, day_count-last_of_year (pos 9999), days_from_civil-day_count (pos (year_of n)) (month_of n) (day_of_month n), days_from_civil-day_count (pos 9999) 12 31))
  | inr early ↦ early
]

-- ---- what a clock shows, by its text

abbrev shown : ℕ → ℕ → ℕ → ℕ → ℕ → ℕ → List ℕ
shown y m d h n s =
    (four_digits y ++ 45 ∷ two_digits m ++ 45 ∷ two_digits d) ++ 84 ∷ (two_digits h ++ 58 ∷ two_digits n ++ 58 ∷ two_digits s)

has_form-shown : (y m d h n s : ℕ) → y < 10000 → m < 100 → d < 100 → h < 100 → n < 100 → s < 100 → has_form shown_form (shown y m d h n s) ≡ true
unfolding has_form
has_form-shown y m d h n s hy hm hd hh hn hs =
    rw (is_digit-written (y / 100 / 10) (omega arith), is_digit-written (y / 100 % 10) (omega arith), is_digit-written (y % 100 / 10) (omega arith), is_digit-written (y % 100 % 10) (omega arith), is_digit-written (m / 10) (omega arith), is_digit-written (m % 10) (omega arith), is_digit-written (d / 10) (omega arith), is_digit-written (d % 10) (omega arith), is_digit-written (h / 10) (omega arith), is_digit-written (h % 10) (omega arith), is_digit-written (n / 10) (omega arith), is_digit-written (n % 10) (omega arith), is_digit-written (s / 10) (omega arith), is_digit-written (s % 10) (omega arith))

date_shown : (y m d h n s : ℕ) → y < 10000 → m < 100 → d < 100 → (four_at (shown y m d h n s) 0 ≡ y) × (two_at (shown y m d h n s) 5 ≡ m) × (two_at (shown y m d h n s) 8 ≡ d)
date_shown y m d h n s hy hm hd = (omega arith, omega arith, omega arith)

clock_shown : (y m d h n s : ℕ) → h < 100 → n < 100 → s < 100 → (two_at (shown y m d h n s) 11 ≡ h) × (two_at (shown y m d h n s) 14 ≡ n) × (two_at (shown y m d h n s) 17 ≡ s)
clock_shown y m d h n s hh hn hs = (omega arith, omega arith, omega arith)

shown_part-shown : (y m d h n s : ℕ) (day : ℤ) → 1970 ≤ y → y ≤ 9998 → m < 100 → d < 100 → h < 24 → n < 60 → s < 60 → date_number y m d ≡ Some day
    → shown_part (shown y m d h n s) ≡ Some (day, 3600 * h + 60 * n + s)
unfolding shown_part
shown_part-shown y m d h n s day low high hm hd hh hn hs e =
    let form = has_form-shown y m d h n s (omega arith) hm hd (omega arith) (omega arith) (omega arith) in
    let date = date_shown y m d h n s (omega arith) hm hd in
    let clock = clock_shown y m d h n s (omega arith) (omega arith) (omega arith) in
    rw (form, date.0, date.1, date.2, clock.0, clock.1, clock.2, le-leb 1970 y low, le-leb y 9998 high, e, lt-ltb h 24 hh, lt-ltb n 60 hn, lt-ltb s 60 hs) refl

-- ---- a moment in every zone

instant : (z : ℤ) (k : ℕ) → z ≡ pos k → IsMoment (pos k) → instant_if z 0 ≡ Some (pos k, 0)
instant z k e h = rw e (grind (arith, nat_tests, ints))

moment_of-at : (zone : Rules) (k : ℕ) → IsMoment (pos k) → moment_of zone (moment_text (pos k)) ≡ Some (pos k, 0)
unfolding moment_text dashed_text fraction_part offset_part has_form
moment_of-at zone k h =
    let n = pos (k / 86400) in
    let second = k % 86400 in
    let day : IsDay n = omega (arith, ints, h.0, h.1) in
    let low : 1970 ≤ year_of n = from-1970 n day (omega (arith, ints)) in
    let high : year_of n ≤ 9998 = to-9998 n day (omega (arith, ints, h.1)) in
    let hm : month_of n < 100 = omega (arith, month_high n) in
    let hd : day_of_month n < 100 = omega (arith, day_high n day, days_in_month_bounds (pos (year_of n)) (month_of n)) in
    let part = shown_part-shown (year_of n) (month_of n) (day_of_month n) (second / 3600) (second / 60 % 60) (second % 60) n low high hm hd (omega arith) (omega arith) (omega arith) (date_number-parts n day) in
    moment_of-all zone (moment_text (pos k)) (n, 3600 * (second / 3600) + 60 * (second / 60 % 60) + second % 60) (0, 0) (Ahead (pos 0)) part refl refl
    ∙ instant (n *ℤ pos 86400 +ℤ pos (3600 * (second / 3600) + 60 * (second / 60 % 60) + second % 60) -ℤ pos 0) k (omega (arith, ints)) h

-- a text that is written reads as its moment, in every zone
pub moment_of-moment_text : (zone : Rules) (secs : ℤ) → IsMoment secs → moment_of zone (moment_text secs) ≡ Some (secs, 0)
moment_of-moment_text zone (pos k) h = moment_of-at zone k h
moment_of-moment_text zone (negsuc k) h = absurd (omega (arith, ints, h.0))

-- ---- a day, where both forms may stand

not-dashed : (text : List ℕ) → has_form dashed_form text ≡ false → dashed_day text ≡ None
unfolding dashed_day
not-dashed text e = rw e refl

pub day_of-dashed_text : (n : ℤ) → IsDay n → day_of Either (dashed_text n) ≡ Some n
day_of-dashed_text n h = by (has_form dashed_form (dashed_text n)) refl
  where
    by : (b : Bool) → has_form dashed_form (dashed_text n) ≡ b → (if b then dashed_day (dashed_text n) else compact_day (dashed_text n)) ≡ Some n
    by true e = dashed_day-dashed_text n h
    by false e = let none = not-dashed (dashed_text n) e in let some = dashed_day-dashed_text n h in absurd (cc)

-- ---- the texts are UTF-8

one-ascii : (c : ℕ) → c < 128 → IsAscii (c ∷ [])
one-ascii c h zero = h
one-ascii c h (suc i) = omega arith

mark-then : (c : ℕ) (rest : List ℕ) → c < 128 → IsUtf8 rest → IsUtf8 (c ∷ rest)
mark-then c rest h u = IsUtf8-append (c ∷ []) rest (IsUtf8-from_ascii (c ∷ []) (one-ascii c h)) u

digits-then : (n : ℕ) (rest : List ℕ) → n < 100 → IsUtf8 rest → IsUtf8 (two_digits n ++ rest)
digits-then n rest h u = mark-then (48 + n / 10) ((48 + n % 10) ∷ rest) (omega arith) (mark-then (48 + n % 10) rest (omega arith) u)

dashed-then : (n : ℤ) (rest : List ℕ) → IsDay n → IsUtf8 rest → IsUtf8 (dashed_text n ++ rest)
unfolding dashed_text
dashed-then n rest h u =
    let y = year_of n in
    let m = month_of n in
    let d = day_of_month n in
    let hd : d < 100 = omega (arith, day_high n h, days_in_month_bounds (pos (year_of n)) (month_of n)) in
    let t3 = two_digits d ++ rest in
    let t2 = two_digits m ++ 45 ∷ t3 in
    let t1 = two_digits (y % 100) ++ 45 ∷ t2 in
    digits-then (y / 100) t1 (omega (arith, year_high n))
    (digits-then (y % 100) (45 ∷ t2) (omega arith)
    (mark-then 45 t2 (lit< tt)
    (digits-then m (45 ∷ t3) (omega (arith, month_high n))
    (mark-then 45 t3 (lit< tt)
    (digits-then d rest hd u)))))

pub IsUtf8-dashed_text : (n : ℤ) → IsDay n → IsUtf8 (dashed_text n)
unfolding dashed_text
IsUtf8-dashed_text n h = dashed-then n [] h IsUtf8-nil

utf8-at : (k : ℕ) → IsMoment (pos k) → IsUtf8 (moment_text (pos k))
unfolding moment_text dashed_text
utf8-at k h =
    let second = k % 86400 in
    let t3 = two_digits (second % 60) ++ 90 ∷ [] in
    let t2 = two_digits (second / 60 % 60) ++ 58 ∷ t3 in
    let t1 = two_digits (second / 3600) ++ 58 ∷ t2 in
    dashed-then (pos (k / 86400)) (84 ∷ t1) (omega (arith, ints, h.0, h.1))
    (mark-then 84 t1 (lit< tt)
    (digits-then (second / 3600) (58 ∷ t2) (omega arith)
    (mark-then 58 t2 (lit< tt)
    (digits-then (second / 60 % 60) (58 ∷ t3) (omega arith)
    (mark-then 58 t3 (lit< tt)
    (digits-then (second % 60) (90 ∷ []) (omega arith)
    (mark-then 90 [] (lit< tt) IsUtf8-nil)))))))

pub IsUtf8-moment_text : (secs : ℤ) → IsMoment secs → IsUtf8 (moment_text secs)
IsUtf8-moment_text (pos k) h = utf8-at k h
IsUtf8-moment_text (negsuc k) h = absurd (omega (arith, ints, h.0))

-- the texts aren't empty
pub some-moment_text : (secs : ℤ) → 0 < length (moment_text secs)
unfolding moment_text dashed_text
some-moment_text secs = omega arith

pub some-dashed_text : (n : ℤ) → 0 < length (dashed_text n)
unfolding dashed_text
some-dashed_text n = omega arith

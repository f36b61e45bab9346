-- Lemmas that the records of dates and times in Civil.antt are made of: each part is in range.
use Rattle.std.specs.Prelude.{ℕ, zero, suc, ◌+◌, ◌/◌, ◌%◌, ◌<◌, ◌≤◌, min, ℤ, pos}
use Rattle.std.proofs.Common.{arith, lit<}
use Rattle.std.proofs.lemmas.Int.{ints}
use Rattle.std.specs.Int.{IsInRange}
use Rattle.jiff_core.specs.Calendar.{IsYear, days_in_month, days_from_civil}
use Rattle.jiff_core.proofs.CalendarLemmas.{days_in_month_bounds}
use Rattle.service_day.specs.Days.{last_start, year_of, month_of, day_of_month}

pub last_start-low : (start : ℕ → ℤ) (n : ℤ) (low more : ℕ) → low ≤ last_start start n low more
unfolding last_start
last_start-low start n low zero = omega arith
last_start-low start n low (suc more) = grind (arith, last_start-low start n low more)

pub last_start-high : (start : ℕ → ℤ) (n : ℤ) (low more : ℕ) → last_start start n low more ≤ low + more
unfolding last_start
last_start-high start n low zero = omega arith
last_start-high start n low (suc more) = grind (arith, last_start-high start n low more)

pub year_low : (n : ℤ) → 1 ≤ year_of n
unfolding year_of
year_low n = last_start-low (λ year. days_from_civil (pos year) 1 1) n 1 9998

pub year_high : (n : ℤ) → year_of n ≤ 9999
unfolding year_of
year_high n = last_start-high (λ year. days_from_civil (pos year) 1 1) n 1 9998

pub month_low : (n : ℤ) → 1 ≤ month_of n
unfolding month_of
month_low n = last_start-low (λ month. days_from_civil (pos (year_of n)) month 1) n 1 11

pub month_high : (n : ℤ) → month_of n ≤ 12
unfolding month_of
month_high n = last_start-high (λ month. days_from_civil (pos (year_of n)) month 1) n 1 11

pub day_low : (n : ℤ) → 1 ≤ day_of_month n
unfolding day_of_month
day_low n = omega arith

pub year_in : (n : ℤ) → IsYear (pos (year_of n))
year_in n = omega (arith, ints, year_high n)

pub month_in : (n : ℤ) → IsInRange 1 12 (month_of n)
month_in n = (month_low n, month_high n)

pub day_in : (n : ℤ) → IsInRange 1 (days_in_month (pos (year_of n)) (month_of n))
    (min (day_of_month n) (days_in_month (pos (year_of n)) (month_of n)))
day_in n = omega (arith, day_low n, days_in_month_bounds (pos (year_of n)) (month_of n))

pub hour_in : (second : ℕ) → second / 3600 % 24 < 24
hour_in second = omega arith

pub sixty_in : (n : ℕ) → n % 60 < 60
sixty_in n = omega arith

pub nanos_in : 0 < 1_000_000_000
nanos_in = lit< tt

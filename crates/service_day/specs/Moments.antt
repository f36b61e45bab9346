-- Moment texts (ISO 8601): `YYYY-MM-DDThh:mm:ss`, a fraction or none, then `Z`, an offset or nothing.
use Rattle.std.specs.Prelude.{ℕ, suc, ◌+◌, ◌-◌, ◌*◌, ◌/◌, ◌&&◌, ◌==◌, nat_le, nat_lt, if◌then◌else◌, ℤ, pos, neg_ℤ, ◌+ℤ◌, ◌-ℤ◌, ◌*ℤ◌, Option, Some, None, option_and_then, List, [], ◌∷◌, take, drop, length, slice_index, codes}
use Rattle.std.specs.Ordering.{int_cmp, nat_cmp, ordering_then}
use Rattle.std.specs.declared.cmp.Ordering.{Ordering}
use Rattle.jiff_core.specs.Calendar.{IsWithin}
use Rattle.std.specs.Char.{is_ascii_digit}
use Rattle.service_day.specs.Digits.{has_form, two_at, four_at}
use Rattle.service_day.specs.Days.{date_number}
use Rattle.service_day.specs.Starts.{local_second}
use Rattle.gw_base.specs.Moments.{is_moment}
use Rattle.service_day.specs.Utc.{is_clock}
use Rattle.service_day.specs.declared.moments.Offset.{Offset}
use Rattle.service_day.specs.declared.moments.Offset.TheVariants.{Local, Ahead}
use Rattle.service_day.specs.declared.zones.Rules.{Rules}

-- a value where there is one, then what is made of it
infixl 10 ◌>>=◌
abbrev ◌>>=◌ : {A B : Type 0} → Option A → (A → Option B) → Option B
o >>= f = option_and_then f o

-- the form of what a clock shows, where `0` stands for any digit
abbrev pub shown_form : List ℕ
shown_form = codes "0000-00-00T00:00:00"

-- the second of the day at a clock's time, where a clock has it
abbrev pub clock_second : ℕ → ℕ → ℕ → Option ℕ
clock_second hour minute second =
    if is_clock hour minute second then Some (3600 * hour + 60 * minute + second) else None

-- the day and the second of it that a clock shows by the text, in a year from 1970 to 9998
unfoldable pub shown_part : List ℕ → Option (ℤ × ℕ)
shown_part text =
    if has_form shown_form text && nat_le 1970 (four_at text 0) && nat_le (four_at text 0) 9998
    then date_number (four_at text 0) (two_at text 5) (two_at text 8) >>= (λ day.
    clock_second (two_at text 11) (two_at text 14) (two_at text 17) >>= (λ second.
    Some (day, second)))
    else None

-- how many digits begin the text
unfoldable pub digits_len : List ℕ → ℕ
digits_len [] = 0
digits_len (c ∷ cs) = if is_ascii_digit c then suc (digits_len cs) else 0

-- what digits stand for where the first counts `unit` and each one after it a tenth of the one before
unfoldable pub tenths : ℕ → List ℕ → ℕ
tenths unit [] = 0
tenths unit (c ∷ cs) = (c - 48) * unit + tenths (unit / 10) cs

-- a fraction's digits, 1 to 9 of them, in nanoseconds, and how many characters they take with the dot before them
abbrev pub digits_part : List ℕ → Option (ℕ × ℕ)
digits_part text =
    if nat_le 1 (digits_len text) && nat_le (digits_len text) 9
    then Some (tenths 100000000 (take (digits_len text) text), digits_len text + 1)
    else None

-- the fraction of a second that begins the text, in nanoseconds, and how many characters it takes: a dot (46) and
-- digits, or nothing
unfoldable pub fraction_part : List ℕ → Option (ℕ × ℕ)
fraction_part text = if slice_index text 0 == 46 then digits_part (drop 1 text) else Some (0, 0)

-- the seconds of an offset `hh:mm` after its sign, of at most 14 hours
abbrev pub offset_seconds : List ℕ → Option ℕ
offset_seconds text =
    if nat_lt (two_at text 4) 60 && nat_le (60 * two_at text 1 + two_at text 4) 840
    then Some (3600 * two_at text 1 + 60 * two_at text 4)
    else None

-- the forms of an offset
abbrev pub utc_mark : List ℕ
utc_mark = codes "Z"

abbrev pub ahead_form : List ℕ
ahead_form = codes "+00:00"

abbrev pub behind_form : List ℕ
behind_form = codes "-00:00"

-- how far the clock is ahead of UTC by the text: `Z`, `+hh:mm`, `-hh:mm`, or nothing, which leaves it to the zone
unfoldable pub offset_part : List ℕ → Option Offset
offset_part text =
    if length text == 0 then Some Local
    else (if has_form utc_mark text then Some (Ahead (pos 0))
    else (if has_form ahead_form text then offset_seconds text >>= (λ seconds. Some (Ahead (pos seconds)))
    else (if has_form behind_form text then offset_seconds text >>= (λ seconds. Some (Ahead (neg_ℤ (pos seconds))))
    else None)))

-- the offset is the zone's, or at most 14 hours
abbrev pub IsSmall : Offset → Type 0
IsSmall Local = Unit {0}
IsSmall (Ahead seconds) = IsWithin 50400 seconds

-- the seconds since 1970 at which a clock of that offset shows the day and the second
abbrev pub second_at : Rules → Offset → ℤ → ℕ → ℤ
second_at zone Local day second = local_second zone day second
second_at zone (Ahead seconds) day second = day *ℤ pos 86400 +ℤ pos second -ℤ seconds

-- the seconds and nanoseconds of an instant, where the seconds are a moment's
abbrev pub instant_if : ℤ → ℕ → Option (ℤ × ℕ)
instant_if secs nanos = if is_moment secs then Some (secs, nanos) else None

-- the instant that a text names in a zone, as seconds since 1970 and nanoseconds
unfoldable pub moment_of : Rules → List ℕ → Option (ℤ × ℕ)
moment_of zone text =
    shown_part (take 19 text) >>= (λ shown.
    fraction_part (drop 19 text) >>= (λ fraction.
    offset_part (drop fraction.1 (drop 19 text)) >>= (λ offset.
    instant_if (second_at zone offset shown.0 shown.1) fraction.0)))

-- how one instant stands to another, each in seconds and nanoseconds: by the seconds, and where these are equal by the
-- nanoseconds
abbrev pub instant_order : ℤ × ℕ → ℤ × ℕ → Ordering
instant_order a b = ordering_then (int_cmp a.0 b.0) (nat_cmp a.1 b.1)

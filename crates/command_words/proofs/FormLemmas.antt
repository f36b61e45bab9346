-- What values of a form are read as, and a value of each form.
use Rattle.std.proofs.Common.{◌++◌, ◌≡◌, refl, ℕ, ◌≤◌, ℤ, List, [], ◌∷◌, map, Option, Some, None, Result, Ok, length, subst, arith, rules, Bool, true, false, cond, ◌&&◌}
use Rattle.std.proofs.lemmas.Bool.{and_parts}
use Rattle.std.specs.Prelude.{IsTrue, pos, codes, int_le, nat_le, nat_lt}
use Rattle.std.proofs.Math.IntN.{+ℤ-neg_ℤ_cancel}
use Rattle.std.proofs.lemmas.Bool.Decides.{nat_tests}
use Rattle.std.specs.Char.{is_ascii_digit}
use Rattle.std.specs.List.{list_all, AllByRecursion}
use Rattle.std.specs.Str.Parse.{ParsesUnsigned}
use Rattle.std.proofs.lemmas.Option.{none-some, same_Some, option_and_then_some}
use Rattle.std.proofs.lemmas.Str.Parse.{IsNumeralModel, numerals_by_fold, parse_gives, digits_value_short}
use Rattle.command_words.specs.Forms.{is_connection_count, is_day, is_day_count, is_filled, is_kept_count, is_minute_count, is_moment, is_seed, is_stop_count, is_trip_count, is_visit_count, beginning, day_count, decimal_number, is_number, going_on, ends_in_time, first_day, keeps_fewer, last_day, most_days}
use Rattle.command_words.specs.Rows.{has_flag, form_of, pair_of, row_of, have_flags}
use Rattle.command_words.specs.Tables.{CanBeMet, CanStand, IsSatisfiable}
use Rattle.command_words.proofs.TableLemmas.{AreSatisfiable}
use Rattle.command_words.specs.declared.words.forms.Form as declared
use Rattle.command_words.specs.declared.words.forms.Form.TheVariants as form
use Rattle.command_words.specs.declared.words.table.Command.{Command}
use Rattle.command_words.specs.declared.words.table.Pair.{Pair}
use Rattle.std.proofs.lemmas.List.{length-map, map-append}
use Rattle.service_day.specs.DayTexts.{day_of, dashed_text}
use Rattle.service_day.specs.declared.days.DayForm.TheVariants.{Dashed}
use Rattle.service_day.specs.Utc.{moment_text}
use Rattle.service_day.proofs.DayTextLemmas.{dashed_day-dashed_text}
use Rattle.service_day.proofs.UtcLemmas.{utc_of-moment_text}

-- parts of tests

pub cond_then : {A : Type 0} (b : Bool) (o : Option A) (x : A) → cond b o None ≡ Some x → (b ≡ true) × (o ≡ Some x)
cond_then true o x h = (refl, h)
cond_then false o x h = absurd (none-some x h)

-- the number that `parse` reads is the one that the digits spell

own : IsNumeralModel (λ ds. list_all is_ascii_digit ds ≡ true) (going_on 0)
own = numerals_by_fold _ (search rules) going_on (search rules)

pub number_parsed : {E : Type 0} (text : List ℕ) (r : Result ℕ E) → ParsesUnsigned 64 10 text r → is_number text ≡ true → r ≡ Ok (going_on 0 text)
number_parsed text r h is =
    let parts = and_parts (nat_le 1 (length text) && nat_le (length text) 10) _ is in
    let within : (nat_le 1 (length text) ≡ true) × (nat_le (length text) 10 ≡ true) = and_parts _ _ parts.0 in
    let some : 1 ≤ length text = grind (arith, nat_tests, within.0) in
    let short : length text ≤ 10 = grind (arith, nat_tests, within.1) in
    parse_gives own 64 text r h parts.1 (omega arith) (omega (arith, digits_value_short own text 10 parts.1 short))

-- a day of a window is between the first and the last
pub beginning_range : (word : List ℕ) (first : ℤ) → beginning word ≡ Some first → (int_le first_day first ≡ true) × (int_le first last_day ≡ true)
beginning_range word first h =
    option_and_then_some _ (day_of Dashed word) first h (λ day found within.
    let kept = cond_then (int_le first_day day && int_le day last_day) _ first within in
    and_parts _ _ (subst (λ d. (int_le first_day d && int_le d last_day) ≡ true) (same_Some day first kept.1) kept.0))

-- a value of each form: a text, 1971-01-01, one day, 1970-01-01T00:00:00Z, and the least numbers

filled_met : CanBeMet is_filled
filled_met before = (codes "x", refl)

day_met : CanBeMet is_day
day_met before =
    let is : beginning (dashed_text (pos 365)) ≡ Some (pos 365) = rw (dashed_day-dashed_text (pos 365) (omega arith, omega arith)) refl in
    (dashed_text (pos 365), rw is refl)

day_count_met : CanBeMet is_day_count
day_count_met before = (codes "1", by (beginning before) refl)
  where
    by : (first : Option ℤ) → beginning before ≡ first → IsTrue (ends_in_time first (Some 1))
    by None e = refl
    by (Some first) e = rw +ℤ-neg_ℤ_cancel (beginning_range before first e).1

-- a number of days of a window is at least one
day_count_some : (word : List ℕ) (days : ℕ) → day_count word ≡ Some days → nat_lt 0 days ≡ true
day_count_some word days h =
    option_and_then_some _ (decimal_number word) days h (λ number found within.
    let kept = cond_then (nat_le 1 number && nat_le number most_days) _ days within in
    let some : nat_le 1 number ≡ true = (and_parts _ _ kept.0).0 in
    subst (λ d. nat_lt 0 d ≡ true) (same_Some number days kept.1) (grind (arith, nat_tests, some)))

kept_count_met : CanBeMet is_kept_count
kept_count_met before = (codes "0", by (day_count before) refl)
  where
    by : (days : Option ℕ) → day_count before ≡ days → IsTrue (keeps_fewer days (Some 0))
    by None e = refl
    by (Some days) e = day_count_some before days e

connection_count_met : CanBeMet is_connection_count
connection_count_met before = (codes "1", refl)

moment_met : CanBeMet is_moment
moment_met before = (moment_text (pos 0), rw (utc_of-moment_text (pos 0) (omega arith, omega arith)) refl)

seed_met : CanBeMet is_seed
seed_met before = (codes "0", refl)

trip_count_met : CanBeMet is_trip_count
trip_count_met before = (codes "1", refl)

stop_count_met : CanBeMet is_stop_count
stop_count_met before = (codes "2", refl)

minute_count_met : CanBeMet is_minute_count
minute_count_met before = (codes "1", refl)

visit_count_met : CanBeMet is_visit_count
visit_count_met before = (codes "1", refl)

form_met : (form : declared.Form) → CanBeMet (form_of form)
form_met form.Filled = filled_met
form_met form.Day = day_met
form_met form.DayCount = day_count_met
form_met form.KeptCount = kept_count_met
form_met form.ConnectionCount = connection_count_met
form_met form.Moment = moment_met
form_met form.Seed = seed_met
form_met form.TripCount = trip_count_met
form_met form.StopCount = stop_count_met
form_met form.MinuteCount = minute_count_met
form_met form.VisitCount = visit_count_met

pairs_met : (pairs : List Pair) → list_all has_flag pairs ≡ true → AllByRecursion CanStand (map pair_of pairs)
pairs_met [] h = tt
pairs_met (pair ∷ pairs) h =
    let parts : (nat_lt 0 (length pair.flags.now) ≡ true) × _ = and_parts _ _ h in
    ((simp length-map (grind (arith, nat_tests, parts.0)), form_met pair.form), pairs_met pairs parts.1)

rows_met : (rows : List Command) → list_all (λ row. list_all has_flag (row.pairs.now ++ row.optional.now)) rows ≡ true
    → AllByRecursion IsSatisfiable (map row_of rows)
rows_met [] h = tt
rows_met (row ∷ rows) h =
    let parts = and_parts (list_all has_flag (row.pairs.now ++ row.optional.now)) _ h in
    let all = subst (λ pairs. AllByRecursion CanStand pairs) (map-append pair_of row.pairs.now row.optional.now)
    (pairs_met (row.pairs.now ++ row.optional.now) parts.0) in
    (record { pairs = all; repeated = form_met row.repeated.form }, rows_met rows parts.1)

-- so any table of pairs with flags can be met
pub satisfiable : (rows : List Command) → have_flags rows ≡ true → AreSatisfiable (map row_of rows)
satisfiable rows h =
    let parts : (nat_lt 0 (length rows) ≡ true) × _ = and_parts _ _ h in
    record { some = simp length-map (grind (arith, nat_tests, parts.0)); each = rows_met rows parts.1 }

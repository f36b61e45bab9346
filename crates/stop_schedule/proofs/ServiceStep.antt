-- One more row of calendar.txt or calendar_dates.txt.
use Rattle.std.proofs.Common.{◌≡◌, ◌∙◌, ◌+◌, ◌||◌, ◌&&◌, Bool, true, false, cond, ℕ, ℤ, pos, unwrap_or, nat_eq, List, [], ◌∷◌, ◌++◌, map, length, slice_get, Option, Some, None, refl, ap, sym, arith, subst}
use Rattle.std.specs.Prelude.{find}
use Rattle.std.specs.List.{list_all, list_any}
use Rattle.std.specs.Option.{option_map, option_or, is_some}
use Rattle.std.specs.Ordering.{int_eq}
use Rattle.std.specs.Str.{bytes_eq, is_utf8}
use Rattle.stop_schedule.specs.Faults.{all_text}
use Rattle.stop_schedule.specs.Layout.{columns}
use Rattle.std.specs.Cmp.Derive.{both_true}
use Rattle.std.proofs.lemmas.Bool.{false≢true}
use Rattle.std.proofs.lemmas.Bool.Decides.{nat_tests, Decides-int_eq}
use Rattle.std.proofs.lemmas.Slice.Eq.{bytes_eq-Decides}
use Rattle.std.proofs.lemmas.List.Folds.{find-append, list_all-append}
use Rattle.std.proofs.Math.Bool.{and-false}
use Rattle.stop_schedule.specs.Causes.{calendar_fault, date_fault}
use Rattle.stop_schedule.specs.Holding.{Extends, HoldsCalendars, HoldsDates}
use Rattle.timetable.specs.Services.{Calendars, Exceptions, calendar_at, exception_at}
use Rattle.timetable.specs.Ids.{are_distinct, has_id, with_id}
use Rattle.stop_schedule.specs.Services.{calendar_in, calendar_of, day_of_row, day_in, exception_in, is_exception, is_of, is_one, weekdays}
use Rattle.stop_schedule.specs.Sheet.{Row, nth}
use Rattle.timetable.specs.declared.calendar.Calendar.{Calendar}
use Rattle.stop_schedule.specs.declared.table_file.TableFile.TheVariants as File
use Rattle.stop_schedule.specs.declared.table_fault.TableFault.TheVariants.{Duplicate}
use Rattle.timetable.proofs.IdLemmas.{and-left, and-right, bytes_eq-refl, has-at}
use Rattle.stop_schedule.proofs.ServiceLemmas.{agree, agree-now, extends-with, has-grown, still-outside}

-- the fields of the last columns are texts
pub text-8 : (row : Row) → all_text 0 (columns File.Calendar) row ≡ true → is_utf8 (nth 8 row) ≡ true
text-8 row texts =
    and-left _ _ (and-right (is_utf8 (nth 7 row)) _
    (and-right (is_utf8 (nth 6 row)) _ (and-right (is_utf8 (nth 5 row)) _ (and-right (is_utf8 (nth 4 row)) _
    (and-right (is_utf8 (nth 3 row)) _
    (and-right (is_utf8 (nth 2 row)) _
    (and-right (is_utf8 (nth 1 row)) _ (and-right (is_utf8 (nth 0 row)) _ texts))))))))

pub text-9 : (row : Row) → all_text 0 (columns File.Calendar) row ≡ true → is_utf8 (nth 9 row) ≡ true
text-9 row texts =
    and-left _ _ (and-right (is_utf8 (nth 8 row)) _
    (and-right (is_utf8 (nth 7 row)) _ (and-right (is_utf8 (nth 6 row)) _ (and-right (is_utf8 (nth 5 row)) _
    (and-right (is_utf8 (nth 4 row)) _
    (and-right (is_utf8 (nth 3 row)) _ (and-right (is_utf8 (nth 2 row)) _ (and-right (is_utf8 (nth 1 row)) _
    (and-right (is_utf8 (nth 0 row)) _ texts)))))))))

pub text-1 : (row : Row) → all_text 0 (columns File.CalendarDates) row ≡ true → is_utf8 (nth 1 row) ≡ true
text-1 row texts = and-left _ _ (and-right (is_utf8 (nth 0 row)) _ texts)

pub calendar-is : (row : Row) (days : List Bool) (start end : ℤ) → days ≡ weekdays row → Some start ≡ day_in 8 row
    → Some end ≡ day_in 9 row
    → (record { weekdays = days; start = start; end = end }) ≡ calendar_of row
calendar-is row days start end one two three =
    λ i. record { weekdays = one i; start = unwrap_or (two i) (pos 0); end = unwrap_or (three i) (pos 0) }

-- ---- the first row that passes a test

module _ {A : Type 0} (test : Row → Bool) (made : Row → A) where
  some-made : (found : Option Row) → option_map made found ≡ None → found ≡ None
  some-made None none = refl
  some-made (Some row) none = cc

  or-none : (found : Option Row) → option_or found None ≡ found
  or-none None = refl
  or-none (Some row) = refl

  find-other : (before : List Row) (row : Row) → test row ≡ false
      → option_map made (find test (before ++ row ∷ [])) ≡ option_map made (find test before)
  find-other before row fails =
      let joined : option_or (find test before) (find test (row ∷ [])) ≡ find test before =
      rw fails (or-none (find test before)) in
      ap (option_map made) (find-append test before (row ∷ []) ∙ joined)

  find-last : (before : List Row) (row : Row) → option_map made (find test before) ≡ None → test row ≡ true
      → option_map made (find test (before ++ row ∷ [])) ≡ Some (made row)
  find-last before row none passes =
      let joined : option_or (find test before) (find test (row ∷ [])) ≡ Some row =
      rw (some-made (find test before) none, passes) refl in
      ap (option_map made) (find-append test before (row ∷ []) ∙ joined)

  none-passes : (before : List Row) → option_map made (find test before) ≡ None → is_some (find test before) ≡ false
  none-passes before none = ap is_some (some-made (find test before) none)

  some-passes : (before : List Row) (value : A) → option_map made (find test before) ≡ Some value
      → is_some (find test before) ≡ true
  some-passes before value some = by (find test before) some
    where
      by : (found : Option Row) → option_map made found ≡ Some value → is_some found ≡ true
      by None h = cc
      by (Some row) h = refl

-- rows of which none is of a service that is not known
none-of : (services : List (List ℕ)) (id : List ℕ) (test : Row → Bool)
    → ((row : Row) → test row ≡ true → bytes_eq id (nth 0 row) ≡ true) → (rows : List Row)
    → list_all (λ row. has_id (nth 0 row) services) rows ≡ true → has_id id services ≡ false → find test rows ≡ None
none-of services id test tests [] known lacks = refl
none-of services id test tests (row ∷ rows) known lacks =
    by (none-of services id test tests rows (and-right (has_id (nth 0 row) services) _ known) lacks) (test row) refl
  where
    by : find test rows ≡ None → (b : Bool) → test row ≡ b → cond b (Some row) (find test rows) ≡ None
    by later true e =
        let same : id ≡ nth 0 row = (bytes_eq-Decides id (nth 0 row)).0 (tests row e) in
        absurd (false≢true (sym lacks ∙ rw same (and-left (has_id (nth 0 row) services) _ known)))
    by later false e = later

find-has : (id : List ℕ) (rows : List Row) → is_some (find (is_of id) rows) ≡ has_id id (map (nth 0) rows)
find-has id [] = refl
find-has id (row ∷ rows) = by (find-has id rows) (bytes_eq id (nth 0 row))
  where
    by : is_some (find (is_of id) rows) ≡ has_id id (map (nth 0) rows) → (b : Bool)
        → is_some (cond b (Some row) (find (is_of id) rows)) ≡ (b || has_id id (map (nth 0) rows))
    by later true = refl
    by later false = later

known-grown : (services : List (List ℕ)) (id : List ℕ) (rows : List Row)
    → list_all (λ row. has_id (nth 0 row) services) rows ≡ true
    → list_all (λ row. has_id (nth 0 row) (with_id id services)) rows ≡ true
known-grown services id [] known = refl
known-grown services id (row ∷ rows) known =
    both_true (has-grown services id (nth 0 row) (and-left (has_id (nth 0 row) services) _ known))
    (known-grown services id rows (and-right (has_id (nth 0 row) services) _ known))

pub extends-more : (start services : List (List ℕ)) (id : List ℕ) → Extends start services
    → Extends start (with_id id services)
extends-more start services id extends n other at = extends-with services id n other (extends n other at)

module _ (start services : List (List ℕ)) (number : ℕ) (before : List Row) (row : Row)
    (distinct : are_distinct (with_id (nth 0 row) services) ≡ true)
    (numbered : slice_get (with_id (nth 0 row) services) number ≡ Some (nth 0 row)) where
  known-all : list_all (λ other. has_id (nth 0 other) services) before ≡ true
      → list_all (λ other. has_id (nth 0 other) (with_id (nth 0 row) services)) (before ++ row ∷ []) ≡ true
  known-all known =
      list_all-append (λ other. has_id (nth 0 other) (with_id (nth 0 row) services)) before (row ∷ [])
      ∙ both_true (known-grown services (nth 0 row) before known)
      (both_true (has-at (with_id (nth 0 row) services) number (nth 0 row) numbered) refl)

  module _ (calendars after : Calendars) (holds : HoldsCalendars start services calendars before)
      (changed : (q : ℕ) → calendar_at after q ≡ cond (nat_eq number q) (Some (calendar_of row))
      (calendar_at calendars q)) where
    lacking-calendar : has_id (nth 0 row) services ≡ false → calendar_in before (nth 0 row) ≡ None
    lacking-calendar lacks =
        ap (option_map calendar_of)
        (none-of services (nth 0 row) (is_of (nth 0 row)) (λ other passes. passes) before holds.known lacks)

    calendar-now : calendar_at calendars number ≡ calendar_in before (nth 0 row)
    calendar-now = agree-now services (nth 0 row) number distinct numbered (calendar_at calendars)
        (calendar_in before) holds.inside holds.outside lacking-calendar

    pub calendars-step : calendar_at calendars number ≡ None
        → (calendar_fault before row ≡ None)
        × HoldsCalendars start (with_id (nth 0 row) services) after (before ++ row ∷ [])
    calendars-step fresh =
        let none : calendar_in before (nth 0 row) ≡ None = sym calendar-now ∙ fresh in
        let lacks : has_id (nth 0 row) (map (nth 0) before) ≡ false =
        sym (find-has (nth 0 row) before) ∙ none-passes (is_of (nth 0 row)) calendar_of before none in
        let same : nat_eq number number ≡ true = grind (arith, nat_tests) in
        let now : calendar_at after number ≡ calendar_in (before ++ row ∷ []) (nth 0 row) =
        changed number ∙ ap (λ b. cond b (Some (calendar_of row)) (calendar_at calendars number)) same
        ∙ sym (find-last (is_of (nth 0 row)) calendar_of before row none (bytes_eq-refl (nth 0 row))) in
        let others = λ (n : ℕ) (apart : nat_eq number n ≡ false). changed n
        ∙ ap (λ b. cond b (Some (calendar_of row)) (calendar_at calendars n)) apart in
        let names = λ (service : List ℕ) (apart : bytes_eq service (nth 0 row) ≡ false). find-other (is_of service)
        calendar_of before row apart in (
          rw lacks refl,
          record {
            inside = agree services (nth 0 row) number distinct numbered (calendar_at calendars) (calendar_in before)
                holds.inside holds.outside lacking-calendar
                (calendar_at after) (calendar_in (before ++ row ∷ [])) now others names;
            extends = extends-more start services (nth 0 row) holds.extends;
            outside = still-outside services (nth 0 row) number distinct numbered (calendar_at calendars)
                (calendar_in before) holds.inside holds.outside lacking-calendar
                (calendar_at after) (calendar_in (before ++ row ∷ [])) now others names;
            known = known-all holds.known;
          },
        )

  module _ (calendars : Calendars) (holds : HoldsCalendars start services calendars before) where
    pub calendars-twice : (old : Calendar) → calendar_at calendars number ≡ Some old
        → calendar_fault before row ≡ Some (Duplicate File.Calendar (length before + 1))
    calendars-twice old stands =
        let some : calendar_in before (nth 0 row) ≡ Some old = sym (calendar-was calendars holds) ∙ stands in
        let has : has_id (nth 0 row) (map (nth 0) before) ≡ true =
        sym (find-has (nth 0 row) before) ∙ some-passes (is_of (nth 0 row)) calendar_of before old some in
        rw has refl
      where
        calendar-was : (calendars : Calendars) (holds : HoldsCalendars start services calendars before)
            → calendar_at calendars number ≡ calendar_in before (nth 0 row)
        calendar-was calendars holds =
            agree-now services (nth 0 row) number distinct numbered (calendar_at calendars) (calendar_in before)
            holds.inside holds.outside
            (λ lacks. ap (option_map calendar_of)
            (none-of services (nth 0 row) (is_of (nth 0 row)) (λ other passes. passes) before holds.known lacks))

-- ---- the same of exceptions

module _ (start services : List (List ℕ)) (number : ℕ) (before : List Row) (row : Row)
    (distinct : are_distinct (with_id (nth 0 row) services) ≡ true)
    (numbered : slice_get (with_id (nth 0 row) services) number ≡ Some (nth 0 row)) (exceptions : Exceptions)
    (holds : HoldsDates start services exceptions before) where
  lacking-date : (day : ℤ) → has_id (nth 0 row) services ≡ false → exception_in before (nth 0 row) day ≡ None
  lacking-date day lacks =
      ap (option_map (is_one 2))
      (none-of services (nth 0 row) (is_exception (nth 0 row) day)
      (λ other passes. and-left (bytes_eq (nth 0 row) (nth 0 other)) _ passes) before holds.known lacks)

  date-now : (day : ℤ) → exception_at exceptions number day ≡ exception_in before (nth 0 row) day
  date-now day =
      agree-now services (nth 0 row) number distinct numbered (λ n. exception_at exceptions n day)
      (λ service. exception_in before service day)
      (λ n service at. holds.inside n service day at) (λ n past. holds.outside n day past) (lacking-date day)

  any-find : (test : Row → Bool) (rows : List Row) → is_some (find test rows) ≡ list_any test rows
  any-find test [] = refl
  any-find test (first ∷ rows) = by (any-find test rows) (test first)
    where
      by : is_some (find test rows) ≡ list_any test rows → (b : Bool)
          → is_some (cond b (Some first) (find test rows)) ≡ (b || list_any test rows)
      by later true = refl
      by later false = later

  pub dates-twice : (old : Bool) → exception_at exceptions number (day_of_row row) ≡ Some old
      → date_fault before row ≡ Some (Duplicate File.CalendarDates (length before + 1))
  dates-twice old stands =
      let some : exception_in before (nth 0 row) (day_of_row row) ≡ Some old =
      sym (date-now (day_of_row row)) ∙ stands in
      let has : list_any (is_exception (nth 0 row) (day_of_row row)) before ≡ true =
      sym (any-find (is_exception (nth 0 row) (day_of_row row)) before)
      ∙ some-passes (is_exception (nth 0 row) (day_of_row row)) (is_one 2) before old some in
      rw has refl

  module _ (after : Exceptions)
      (changed : (n : ℕ) (day : ℤ)
      → exception_at after n day ≡ cond (nat_eq number n && int_eq (day_of_row row) day) (Some (is_one 2 row))
      (exception_at exceptions n day))
      (fresh : exception_at exceptions number (day_of_row row) ≡ None) where
    now-on : (day : ℤ) (b : Bool) → int_eq (day_of_row row) day ≡ b
        → exception_at after number day ≡ exception_in (before ++ row ∷ []) (nth 0 row) day
    now-on day true e =
        let same : day_of_row row ≡ day = (Decides-int_eq (day_of_row row) day).0 e in
        let one : nat_eq number number ≡ true = grind (arith, nat_tests) in
        let none : exception_in before (nth 0 row) day ≡ None =
        sym (date-now day) ∙ subst (λ d. exception_at exceptions number d ≡ None) same fresh in
        changed number day
        ∙ ap (λ t. cond (t && int_eq (day_of_row row) day) (Some (is_one 2 row))
        (exception_at exceptions number day)) one
        ∙ ap (λ t. cond t (Some (is_one 2 row)) (exception_at exceptions number day)) e
        ∙ sym (find-last (is_exception (nth 0 row) day) (is_one 2) before row none
        (both_true (bytes_eq-refl (nth 0 row)) e))
    now-on day false e =
        let apart : (nat_eq number number && int_eq (day_of_row row) day) ≡ false =
        rw e (and-false (nat_eq number number)) in
        let fails : is_exception (nth 0 row) day row ≡ false = rw e (and-false (bytes_eq (nth 0 row) (nth 0 row))) in
        changed number day ∙ ap (λ t. cond t (Some (is_one 2 row)) (exception_at exceptions number day)) apart
        ∙ date-now day
        ∙ sym (find-other (is_exception (nth 0 row) day) (is_one 2) before row fails)

    others-on : (day : ℤ) (n : ℕ) → nat_eq number n ≡ false → exception_at after n day ≡ exception_at exceptions n day
    others-on day n apart = changed n day
        ∙ ap (λ t. cond (t && int_eq (day_of_row row) day) (Some (is_one 2 row)) (exception_at exceptions n day)) apart

    names-on : (day : ℤ) (service : List ℕ) → bytes_eq service (nth 0 row) ≡ false
        → exception_in (before ++ row ∷ []) service day ≡ exception_in before service day
    names-on day service apart =
        let fails : is_exception service day row ≡ false = rw apart refl in
        find-other (is_exception service day) (is_one 2) before row fails

    pub dates-step : (date_fault before row ≡ None)
        × HoldsDates start (with_id (nth 0 row) services) after (before ++ row ∷ [])
    dates-step =
        let none : exception_in before (nth 0 row) (day_of_row row) ≡ None = sym (date-now (day_of_row row)) ∙ fresh in
        let lacks : list_any (is_exception (nth 0 row) (day_of_row row)) before ≡ false =
        sym (any-find (is_exception (nth 0 row) (day_of_row row)) before)
        ∙ none-passes (is_exception (nth 0 row) (day_of_row row)) (is_one 2) before none in (
          rw lacks refl,
          record {
            inside = λ n service day at. agree services (nth 0 row) number distinct numbered
                (λ m. exception_at exceptions m day) (λ s. exception_in before s day)
                (λ m s found. holds.inside m s day found) (λ m past. holds.outside m day past) (lacking-date day)
                (λ m. exception_at after m day) (λ s. exception_in (before ++ row ∷ []) s day) (now-on day _ refl)
                (others-on day) (names-on day) n service at;
            extends = extends-more start services (nth 0 row) holds.extends;
            outside = λ n day past. still-outside services (nth 0 row) number distinct numbered
                (λ m. exception_at exceptions m day) (λ s. exception_in before s day)
                (λ m s found. holds.inside m s day found) (λ m gone. holds.outside m day gone) (lacking-date day)
                (λ m. exception_at after m day) (λ s. exception_in (before ++ row ∷ []) s day) (now-on day _ refl)
                (others-on day) (names-on day) n past;
            known = known-all start services number before row distinct numbered holds.known;
          },
        )

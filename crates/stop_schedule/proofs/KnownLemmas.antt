-- A row of stop_times.txt whose ids are known and whose other fields have their forms.
use Rattle.std.proofs.Common.{◌≡◌, ◌≤◌, ◌==◌, ℕ, true, false, not, nat_lt, List, length, Some, is_some, slice_get, refl, arith}
use Rattle.std.specs.Cmp.Derive.{both_true}
use Rattle.std.specs.Str.{is_utf8}
use Rattle.std.proofs.Math.Bool.{or-true}
use Rattle.std.proofs.lemmas.Bool.Decides.{nat_tests}
use Rattle.stop_schedule.specs.Faults.{Fits}
use Rattle.stop_schedule.specs.Forms.{seconds, sequence}
use Rattle.timetable.specs.Ids.{are_ids, has_id_len}
use Rattle.stop_schedule.specs.Limits.{row_limit}
use Rattle.timetable.specs.Limits.{id_limit}
use Rattle.stop_schedule.specs.Sheet.{Row, nth}
use Rattle.stop_schedule.specs.declared.table_file.TableFile.TheVariants.{StopTimes}
use Rattle.stop_schedule.proofs.DigitLemmas.{seconds-is-text, sequence-is-text}
use Rattle.timetable.proofs.IdLemmas.{and-left, and-right, id-at, id-at-has-bytes, id-at-is-short}

known-text : (ids : List (List ℕ)) (place : ℕ) (id : List ℕ) → are_ids ids ≡ true → slice_get ids place ≡ Some id
    → is_utf8 id ≡ true
known-text ids place id good at = and-right (has_id_len id) (is_utf8 id) (id-at ids place id (and-left _ _ good) at)

known-some : (ids : List (List ℕ)) (place : ℕ) (id : List ℕ) → are_ids ids ≡ true → slice_get ids place ≡ Some id
    → not (length id == 0) ≡ true
known-some ids place id good at = let some = id-at-has-bytes ids place id good at in grind (arith, nat_tests, some)

known-short : (ids : List (List ℕ)) (place : ℕ) (id : List ℕ) → are_ids ids ≡ true → slice_get ids place ≡ Some id
    → nat_lt id_limit (length id) ≡ false
known-short ids place id good at = let short = id-at-is-short ids place id good at in grind (arith, nat_tests, short)

-- it has no fault by its fields
pub known-fits : (trips stops : List (List ℕ)) (row : Row) (number trip stop : ℕ) → are_ids trips ≡ true
    → are_ids stops ≡ true
    → slice_get trips trip ≡ Some (nth 0 row) → slice_get stops stop ≡ Some (nth 2 row)
    → is_some (sequence (nth 1 row)) ≡ true
    → is_some (seconds (nth 3 row)) ≡ true → is_some (seconds (nth 4 row)) ≡ true → number ≤ row_limit StopTimes
    → Fits StopTimes number row
known-fits trips stops row number trip stop good_trips good_stops trip_at stop_at sequence_is arrival departure
    counted = record {
      texts = both_true (known-text trips trip (nth 0 row) good_trips trip_at)
          (both_true (sequence-is-text (nth 1 row) sequence_is)
          (both_true (known-text stops stop (nth 2 row) good_stops stop_at)
          (both_true (seconds-is-text (nth 3 row) arrival) (both_true (seconds-is-text (nth 4 row) departure) refl))));
      forms = rw (
        known-some trips trip (nth 0 row) good_trips trip_at,
        sequence_is,
        known-some stops stop (nth 2 row) good_stops stop_at,
        arrival,
        departure,
        or-true (length (nth 3 row) == 0),
        or-true (length (nth 4 row) == 0),
      ) refl;
      short = rw (
        known-short trips trip (nth 0 row) good_trips trip_at,
        known-short stops stop (nth 2 row) good_stops stop_at,
      ) refl;
      counted = counted;
    }

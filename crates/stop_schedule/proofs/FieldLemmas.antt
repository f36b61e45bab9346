-- Fields of a row by place, and the place of a column.
use Rattle.std.proofs.Common.{◌≡◌, ◌∙◌, ◌<◌, ℕ, zero, suc, true, false, List, [], ◌∷◌, length, slice_get, nat_lt, unwrap_or, Option, Some, None, refl, ap, arith}
use Rattle.std.specs.Option.{option_map}
use Rattle.std.specs.Str.{bytes_eq}
use Rattle.std.proofs.lemmas.Bool.{lt-ltb}
use Rattle.std.proofs.lemmas.Bool.Decides.{nat_tests}
use Rattle.std.proofs.lemmas.List.Sums.{position_or_len_is}
use Rattle.std.proofs.lemmas.Option.{unwrap_or-slice_get}
use denote.Ref.{Bor}
use Rattle.csv.specs.Records.{field_at}
use Rattle.stop_schedule.specs.Fields.{field_of, trimmed}
use Rattle.stop_schedule.specs.Rows.{column}

field_at-is : (fields : List (List ℕ)) (place : ℕ) → field_at fields place ≡ slice_get fields place
unfolding field_at
field_at-is [] place = refl
field_at-is (field ∷ fields) zero = refl
field_at-is (field ∷ fields) (suc place) = field_at-is fields place

read-or-empty : (read : Option (Bor (List ℕ))) (empty : Bor (List ℕ)) → empty.now ≡ []
    → (unwrap_or read empty).now ≡ unwrap_or (option_map (λ slice. slice.now) read) []
read-or-empty None empty none = none
read-or-empty (Some slice) empty none = refl

-- the field that was read at a place, or an empty one
pub field-read : (read : Option (Bor (List ℕ))) (empty : Bor (List ℕ)) (fields : List (List ℕ)) (place : ℕ)
    → empty.now ≡ []
    → option_map (λ slice. slice.now) read ≡ field_at fields place
    → (unwrap_or read empty).now ≡ unwrap_or (slice_get fields place) []
field-read read empty fields place none is =
    read-or-empty read empty none ∙ ap (λ (o : Option (List ℕ)). unwrap_or o []) (is ∙ field_at-is fields place)

-- a place where the first name stands is the column's, and where no name stands there is no column
pub column-found : (name : List ℕ) (row : List (List ℕ)) (place : ℕ) → place < length row
    → bytes_eq (field_of place row) name ≡ true
    → ((k : ℕ) → k < place → bytes_eq (field_of k row) name ≡ false) → column name row ≡ Some place
column-found name row place within here before =
    let first = position_or_len_is (λ field. bytes_eq (trimmed field) name) row place [] (omega arith)
    (λ k below. rw (← unwrap_or-slice_get row k []) (before k below))
    (λ _. rw (← unwrap_or-slice_get row place []) here) in
    rw (first, lt-ltb place (length row) within) refl

pub column-missing : (name : List ℕ) (row : List (List ℕ))
    → ((k : ℕ) → k < length row → bytes_eq (field_of k row) name ≡ false) → column name row ≡ None
column-missing name row none =
    let all = position_or_len_is (λ field. bytes_eq (trimmed field) name) row (length row) [] (omega arith)
    (λ k below. rw (← unwrap_or-slice_get row k []) (none k below))
    (λ past. absurd (omega (arith, past))) in
    let past : nat_lt (length row) (length row) ≡ false = grind (arith, nat_tests) in
    rw (all, past) refl

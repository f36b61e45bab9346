-- The lines of stops, stop by stop.
use Rattle.std.proofs.Common.{◌≡◌, ◌∙◌, ◌++◌, ◌+◌, ◌<◌, ◌≤◌, ◌∷◌, [], ℕ, zero, suc, List, length, drop, get_or, refl, sym, ap, arith, add-one, append_assoc, Some}
use Rattle.std.specs.Prelude.{slice_get}
use Rattle.std.proofs.lemmas.List.{append-nil}
use Rattle.std.proofs.lemmas.Option.{get_or_from_slice_get}
use Rattle.std.specs.List.{enumerate_from, flat_map, zip}
use Rattle.timetable.specs.declared.stop_row.StopRow.{StopRow}
use Rattle.journey_model.specs.Ids.{id_of}
use Rattle.journey_model.specs.declared.readings.StopReading.{StopReading}
use Rattle.show_command.specs.Lines.{numbered_line, stop_line}

-- pairs from a position on: the one there, and those after it
zip-drop : {A B : Type 0} (xs : List A) (ys : List B) (position : ℕ) (x : A) (y : B) → position < length xs → position < length ys
    → drop position (zip xs ys) ≡ (get_or xs position x, get_or ys position y) ∷ drop (suc position) (zip xs ys)
zip-drop [] ys position x y in_xs in_ys = absurd (omega arith)
zip-drop (a ∷ xs) [] position x y in_xs in_ys = absurd (omega arith)
zip-drop (a ∷ xs) (b ∷ ys) zero x y in_xs in_ys = refl
zip-drop (a ∷ xs) (b ∷ ys) (suc position) x y in_xs in_ys = zip-drop xs ys position x y (omega arith) (omega arith)

-- none is left after the last
zip-past : {A B : Type 0} (xs : List A) (ys : List B) (position : ℕ) → length xs ≤ position → drop position (zip xs ys) ≡ []
zip-past [] ys zero past = refl
zip-past [] ys (suc position) past = refl
zip-past (a ∷ xs) [] zero past = refl
zip-past (a ∷ xs) [] (suc position) past = refl
zip-past (a ∷ xs) (b ∷ ys) zero past = absurd (omega arith)
zip-past (a ∷ xs) (b ∷ ys) (suc position) past = zip-past xs ys position (omega arith)

-- the lines of the stops from a position on
abbrev pub lines_from : List (List ℕ) → List ℕ → List StopRow → List StopReading → ℕ → List ℕ
lines_from ids name stops readings position = flat_map (numbered_line ids name) (enumerate_from (position + 1) (drop position (zip stops readings)))

-- one more line
pub line_more : (ids : List (List ℕ)) (name lines more whole id : List ℕ) (stops : List StopRow) (readings : List StopReading) (position : ℕ) (no_stop : StopRow) (nothing : StopReading)
    → lines ++ lines_from ids name stops readings position ≡ whole → position < length stops → length readings ≡ length stops
    → slice_get ids (get_or stops position no_stop).stop.0 ≡ Some id → more ≡ lines ++ stop_line name (position + 1) id (get_or readings position nothing)
    → more ++ lines_from ids name stops readings (position + 1) ≡ whole
line_more ids name lines more whole id stops readings position no_stop nothing so_far inside each known added =
    let left : drop position (zip stops readings) ≡ (get_or stops position no_stop, get_or readings position nothing) ∷ drop (position + 1) (zip stops readings) =
    rw add-one (zip-drop stops readings position no_stop nothing inside (omega arith)) in
    let named : id_of ids (get_or stops position no_stop).stop.0 ≡ id =
    get_or_from_slice_get ids (get_or stops position no_stop).stop.0 id [] known in
    let same = rw (left, named) at so_far in
    ap (λ (all : List ℕ). all ++ lines_from ids name stops readings (position + 1)) added
    ∙ (append_assoc lines (stop_line name (position + 1) id (get_or readings position nothing)) (lines_from ids name stops readings (position + 1)) ∙ same)

-- after the last stop all lines are there
pub lines_done : (ids : List (List ℕ)) (name lines whole : List ℕ) (stops : List StopRow) (readings : List StopReading) (position : ℕ)
    → lines ++ lines_from ids name stops readings position ≡ whole → length stops ≤ position → lines ≡ whole
lines_done ids name lines whole stops readings position so_far past =
    let none = zip-past stops readings position past in
    sym (append-nil lines) ∙ rw none at so_far

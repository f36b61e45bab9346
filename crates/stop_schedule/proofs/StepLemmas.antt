-- What one more row of a file changes.
use Rattle.std.proofs.Common.{◌≡◌, ◌∙◌, ◌||◌, Bool, true, false, not, ℕ, List, [], ◌∷◌, ◌++◌, map, refl, ap, sym}
use Rattle.std.specs.Str.{bytes_eq}
use Rattle.std.proofs.lemmas.List.{map-append}
use Rattle.std.proofs.lemmas.List.Folds.{list_any-append}
use Rattle.std.proofs.Math.Bool.{or-true}
use Rattle.timetable.specs.Ids.{has_id}
use Rattle.stop_schedule.specs.Sheet.{Row, nth}
use Rattle.stop_schedule.specs.Trips.{is_carried}
use Rattle.timetable.proofs.IdLemmas.{bytes_eq-flips, bytes_eq-refl}

or-unit : (a : Bool) → (a || false) ≡ a
or-unit true = refl
or-unit false = refl

-- an id is among those of rows with one more where it was, or is that row's
pub has-after : (before : List Row) (row : Row) (id : List ℕ) (same : Bool) → bytes_eq id (nth 0 row) ≡ same
    → has_id id (map (nth 0) (before ++ row ∷ [])) ≡ (has_id id (map (nth 0) before) || same)
has-after before row id same is =
    rw (map-append (nth 0) before (row ∷ []), list_any-append (bytes_eq id) (map (nth 0) before) (nth 0 row ∷ []), is)
    (ap (λ b. has_id id (map (nth 0) before) || b) (or-unit same))

pub carried-other : (before : List Row) (row : Row) (trip : List ℕ) → bytes_eq (nth 0 row) trip ≡ false
    → is_carried before trip ≡ is_carried (before ++ row ∷ []) trip
carried-other before row trip apart =
    ap not (sym (has-after before row trip false (bytes_eq-flips trip (nth 0 row) ∙ apart)
    ∙ or-unit (has_id trip (map (nth 0) before))))

pub carried-not : (before : List Row) (row : Row) → false ≡ is_carried (before ++ row ∷ []) (nth 0 row)
carried-not before row =
    ap not (sym (has-after before row (nth 0 row) true (bytes_eq-refl (nth 0 row))
    ∙ or-true (has_id (nth 0 row) (map (nth 0) before))))

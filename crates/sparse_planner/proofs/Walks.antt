-- What placed updates say of stops, in one walk: after an update the delay that it supplies is kept.
use Rattle.std.proofs.Common.{append_assoc, length-append, ◌≡◌, ◌∙◌, ◌+◌, ◌<◌, ◌≤◌, ◌==◌, ◌++◌, ◌-ℤ◌, ℕ, ℤ, pos, Bool, true, false, not, List, [], ◌∷◌, map, length, slice_get, Option, Some, None, IfSome, option_map, if◌then◌else◌, refl, ap, ap₂, sym, subst, arith, eqb-true, ne_eqb, le-leb, eq-eqb}
use Rattle.std.specs.List.{range_with_len}
use Rattle.std.specs.Option.{option_map_or, option_or}
use Rattle.std.proofs.lemmas.Bool.{eqb-false, lt-leb}
use Rattle.std.proofs.Math.Bool.{or-false}
use Rattle.std.proofs.lemmas.Option.{IfSome_then}
use Rattle.gw_base.specs.declared.messages.StopUpdate.{StopUpdate}
use Rattle.gw_base.proofs.Elements.{or_assoc, or_none}
use Rattle.timetable.specs.Planned.{planned}
use Rattle.timetable.specs.declared.numbers.StopNo.{StopNo}
use Rattle.timetable.specs.declared.stop_row.StopRow.{StopRow}
use Rattle.journey_model.proofs.Suppliers.{Rise, last_supplier, supplier-last}
use Rattle.journey_model.specs.Propagation.{carried, prop, skips_at, supplied, supplier, supplies, timed}
use Rattle.journey_model.specs.Runs.{Run, planned_at, stop_at}
use Rattle.journey_model.specs.Updates.{assigned_stop, is_no_data, is_skipped, place_by, times}
use Rattle.journey_model.specs.declared.readings.StopReading.{StopReading}
use Rattle.journey_model.specs.declared.readings.StopReading.TheVariants.{Absent, Skipped}
use Rattle.sparse_planner.proofs.States.{delay_after, running}

-- how a stop reads by an update of its own
abbrev pub own : List (List ℕ) → StopNo → ℤ × ℤ → StopUpdate → StopReading
own ids scheduled planned update =
    if is_skipped update then Skipped else (if is_no_data update then Absent else timed (place_by scheduled (assigned_stop ids update)) (times planned update))

-- how the stop of a row reads by it
abbrev pub own_of : Run → StopRow → StopUpdate → StopReading
own_of run row update = own run.ids row.stop (planned run.start row) update

-- how stops read by the updates at and after them, where the stops before supply this delay
abbrev pub walk : Run → ℕ → Option ℤ → List StopRow → List (ℕ × StopUpdate) → List StopReading
walk run position delay [] placed = []
walk run position delay (row ∷ rows) [] = running row.stop (planned run.start row) delay ∷ walk run (position + 1) delay rows []
walk run position delay (row ∷ rows) (one ∷ others) =
    if one.0 == position
    then own_of run row one.1 ∷ walk run (position + 1) (delay_after run.start delay row (own_of run row one.1)) rows others
    else running row.stop (planned run.start row) delay ∷ walk run (position + 1) delay rows (one ∷ others)

pub rise-lower : (low high : ℕ) (placed : List (ℕ × StopUpdate)) → low ≤ high → Rise high placed → Rise low placed
rise-lower low high [] le h = tt
rise-lower low high (one ∷ others) le h = let first : high ≤ one.0 = h.0 in (omega arith, h.1)

-- ---- no update stands before the first position

skips-none : (position from : ℕ) (placed : List (ℕ × StopUpdate)) → position < from → Rise from placed → skips_at position placed ≡ false
skips-none position from [] lt h = refl
skips-none position from (one ∷ others) lt h =
    let first : from ≤ one.0 = h.0 in
    rw (ne_eqb one.0 position (λ e. absurd (omega arith))) (skips-none position (one.0 + 1) others (omega arith) h.1)

supplier-none : (position from : ℕ) (placed : List (ℕ × StopUpdate)) → position < from → Rise from placed → last_supplier position placed ≡ None
supplier-none position from [] lt h = refl
supplier-none position from (one ∷ others) lt h =
    let first : from ≤ one.0 = h.0 in
    rw (supplier-none position (one.0 + 1) others (omega arith) h.1, lt-leb one.0 position (omega arith)) refl

-- ---- the walk is the propagation

-- the delay that an update supplies after its position
abbrev pub delay_of : Run → Option (ℕ × StopUpdate) → Option ℤ
delay_of run None = None
delay_of run (Some one) =
    if is_no_data one.1 then None else option_map (λ (both : ℤ × ℤ). both.1 -ℤ (planned_at run one.0).1) (times (planned_at run one.0) one.1)

-- after the position of an update stands what its delay supplies
supplied-after : (run : Run) (position : ℕ) (found : Option (ℕ × StopUpdate)) → IfSome found (λ one. one.0 < position)
    → supplied run position found ≡ running (stop_at run position) (planned_at run position) (delay_of run found)
supplied-after run position None h = refl
supplied-after run position (Some one) h =
    rw (ne_eqb one.0 position (λ e. absurd (omega arith))) (by (is_no_data one.1) (times (planned_at run one.0) one.1))
  where
    by : (no_data : Bool) (both : Option (ℤ × ℤ))
        → ◌≡◌ {A = StopReading} (if no_data then Absent else carried (stop_at run position) (planned_at run position) (planned_at run one.0) both)
        (running (stop_at run position) (planned_at run position) (if no_data then None else option_map (λ (both : ℤ × ℤ). both.1 -ℤ (planned_at run one.0).1) both))
    by true both = refl
    by false None = refl
    by false (Some both) = refl

-- what is left of placed updates at a position: what stands there and after is in the rest, and what stands before it supplies
-- by the last that isn't SKIPPED
pub record Left (placed : List (ℕ × StopUpdate)) (position : ℕ) (found : Option (ℕ × StopUpdate)) (rest : List (ℕ × StopUpdate)) : Type 0 where
  pub skips : (later : ℕ) → position ≤ later → skips_at later placed ≡ skips_at later rest
  pub supplier_is : (later : ℕ) → position ≤ later → supplier later placed ≡ option_or (last_supplier later rest) found
  pub before : IfSome found (λ one. one.0 < position)
  pub rise : Rise position rest

at-first : (placed : List (ℕ × StopUpdate)) → Rise 0 placed → Left placed 0 None placed
at-first placed h = record { skips = λ later le. refl; supplier_is = λ later le. supplier-last later 0 placed h ∙ sym (or_none (last_supplier later placed)); before = tt; rise = h }

-- no update stands at the position
past : (placed : List (ℕ × StopUpdate)) (position : ℕ) (found : Option (ℕ × StopUpdate)) (rest : List (ℕ × StopUpdate))
    → Left placed position found rest → Rise (position + 1) rest → Left placed (position + 1) found rest
past placed position found rest left rise = record {
  skips = λ later le. left.skips later (omega arith);
  supplier_is = λ later le. left.supplier_is later (omega arith);
  before = IfSome_then found left.before (λ one lt. omega arith);
  rise = rise;
}

-- the first of the rest stands at the position
passed : Option (ℕ × StopUpdate) → ℕ × StopUpdate → Option (ℕ × StopUpdate)
passed found one = if is_skipped one.1 then found else Some one

skips-passed : (later : ℕ) (one : ℕ × StopUpdate) (others : List (ℕ × StopUpdate)) → one.0 < later → skips_at later (one ∷ others) ≡ skips_at later others
skips-passed later one others lt = rw (ne_eqb one.0 later (λ e. absurd (omega arith))) refl

supplier-passed : (later : ℕ) (one : ℕ × StopUpdate) (others : List (ℕ × StopUpdate)) (found : Option (ℕ × StopUpdate)) → one.0 ≤ later
    → option_or (last_supplier later (one ∷ others)) found ≡ option_or (last_supplier later others) (passed found one)
unfolding passed
supplier-passed later one others found le =
    or_assoc (last_supplier later others) (if supplies later one then Some one else None) found
    ∙ ap (option_or (last_supplier later others)) (rw (le-leb one.0 later le) (by (is_skipped one.1)))
  where
    by : (skipped : Bool) → option_or (if not skipped then Some one else None) found ≡ (if skipped then found else Some one)
    by true = refl
    by false = refl

passed-before : (position : ℕ) (found : Option (ℕ × StopUpdate)) (one : ℕ × StopUpdate) → one.0 ≡ position → IfSome found (λ earlier. earlier.0 < position)
    → IfSome (passed found one) (λ earlier. earlier.0 < position + 1)
unfolding passed
passed-before position found one e h = by (is_skipped one.1)
  where
    by : (skipped : Bool) → IfSome (if skipped then found else Some one) (λ earlier. earlier.0 < position + 1)
    by true = IfSome_then found h (λ earlier lt. omega arith)
    by false = omega arith

at-position : (placed : List (ℕ × StopUpdate)) (position : ℕ) (found : Option (ℕ × StopUpdate)) (one : ℕ × StopUpdate) (others : List (ℕ × StopUpdate))
    → Left placed position found (one ∷ others) → one.0 ≡ position → Left placed (position + 1) (passed found one) others
at-position placed position found one others left e = record {
  skips = λ later le. left.skips later (omega arith) ∙ skips-passed later one others (omega arith);
  supplier_is = λ later le. left.supplier_is later (omega arith) ∙ supplier-passed later one others found (omega arith);
  before = passed-before position found one e left.before;
  rise = subst (λ (n : ℕ). Rise (n + 1) others) e left.rise.1;
}

prop-is : (run : Run) (placed : List (ℕ × StopUpdate)) (position : ℕ) (skips : Bool) (found : Option (ℕ × StopUpdate))
    → skips_at position placed ≡ skips → supplier position placed ≡ found → prop run placed position ≡ (if skips then Skipped else supplied run position found)
prop-is run placed position skips found e f = ap₂ (λ (s : Bool) (g : Option (ℕ × StopUpdate)). if s then Skipped else supplied run position g) e f

prop-past : (run : Run) (placed : List (ℕ × StopUpdate)) (position : ℕ) (found : Option (ℕ × StopUpdate)) (rest : List (ℕ × StopUpdate))
    → Left placed position found rest → Rise (position + 1) rest → prop run placed position ≡ running (stop_at run position) (planned_at run position) (delay_of run found)
prop-past run placed position found rest left rise =
    prop-is run placed position false found
    (left.skips position (omega arith) ∙ skips-none position (position + 1) rest (omega arith) rise)
    (left.supplier_is position (omega arith) ∙ ap (λ one. option_or one found) (supplier-none position (position + 1) rest (omega arith) rise))
    ∙ supplied-after run position found left.before

-- an update that stands at the position
skips-at : (position : ℕ) (one : ℕ × StopUpdate) (others : List (ℕ × StopUpdate)) → one.0 ≡ position → Rise (position + 1) others → skips_at position (one ∷ others) ≡ is_skipped one.1
skips-at position one others e rise = rw (eq-eqb one.0 position e, skips-none position (position + 1) others (omega arith) rise) (or-false (is_skipped one.1))

supplier-at : (position : ℕ) (found : Option (ℕ × StopUpdate)) (one : ℕ × StopUpdate) (others : List (ℕ × StopUpdate)) → one.0 ≡ position → Rise (position + 1) others
    → option_or (last_supplier position (one ∷ others)) found ≡ passed found one
supplier-at position found one others e rise =
    supplier-passed position one others found (omega arith)
    ∙ ap (λ after. option_or after (passed found one)) (supplier-none position (position + 1) others (omega arith) rise)

-- what it supplies there is its own reading
own-at : (run : Run) (position : ℕ) (found : Option (ℕ × StopUpdate)) (one : ℕ × StopUpdate) → one.0 ≡ position
    → (if is_skipped one.1 then Skipped else supplied run position (passed found one)) ≡ own run.ids (stop_at run position) (planned_at run position) one.1
unfolding passed
own-at run position found one e = by (is_skipped one.1)
  where
    by : (skipped : Bool) → (if skipped then Skipped else supplied run position (if skipped then found else Some one))
        ≡ (if skipped then Skipped else (if is_no_data one.1 then Absent else timed (place_by (stop_at run position) (assigned_stop run.ids one.1)) (times (planned_at run position) one.1)))
    by true = refl
    by false = rw (eq-eqb one.0 position e) refl

prop-at : (run : Run) (placed : List (ℕ × StopUpdate)) (position : ℕ) (found : Option (ℕ × StopUpdate)) (one : ℕ × StopUpdate) (others : List (ℕ × StopUpdate))
    → Left placed position found (one ∷ others) → one.0 ≡ position → prop run placed position ≡ own run.ids (stop_at run position) (planned_at run position) one.1
prop-at run placed position found one others left e =
    let rise = subst (λ (n : ℕ). Rise (n + 1) others) e left.rise.1 in
    prop-is run placed position (is_skipped one.1) (passed found one)
    (left.skips position (omega arith) ∙ skips-at position one others e rise)
    (left.supplier_is position (omega arith) ∙ supplier-at position found one others e rise)
    ∙ own-at run position found one e

-- the delay that an update supplies is that of its stop's reading
delay-own : (run : Run) (row : StopRow) (found : Option (ℕ × StopUpdate)) (one : ℕ × StopUpdate) → planned_at run one.0 ≡ planned run.start row
    → delay_of run (passed found one) ≡ delay_after run.start (delay_of run found) row (own_of run row one.1)
unfolding passed
delay-own run row found one e = by (is_skipped one.1)
  where
    timed-delay : (no_data : Bool) (both : Option (ℤ × ℤ))
        → ◌≡◌ {A = Option ℤ} (if no_data then None else option_map (λ (both : ℤ × ℤ). both.1 -ℤ (planned run.start row).1) both)
        (delay_after run.start (delay_of run found) row (if no_data then Absent else timed (place_by row.stop (assigned_stop run.ids one.1)) both))
    timed-delay true both = refl
    timed-delay false None = refl
    timed-delay false (Some both) = refl

    by : (skipped : Bool) → delay_of run (if skipped then found else Some one)
        ≡ delay_after run.start (delay_of run found) row (if skipped then Skipped else (if is_no_data one.1 then Absent else timed (place_by row.stop (assigned_stop run.ids one.1)) (times (planned run.start row) one.1)))
    by true = refl
    by false = rw e (timed-delay (is_no_data one.1) (times (planned run.start row) one.1))

pub stop-here : (front rows : List StopRow) (row : StopRow) → slice_get (front ++ row ∷ rows) (length front) ≡ Some row
stop-here [] rows row = refl
stop-here (first ∷ front) rows row = stop-here front rows row

pub planned-here : (run : Run) (front rows : List StopRow) (row : StopRow) → run.stops ≡ front ++ row ∷ rows → planned_at run (length front) ≡ planned run.start row
planned-here run front rows row e =
    ap (λ found. option_map_or (planned run.start) found (pos 0, pos 0)) (ap (λ (stops : List StopRow). slice_get stops (length front)) e ∙ stop-here front rows row)

pub scheduled-here : (run : Run) (front rows : List StopRow) (row : StopRow) → run.stops ≡ front ++ row ∷ rows → stop_at run (length front) ≡ row.stop
scheduled-here run front rows row e =
    ap (λ (found : Option StopRow). option_map_or (λ (other : StopRow). other.stop) found (record { 0 = 0 })) (ap (λ (stops : List StopRow). slice_get stops (length front)) e ∙ stop-here front rows row)

-- the stops so far, with one more
pub stops-more : (stops front rows : List StopRow) (row : StopRow) → stops ≡ front ++ row ∷ rows → stops ≡ (front ++ row ∷ []) ++ rows
stops-more stops front rows row e = e ∙ sym (append_assoc front (row ∷ []) rows)

pub length-more : (front : List StopRow) (row : StopRow) (position : ℕ) → length front ≡ position → length (front ++ row ∷ []) ≡ position + 1
length-more front row position e = omega (arith, length-append front (row ∷ []))

walk-is : (run : Run) (placed : List (ℕ × StopUpdate)) (front rows : List StopRow) (position : ℕ) (found : Option (ℕ × StopUpdate)) (rest : List (ℕ × StopUpdate))
    → run.stops ≡ front ++ rows → length front ≡ position → Left placed position found rest
    → map (prop run placed) (range_with_len position (length rows)) ≡ walk run position (delay_of run found) rows rest
walk-is run placed front [] position found rest stops long left = refl
walk-is run placed front (row ∷ rows) position found [] stops long left =
    let here = subst (λ (n : ℕ). planned_at run n ≡ planned run.start row) long (planned-here run front rows row stops) in
    let there = subst (λ (n : ℕ). stop_at run n ≡ row.stop) long (scheduled-here run front rows row stops) in
    ap₂ ◌∷◌
    (prop-past run placed position found [] left tt ∙ ap₂ (λ (scheduled : StopNo) (both : ℤ × ℤ). running scheduled both (delay_of run found)) there here)
    (walk-is run placed (front ++ row ∷ []) rows (position + 1) found [] (stops-more run.stops front rows row stops) (length-more front row position long) (past placed position found [] left tt))
walk-is run placed front (row ∷ rows) position found (one ∷ others) stops long left =
    let here = subst (λ (n : ℕ). planned_at run n ≡ planned run.start row) long (planned-here run front rows row stops) in
    let there = subst (λ (n : ℕ). stop_at run n ≡ row.stop) long (scheduled-here run front rows row stops) in
    let more = stops-more run.stops front rows row stops in
    let longer = length-more front row position long in
    let Goal : Bool → Type 0 = λ at. map (prop run placed) (range_with_len position (length (row ∷ rows)))
    ≡ (if at
    then own_of run row one.1 ∷ walk run (position + 1) (delay_after run.start (delay_of run found) row (own_of run row one.1)) rows others
    else running row.stop (planned run.start row) (delay_of run found) ∷ walk run (position + 1) (delay_of run found) rows (one ∷ others)) in
    (elim (one.0 == position) as (λ at. (one.0 == position) ≡ at → Goal at) [
      | true ↦ λ e.
          let is = eqb-true one.0 position e in
          let planned_one = subst (λ (n : ℕ). planned_at run n ≡ planned run.start row) (sym is) here in
          ap₂ ◌∷◌
          (prop-at run placed position found one others left is ∙ ap₂ (λ (scheduled : StopNo) (both : ℤ × ℤ). own run.ids scheduled both one.1) there here)
          (walk-is run placed (front ++ row ∷ []) rows (position + 1) (passed found one) others more longer (at-position placed position found one others left is)
          ∙ ap (λ delay. walk run (position + 1) delay rows others) (delay-own run row found one planned_one))
      | false ↦ λ e.
          let first : position ≤ one.0 = left.rise.0 in
          let other = eqb-false one.0 position e in
          let after : position + 1 ≤ one.0 = omega arith in
          let rise : Rise (position + 1) (one ∷ others) = (after, left.rise.1) in
          ap₂ ◌∷◌
          (prop-past run placed position found (one ∷ others) left rise ∙ ap₂ (λ (scheduled : StopNo) (both : ℤ × ℤ). running scheduled both (delay_of run found)) there here)
          (walk-is run placed (front ++ row ∷ []) rows (position + 1) found (one ∷ others) more longer (past placed position found (one ∷ others) left rise))
    ]) refl

-- what placed updates say of all stops of a trip
pub prop-walk : (run : Run) (placed : List (ℕ × StopUpdate)) → Rise 0 placed
    → map (prop run placed) (range_with_len 0 (length run.stops)) ≡ walk run 0 None run.stops placed
prop-walk run placed rise = walk-is run placed [] run.stops 0 None placed refl refl (at-first placed rise)

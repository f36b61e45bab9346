-- Faults of rows, and places of columns.
use Rattle.std.proofs.Common.{cond, ◌≡◌, ◌∙◌, ◌<◌, ◌+◌, ℕ, Bool, true, false, List, [], ◌∷◌, ◌++◌, length, Option, Some, None, Result, Ok, Err, refl, ap, sym, arith, append_assoc, drop, get_or, add-one, drop-cons}
use Rattle.std.specs.Str.{is_utf8}
use Rattle.std.specs.Option.{option_or}
use Rattle.std.specs.Bool.{MatchBool}
use Rattle.std.specs.Prelude.{⊤}
use Rattle.gw_base.specs.Chains.{ok_map}
use Rattle.stop_schedule.specs.Faults.{all_text, first_fault}
use Rattle.stop_schedule.specs.Layout.{is_optional}
use Rattle.stop_schedule.specs.Columns.{column_name}
use Rattle.stop_schedule.specs.Rows.{column}
use Rattle.stop_schedule.specs.Sheet.{Row, nth, place_then, places_of}
use Rattle.stop_schedule.specs.declared.table_file.TableFile.{TableFile}
use Rattle.stop_schedule.specs.declared.column.Column.{Column}
use Rattle.stop_schedule.specs.declared.forms.Form.{Form}
use Rattle.stop_schedule.specs.declared.table_fault.TableFault.{TableFault}
use Rattle.stop_schedule.specs.declared.table_fault.TableFault.TheVariants.{NoColumn}

-- where the first of some columns has no text, not all have
pub first-no-text : (at : ℕ) (columns : List (Column × Form)) (row : Row) → 0 < length columns
    → is_utf8 (nth at row) ≡ false → all_text at columns row ≡ false
first-no-text at [] row some none = absurd (omega arith)
first-no-text at (read ∷ later) row some none = rw none refl

-- a place more before others
pub one-place : (before : List ℕ) (place : ℕ) (answer : Result (List ℕ) TableFault)
    → ok_map (λ later. before ++ later) (ok_map (λ places. place ∷ places) answer)
    ≡ ok_map (λ later. (before ++ place ∷ []) ++ later) answer
one-place before place (Ok later) = ap Ok (sym (append_assoc before (place ∷ []) later))
one-place before place (Err fault) = refl

-- the place of one more column
pub step-place : (file : TableFile) (names : Row) (items : List (Column × Form)) (i : ℕ) (d : Column × Form)
    (before : List ℕ) (place : ℕ) (all : Result (List ℕ) TableFault)
    → i < length items → column (column_name (get_or items i d).0) names ≡ Some place
    → all ≡ ok_map (λ later. before ++ later) (places_of file names (drop i items))
    → all ≡ ok_map (λ later. (before ++ place ∷ []) ++ later) (places_of file names (drop (i + 1) items))
step-place file names items i d before place all within at so_far =
    let join : Result (List ℕ) TableFault → Result (List ℕ) TableFault =
    λ answer. ok_map (λ later. before ++ later) answer in
    let cell : drop i items ≡ get_or items i d ∷ drop (i + 1) items = rw (add-one i) (drop-cons items i d within) in
    let rest = places_of file names (drop (i + 1) items) in
    so_far ∙ ap (λ later. join (places_of file names later)) cell
    ∙ ap (λ (found : Option ℕ). join (place_then file (get_or items i d).0 found rest)) at
    ∙ one-place before place rest

-- a column that is left out, since it may be missing
pub step-past : (file : TableFile) (names : Row) (items : List (Column × Form)) (i : ℕ) (d : Column × Form)
    (before : List ℕ) (all : Result (List ℕ) TableFault)
    → i < length items → column (column_name (get_or items i d).0) names ≡ None
    → is_optional (get_or items i d).0 ≡ true
    → all ≡ ok_map (λ later. before ++ later) (places_of file names (drop i items))
    → all ≡ ok_map (λ later. before ++ later) (places_of file names (drop (i + 1) items))
step-past file names items i d before all within at may so_far =
    let join : Result (List ℕ) TableFault → Result (List ℕ) TableFault =
    λ answer. ok_map (λ later. before ++ later) answer in
    let cell : drop i items ≡ get_or items i d ∷ drop (i + 1) items = rw (add-one i) (drop-cons items i d within) in
    let rest = places_of file names (drop (i + 1) items) in
    so_far ∙ ap (λ later. join (places_of file names later)) cell
    ∙ ap (λ (found : Option ℕ). join (place_then file (get_or items i d).0 found rest)) at
    ∙ ap (λ b. join (cond b rest (Err (NoColumn file (get_or items i d).0)))) may

-- ---- one row more

pub both-none : (first second : Option TableFault) → first ≡ None → second ≡ None → option_or first second ≡ None
both-none first second one two = rw (one, two) refl

module _ (fault : List Row → Row → Option TableFault) where
  -- rows after one without fault
  pub next-row : (before : List Row) (row : Row) (rows all : List Row) (told : Option TableFault) → all ≡ row ∷ rows
      → fault before row ≡ None
      → told ≡ first_fault fault before all → told ≡ first_fault fault (before ++ row ∷ []) rows
  next-row before row rows all told is none so_far = so_far ∙ rw (is, none) refl

  -- rows of which the first has a fault
  pub fault-here : (before : List Row) (row : Row) (rows all : List Row) (told : Option TableFault)
      (found : TableFault) → all ≡ row ∷ rows → fault before row ≡ Some found
      → told ≡ first_fault fault before all → told ≡ Some found
  fault-here before row rows all told found is here so_far = so_far ∙ rw (is, here) refl

-- what is said of an answer that is no free one
pub said-of : (free : Bool) (P Q : Type 0) → (P → Q) → MatchBool free ⊤ P → MatchBool free ⊤ Q
said-of true P Q f said = tt
said-of false P Q f said = f said

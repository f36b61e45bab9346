-- Rows that are taken one after the other.
use Rattle.std.proofs.Common.{◌≡◌, ◌∙◌, ◌≤◌, ◌+◌, ℕ, List, [], ◌∷◌, ◌++◌, length, Option, Some, None, ap, sym, append_assoc, arith}
use Rattle.std.specs.Prelude.{⊤}
use Rattle.std.specs.Bool.{MatchBool}
use Rattle.stop_schedule.specs.Answers.{is_free}
use Rattle.stop_schedule.specs.Faults.{first_fault, row_fault}
use Rattle.stop_schedule.specs.Limits.{row_limit}
use Rattle.stop_schedule.specs.Sheet.{Row}
use Rattle.stop_schedule.specs.declared.table_file.TableFile.{TableFile}
use Rattle.stop_schedule.specs.declared.table_file.TableFile.TheVariants.{Agency, Stops, Routes, Trips, Calendar, CalendarDates, Frequencies, StopTimes}
use Rattle.stop_schedule.specs.declared.table_fault.TableFault.{TableFault}
use Rattle.stop_schedule.proofs.FaultLemmas.{fault-here, next-row, said-of}

-- no file has more rows than that
pub few-rows : (number : ℕ) (file : TableFile) → number ≤ row_limit file → number ≤ row_limit StopTimes
few-rows number Agency within = omega (arith, within)
few-rows number Stops within = omega (arith, within)
few-rows number Routes within = omega (arith, within)
few-rows number Trips within = omega (arith, within)
few-rows number Calendar within = omega (arith, within)
few-rows number CalendarDates within = omega (arith, within)
few-rows number Frequencies within = omega (arith, within)
few-rows number StopTimes within = omega (arith, within)

-- some rows were taken without fault, and these are left
pub record SoFar {S : Type 0} (Holds : S → S → List Row → Type 0) (file : TableFile)
    (further : List Row → Row → Option TableFault)
    (start now : S) (all done left : List Row) : Type 0 where
  pub rows : done ++ left ≡ all
  pub faultless : first_fault (row_fault file further) [] all ≡ first_fault (row_fault file further) done left
  pub holds : Holds start now done

module _ {S : Type 0} (Holds : S → S → List Row → Type 0) (file : TableFile)
    (further : List Row → Row → Option TableFault) (start before after : S)
    (all done lefts left : List Row) (row : Row) (number : ℕ) where
  pub taken : SoFar Holds file further start before all done lefts → lefts ≡ row ∷ left → number ≡ length done
      → (Holds start before done → number + 1 ≡ length done + 1
      → (row_fault file further done row ≡ None) × Holds start after (done ++ row ∷ []))
      → SoFar Holds file further start after all (done ++ row ∷ []) left
  taken so_far is counted takes =
      let now = takes so_far.holds (ap (λ n. n + 1) counted) in
      record {
        rows = append_assoc done (row ∷ []) left ∙ ap (λ rest. done ++ rest) (sym is) ∙ so_far.rows;
        faultless = next-row (row_fault file further) done row left lefts _ is now.0 so_far.faultless;
        holds = now.1;
      }

  pub refused : (fault : TableFault) → SoFar Holds file further start before all done lefts → lefts ≡ row ∷ left
      → number ≡ length done
      → (Holds start before done → number + 1 ≡ length done + 1
      → MatchBool (is_free fault) ⊤ (row_fault file further done row ≡ Some fault))
      → MatchBool (is_free fault) ⊤ (first_fault (row_fault file further) [] all ≡ Some fault)
  refused fault so_far is counted takes =
      said-of (is_free fault) (row_fault file further done row ≡ Some fault)
      (first_fault (row_fault file further) [] all ≡ Some fault)
      (λ here. fault-here (row_fault file further) done row left lefts _ fault is here so_far.faultless)
      (takes so_far.holds (ap (λ n. n + 1) counted))

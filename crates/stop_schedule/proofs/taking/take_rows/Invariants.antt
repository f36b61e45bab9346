use Rattle.std.proofs.Common.{◌≡◌, ◌≤◌, ◌+◌, [], List, length}
use Rattle.stop_schedule.specs.Limits.{row_limit}
use Rattle.stop_schedule.specs.Sheet.{Row}
use Rattle.stop_schedule.specs.declared.table_file.TableFile.TheVariants.{StopTimes}
use Rattle.stop_schedule.proofs.TakingLemmas.{SoFar}
use Rattle.stop_schedule.proofs.taking.take_rows.Given as goal

-- the rows that were taken have no fault, and what is made of them is held
abbrev pub invariant-loop-number : goal.invariant-loop-number
invariant-loop-number g l = (done : List Row) × record {
  number : l.number ≡ length done;
  few : l.number ≤ row_limit StopTimes;
  limit : l.number ≤ row_limit (g.T.TakesRows.file_of l.fn.taker);
  keeps : g.T.TakesRows.Keeps l.taker (l.number + 1);
  same_given : g.T.TakesRows.given l.taker ≡ g.T.TakesRows.given l.fn.taker;
  same_fault : g.T.TakesRows.fault l.taker ≡ g.T.TakesRows.fault l.fn.taker;
  same_file : g.T.TakesRows.file_of l.taker ≡ g.T.TakesRows.file_of l.fn.taker;
  so_far : g.T.TakesRows.Holds l.fn.taker l.fn.taker []
      → SoFar g.T.TakesRows.Holds (g.T.TakesRows.file_of l.fn.taker) (g.T.TakesRows.fault l.fn.taker) l.fn.taker
      l.taker l.fn.sheet.left done l.sheet.left;
}

abbrev pub decreases-loop-number : goal.decreases-loop-number
decreases-loop-number g l = length l.sheet.left

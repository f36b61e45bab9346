use Rattle.std.proofs.Common.{◌≡◌, ◌||◌, drop}
use Rattle.std.specs.Option.{option_or}
use Rattle.stop_schedule.specs.Faults.{all_text, any_long, first_bad}
use Rattle.stop_schedule.specs.Layout.{columns}
use Rattle.stop_schedule.proofs.checks.row_fault.Given as goal

-- the fields so far are texts, and what was found among them, and what is among the others, is all
abbrev pub invariant-loop-i : goal.invariant-loop-i
invariant-loop-i l = record {
  texts : all_text 0 (columns l.file) l.sheet.row ≡ all_text l.i (drop l.i l.column-items) l.sheet.row;
  forms : first_bad 0 (columns l.file) l.sheet.row ≡ option_or l.bad
      (first_bad l.i (drop l.i l.column-items) l.sheet.row);
  longs : any_long 0 (columns l.file) l.sheet.row ≡ (l.long || any_long l.i (drop l.i l.column-items) l.sheet.row);
}

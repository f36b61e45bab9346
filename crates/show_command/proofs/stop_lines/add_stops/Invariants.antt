-- the lines so far and those of the stops that are left are the lines of all
use Rattle.std.proofs.Common.{◌≡◌, ◌++◌}
use Rattle.std.specs.List.{zip}
use Rattle.show_command.specs.Lines.{stop_lines}
use Rattle.show_command.proofs.StopLemmas.{lines_from}
use Rattle.show_command.proofs.stop_lines.add_stops.Given as goal

abbrev pub invariant-loop-position : goal.invariant-loop-position
invariant-loop-position l = l.lines ++ lines_from l.table.stops l.name l.stops l.readings l.position ≡ l.fn.lines ++ stop_lines l.table.stops l.name (zip l.stops l.readings)

-- the lines so far and those of the journeys that are left are the lines of all
use Rattle.std.proofs.Common.{◌≡◌, ◌++◌, drop}
use Rattle.std.specs.List.{flat_map}
use Rattle.show_command.specs.Lines.{journey_lines}
use Rattle.show_command.proofs.lines.add_journeys.Given as goal

abbrev pub invariant-loop-one : goal.invariant-loop-one
invariant-loop-one l = l.lines ++ flat_map (journey_lines l.context.table) (drop l.one-index l.journeys) ≡ l.fn.lines ++ flat_map (journey_lines l.context.table) l.journeys

-- the lines so far and those of what is left are the lines of all
use Rattle.std.proofs.Common.{◌≡◌, ◌++◌, drop}
use Rattle.std.specs.List.{flat_map}
use Rattle.journey_model.specs.Reports.{aside_line}
use Rattle.journey_model.proofs.report.add_all_aside.Given as goal

abbrev pub invariant-loop-number : goal.invariant-loop-number
invariant-loop-number l =
    l.lines ++ flat_map (aside_line l.lead) (drop l.number-index l.aside)
    ≡ l.fn.lines ++ flat_map (aside_line l.lead) l.aside

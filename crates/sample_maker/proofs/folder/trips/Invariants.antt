-- the lines so far
use Rattle.std.proofs.Common.{◌≡◌, ◌++◌}
use Rattle.sample_maker.specs.Folder.{trip_line}
use Rattle.sample_maker.specs.Pieces.{all_below}
use Rattle.sample_maker.proofs.folder.trips.Given as goal

abbrev pub invariant-loop-trip : goal.invariant-loop-trip
invariant-loop-trip l = l.text ≡ l.initial.text ++ all_below trip_line l.trip

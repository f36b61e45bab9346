-- the lines so far
use Rattle.std.proofs.Common.{◌≡◌, ◌++◌}
use Rattle.sample_maker.specs.Folder.{stop_times_of}
use Rattle.sample_maker.specs.Pieces.{all_below}
use Rattle.sample_maker.proofs.folder.stop_times.Given as goal

abbrev pub invariant-loop-trip : goal.invariant-loop-trip
invariant-loop-trip l = l.text ≡ l.initial.text ++ all_below (stop_times_of l.stops) l.trip

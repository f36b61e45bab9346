-- the lines so far
use Rattle.std.proofs.Common.{◌≡◌, ◌++◌}
use Rattle.sample_maker.specs.Folder.{stop_line}
use Rattle.sample_maker.specs.Pieces.{all_below}
use Rattle.sample_maker.proofs.folder.stops.Given as goal

abbrev pub invariant-loop-place : goal.invariant-loop-place
invariant-loop-place l = l.text ≡ l.initial.text ++ all_below stop_line l.place

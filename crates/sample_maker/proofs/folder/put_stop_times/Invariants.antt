-- the lines so far
use Rattle.std.proofs.Common.{◌≡◌, ◌++◌}
use Rattle.sample_maker.specs.Folder.{stop_time_line}
use Rattle.sample_maker.specs.Pieces.{all_below}
use Rattle.sample_maker.proofs.folder.put_stop_times.Given as goal

abbrev pub invariant-loop-place : goal.invariant-loop-place
invariant-loop-place l = l.out ≡ l.fn.out ++ all_below (stop_time_line l.trip) l.place

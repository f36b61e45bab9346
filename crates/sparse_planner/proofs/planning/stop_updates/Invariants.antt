use Rattle.std.proofs.Common.{◌≡◌, ◌++◌, true, zip, None, IfSome}
use Rattle.std.specs.Iterator.Adapters.{zip_first, zip_second}
use Rattle.std.specs.Slice.Iter.{iter_rest}
use Rattle.timetable.specs.Seen.{seen}
use Rattle.journey_model.specs.Dated.{run_of}
use Rattle.journey_model.specs.Places.{are_placed}
use Rattle.journey_model.specs.Readings.{are_near}
use Rattle.journey_model.specs.Times.{is_delay}
use Rattle.sparse_planner.proofs.States.{plan_from}
use Rattle.sparse_planner.proofs.planning.stop_updates.Given as goal

-- the updates so far, followed by those of the stops that are left, are all
abbrev pub invariant-loop-row : goal.invariant-loop-row
invariant-loop-row l = record {
  so_far : l.updates ++ plan_from (run_of (seen l.table) l.dated) l.delay (zip (iter_rest (zip_first l.row-iterator)) (iter_rest (zip_second l.row-iterator)))
      ≡ plan_from (run_of (seen l.table) l.dated) None (zip l.dated.stops.now l.readings);
  near : are_near l.dated.start (iter_rest (zip_first l.row-iterator)) (iter_rest (zip_second l.row-iterator)) ≡ true;
  placed : are_placed (run_of (seen l.table) l.dated) (iter_rest (zip_first l.row-iterator)) (iter_rest (zip_second l.row-iterator)) ≡ true;
  small : IfSome l.delay (λ delay. is_delay delay ≡ true);
}

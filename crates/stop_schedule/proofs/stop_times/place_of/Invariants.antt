use Rattle.std.proofs.Common.{◌≡◌, ◌++◌, List, length, true}
use Rattle.stop_schedule.specs.Rising.{all_greater}
use Rattle.stop_schedule.specs.declared.stop_times.LoadedStop.{LoadedStop}
use Rattle.stop_schedule.proofs.stop_times.place_of.Given as goal

-- the stops that were passed have a greater sequence
abbrev pub invariant-loop-rest : goal.invariant-loop-rest
invariant-loop-rest l = (passed : List LoadedStop) × record {
  all : l.stops ≡ l.rest ++ passed;
  greater : all_greater l.sequence passed ≡ true;
}

abbrev pub decreases-loop-rest : goal.decreases-loop-rest
decreases-loop-rest l = length l.rest

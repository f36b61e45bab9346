-- the readings so far, and what is carried to the next stop
use Rattle.std.proofs.Common.{◌≡◌, ℕ, true, List, map}
use Rattle.gw_base.specs.declared.messages.StopUpdate.{StopUpdate}
use Rattle.timetable.specs.Table.{Table}
use Rattle.journey_model.specs.Dated.{run_of}
use Rattle.propagation.specs.Saying.{placed_at}
use Rattle.propagation.specs.Spreading.{are_rising_from}
use Rattle.propagation.proofs.SpreadLemmas.{SpreadTo}
use Rattle.propagation.proofs.propagating.readings.Given as goal

abbrev pub invariant-loop-position : goal.invariant-loop-position
invariant-loop-position l = (table : Table) (updates : List (ℕ × StopUpdate)) → are_rising_from 0 updates ≡ true
    → l.fn.placed ≡ map (placed_at (run_of table l.dated)) updates
    → SpreadTo (run_of table l.dated) updates l.position l.delay l.rest l.all

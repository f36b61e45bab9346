-- the ids so far are those of the places so far
use Rattle.std.proofs.Common.{◌≡◌}
use Rattle.stop_schedule.specs.Carrying.{ids_to}
use Rattle.stop_schedule.proofs.assembling.carried_ids.Given as goal

abbrev pub invariant-loop-place : goal.invariant-loop-place
invariant-loop-place l = l.kept ≡ ids_to l.fn.ids l.carried l.place

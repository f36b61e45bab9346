use Rattle.timetable.specs.Seen.{seen}
use Rattle.journey_model.specs.Dated.{run_of}
use Rattle.propagation.proofs.PlaceLemmas.{PlacedTo}
use Rattle.propagation.proofs.placing.placed_all.Given as goal

abbrev pub invariant-loop-number : goal.invariant-loop-number
invariant-loop-number l = PlacedTo (run_of (seen l.table) l.dated) l.updates l.number l.after l.all l.bytes

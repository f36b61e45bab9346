-- the entities so far are written and reported
use Rattle.timetable.specs.Seen.{seen}
use Rattle.reverse_alerts.proofs.ProgressLemmas.{RunTo}
use Rattle.reverse_alerts.proofs.writing.write_all.Given as goal

abbrev pub invariant-loop-number : goal.invariant-loop-number
invariant-loop-number l = RunTo (seen l.table) l.moment l.entities l.number l.writing.text l.writing.report

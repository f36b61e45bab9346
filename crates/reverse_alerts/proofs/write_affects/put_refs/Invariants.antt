-- what was written, and after it the text of the others
use Rattle.std.proofs.Common.{◌≡◌, ◌++◌, false, drop}
use Rattle.timetable.specs.Seen.{seen}
use Rattle.reverse_alerts.specs.SituationTexts.{refs_text}
use Rattle.reverse_alerts.proofs.write_affects.put_refs.Given as goal

abbrev pub invariant-loop-one : goal.invariant-loop-one
invariant-loop-one l = l.out ++ refs_text l.later (seen l.table) (drop l.one-index l.refs) ≡ l.fn.out ++ refs_text false (seen l.table) l.refs

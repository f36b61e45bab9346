-- what was found, and after it what the selectors that are left name
use Rattle.std.proofs.Common.{◌≡◌, drop}
use Rattle.timetable.specs.Seen.{seen}
use Rattle.reverse_alerts.specs.Kept.{all_named}
use Rattle.reverse_alerts.specs.Naming.{refs_of}
use Rattle.reverse_alerts.proofs.NamingLemmas.{joined}
use Rattle.reverse_alerts.proofs.selectors.find_named.Given as goal

abbrev pub invariant-loop-one : goal.invariant-loop-one
invariant-loop-one l = joined l.found (all_named (seen l.table) (drop l.one-index l.selectors)) ≡ refs_of (all_named (seen l.table) l.selectors)

-- the selectors so far and those of what is left are all
use Rattle.std.proofs.Common.{◌≡◌, ◌++◌, drop, map}
use Rattle.timetable.specs.Seen.{seen}
use Rattle.alert_map.specs.Alerts.{selector_of}
use Rattle.alert_map.proofs.selectors.selectors_of.Given as goal

abbrev pub invariant-loop-one : goal.invariant-loop-one
invariant-loop-one l = l.selectors ++ map (selector_of (seen l.table)) (drop l.one-index l.refs) ≡ map (selector_of (seen l.table)) l.refs

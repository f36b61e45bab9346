-- The timetable has each thing that is referred to.
use Rattle.timetable.specs.Seen.{seen}
use Rattle.alert_map.proofs.AlertLemmas.{each_known}
use Rattle.alert_map.proofs.alerts.alert_of.Goals as goal

pub selectors_of-requires : goal.selectors_of-requires
selectors_of-requires c = rw (c.as_slice-2.ensures.same) (each_known (seen c.args.table.now) c.args.situation.now.refs c.requires)

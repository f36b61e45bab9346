use Rattle.jiff_tz.specs.Zone as Jiff
use Rattle.service_day.proofs.zones.Zone.time_zone.Goals as goal

pub returns-in-Table-clause-instants : goal.returns-in-Table-clause-instants
unfolding Jiff.offset_at
returns-in-Table-clause-instants c = λ nanos. rw (c.tzif.ensures, ← c.self.view_is, c.in-Table.is)

pub returns-in-Table-clause-clocks : goal.returns-in-Table-clause-clocks
unfolding Jiff.ambiguous_at
returns-in-Table-clause-clocks c = λ shown. rw (c.tzif.ensures, ← c.self.view_is, c.in-Table.is)

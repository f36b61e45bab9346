use Rattle.feed_reading.proofs.FieldFaultsLaw.{long_is_first, break_is_first, breaks_short}
use Rattle.feed_reading.proofs.laws.what_is_no_field_has_the_fault_law.Goals as goal

pub returns-clause-long : goal.returns-clause-long
returns-clause-long c = long_is_first

pub returns-clause-broken : goal.returns-clause-broken
returns-clause-broken c = break_is_first

pub returns-clause-short : goal.returns-clause-short
returns-clause-short c = breaks_short

use Rattle.feed_reading.proofs.FieldFaults.{missing_header, missing_version, nothing_missing}
use Rattle.feed_reading.proofs.laws.what_is_missing_is_told_at_the_end_law.Goals as goal

pub returns-clause-header : goal.returns-clause-header
returns-clause-header c = missing_header

pub returns-clause-version : goal.returns-clause-version
returns-clause-version c = missing_version

pub returns-clause-nothing : goal.returns-clause-nothing
returns-clause-nothing c = nothing_missing

use Rattle.feed_reading.proofs.FieldFaultsLaw.{faults_split, faults_join, place_within, first_of_field}
use Rattle.feed_reading.proofs.laws.faults_are_found_field_by_field_law.Goals as goal

pub returns-clause-split : goal.returns-clause-split
returns-clause-split c = faults_split

pub returns-clause-join : goal.returns-clause-join
returns-clause-join c = faults_join

pub returns-clause-within : goal.returns-clause-within
returns-clause-within c = place_within

pub returns-clause-first : goal.returns-clause-first
returns-clause-first c = first_of_field

use Rattle.feed_reading.proofs.FaultLaw.{meant_without_fault, no_fault_where_meant}
use Rattle.feed_reading.proofs.laws.no_fault_where_a_feed_is_meant_law.Goals as goal

pub returns-clause-meant : goal.returns-clause-meant
returns-clause-meant c = meant_without_fault

pub returns-clause-no_fault : goal.returns-clause-no_fault
returns-clause-no_fault c = no_fault_where_meant

-- The lemmas of that, over the laws of a disk.
use Rattle.gateway_durable.proofs.RunLemmas.{run_begins, run_goes_on}
use Rattle.gateway_durable.proofs.laws.a_crash_leaves_a_prefix_law.Goals as goal

pub returns-clause-begins : goal.returns-clause-begins
returns-clause-begins g c = run_begins g.K.Disk.told g.K.Disk.may_leave g.K.Disk.clock g.K.Disk.left_since g.met.K.Disk.only_now

pub returns-clause-goes_on : goal.returns-clause-goes_on
returns-clause-goes_on g c = run_goes_on g.K.Disk.told g.K.Disk.may_leave g.K.Disk.clock g.K.Disk.left_since g.met.K.Disk.now_counts g.K.Disk.faults

use Rattle.service_day.proofs.MomentLemmas.{fraction_small}
use Rattle.service_day.proofs.moments.read_fraction.Goals as goal

pub nanoseconds-requires : goal.nanoseconds-requires
nanoseconds-requires c = rw c.digits_len-len.ensures.value (fraction_small _)

pub returns-clause-nanos : goal.returns-clause-nanos
returns-clause-nanos c = rw (c.nanoseconds.ensures, c.digits_len-len.ensures.value) (fraction_small _)

use Rattle.std.proofs.Common.{arith}
use Rattle.std.proofs.lemmas.Int.{ints}
use Rattle.service_day.specs.Civil.{shown_at}
use Rattle.service_day.proofs.StartLemmas.{local_offset_in}
use Rattle.service_day.proofs.starts.start_of_day.Goals as goal

pub returns-clause-range : goal.returns-clause-range
returns-clause-range c =
    let offset = local_offset_in c.args.zone.now (shown_at c.args.day 43200) in
    omega (arith, ints, c.local_second.ensures.value, offset.0, offset.1, c.requires.0, c.requires.1)

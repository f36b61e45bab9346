use Rattle.std.proofs.Common.{◌∙◌, sym}
use Rattle.propagation.proofs.TimeLemmas.{times_in, times_near}
use Rattle.propagation.proofs.events.says_times.Goals as goal

pub timed_by-requires-clause-near : goal.timed_by-requires-clause-near
timed_by-requires-clause-near c =
    (times_near c.args.number c.args.planned c.args.arrival c.args.departure c.in-Some-both_times.both
    (sym c.delay_fault.ensures ∙ c.in_default.is) (sym c.both_times.ensures ∙ c.in-Some-both_times.is)).departure

pub both_times-requires-clause-arrival : goal.both_times-requires-clause-arrival
both_times-requires-clause-arrival c =
    (times_in c.args.number c.args.planned c.args.arrival c.args.departure c.requires (sym c.delay_fault.ensures ∙ c.in_default.is)).0

pub both_times-requires-clause-departure : goal.both_times-requires-clause-departure
both_times-requires-clause-departure c =
    (times_in c.args.number c.args.planned c.args.arrival c.args.departure c.requires (sym c.delay_fault.ensures ∙ c.in_default.is)).1

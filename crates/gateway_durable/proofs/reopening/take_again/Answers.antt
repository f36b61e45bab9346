-- A body that is kept already is taken as any other.
use Rattle.std.proofs.Common.{Err, subst, sym}
use Rattle.gateway_durable.specs.Again.{TakesAgain}
use Rattle.gateway_durable.specs.declared.reopen_fault.ReopenFault.{ReopenFault}
use Rattle.gateway_durable.proofs.AgainLemmas.{again_refused, again_taken}
use Rattle.gateway_durable.proofs.reopening.take_again.Goals as goal

pub returns-in-Ok-clause-takes : goal.returns-in-Ok-clause-takes
returns-in-Ok-clause-takes c = λ arrivals stands.
    again_taken c.args.gate.now arrivals (record { kind = c.args.kind; moment = c.args.moment; body = c.args.body.now }) c.args.number c.take_kept.new.self c.in-Ok._accepted
    (c.in-Ok.ensures.takes arrivals stands)

pub returns-in-Err-clause-takes : goal.returns-in-Err-clause-takes
returns-in-Err-clause-takes c = λ arrivals stands.
    subst
    (λ (fault : ReopenFault). TakesAgain c.args.gate.now.setting arrivals (record { kind = c.args.kind; moment = c.args.moment; body = c.args.body.now }) c.args.number (Err fault) c.take_kept.new.self)
    (sym c.of_kept.ensures)
    (again_refused c.args.gate.now arrivals (record { kind = c.args.kind; moment = c.args.moment; body = c.args.body.now }) c.args.number c.take_kept.new.self c.in-Err.fault
    (c.in-Err.ensures.takes arrivals stands))

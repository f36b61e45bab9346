-- What the gateway answered.
use Rattle.std.proofs.Common.{Result, subst, sym}
use Rattle.gateway_core.specs.declared.accepted.Accepted.{Accepted}
use Rattle.gateway_server.specs.Holding.{TakesFirst, bare, keeps_none}
use Rattle.gateway_server.specs.Posted.{PostedStands}
use Rattle.gateway_server.specs.declared.not_taken.NotTaken.{NotTaken}
use Rattle.gateway_server.specs.declared.posted_body.PostedBody.{PostedBody}
use Rattle.gateway_server.proofs.TakeLemmas.{takes_bare}
use Rattle.gateway_server.proofs.take.GatewayHoldsGatewayUnit.take.Goals as goal

pub returns-clause-takes : goal.returns-clause-takes
returns-clause-takes c = λ arrivals stands bytes posts.
    subst
    (λ (r : Result Accepted NotTaken). TakesFirst keeps_none (bare c.args.self.now) arrivals c.args.moment c.args._kind bytes r (bare c.take_posted-answer.new.gate))
    (sym c.unless_refused.ensures)
    (takes_bare c.args.self.now c.take_posted-answer.new.gate arrivals c.args.moment c.args._kind bytes c.take_posted-answer.result
    (c.take_posted-answer.ensures.takes arrivals stands c.args._kind bytes
    (subst (λ (p : PostedBody). PostedStands c.args.self.now p c.args.moment c.args._kind bytes) (sym c.replace-whole.ensures.value) posts)))

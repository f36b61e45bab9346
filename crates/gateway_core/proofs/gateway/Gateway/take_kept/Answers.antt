-- What was prepared can be taken, and is answered once it is kept and its change is made; a refusal leaves all as it was.
use Rattle.std.proofs.Common.{Result, subst, sym}
use Rattle.gateway_core.specs.Bodies.{Takes}
use Rattle.gateway_core.specs.Changes.{kept_of}
use Rattle.gateway_core.specs.KeptFirst.{CanBeTaken, RefusesKept}
use Rattle.gateway_core.specs.Standing.{Kept, Stands}
use Rattle.gateway_core.specs.declared.accepted.Accepted.{Accepted}
use Rattle.gateway_core.specs.declared.take.body.BodyRefusal.{BodyRefusal}
use Rattle.gateway_core.specs.declared.take.kept.KeptFault.{KeptFault}
use Rattle.gateway_core.proofs.ChangeLemmas.{committed, not_committed}
use Rattle.gateway_core.proofs.KeptAnswers.{can_be_taken, not_kept, refused_first}
use Rattle.gateway_core.proofs.gateway.Gateway.take_kept.Goals as goal

pub returns-in-Err-clause-takes : goal.returns-in-Err-clause-takes
returns-in-Err-clause-takes g c = λ arrivals h.
    subst (λ (why : KeptFault). RefusesKept c.args.self.now.setting arrivals c.args.moment c.args.kind c.args.body.now why) (sym c.of_refusal.ensures)
    (refused_first c.args.self.now arrivals c.args.moment c.args.kind c.args.body.now c.in-Err.refusal c.args.self.now
    (not_committed c.args.self.now c.self.inside.setting c.self.inside.state c.self.view_is arrivals
    (λ (kept : Kept) (answer : Result Accepted BodyRefusal) (now : Kept). Takes kept arrivals c.args.moment c.args.kind c.args.body.now answer now)
    c.in-Err.refusal c.prepare.new.state c.args.self.now h (c.in-Err.ensures.answers arrivals)))

pub returns-in-Err-keep-clause-takes : goal.returns-in-Err-keep-clause-takes
returns-in-Err-keep-clause-takes g c = λ arrivals h.
    subst (λ (why : KeptFault). RefusesKept c.args.self.now.setting arrivals c.args.moment c.args.kind c.args.body.now why) (sym c.of_keep.ensures)
    (not_kept c.args.self.now.setting arrivals c.args.moment c.args.kind c.args.body.now c.in-Err-keep.fault
    (subst (λ (kept : Kept). CanBeTaken kept.setting arrivals c.args.moment c.args.kind c.args.body.now) c.self.view_is
    (can_be_taken (kept_of c.self.inside.setting c.self.inside.state) arrivals c.args.moment c.args.kind c.args.body.now c.self.inside.setting c.prepare.new.state c.in-Ok.prepared
    (c.in-Ok.ensures.answers arrivals (subst (λ (kept : Kept). Stands kept arrivals) (sym c.self.view_is) h)))))

pub returns-clause-takes : goal.returns-clause-takes
returns-clause-takes g c = λ arrivals h.
    committed c.args.self.now c.self.inside.setting c.self.inside.state c.self.view_is arrivals
    (λ (kept : Kept) (answer : Result Accepted BodyRefusal) (now : Kept). Takes kept arrivals c.args.moment c.args.kind c.args.body.now answer now)
    c.in-Ok.prepared c.prepare.new.state c.commit.new.self h (c.in-Ok.ensures.answers arrivals) c.commit.ensures.changed

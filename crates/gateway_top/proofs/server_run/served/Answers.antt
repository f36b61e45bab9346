-- The loop over connections, over a gateway that nothing arrived at yet.
use Rattle.std.proofs.Common.{[], subst}
use Rattle.gw_base.specs.Changes.{change}
use Rattle.gw_base.specs.Count.{Rose}
use Rattle.gateway_core.specs.declared.setting.Setting.{Setting}
use Rattle.gateway_server.specs.Serving.{CountsCauses, failures}
use Rattle.gateway_top.proofs.HeadlineLemmas as lemma
use Rattle.gateway_top.proofs.server_run.served.Goals as goal

pub returns-clause-served : goal.returns-clause-served
returns-clause-served g c = λ told tells.
    let got = c.serve.ensures.serves told tells [] c.in_ok-gate.ensures.stands in
    lemma.served (Rose (g.D.Sink.faults c.args.door.now) (g.D.Sink.faults c.serve.new.door)) c.in_ok-gate.gate c.args.setting told
    (change g.C.Clock.told g.C.Clock.faults c.args.clock.now c.serve.new.clock) (g.D.Sink.told c.serve.new.door) (g.D.Sink.beside c.serve.new.door)
    c.serve.new.gate got.0 c.args.connections c.serve.result c.in_ok-gate.ensures.setting got.1 got.2 got.3

pub returns-clause-failed : goal.returns-clause-failed
returns-clause-failed g c = c.serve.ensures.counts.cause

pub returns-clause-causes : goal.returns-clause-causes
returns-clause-causes g c = λ told tells entries left logged.
    subst (λ (s : Setting). CountsCauses s [] entries (failures c.serve.result) (g.D.Sink.faults c.args.door.now) (g.D.Sink.faults c.serve.new.door)
    (g.C.Clock.faults c.args.clock.now) (g.C.Clock.faults c.serve.new.clock)) c.in_ok-gate.ensures.setting
    (c.serve.ensures.causes told left tells logged.tells [] c.in_ok-gate.ensures.stands entries logged.log)

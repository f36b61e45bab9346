-- The loop over connections, over a durable gateway.
use Rattle.gw_base.specs.Changes.{change}
use Rattle.gw_base.specs.Count.{Rose}
use Rattle.gateway_server.specs.Durable.{held_of, journal_room}
use Rattle.gateway_top.proofs.KeptLemmas.{served_all, unkept_ends}
use Rattle.gateway_top.proofs.kept_run.served.Goals as goal

pub returns-clause-served : goal.returns-clause-served
returns-clause-served g c = λ told tells past stands.
    let got = c.serve_all_kept.ensures.serves told tells past stands in
    served_all (Rose (g.D.Sink.faults c.args.door.now) (g.D.Sink.faults c.serve_all_kept.new.door)) (Rose (g.K.Disk.faults c.args.disk.now) (g.K.Disk.faults c.serve_all_kept.new.disk)) journal_room
    (held_of c.args.durable.now) (held_of c.serve_all_kept.new.durable) past told (change g.C.Clock.told g.C.Clock.faults c.args.clock.now c.serve_all_kept.new.clock)
    (g.D.Sink.told c.serve_all_kept.new.door) (g.D.Sink.beside c.serve_all_kept.new.door) got.0 got.2 c.args.connections c.serve_all_kept.result got.1 got.3

pub returns-clause-unkept : goal.returns-clause-unkept
returns-clause-unkept g c = λ over told tells past stands sound entries left logged.
    let got = c.serve_all_kept.ensures.serves told tells past stands in
    unkept_ends (Rose (g.D.Sink.faults c.args.door.now) (g.D.Sink.faults c.serve_all_kept.new.door)) (Rose (g.K.Disk.faults c.args.disk.now) (g.K.Disk.faults c.serve_all_kept.new.disk)) journal_room
    (held_of c.args.durable.now) (held_of c.serve_all_kept.new.durable) past told (change g.C.Clock.told g.C.Clock.faults c.args.clock.now c.serve_all_kept.new.clock)
    (g.D.Sink.told c.serve_all_kept.new.door) (g.D.Sink.beside c.serve_all_kept.new.door) got.0 got.2 sound over entries left logged

pub returns-clause-causes : goal.returns-clause-causes
returns-clause-causes g c = λ told tells past stands entries left logged. c.serve_all_kept.ensures.causes told left tells logged.tells past stands entries logged.log

pub returns-clause-crash : goal.returns-clause-crash
returns-clause-crash g c = λ told tells past stands entries left logged file is bodies held.
    c.serve_all_kept.ensures.crash told left tells logged.tells past stands entries logged.log file is bodies held

pub returns-clause-failed : goal.returns-clause-failed
returns-clause-failed g c = c.serve_all_kept.ensures.counts.cause

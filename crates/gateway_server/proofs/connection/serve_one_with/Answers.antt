-- With a moment, or without one.
use Rattle.std.proofs.Common.{◌∙◌, ◌++◌, List, None, Some, ap, refl, subst}
use Rattle.gw_base.specs.Changes.{change}
use Rattle.gw_base.specs.Connections.{Beside}
use Rattle.gw_base.specs.Count.{Rose}
use Rattle.gw_base.specs.declared.door.Entry.{Entry}
use Rattle.gw_base.specs.declared.door.Mark.TheVariants as mark
use Rattle.gw_base.proofs.CountLemmas.{rose-before}
use Rattle.delivery_journal.specs.Kept.{KeptBody}
use Rattle.gateway_server.specs.Crashes.{HoldsOfBodies}
use Rattle.gateway_server.specs.Log.{is_taken}
use Rattle.gateway_server.proofs.CrashLemmas.{log_grows, logged_one, marked, none_posted}
use Rattle.gateway_server.proofs.EndLemmas.{had_read, serves_at}
use Rattle.gateway_server.proofs.connection.serve_one_with.Goals as goal

pub returns-in-Ok-clause-serves : goal.returns-in-Ok-clause-serves
returns-in-Ok-clause-serves g c = λ told fresh past stands.
    serves_at (Rose (g.D.Sink.faults c.args.door.now) (g.D.Sink.faults c.answer-mark.new.door)) (Rose (g.D.Sink.faults c.args.door.now) (g.D.Sink.faults c.finish.new.self))
    (Rose (g.H.HoldsGateway.faults c.args.beside.now) (g.H.HoldsGateway.faults c.answer-mark.new.beside)) g.H.HoldsGateway.room
    (g.H.HoldsGateway.held c.args.host.now) past told (change g.C.Clock.told g.C.Clock.faults c.args.clock.now c.now.new.self)
    (g.D.Sink.beside c.args.door.now) (g.D.Sink.beside c.answer-mark.new.door) (g.D.Sink.beside c.finish.new.self) c.answer-mark.ensures.reads.0
    (g.D.Sink.told c.answer-mark.new.door) (g.D.Sink.told c.finish.new.self) c.in-Ok.moment c.answer-mark.result (g.H.HoldsGateway.held c.answer-mark.new.host)
    (λ rose. rose-before (g.D.Sink.faults c.args.door.now) (g.D.Sink.faults c.answer-mark.new.door) (g.D.Sink.faults c.finish.new.self) rose c.finish.ensures.counts.never_falls)
    fresh.tells c.answer-mark.ensures.reads.1 (c.answer-mark.ensures.answers told fresh past stands) c.finish.ensures.logged c.finish.ensures.fresh
    (c.in-Ok.ensures.given, c.in-Ok.ensures.calm)

pub returns-in-Ok-clause-logs : goal.returns-in-Ok-clause-logs
returns-in-Ok-clause-logs g c = λ told fresh.
    let left = had_read (g.D.Sink.beside c.args.door.now) (g.D.Sink.beside c.answer-mark.new.door) c.answer-mark.ensures.reads.0 told fresh.tells c.answer-mark.ensures.reads.1 in
    log_grows (g.D.Sink.beside c.answer-mark.new.door) (g.D.Sink.beside c.finish.new.self) (g.D.Sink.told c.answer-mark.new.door) c.answer-mark.result (Some c.in-Ok.moment) told
    (record { coming = told.coming; input = told.input; unread = left.0; log = told.log }) (change g.C.Clock.told g.C.Clock.faults c.args.clock.now c.now.new.self) left.1 refl refl refl c.finish.ensures.logged
    (c.in-Ok.ensures.given, c.in-Ok.ensures.calm)

pub returns-in-Ok-clause-unchanged : goal.returns-in-Ok-clause-unchanged
returns-in-Ok-clause-unchanged g c = λ told fresh entry logged not_taken.
    let left = had_read (g.D.Sink.beside c.args.door.now) (g.D.Sink.beside c.answer-mark.new.door) c.answer-mark.ensures.reads.0 told fresh.tells c.answer-mark.ensures.reads.1 in
    let one = logged_one (g.D.Sink.beside c.answer-mark.new.door) (g.D.Sink.beside c.finish.new.self) (g.D.Sink.told c.answer-mark.new.door) c.answer-mark.result (Some c.in-Ok.moment) told
    (record { coming = told.coming; input = told.input; unread = left.0; log = told.log }) entry left.1 refl refl c.finish.ensures.logged logged in
    c.answer-mark.ensures.unchanged (ap is_taken (marked _ entry one.1) ∙ not_taken)

pub returns-in-Ok-clause-keeps : goal.returns-in-Ok-clause-keeps
returns-in-Ok-clause-keeps g c = λ told fresh entry logged first before keeps.
    let left = had_read (g.D.Sink.beside c.args.door.now) (g.D.Sink.beside c.answer-mark.new.door) c.answer-mark.ensures.reads.0 told fresh.tells c.answer-mark.ensures.reads.1 in
    let one = logged_one (g.D.Sink.beside c.answer-mark.new.door) (g.D.Sink.beside c.finish.new.self) (g.D.Sink.told c.answer-mark.new.door) c.answer-mark.result (Some c.in-Ok.moment) told
    (record { coming = told.coming; input = told.input; unread = left.0; log = told.log }) entry left.1 refl refl c.finish.ensures.logged logged in
    subst
    (λ (all : List Entry). HoldsOfBodies (λ (taken failed : List KeptBody). g.H.HoldsGateway.keeps first (before ++ taken) failed c.answer-mark.new.host c.answer-mark.new.beside)
    (g.H.HoldsGateway.held c.answer-mark.new.host).is_sound all)
    one.1 (c.answer-mark.ensures.keeps told fresh first before keeps one.0)

pub returns-in-Err-clause-keeps : goal.returns-in-Err-clause-keeps
returns-in-Err-clause-keeps g c = λ told fresh entry logged first before keeps.
    let one = logged_one (g.D.Sink.beside c.refuse_unread.new.door) (g.D.Sink.beside c.finish-in-Err.new.self) (g.D.Sink.told c.refuse_unread.new.door) mark.ClockFault None told told entry
    (ap (λ (b : Beside). b.told) c.refuse_unread.ensures.unread ∙ fresh.tells) refl refl c.finish-in-Err.ensures.logged logged in
    subst
    (λ (all : List Entry). HoldsOfBodies (λ (taken failed : List KeptBody). g.H.HoldsGateway.keeps first (before ++ taken) failed c.args.host.now c.args.beside.now)
    (g.H.HoldsGateway.held c.args.host.now).is_sound all)
    one.1
    (none_posted (λ (taken failed : List KeptBody). g.H.HoldsGateway.keeps first taken failed c.args.host.now c.args.beside.now) before (g.H.HoldsGateway.held c.args.host.now).is_sound
    (record { input = told.input; mark = mark.ClockFault; moment = None; output = one.0 }) refl refl keeps)

-- What a run shows, by its words.
use Rattle.std.proofs.Common.{ap, inl, inr, refl, []}
use Rattle.std.specs.Prelude.{option_map}
use Rattle.gw_base.specs.Changes.{change}
use Rattle.gw_base.specs.Count.{Rose}
use Rattle.command_words.specs.Words.{with_journal}
use Rattle.command_words.specs.Works.{server_of, task_of}
use Rattle.gateway_top.proofs.HeadlineLemmas.{of_run}
use Rattle.gateway_top.proofs.KeptLemmas.{idle_kept, of_bare, of_kept}
use Rattle.command_words.proofs.WordLemmas.{can_run, serves}
use Rattle.gateway_top.proofs.kept.gateway_kept.Goals as goal

-- ---- a server with a journal

pub run_kept-requires-clause-window : goal.run_kept-requires-clause-window
run_kept-requires-clause-window g c =
    serves with_journal c.args.words.now (server_of c.in-Ok-Serve.server) (rw c.in-Ok-Serve.field-0-is at c.in-Ok-Serve.ensures.accepted)

pub returns-in-Some-clause-headline : goal.returns-in-Some-clause-headline
returns-in-Some-clause-headline g c =
    of_kept c.args.words.now (server_of c.in-Ok-Serve.server) c.in-Some._journal.now (change g.K.Disk.told g.K.Disk.faults c.args.disk.now c.run_kept.new.disk) c.run_kept.result
    (change g.F.Files.told g.F.Files.faults c.args.files.now c.run_kept.new.files) (change g.E.Sink.told g.E.Sink.faults c.args.err.now c.run_kept.new.err)
    (record {
      output = change g.D.Sink.told g.D.Sink.faults c.args.door.now c.run_kept.new.door;
      before = g.D.Sink.beside c.args.door.now;
      now = g.D.Sink.beside c.run_kept.new.door;
      clock = change g.C.Clock.told g.C.Clock.faults c.args.clock.now c.run_kept.new.clock;
    })
    (rw c.in-Ok-Serve.field-0-is at c.in-Ok-Serve.ensures.accepted) (ap (option_map (λ file. file.now)) c.in-Some.is) c.run_kept.ensures.run

pub returns-in-Some-clause-crash : goal.returns-in-Some-clause-crash
returns-in-Some-clause-crash g c = λ file is told tells command accepted journal has entries left logged. c.run_kept.ensures.crash file is told tells entries left logged

-- ---- one without

pub run_server-requires-clause-window : goal.run_server-requires-clause-window
run_server-requires-clause-window g c =
    serves with_journal c.args.words.now (server_of c.in-Ok-Serve.server) (rw c.in-Ok-Serve.field-0-is at c.in-Ok-Serve.ensures.accepted)

pub returns-in-None-clause-headline : goal.returns-in-None-clause-headline
returns-in-None-clause-headline g c =
    of_bare (Rose (g.D.Sink.faults c.args.door.now) (g.D.Sink.faults c.run_server.new.door)) c.args.words.now (g.F.Files.told c.args.files.now) (g.K.Disk.told c.args.disk.now) (server_of c.in-Ok-Serve.server)
    (g.D.Sink.told c.args.door.now) (g.D.Sink.beside c.args.door.now) (g.D.Sink.beside c.run_server.new.door)
    (rw c.in-Ok-Serve.field-0-is at c.in-Ok-Serve.ensures.accepted) (ap (option_map (λ file. file.now)) c.in-None.is)
    (of_run with_journal c.args.words.now (server_of c.in-Ok-Serve.server) [] c.run_server.result (change g.F.Files.told g.F.Files.faults c.args.files.now c.run_server.new.files)
    (change g.E.Sink.told g.E.Sink.faults c.args.err.now c.run_server.new.err)
    (record {
      output = change g.D.Sink.told g.D.Sink.faults c.args.door.now c.run_server.new.door;
      before = g.D.Sink.beside c.args.door.now;
      now = g.D.Sink.beside c.run_server.new.door;
      clock = change g.C.Clock.told g.C.Clock.faults c.args.clock.now c.run_server.new.clock;
    })
    (rw c.in-Ok-Serve.field-0-is at c.in-Ok-Serve.ensures.accepted) c.run_server.ensures.run)

pub returns-in-None-clause-run : goal.returns-in-None-clause-run
returns-in-None-clause-run g c = inr (inr (inl (
  record {
    command = server_of c.in-Ok-Serve.server;
    accepted = rw c.in-Ok-Serve.field-0-is at c.in-Ok-Serve.ensures.accepted;
    runs = c.run_server.ensures.run;
    nothing = refl;
  },
  ap (option_map (λ file. file.now)) c.in-None.is,
)))

-- ---- a command that ends, and words of no command

pub run_task-requires : goal.run_task-requires
run_task-requires g c = can_run with_journal c.args.words.now (task_of c.in-Ok-Task.task) (rw c.in-Ok-Task.field-0-is at c.in-Ok-Task.ensures.accepted)

pub returns-in-Ok-Task-clause-headline : goal.returns-in-Ok-Task-clause-headline
returns-in-Ok-Task-clause-headline g c =
    idle_kept (Rose (g.D.Sink.faults c.args.door.now) (g.D.Sink.faults c.args.door.now)) c.args.words.now (g.F.Files.told c.args.files.now) (g.K.Disk.told c.args.disk.now)
    (g.D.Sink.told c.args.door.now) (g.D.Sink.beside c.args.door.now)

pub returns-in-Err-clause-headline : goal.returns-in-Err-clause-headline
returns-in-Err-clause-headline g c =
    idle_kept (Rose (g.D.Sink.faults c.args.door.now) (g.D.Sink.faults c.args.door.now)) c.args.words.now (g.F.Files.told c.args.files.now) (g.K.Disk.told c.args.disk.now)
    (g.D.Sink.told c.args.door.now) (g.D.Sink.beside c.args.door.now)

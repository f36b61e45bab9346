-- What a run shows and publishes, by its words.
use Rattle.std.proofs.Common.{inl, inr, refl, []}
use Rattle.std.specs.Prelude.{ℕ, ◌≡◌}
use Rattle.gw_base.specs.Changes.{change}
use Rattle.gw_base.specs.Count.{Rose}
use Rattle.command_words.specs.Words.{make_task}
use Rattle.command_words.specs.Works.{server_of, task_of}
use Rattle.gateway_top.proofs.HeadlineLemmas.{idle, of_run}
use Rattle.gateway_top.proofs.PublishedLemmas.{by_server, by_task}
use Rattle.command_words.proofs.WordLemmas.{can_run, not_both, reads_none, serves}
use Rattle.gateway_top.proofs.top.gateway.Goals as goal

-- ---- a server

pub run_server-requires-clause-window : goal.run_server-requires-clause-window
run_server-requires-clause-window g c = serves [] c.args.words.now (server_of c.in-Ok-Serve.server) (rw c.in-Ok-Serve.field-0-is at c.in-Ok-Serve.ensures.accepted)

pub returns-in-Ok-Serve-clause-headline : goal.returns-in-Ok-Serve-clause-headline
returns-in-Ok-Serve-clause-headline g c =
    of_run [] c.args.words.now (server_of c.in-Ok-Serve.server) [] c.run_server.result (change g.F.Files.told g.F.Files.faults c.args.files.now c.run_server.new.files)
    (change g.E.Sink.told g.E.Sink.faults c.args.err.now c.run_server.new.err)
    (record {
      output = change g.D.Sink.told g.D.Sink.faults c.args.door.now c.run_server.new.door;
      before = g.D.Sink.beside c.args.door.now;
      now = g.D.Sink.beside c.run_server.new.door;
      clock = change g.C.Clock.told g.C.Clock.faults c.args.clock.now c.run_server.new.clock;
    })
    (rw c.in-Ok-Serve.field-0-is at c.in-Ok-Serve.ensures.accepted) c.run_server.ensures.run

pub returns-in-Ok-Serve-clause-run : goal.returns-in-Ok-Serve-clause-run
returns-in-Ok-Serve-clause-run g c = inr (inr (record {
  command = server_of c.in-Ok-Serve.server;
  accepted = rw c.in-Ok-Serve.field-0-is at c.in-Ok-Serve.ensures.accepted;
  runs = c.run_server.ensures.run;
  nothing = refl;
}))

pub returns-in-Ok-Serve-clause-publishes : goal.returns-in-Ok-Serve-clause-publishes
returns-in-Ok-Serve-clause-publishes g c = λ _.
    by_server [] c.args.words.now (g.F.Files.told c.args.files.now) (server_of c.in-Ok-Serve.server) (g.S.Sink.told c.args.out.now) (rw c.in-Ok-Serve.field-0-is at c.in-Ok-Serve.ensures.accepted)

pub returns-in-Ok-Serve-clause-uncalled : goal.returns-in-Ok-Serve-clause-uncalled
returns-in-Ok-Serve-clause-uncalled g c = λ two. absurd (c.run_server.ensures.worded two)

pub returns-in-Ok-Serve-clause-idle : goal.returns-in-Ok-Serve-clause-idle
returns-in-Ok-Serve-clause-idle g c = λ task is.
    absurd (not_both c.args.words.now (server_of c.in-Ok-Serve.server) task (rw c.in-Ok-Serve.field-0-is at c.in-Ok-Serve.ensures.accepted).says is.says)

pub returns-in-Ok-Serve-clause-unread : goal.returns-in-Ok-Serve-clause-unread
returns-in-Ok-Serve-clause-unread g c = λ command is.
    absurd (not_both c.args.words.now (server_of c.in-Ok-Serve.server) (make_task command) (rw c.in-Ok-Serve.field-0-is at c.in-Ok-Serve.ensures.accepted).says is.says)

-- ---- a command that ends

pub run_task-requires : goal.run_task-requires
run_task-requires g c = can_run [] c.args.words.now (task_of c.in-Ok-Task.task) (rw c.in-Ok-Task.field-0-is at c.in-Ok-Task.ensures.accepted)

pub returns-in-Ok-Task-clause-headline : goal.returns-in-Ok-Task-clause-headline
returns-in-Ok-Task-clause-headline g c =
    idle [] (Rose (g.D.Sink.faults c.args.door.now) (g.D.Sink.faults c.args.door.now)) c.args.words.now (g.F.Files.told c.args.files.now) []
    (g.D.Sink.told c.args.door.now) (g.D.Sink.beside c.args.door.now)

pub returns-in-Ok-Task-clause-run : goal.returns-in-Ok-Task-clause-run
returns-in-Ok-Task-clause-run g c = inr (inl (record {
  task = task_of c.in-Ok-Task.task;
  accepted = rw c.in-Ok-Task.field-0-is at c.in-Ok-Task.ensures.accepted;
  runs = c.run_task.ensures.run;
}))

pub returns-in-Ok-Task-clause-publishes : goal.returns-in-Ok-Task-clause-publishes
returns-in-Ok-Task-clause-publishes g c = λ zero.
    by_task [] c.args.words.now (g.F.Files.told c.args.files.now) (task_of c.in-Ok-Task.task) _ _ (rw c.in-Ok-Task.field-0-is at c.in-Ok-Task.ensures.accepted) (c.run_task.ensures.publishes zero)

pub returns-in-Ok-Task-clause-unread : goal.returns-in-Ok-Task-clause-unread
returns-in-Ok-Task-clause-unread g c = λ command is.
    c.run_task.ensures.unread (reads_none c.args.words.now (task_of c.in-Ok-Task.task) command (rw c.in-Ok-Task.field-0-is at c.in-Ok-Task.ensures.accepted).says is.says)

pub returns-in-Ok-Task-clause-uncalled : goal.returns-in-Ok-Task-clause-uncalled
returns-in-Ok-Task-clause-uncalled g c = λ two. absurd (c.run_task.ensures.worded two)

-- ---- words of no command

pub returns-in-Err-clause-headline : goal.returns-in-Err-clause-headline
returns-in-Err-clause-headline g c =
    idle [] (Rose (g.D.Sink.faults c.args.door.now) (g.D.Sink.faults c.args.door.now)) c.args.words.now (g.F.Files.told c.args.files.now) []
    (g.D.Sink.told c.args.door.now) (g.D.Sink.beside c.args.door.now)

pub returns-in-Err-clause-publishes : goal.returns-in-Err-clause-publishes
returns-in-Err-clause-publishes g c = λ zero. absurd (not_zero c.turned_away.result c.turned_away.ensures.status zero)
  where
    not_zero : (ended : ℕ) → ended ≡ 2 → ended ≡ 0 → ⊥
    not_zero ended is zero = cc
